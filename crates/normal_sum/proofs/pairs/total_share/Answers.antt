use Rattle.std.proofs.Common.{◌≡◌, ℕ, ◌+◌, ◌*◌, ◌/◌, ◌^◌, ◌<◌, ◌≤◌, [], ◌∷◌, List, ℤ, pos, ◌+ℤ◌, ◌*ℤ◌, ◌≤ℤ◌, unsigned_abs, length, map, drop, get_or, to_z, of_z, arith, sym, ap, ◌∙◌, refl, rules}
use Rattle.std.proofs.lemmas.List.{drop_more, drop_all}
use Rattle.std.proofs.lemmas.Int.{ints}
use Rattle.std.specs.Int.{w64}
use Rattle.whole_math.specs.Vectors.{sum}
use Rattle.whole_math.proofs.Ring.{◌⊕◌, ◌⊗◌}
use Rattle.whole_math.proofs.Inequalities.{same_by, nat}
use Rattle.obs_rows.specs.Signals.{weight}
use Rattle.obs_rows.specs.declared.units.TheConstants.{SIGNALS}
use Rattle.normal_sum.proofs.pairs.total_share.Goals as goal

-- t is the sum so far, q the least part of a share, k the next one's share, w its weight, r the weights after it, a the whole
next : (t q k w r a : ℤ) → t +ℤ (q *ℤ (w +ℤ r)) ≡ a → k ≡ q *ℤ w → (t +ℤ k) +ℤ (q *ℤ r) ≡ a
next t q k w r a so_far own = ap (λ z. (t +ℤ z) +ℤ (q *ℤ r)) own
    ∙ same_by (t ∷ q ∷ w ∷ r ∷ []) (λ t q w r. ((t ⊕ q ⊗ w) ⊕ q ⊗ r, t ⊕ q ⊗ (w ⊕ r))) refl ∙ so_far

-- the sum as it is written
record Step (t s k : ℤ) (i : ℕ) : Type 0 where
  is : t ≡ s +ℤ k
  from : pos 0 ≤ℤ t
  to : t ≤ℤ pos ((i + 1) * 2 ^ 32)

step : (s k : ℤ) (i n : ℕ) → pos 0 ≤ℤ s → s ≤ℤ pos (i * 2 ^ 32) → pos 0 ≤ℤ k → k ≤ℤ pos (2 ^ 32) → i < n → n ≤ SIGNALS →
    Step (to_z w64 (of_z w64 (s +ℤ to_z w64 (of_z w64 k)))) s k i
step s k i n s_from s_to k_from k_to inside few = record { is = omega (arith, ints); from = omega (arith, ints); to = omega (arith, ints) }

most : (k : ℤ) → pos 0 ≤ℤ k → unsigned_abs k ≤ 2 ^ 32 → k ≤ℤ pos (2 ^ 32)
most k from size = omega (arith, ints)

pub loop-signal-preserved : goal.loop-signal-preserved
loop-signal-preserved c =
    let signals : List ℕ = c.args.signals.now in
    let i : ℕ = c.loop-signal.signal-index in
    let signal : ℕ = get_or signals i 0 in
    let inside : c.loop-signal.signal-index < length c.args.signals.now = search rules in
    let first : drop i signals ≡ signal ∷ drop (i + 1) signals = drop_more signals i 0 inside in
    let row_share : ℤ = pos (360360 / c.args.rows) in
    let total : ℤ = to_z w64 c.loop-signal.total-bits in
    let share : ℤ = c.share-total.result in
    let more : Step (to_z w64 (of_z w64 (total +ℤ to_z w64 (of_z w64 share)))) total share i =
    step total share i (length signals) c.loop-signal.invariant.from c.loop-signal.invariant.to c.share-total.ensures.from
    (most share c.share-total.ensures.from c.share-total.ensures.size) inside c.requires.counted.few in
    record {
      value = ap (λ z. z +ℤ (row_share *ℤ sum (map weight (drop (i + 1) signals)))) more.is
          ∙ next total row_share share (weight signal) (sum (map weight (drop (i + 1) signals))) (row_share *ℤ sum (map weight signals))
          (ap (λ (l : List ℕ). total +ℤ (row_share *ℤ sum (map weight l))) (sym first) ∙ c.loop-signal.invariant.value) c.share-total.ensures.value;
      from = more.from;
      to = more.to;
    }

no_more : (t q a : ℤ) → t +ℤ (q *ℤ pos 0) ≡ a → t ≡ a
no_more t q a whole = same_by (t ∷ q ∷ []) (λ t q. (t, t ⊕ q ⊗ nat 0)) refl ∙ whole

pub returns-clause-value : goal.returns-clause-value
returns-clause-value c =
    let signals : List ℕ = c.args.signals.now in
    let past : drop c.loop-signal.signal-index signals ≡ [] = drop_all c.loop-signal.signal-index signals (omega arith) in
    no_more _ (pos (360360 / c.args.rows)) _ (ap (λ (l : List ℕ). to_z w64 c.loop-signal.total-bits +ℤ (pos (360360 / c.args.rows) *ℤ sum (map weight l))) (sym past) ∙ c.loop-signal.invariant.value)
