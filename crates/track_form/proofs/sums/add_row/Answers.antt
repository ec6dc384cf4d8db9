use Rattle.std.proofs.Common.{◌≡◌, ◌≢◌, ◌⊎◌, ⊎_elim, inr, ℕ, ◌+◌, ◌-◌, ◌*◌, ◌^◌, ◌<◌, ◌≤◌, ℤ, ◌+ℤ◌, unsigned_abs, arith, to_z, of_z, sym, ap, ◌∙◌, subst}
use Rattle.std.specs.Int.{w128}
use Rattle.whole_math.proofs.Words.{as_w128}
use Rattle.obs_rows.specs.declared.limits.TheConstants.{MOST_PAIRS}
use Rattle.quadratic_form.specs.Tables.{entry}
use Rattle.track_form.specs.Parts.{part_at}
use Rattle.track_form.proofs.sums.add_row.Goals as goal

part_word : (x : ℤ) → unsigned_abs x ≤ 2 ^ 64 → to_z w128 (of_z w128 x) ≡ x
part_word x h = as_w128 x (omega arith)

apart : (r k : ℕ) → r < k → (3 + k) ≢ (3 + r)
apart r k h = λ e. absurd (omega (arith, e, h))

own_or_later : (r k : ℕ) → r ≤ k → (k ≡ r) ⊎ (r < k)
own_or_later r k h = grind arith

pub add_part-requires-clause-part_size : goal.add_part-requires-clause-part_size
add_part-requires-clause-part_size c = subst (λ (z : ℤ). unsigned_abs z ≤ 2 ^ 64) (sym (part_word c.part.result c.part.ensures.size)) c.part.ensures.size

pub returns-clause-row : goal.returns-clause-row
returns-clause-row c =
    let r : ℕ = c.args.r in
    let new : ℕ → ℤ = λ (m : ℕ). entry c.add_others.new.table (3 + c.args.r) (3 + m) in
    let old : ℕ → ℤ = λ (m : ℕ). entry c.args.table.now (3 + c.args.r) (3 + m) in
    let part : ℕ → ℤ = λ (m : ℕ). part_at (c.args.front.now.columns - 3) (2 ^ c.args.shift) (entry c.args.front.now.p) r m in
    let own : new r ≡ old r +ℤ part r = c.add_others.ensures.own ∙ c.add_part.ensures.there ∙ ap (λ (x : ℤ). old r +ℤ x) (part_word c.part.result c.part.ensures.size ∙ c.part.ensures.value) in
    λ k h g. ⊎_elim
    (λ (e : k ≡ r). subst (λ (m : ℕ). new m ≡ old m +ℤ part m) (sym e) own)
    (λ (l : r < k). c.add_others.ensures.row k l g ∙ ap (λ (x : ℤ). x +ℤ part k) (c.add_part.ensures.others (3 + r) (3 + k) (inr (apart r k l))))
    (own_or_later r k h)

pub returns-clause-sizes : goal.returns-clause-sizes
returns-clause-sizes c =
    let r : ℕ = c.args.r in
    let new : ℕ → ℤ = λ (m : ℕ). entry c.add_others.new.table (3 + c.args.r) (3 + m) in
    let old : ℕ → ℤ = λ (m : ℕ). entry c.args.table.now (3 + c.args.r) (3 + m) in
    let own : unsigned_abs (new r) ≤ unsigned_abs (old r) + 2 ^ 64 = subst (λ (z : ℤ). unsigned_abs z ≤ unsigned_abs (old r) + 2 ^ 64) (sym c.add_others.ensures.own) c.add_part.ensures.size in
    λ k h g. ⊎_elim
    (λ (e : k ≡ r). subst (λ (m : ℕ). unsigned_abs (new m) ≤ unsigned_abs (old m) + 2 ^ 64) (sym e) own)
    (λ (l : r < k). subst (λ (z : ℤ). unsigned_abs (new k) ≤ unsigned_abs z + 2 ^ 64) (c.add_part.ensures.others (3 + r) (3 + k) (inr (apart r k l))) (c.add_others.ensures.sizes k l g))
    (own_or_later r k h)

pub add_others-requires-clause-sizes : goal.add_others-requires-clause-sizes
add_others-requires-clause-sizes c =
    let r : ℕ = c.args.r in
    λ k l g. subst (λ (z : ℤ). unsigned_abs z ≤ MOST_PAIRS * 2 ^ 64) (sym (c.add_part.ensures.others (3 + r) (3 + k) (inr (apart r k l)))) (c.requires.sizes k (omega (arith, l)) g)
