use Rattle.std.proofs.Common.{◌≡◌, inl, inr, ⊎_elim, ℕ, ◌+◌, ◌<◌, ◌≤◌, List, [], length, get_or, ℤ, to_z, arith, rules, refl, sym, ap, ◌∙◌, subst, lt_of_lt_of_le}
use Rattle.std.proofs.lemmas.List.{get_or_default}
use Rattle.std.specs.Int.{int_max, w64}
use Rattle.whole_math.proofs.Words.{as_w64}
use Rattle.obs_rows.specs.declared.arcs.Arc.{Arc}
use Rattle.obs_rows.specs.declared.pair_rows.PairRows.{PairRows}
use Rattle.obs_rows.specs.Signals.{fine_signals}
use Rattle.vector_bound.specs.PairBounds.{IsRoundedPairBound, LacksPairBound}
use Rattle.vector_bound.proofs.LeastReach.{short}
use Rattle.vector_bound.proofs.Hundredths.{short_small}
use Rattle.vector_bound.proofs.GreatestBounds.{AreBounded, none_bounded, one_more, greatest_near}
use Rattle.vector_bound.proofs.tracks.track_vector_bound.Goals as goal

same_place : (k n m : ℕ) → k < n → m ≡ n → k < m
same_place k n m l e = omega (arith, l, e)

pub loop-k-init : goal.loop-k-init
loop-k-init c = record { bounded = none_bounded c.args.arcs.now (fine_signals c.args.signals) c.args.pairs.now c.args.z.now c.args.moves.now }

pub loop-k-preserved : goal.loop-k-preserved
loop-k-preserved c =
    let arcs : List Arc = c.args.arcs.now in
    let ss : List ℕ = fine_signals c.args.signals in
    let pairs : List PairRows = c.args.pairs.now in
    let z : List ℤ = c.args.z.now in
    let moves : List (List ℤ) = c.args.moves.now in
    let k : ℕ = c.loop-k.k in
    let inside : k < length pairs = c.loop-k-test.true in
    let within : k < length moves = same_place k (length pairs) (length moves) inside c.requires.move_each in
    let pair : PairRows = c.index-pairs-k.result in
    let x : ℤ = to_z w64 c.loop-k.greatest-bits in
    let y : ℤ = c.in_ok-bound.bound in
    let bound : (p : PairRows) (m : List ℤ) → IsRoundedPairBound arcs ss (get_or pairs k p) z (get_or moves k m) y =
    λ p m. subst (λ (n : List ℤ). IsRoundedPairBound arcs ss (get_or pairs k p) z n y) (get_or_default moves k [] m within)
    (subst (λ (r : PairRows). IsRoundedPairBound arcs ss r z (get_or moves k []) y) (c.index-pairs-k.is ∙ get_or_default pairs k pair p inside) c.in_ok-bound.ensures.value) in
    let more : AreBounded arcs ss pairs z moves (k + 1) (int_max x y) = one_more arcs ss pairs z moves k x y c.loop-k.invariant.bounded bound c.in_ok-bound.ensures.size in
    let y_word : short y ≡ y = short_small y c.in_ok-bound.ensures.size in
    let new_is : short c.greater_bound-greatest.result ≡ int_max x y =
    ap (λ (v : ℤ). short v) (c.greater_bound-greatest.ensures.value ∙ ap (λ (v : ℤ). int_max x v) y_word) ∙ as_w64 (int_max x y) more.size in
    record { bounded = subst (λ (v : ℤ). AreBounded arcs ss pairs z moves (k + 1) v) (sym new_is) more }

pub returns-in_err-bound-clause-none : goal.returns-in_err-bound-clause-none
returns-in_err-bound-clause-none c =
    let arcs : List Arc = c.args.arcs.now in
    let ss : List ℕ = fine_signals c.args.signals in
    let pairs : List PairRows = c.args.pairs.now in
    let z : List ℤ = c.args.z.now in
    let moves : List (List ℤ) = c.args.moves.now in
    let k : ℕ = c.loop-k.k in
    let inside : k < length pairs = c.loop-k-test.true in
    let within : k < length moves = same_place k (length pairs) (length moves) inside c.requires.move_each in
    let pair : PairRows = c.index-pairs-k.result in
    λ none. record {
      place = k;
      inside = inside;
      holds = λ p m. subst (λ (n : List ℤ). LacksPairBound arcs ss (get_or pairs k p) z n) (get_or_default moves k [] m within)
          (subst (λ (r : PairRows). LacksPairBound arcs ss r z (get_or moves k [])) (c.index-pairs-k.is ∙ get_or_default pairs k pair p inside) (c.in_err-bound.ensures.none refl));
    }

pub returns-clause-value : goal.returns-clause-value
returns-clause-value c =
    let bounded = c.loop-k.invariant.bounded in
    let upper : c.loop-k.k ≤ length c.args.pairs.now = search rules in
    record {
      each = λ j l p m. bounded.each j (omega (arith, l, c.loop-k-test.false)) p m;
      one = ⊎_elim (λ e. inl e) (λ some. inr (record { place = some.place; inside = lt_of_lt_of_le some.inside upper; holds = some.holds })) bounded.one;
    }

pub returns-clause-near : goal.returns-clause-near
returns-clause-near c =
    greatest_near c.args.arcs.now (fine_signals c.args.signals) c.args.pairs.now c.args.z.now c.args.moves.now (to_z w64 c.loop-k.greatest-bits) c.requires.entries (returns-clause-value c)
