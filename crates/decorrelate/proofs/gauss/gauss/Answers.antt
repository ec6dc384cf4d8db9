use Rattle.std.proofs.Common.{◌≡◌, ℕ, ◌^◌, ◌<◌, ℤ, pos, ◌-ℤ◌, ◌*ℤ◌, unsigned_abs, set, length, arith, to_z, of_z, ap, sym, ◌∙◌, refl, List, ◌≢◌, ⊎_elim, length-set, subst}
use Rattle.std.proofs.Common.{get_or-set_same, get_or-set_other, below_more}
use Rattle.std.proofs.lemmas.Bool.{cases_eq}
use Rattle.std.proofs.lemmas.Int.{ints}
use Rattle.std.specs.Int.{w64, w128}
use Rattle.quadratic_form.specs.Tables.{entry, item}
use Rattle.decorrelate.specs.GaussSteps.{with_own}
use Rattle.whole_math.proofs.Words.{as_w64}
use Rattle.decorrelate.proofs.Words.{gauss_w64}
use Rattle.decorrelate.proofs.gauss.gauss.Goals as goal

-- the entry at j is written, and no other
there : (t : List ℤ) (j : ℕ) (x : ℤ) → j < length t → item (set t j x) j ≡ x
there t j x h = get_or-set_same t j x (pos 0) h

other : (t : List ℤ) (j k : ℕ) (x : ℤ) → k ≢ j → item (set t j x) k ≡ item t k
other t j k x h = get_or-set_other t j k x (pos 0) h

pub loop-m-preserved : goal.loop-m-preserved
loop-m-preserved c =
    let j : ℕ = c.loop-m.m in
    let same_wide : to_z w128 (of_z w128 c.minus_multiple-x.result) ≡ c.minus_multiple-x.result = omega (arith, ints, c.minus_multiple-x.ensures.size) in
    let is_small : unsigned_abs c.minus_multiple-x.result < 2 ^ 62 = rw same_wide at (c.if-not-fits_gauss.ensures.below refl) in
    let same_narrow : to_z w64 (of_z w64 c.minus_multiple-x.result) ≡ c.minus_multiple-x.result = gauss_w64 c.minus_multiple-x.result is_small in
    let same_item : to_z w64 (of_z w64 (item c.loop-m.t j)) ≡ item c.loop-m.t j = gauss_w64 (item c.loop-m.t j) (c.loop-m.invariant.size j (omega (arith, c.requires.place))) in
    let same_entry : to_z w64 (of_z w64 (with_own (entry c.args.l.now) c.args.i j)) ≡ with_own (entry c.args.l.now) c.args.i j =
    as_w64 (with_own (entry c.args.l.now) c.args.i j) (omega (arith, c.requires.l_size j)) in
    let x : ℤ = to_z w64 (of_z w64 (to_z w128 (of_z w128 c.minus_multiple-x.result))) in
    let same_result : to_z w64 (of_z w64 (to_z w128 (of_z w128 c.minus_multiple-x.result))) ≡ c.minus_multiple-x.result = ap (λ z. to_z w64 (of_z w64 z)) same_wide ∙ same_narrow in
    let loss : ℕ → ℤ = λ k. to_z w64 (of_z w64 c.args.k) *ℤ with_own (entry c.args.l.now) c.args.i k in
    let value : c.minus_multiple-x.result ≡ item c.loop-m.t j -ℤ loss j = rw (c.factor.ensures, same_item, same_entry) at c.minus_multiple-x.ensures.value in
    let at_j : item (set c.loop-m.t j x) j ≡ item c.args.t.now j -ℤ loss j = there c.loop-m.t j x (omega (arith, c.loop-m.invariant.full, c.requires.place)) ∙ same_result ∙ value
    ∙ ap (λ z. z -ℤ loss j) (c.loop-m.invariant.rest j (omega arith)) in
    let sized : unsigned_abs (item (set c.loop-m.t j x) j) < 2 ^ 62 =
    subst (λ (z : ℤ). unsigned_abs z < 2 ^ 62) (sym (there c.loop-m.t j x (omega (arith, c.loop-m.invariant.full, c.requires.place)) ∙ same_result)) is_small in
    record {
      full = length-set c.loop-m.t j x ∙ c.loop-m.invariant.full;
      done = below_more (λ (k : ℕ). item (set c.loop-m.t j x) k ≡ item c.args.t.now k -ℤ loss k) j (λ k g. other c.loop-m.t j k x (omega arith) ∙ c.loop-m.invariant.done k g) at_j;
      rest = λ k f. other c.loop-m.t j k x (omega arith) ∙ c.loop-m.invariant.rest k (omega arith);
      size = λ k f. ⊎_elim (λ (i : k ≡ j). subst (λ (m : ℕ). unsigned_abs (item (set c.loop-m.t j x) m) < 2 ^ 62) (sym i) sized)
          (λ (i : k ≡ j → ⊥). subst (λ (z : ℤ). unsigned_abs z < 2 ^ 62) (sym (other c.loop-m.t j k x i)) (c.loop-m.invariant.size k f)) (cases_eq k j);
    }
