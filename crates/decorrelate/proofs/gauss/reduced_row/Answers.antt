use Rattle.std.proofs.Common.{◌≡◌, ℕ, ◌+◌, ◌-◌, ◌^◌, ◌<◌, ◌≤◌, ℤ, pos, unsigned_abs, set, arith, to_z, of_z, sym, ap, ◌∙◌, refl, ◌≢◌, ⊎_elim, length-set, subst, get_or-set_same}
use Rattle.std.proofs.Common.{get_or-set_other, below_more}
use Rattle.std.proofs.lemmas.Bool.{cases_eq}
use Rattle.std.specs.Int.{w64}
use Rattle.whole_math.specs.Rounding.{nearest_div}
use Rattle.quadratic_form.specs.Tables.{entry, item}
use Rattle.decorrelate.specs.GaussSteps.{IsGauss, IsWideGauss, with_own, after_gauss, multiple}
use Rattle.decorrelate.proofs.Words.{gauss_w64, multiple_w64}
use Rattle.decorrelate.proofs.GaussLaws.{own_size, after_gauss_start, gauss_next, gauss_stop}
use Rattle.decorrelate.proofs.gauss.reduced_row.Goals as goal

pub gauss-requires-clause-l_size : goal.gauss-requires-clause-l_size
gauss-requires-clause-l_size c = λ m. own_size (entry c.args.l.now) c.requires.l_size (c.args.j - c.loop-step.step) m

pub loop-step-init : goal.loop-step-init
loop-step-init c = record {
  full = c.row-left.ensures.room;
  multiples_full = refl;
  value = λ m h. c.row-left.ensures.same m (omega (arith, c.requires.place)) ∙ sym (after_gauss_start (entry c.args.l.now) c.args.j m);
  size = λ m h. let entry_small : unsigned_abs (entry c.args.l.now (c.args.j + 1) m) < 2 ^ 52 = c.requires.l_size (c.args.j + 1) m in
      subst (λ (z : ℤ). unsigned_abs z < 2 ^ 62) (sym (c.row-left.ensures.same m h)) (omega arith);
  small = λ p m h g. absurd (omega arith);
  done = λ i h g. absurd (omega arith);
  sizes = λ i h g. absurd (omega arith);
}

pub returns-then-not-gauss : goal.returns-then-not-gauss
returns-then-not-gauss c =
    let i : ℕ = c.args.j - c.loop-step.step in
    let same_item : to_z w64 (of_z w64 (item c.loop-step.left i)) ≡ item c.loop-step.left i = gauss_w64 (item c.loop-step.left i) (c.loop-step.invariant.size i (omega (arith, c.requires.place))) in
    let multiple_is : to_z w64 (of_z w64 c.multiple-k.result) ≡ nearest_div (item c.loop-step.left i) (2 ^ 30) = multiple_w64 c.multiple-k.result c.multiple-k.ensures.size
    ∙ (rw same_item at c.multiple-k.ensures.value) in
    let is_wide_gauss : IsWideGauss i (nearest_div (item c.loop-step.left i) (2 ^ 30)) (with_own (entry c.args.l.now) i) (item c.loop-step.left) =
    subst (λ (k : ℤ). IsWideGauss i k (with_own (entry c.args.l.now) i) (item c.loop-step.left)) multiple_is (c.if-not-gauss.ensures.wide refl) in
    gauss_stop (entry c.args.l.now) c.args.j c.loop-step.step (item c.loop-step.left) (omega arith) c.loop-step.invariant.value is_wide_gauss

pub loop-step-preserved : goal.loop-step-preserved
loop-step-preserved c =
    let j : ℕ = c.args.j in
    let p : ℕ = c.loop-step.step in
    let i : ℕ = c.args.j - c.loop-step.step in
    let same_item : to_z w64 (of_z w64 (item c.loop-step.left i)) ≡ item c.loop-step.left i = gauss_w64 (item c.loop-step.left i) (c.loop-step.invariant.size i (omega (arith, c.requires.place))) in
    let k : ℤ = to_z w64 (of_z w64 c.multiple-k.result) in
    let same_multiple : to_z w64 (of_z w64 c.multiple-k.result) ≡ c.multiple-k.result = multiple_w64 c.multiple-k.result c.multiple-k.ensures.size in
    let multiple_is : to_z w64 (of_z w64 c.multiple-k.result) ≡ nearest_div (item c.loop-step.left i) (2 ^ 30) = same_multiple ∙ (rw same_item at c.multiple-k.ensures.value) in
    let is_gauss : IsGauss i (nearest_div (item c.loop-step.left i) (2 ^ 30)) (with_own (entry c.args.l.now) i) (item c.loop-step.left) (item c.gauss.new.t) =
    subst (λ (k : ℤ). IsGauss i k (with_own (entry c.args.l.now) i) (item c.loop-step.left) (item c.gauss.new.t)) multiple_is (c.if-not-gauss.ensures.done refl) in
    let value : (m : ℕ) → m ≤ j → item c.gauss.new.t m ≡ after_gauss (entry c.args.l.now) j (p + 1) m =
    gauss_next (entry c.args.l.now) j p (item c.loop-step.left) (item c.gauss.new.t) c.loop-step.invariant.value is_gauss in
    let there : item (set c.loop-step.multiples i k) i ≡ k = get_or-set_same c.loop-step.multiples i k (pos 0) (omega (arith, c.loop-step.invariant.multiples_full, c.requires.place)) in
    let other : (d : ℕ) → d ≢ i → item (set c.loop-step.multiples i k) d ≡ item c.loop-step.multiples d = λ d n. get_or-set_other c.loop-step.multiples i d k (pos 0) n in
    let sized : unsigned_abs (item (set c.loop-step.multiples i k) i) ≤ 2 ^ 33 = subst (λ (z : ℤ). unsigned_abs z ≤ 2 ^ 33) (sym (there ∙ same_multiple)) c.multiple-k.ensures.size in
    let at_i : j - i ≡ p = omega arith in
    let multiple_there : item (set c.loop-step.multiples i k) i ≡ multiple (entry c.args.l.now) j i = there ∙ multiple_is
    ∙ ap (λ z. nearest_div z (2 ^ 30)) (c.loop-step.invariant.value i (omega arith) ∙ ap (λ (q : ℕ). after_gauss (entry c.args.l.now) j q i) (sym at_i)) in
    record {
      full = c.if-not-gauss.ensures.room;
      multiples_full = length-set c.loop-step.multiples i k ∙ c.loop-step.invariant.multiples_full;
      value = value;
      size = c.if-not-gauss.ensures.size;
      small = λ q m h g. below_more (λ (q : ℕ). unsigned_abs (after_gauss (entry c.args.l.now) j (q + 1) m) < 2 ^ 62) p (λ q h. c.loop-step.invariant.small q m h g)
          (subst (λ (z : ℤ). unsigned_abs z < 2 ^ 62) (value m g) (c.if-not-gauss.ensures.size m (omega (arith, c.requires.place)))) q h;
      done = λ d h g. ⊎_elim (λ (e : d ≡ i). subst (λ (m : ℕ). item (set c.loop-step.multiples i k) m ≡ multiple (entry c.args.l.now) j m) (sym e) multiple_there)
          (λ (n : d ≡ i → ⊥). other d n ∙ c.loop-step.invariant.done d (omega arith) g) (cases_eq d i);
      sizes = λ d h g. ⊎_elim (λ (e : d ≡ i). subst (λ (m : ℕ). unsigned_abs (item (set c.loop-step.multiples i k) m) ≤ 2 ^ 33) (sym e) sized)
          (λ (n : d ≡ i → ⊥). subst (λ (z : ℤ). unsigned_abs z ≤ 2 ^ 33) (sym (other d n)) (c.loop-step.invariant.sizes d (omega arith) g)) (cases_eq d i);
    }

pub returns : goal.returns
returns c = record {
  multiples = λ i h. c.loop-step.invariant.done i (omega (arith, c.loop-step-test.false)) h;
  sizes = λ i h. c.loop-step.invariant.sizes i (omega (arith, c.loop-step-test.false)) h;
  left = λ m h. c.loop-step.invariant.value m h ∙ ap (λ (q : ℕ). after_gauss (entry c.args.l.now) c.args.j q m) (omega (arith, c.loop-step-test.false, c.loop-step.auto.step-end));
  small = λ p m h g. c.loop-step.invariant.small p m (omega (arith, c.loop-step-test.false)) g;
}
