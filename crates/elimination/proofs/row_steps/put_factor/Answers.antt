use Rattle.std.proofs.Common.{◌≡◌, ◌≢◌, ◌⊎◌, inl, inr, ⊎_elim, ℕ, ◌^◌, ◌<◌, ◌≤◌, ℤ, true, unsigned_abs, arith, sym, ap₂, ◌∙◌, refl, subst}
use Rattle.std.proofs.lemmas.Int.{to_z-of_z}
use borrow.Author.Tests.{ltb-true}
use Rattle.std.specs.Int.{w64}
use Rattle.quadratic_form.specs.Tables.{entry}
use Rattle.integer_form.specs.declared.front_form.FrontForm.{FrontForm}
use Rattle.elimination.specs.StepEntries.{is_small}
use Rattle.elimination.proofs.row_steps.put_factor.Goals as goal

place : (r j i m : ℕ) → ((i ≡ r) × (m ≡ j)) ⊎ ((i ≢ r) ⊎ (m ≢ j))
place r j i m = grind arith

below : (x : ℤ) → is_small x ≡ true → unsigned_abs x < 2 ^ 52
below x e = omega (arith, ltb-true)

apart : (r j n i m : ℕ) → j < r → r < n → (i ≤ m) ⊎ (n ≤ i) → (i ≢ r) ⊎ (m ≢ j)
apart r j n i m a b h = grind arith

pub invariant_of-front : goal.invariant_of-front
invariant_of-front c =
    let old : FrontForm = c.args.front.now in
    let r : ℕ = c.args.r in
    let j : ℕ = c.args.j in
    let there : entry c.set.new.self r j ≡ c.args.factor = c.set.ensures.there ∙ to_z-of_z w64 c.args.factor c.ranges.factor in
    record {
      columns_from = old.columns_from;
      columns_to = old.columns_to;
      h_in = old.h_in;
      factors_in = λ i m. ⊎_elim (λ (a : (i ≡ r) × (m ≡ j)). subst (λ (z : ℤ). unsigned_abs z < 2 ^ 52) (sym (ap₂ (λ u v. entry c.set.new.self u v) a.0 a.1 ∙ there)) (below c.args.factor c.requires.small))
          (λ (a : (i ≢ r) ⊎ (m ≢ j)). subst (λ (z : ℤ). unsigned_abs z < 2 ^ 52) (sym (c.set.ensures.others i m a)) (old.factors_in i m))
          (place r j i m);
      factors_outside = λ i m h. c.set.ensures.others i m (apart r j old.columns i m c.requires.row c.requires.row_in h) ∙ old.factors_outside i m h;
      symmetric = old.symmetric;
      entries_in = old.entries_in;
      nothing_outside = old.nothing_outside;
    }

pub returns-clause-value : goal.returns-clause-value
returns-clause-value c = c.set.ensures.there ∙ to_z-of_z w64 c.args.factor c.ranges.factor

pub returns-clause-row : goal.returns-clause-row
returns-clause-row c = λ m d. c.set.ensures.others c.args.r m (inr d)

pub returns-clause-others : goal.returns-clause-others
returns-clause-others c = record {
  columns = refl;
  exponent = refl;
  kept = refl;
  form = refl;
  others = λ i m d. c.set.ensures.others i m (inl d);
}
