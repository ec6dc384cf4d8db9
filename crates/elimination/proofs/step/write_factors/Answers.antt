use Rattle.std.proofs.Common.{◌≡◌, ◌≢◌, ◌⊎◌, inl, inr, ℕ, ◌<◌, ◌≤◌, ◌^◌, List, ℤ, pos, true, false, unsigned_abs, arith, ap₂, ◌∙◌, refl, subst, below_more}
use Rattle.std.proofs.lemmas.Int.{to_z-of_z}
use Rattle.std.specs.Int.{w128}
use Rattle.whole_math.proofs.Words.{as_w64}
use Rattle.quadratic_form.specs.Tables.{entry}
use Rattle.elimination.specs.StepEntries.{is_small, nearest_quotient, factor_entry}
use Rattle.elimination.specs.Quotients.{factor_by}
use Rattle.elimination.proofs.SmallEntries.{small_size}
use Rattle.elimination.proofs.NewRows.{word, read, narrowed}
use Rattle.elimination.proofs.step.write_factors.Goals as goal
use Rattle.elimination.proofs.step.write_factors.Goals.{After-factor}

-- what a step makes of the quotient is the factor
factor_is : (c : After-factor) → factor_by c.of.result ≡ factor_entry c.args.table.now c.args.j (unsigned_abs (word c.args.a)) c.loop-c.c
factor_is c =
    let k : ℕ = c.loop-c.c in
    let t : List (List ℤ) = c.args.table.now in
    let size : unsigned_abs (entry c.args.table.now c.args.j c.loop-c.c) ≤ 2 ^ 52 = c.requires.entries k c.loop-c.invariant.from c.loop-c-test.true in
    ap₂ (λ (x y : ℤ). nearest_quotient x (pos (2 ^ 30)) y)
    (c.of.ensures.p ∙ narrowed c.at.result c.narrow.result (entry t c.args.j k) c.narrow.ensures.value c.narrow.ensures.size (read c.at.result (entry t c.args.j k) c.at.ensures.value size))
    (c.of.ensures.a ∙ as_w64 c.narrow-in-loop-c.result (omega (arith, c.narrow-in-loop-c.ensures.size)) ∙ c.narrow-in-loop-c.ensures.value)

pub loop-c-preserved : goal.loop-c-preserved
loop-c-preserved c =
    let k : ℕ = c.loop-c.c in
    let j : ℕ = c.args.j in
    let f : ℤ = c.in-Some.factor in
    let divisor : ℕ = unsigned_abs (word c.args.a) in
    let is : f ≡ factor_entry c.args.table.now j divisor k = c.in-Some.ensures.value ∙ factor_is (goal.at.loop-c-preserved c).After-factor in
    let small : is_small f ≡ true = c.in-Some.ensures.small in
    let there : entry c.set.new.self k j ≡ factor_entry c.args.table.now j divisor k = c.set.ensures.there ∙ as_w64 f (small_size f small) ∙ is in
    record {
      from = omega (arith, c.loop-c.invariant.from);
      value = λ m h g. below_more (λ (m : ℕ). j < m → entry c.set.new.self m j ≡ factor_entry c.args.table.now j divisor m) k
          (λ m g h. c.set.ensures.others m j (inl (omega arith)) ∙ c.loop-c.invariant.value m h g) (λ h. there) m g h;
      small = λ m h g. below_more (λ (m : ℕ). j < m → is_small (factor_entry c.args.table.now j divisor m) ≡ true) k (λ m g h. c.loop-c.invariant.small m h g)
          (λ h. subst (λ (z : ℤ). is_small z ≡ true) is small) m g h;
      others = λ i m d. c.set.ensures.others i m (apart i m j k c.args.columns c.loop-c.invariant.from c.loop-c-test.true d) ∙ c.loop-c.invariant.others i m d;
    }
  where
    -- a write of column j after its own row is none outside
    apart : (i m j k n : ℕ) → j < k → k < n → (m ≢ j) ⊎ ((i ≤ j) ⊎ (n ≤ i)) → (i ≢ k) ⊎ (m ≢ j)
    apart i m j k n h g (inl d) = inr d
    apart i m j k n h g (inr (inl d)) = inl (omega arith)
    apart i m j k n h g (inr (inr d)) = inl (omega arith)

pub returns-in-None-clause-refused : goal.returns-in-None-clause-refused
returns-in-None-clause-refused c =
    let divisor_kept : word c.args.a ≡ c.args.a = to_z-of_z w128 c.args.a c.ranges.a in
    let wide : is_small (factor_entry c.args.table.now c.args.j (unsigned_abs (word c.args.a)) c.loop-c.c) ≡ false =
    subst (λ (z : ℤ). is_small z ≡ false) (factor_is (goal.at.returns-in-None-clause-refused c).After-factor) (c.in-None.ensures.refused refl) in
    λ e. (c.loop-c.c, (c.loop-c.invariant.from, c.loop-c-test.true, rw divisor_kept at wide))
