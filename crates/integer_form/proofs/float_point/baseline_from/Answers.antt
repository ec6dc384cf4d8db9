use Rattle.std.proofs.Common.{◌≡◌, ℕ, ◌-◌, ◌^◌, ◌<◌, ◌≤◌, List, [], ◌∷◌, ℤ, unsigned_abs, to_z, of_z, arith, ap, ap₂, ◌∙◌, subst}
use Rattle.std.specs.Result.{is_err}
use Rattle.std.proofs.lemmas.Result.{err_from_is_err_and}
use Rattle.std.specs.Int.{w64}
use Rattle.quadratic_form.specs.Tables.{item}
use Rattle.integer_form.specs.FloatPoint.{baseline_at, HasWide}
use Rattle.whole_math.proofs.Words.{as_w64}
use Rattle.integer_form.proofs.FloatLaws.{baseline_is, baseline_wide, narrow_three, not_wide}
use Rattle.integer_form.proofs.float_point.baseline_from.Goals as goal

abbrev word : ℤ → ℤ
word x = to_z w64 (of_z w64 x)

read : (x : ℤ) → unsigned_abs x < 2 ^ 46 → word x ≡ x
read x h = as_w64 x (omega (arith, h))

three : (x : List ℤ) → ((i : ℕ) → i < 3 → unsigned_abs (item x i) < 2 ^ 46) → (word (item x 0) ∷ (word (item x 1) ∷ (word (item x 2) ∷ []))) ≡ (item x 0 ∷ (item x 1 ∷ (item x 2 ∷ [])))
three x h = ap (λ a. a ∷ (word (item x 1) ∷ (word (item x 2) ∷ []))) (read (item x 0) (h 0 (omega arith)))
    ∙ ap₂ (λ a b. item x 0 ∷ (a ∷ (b ∷ []))) (read (item x 1) (h 1 (omega arith))) (read (item x 2) (h 2 (omega arith)))

-- numbers that are all narrow
narrow : (d : List ℤ) (l : List (List ℤ)) (columns : ℕ) (x z : List ℤ) → ((i : ℕ) → i < 3 → unsigned_abs (item x i) < 2 ^ 46) →
    (item x 0 ∷ (item x 1 ∷ (item x 2 ∷ []))) ≡ baseline_at d l columns z → HasWide (baseline_at d l columns z) → ⊥
narrow d l columns x z h e = not_wide (baseline_at d l columns z)
    (λ i. subst (λ (s : List ℤ). unsigned_abs (item s i) < 2 ^ 46) e (narrow_three (item x 0) (item x 1) (item x 2) (h 0 (omega arith)) (h 1 (omega arith)) (h 2 (omega arith)) i))

inside : (columns i : ℕ) → 4 ≤ columns → i < 3 → i < columns - 1
inside columns i h g = omega arith

pub returns-clause-ok : goal.returns-clause-ok
returns-clause-ok g c = λ d. three c.solve.new.numbers (λ i h. c.in_ok-solve.ensures.narrow i (inside c.args.columns i c.requires.columns_from h))
    ∙ baseline_is d c.args.l.now c.args.columns c.solve.new.numbers c.integer_numbers-numbers.result c.args.z.now c.requires.columns_from c.requires.count
    c.integer_numbers-numbers.ensures.list (c.in_ok-solve.ensures.solved d)

pub returns-clause-refused : goal.returns-clause-refused
returns-clause-refused g c = λ d.
    let point_is : (item c.solve.new.numbers 0 ∷ (item c.solve.new.numbers 1 ∷ (item c.solve.new.numbers 2 ∷ []))) ≡ baseline_at d c.args.l.now c.args.columns c.args.z.now =
    baseline_is d c.args.l.now c.args.columns c.solve.new.numbers c.integer_numbers-numbers.result c.args.z.now c.requires.columns_from c.requires.count
    c.integer_numbers-numbers.ensures.list (c.in_ok-solve.ensures.solved d) in (
      λ h. absurd cc,
      λ w. absurd (narrow d c.args.l.now c.args.columns c.solve.new.numbers c.args.z.now
          (λ i h. c.in_ok-solve.ensures.narrow i (inside c.args.columns i c.requires.columns_from h)) point_is w),
    )

pub returns-in_err-solve-clause-refused : goal.returns-in_err-solve-clause-refused
returns-in_err-solve-clause-refused g c =
    let fault = err_from_is_err_and c.from_residual.result c.from_residual.ensures.1 in
    λ d. (
      λ h. baseline_wide d c.args.l.now c.args.columns c.integer_numbers-numbers.result c.args.z.now c.requires.count c.requires.columns_from c.integer_numbers-numbers.ensures.list
          (c.in_err-solve.ensures.wide d),
      λ w. ap (λ r. is_err r) fault.1,
    )
