-- Factors one by one.
use Rattle.std.proofs.Common.{◌≡◌, ℕ, zero, suc, ◌+◌, ◌-◌, List, [], ◌∷◌, ◌++◌, ℤ, pos, Ok, Err, slice_index_or, ap, ◌∙◌, refl, add-zero}
use Rattle.quadratic_form.specs.Forms.{Column}
use Rattle.quadratic_form.specs.Elimination.{Factor, Refusal, step, steps, with_factor, StepsAnswer, StepAnswer}
use Rattle.quadratic_form.proofs.Places.{later}
use Rattle.integer_form.specs.Factors.{factor_at}
use Rattle.integer_form.specs.Factors.{stored}
use Rattle.elimination.specs.Taken.{before}

pub before_last : (fs : List Factor) (f : Factor) (r : StepsAnswer) → before (fs ++ (f ∷ [])) r ≡ before fs (with_factor f r)
before_last [] f r = refl
before_last (g ∷ fs) f r = ap (λ (x : StepsAnswer). with_factor g x) (before_last fs f r)

pub before_ok : (fs : List Factor) (a : List Column) → let answer : StepsAnswer = Ok (fs, a) in let rest_answer : StepsAnswer = Ok ([], a) in before fs rest_answer ≡ answer
before_ok [] a = refl
before_ok (f ∷ fs) a = ap (λ (x : StepsAnswer). with_factor f x) (before_ok fs a)

pub before_err : (fs : List Factor) (e : Refusal) → let answer : StepsAnswer = Err e in before fs answer ≡ answer
before_err [] e = refl
before_err (f ∷ fs) e = ap (λ (x : StepsAnswer). with_factor f x) (before_err fs e)

-- one more column
pub stored_last : (d : List ℤ) (f : List (List ℤ)) (columns j count : ℕ) →
    stored d f columns j (suc count) ≡ stored d f columns j count ++ (factor_at (slice_index_or d (j + count) (pos 0)) f (j + count) (columns - (j + count) - 1) ∷ [])
stored_last d f columns j zero = rw (add-zero j) refl
stored_last d f columns j (suc count) = ap (λ (s : List Factor). factor_at (slice_index_or d j (pos 0)) f j (columns - j - 1) ∷ s) (stored_last d f columns (suc j) count ∙ rw (later j count) refl)

-- a step that is taken, and one that stops
pub steps_ok : (j k : ℕ) (c : Column) (m : List Column) (p : Factor × List Column) → step j c m ≡ Ok p → steps j (suc k) (c ∷ m) ≡ with_factor p.0 (steps (suc j) k p.1)
steps_ok j k c m p e = ap (λ (x : StepAnswer). elim x as (λ y. StepsAnswer) [ Ok q ↦ with_factor q.0 (steps (suc j) k q.1) | Err i ↦ Err i ]) e

pub steps_err : (j k : ℕ) (c : Column) (m : List Column) (i : Refusal) → step j c m ≡ Err i → steps j (suc k) (c ∷ m) ≡ Err i
steps_err j k c m i e = ap (λ (x : StepAnswer). elim x as (λ y. StepsAnswer) [ Ok q ↦ with_factor q.0 (steps (suc j) k q.1) | Err i ↦ Err i ]) e
