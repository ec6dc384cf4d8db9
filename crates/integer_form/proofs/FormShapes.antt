-- The shape of a form that stands in a table, and of factors that stand in one.
use Rattle.std.proofs.Common.{◌≡◌, ℕ, zero, suc, ◌+◌, ◌-◌, ◌≤◌, List, [], ◌∷◌, ◌++◌, length, ℤ, pos, ◌+ℤ◌, arith, sym, ap, ◌∙◌, refl}
use Rattle.whole_math.specs.Vectors.{len}
use Rattle.whole_math.proofs.Vectors.{len_is, len_last}
use Rattle.quadratic_form.specs.Forms.{Shaped}
use Rattle.quadratic_form.specs.Places.{form_from}
use Rattle.quadratic_form.proofs.Places.{len_list}
use Rattle.integer_form.specs.Factors.{stored}

more : (k : ℕ) → pos 1 +ℤ pos k ≡ pos (suc k)
more k = let same_successor : 1 + k ≡ suc k = omega arith in ap pos same_successor

pub len_form : (e : ℕ → ℕ → ℤ) (j k : ℕ) → len (form_from e j k) ≡ pos k
len_form e j zero = refl
len_form e j (suc k) = ap (λ z. pos 1 +ℤ z) (len_form e (suc j) k) ∙ more k

pub shaped_form : (e : ℕ → ℕ → ℤ) (j k : ℕ) → Shaped (form_from e j k)
shaped_form e j zero = tt
shaped_form e j (suc k) = (len_list (e j) (suc j) k ∙ sym (len_form e (suc j) k), shaped_form e (suc j) k)

pub len_stored : (d : List ℤ) (f : List (List ℤ)) (columns j k : ℕ) → len (stored d f columns j k) ≡ pos k
len_stored d f columns j zero = refl
len_stored d f columns j (suc k) = ap (λ z. pos 1 +ℤ z) (len_stored d f columns (suc j) k) ∙ more k

-- of the integers z and the constant
pub len_with_one : (z : List ℤ) (k : ℕ) → length z ≡ k → len (z ++ (pos 1 ∷ [])) ≡ pos (suc k)
len_with_one z k e = len_last z (pos 1) ∙ ap (λ n. pos 1 +ℤ n) (len_is z ∙ ap pos e) ∙ more k

pub columns_left : (columns : ℕ) → 4 ≤ columns → columns - 3 ≡ suc (columns - 4)
columns_left columns h = omega arith
