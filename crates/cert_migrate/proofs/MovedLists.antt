-- Fronts of lists.
use Rattle.std.proofs.Common.{◌≡◌, ℕ, zero, suc, ◌<◌, ◌≤◌, ◌^◌, unsigned_abs, List, [], ◌∷◌, take, get_or, ℤ, pos, arith, refl, ap}
use Rattle.integer_form.specs.Kept.{IsZeroFrom}
use Rattle.int_search.specs.Vectors.{IsSmall}

zero_at : (m : ℕ) (xs : List ℤ) (i : ℕ) → get_or xs i (pos 0) ≡ pos 0 → get_or (take m xs) i (pos 0) ≡ pos 0
zero_at zero [] i e = refl
zero_at zero (x ∷ xs) i e = refl
zero_at (suc m) [] i e = refl
zero_at (suc m) (x ∷ xs) zero e = e
zero_at (suc m) (x ∷ xs) (suc i) e = zero_at m xs i e

pub front_zero : (m n : ℕ) (xs : List ℤ) → IsZeroFrom n xs → IsZeroFrom n (take m xs)
front_zero m n xs h = λ i from. zero_at m xs i (h i from)

pub front_of_front : (m n : ℕ) (xs : List ℤ) → m ≤ n → take m (take n xs) ≡ take m xs
front_of_front zero zero [] h = refl
front_of_front zero zero (x ∷ xs) h = refl
front_of_front zero (suc n) [] h = refl
front_of_front zero (suc n) (x ∷ xs) h = refl
front_of_front (suc m) zero xs h = absurd (omega (arith, h))
front_of_front (suc m) (suc n) [] h = refl
front_of_front (suc m) (suc n) (x ∷ xs) h = ap (λ (l : List ℤ). x ∷ l) (front_of_front m n xs (omega (arith, h)))

small_at : (m : ℕ) (xs : List ℤ) (i : ℕ) → unsigned_abs (get_or xs i (pos 0)) < 2 ^ 30 → unsigned_abs (get_or (take m xs) i (pos 0)) < 2 ^ 30
small_at zero [] i h = h
small_at zero (x ∷ xs) i h = omega arith
small_at (suc m) [] i h = h
small_at (suc m) (x ∷ xs) zero h = h
small_at (suc m) (x ∷ xs) (suc i) h = small_at m xs i h

pub front_small : (m : ℕ) (xs : List ℤ) → IsSmall xs → IsSmall (take m xs)
front_small m xs h = λ i. small_at m xs i (h i)
