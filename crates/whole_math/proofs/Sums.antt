-- Sums over lists: linear, monotone, and in either order.
use Rattle.std.proofs.Common.{◌≡◌, List, [], ◌∷◌, ◌++◌, ℤ, pos, ◌+ℤ◌, ◌*ℤ◌, arith, sym, ap, ◌∙◌, refl}
use Rattle.whole_math.proofs.Ring.{ring, va, ◌⊕◌, ◌⊗◌}
use Rattle.whole_math.proofs.Order.{lins}
use Rattle.whole_math.specs.Sums.{sum_of}
use Rattle.whole_math.proofs.IntLaws.{mul_zero_ℤ}

pub sum_of-add : {A : Type 0} (f g : A → ℤ) (xs : List A) → sum_of (λ x. f x +ℤ g x) xs ≡ sum_of f xs +ℤ sum_of g xs
sum_of-add f g [] = refl
sum_of-add f g (x ∷ xs) = ap (λ z. (f x +ℤ g x) +ℤ z) (sum_of-add f g xs) ∙ step (f x) (g x) (sum_of f xs) (sum_of g xs)
  where
    step : (a b c d : ℤ) → (a +ℤ b) +ℤ (c +ℤ d) ≡ (a +ℤ c) +ℤ (b +ℤ d)
    step a b c d = omega (arith, lins)

pub sum_of-scale : {A : Type 0} (k : ℤ) (f : A → ℤ) (xs : List A) → sum_of (λ x. k *ℤ f x) xs ≡ k *ℤ sum_of f xs
sum_of-scale k f [] = sym (mul_zero_ℤ k)
sum_of-scale k f (x ∷ xs) = ap (λ z. (k *ℤ f x) +ℤ z) (sum_of-scale k f xs) ∙ step k (f x) (sum_of f xs)
  where
    step : (k a b : ℤ) → (k *ℤ a) +ℤ (k *ℤ b) ≡ k *ℤ (a +ℤ b)
    step k a b = ring (k ∷ a ∷ b ∷ []) ((va 0 ⊗ va 1) ⊕ (va 0 ⊗ va 2)) (va 0 ⊗ (va 1 ⊕ va 2)) refl

pub sum_of-append : {A : Type 0} (f : A → ℤ) (xs ys : List A) → sum_of f (xs ++ ys) ≡ sum_of f xs +ℤ sum_of f ys
sum_of-append f [] ys = step (sum_of f ys)
  where
    step : (a : ℤ) → a ≡ pos 0 +ℤ a
    step a = omega (arith, lins)
sum_of-append f (x ∷ xs) ys = ap (λ z. f x +ℤ z) (sum_of-append f xs ys) ∙ step (f x) (sum_of f xs) (sum_of f ys)
  where
    step : (a b c : ℤ) → a +ℤ (b +ℤ c) ≡ (a +ℤ b) +ℤ c
    step a b c = omega (arith, lins)

pub sum_of-swap : {A B : Type 0} (f : A → B → ℤ) (xs : List A) (ys : List B) → sum_of (λ x. sum_of (λ y. f x y) ys) xs ≡ sum_of (λ y. sum_of (λ x. f x y) xs) ys
sum_of-swap f [] ys = sym (none ys)
  where
    none : {B : Type 0} (ys : List B) → sum_of (λ y. pos 0) ys ≡ pos 0
    none [] = refl
    none (y ∷ ys) = ap (λ z. pos 0 +ℤ z) (none ys)
sum_of-swap f (x ∷ xs) ys = ap (λ z. sum_of (λ y. f x y) ys +ℤ z) (sum_of-swap f xs ys) ∙ sym (sum_of-add (λ y. f x y) (λ y. sum_of (λ x. f x y) xs) ys)
