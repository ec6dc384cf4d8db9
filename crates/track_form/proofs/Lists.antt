-- Two lists side by side.
use Rattle.std.proofs.Common.{◌≡◌, ℕ, zero, suc, ◌<◌, List, [], ◌∷◌, length, map, get_or, All, Any, arith, sym, ap, ◌∙◌, subst}
use Rattle.std.specs.List.{AllZip}
use Rattle.std.proofs.lemmas.List.{get_or-map, length-map}

-- what holds at each place holds of the lists
pub all_zip_from : {A B : Type 0} (R : A → B → Type 0) (xs : List A) (ys : List B) → length ys ≡ length xs → ((k : ℕ) → k < length xs → (x : A) (y : B) → R (get_or xs k x) (get_or ys k y)) →
    AllZip R xs ys
all_zip_from R [] [] e h = tt
all_zip_from R [] (y ∷ ys) e h = absurd (omega (arith, e))
all_zip_from R (x ∷ xs) [] e h = absurd (omega (arith, e))
all_zip_from R (x ∷ xs) (y ∷ ys) e h = (h 0 (omega arith) x y, all_zip_from R xs ys (omega (arith, e)) (λ k l a b. h (suc k) (omega (arith, l)) a b))

-- what fails at a place of the second list, mapped, doesn't hold there
pub not_mapped : {A B C : Type 0} (W : B → A → Type 0) (g : C → B) (xs : List A) (zs : List C) (k : ℕ) → k < length xs → AllZip (λ x y. W y x → ⊥) xs (map g zs) →
    ((x : A) (z : C) → W (g (get_or zs k z)) (get_or xs k x)) → ⊥
not_mapped W g [] zs k l all wide = absurd (omega (arith, l))
not_mapped W g (x ∷ xs) [] k l all wide = absurd all
not_mapped W g (x ∷ xs) (z ∷ zs) zero l all wide = all.0 (wide x z)
not_mapped W g (x ∷ xs) (z ∷ zs) (suc k) l all wide = not_mapped W g xs zs k (omega (arith, l)) all.1 wide

-- what one has, one of the mapped list has
pub any_mapped : {A B : Type 0} (P : B → Type 0) (g : A → B) (xs : List A) → Any (λ x. P (g x)) xs → Any P (map g xs)
any_mapped P g xs (k, x, inside, at, holds) = (k, g x, subst (λ (n : ℕ). k < n) (sym (length-map xs g)) inside, get_or-map g xs k x (g x) inside ∙ ap g at, holds)

-- and none has what none of the mapped list has
pub none_mapped : {A B : Type 0} (P : B → Type 0) (g : A → B) (xs : List A) → All (λ y. P y → ⊥) (map g xs) → All (λ x. P (g x) → ⊥) xs
none_mapped P g xs none k d inside holds = none k (g d) (subst (λ (n : ℕ). k < n) (sym (length-map xs g)) inside) (subst P (sym (get_or-map g xs k d (g d) inside)) holds)

pub not_all_and_any : {A : Type 0} (P : A → Type 0) (xs : List A) → All (λ x. P x → ⊥) xs → Any P xs → ⊥
not_all_and_any P xs none (k, x, inside, at, holds) = none k x inside (subst P (sym at) holds)
