-- A list of three as its elements, and one more element at the end of a list; std's lemmas on lists have its length and `Any`.
use Rattle.std.proofs.Common.{◌≡◌, ◌⊎◌, inl, inr, ⊎_elim, ℕ, zero, suc, ◌<◌, ◌≤◌, Some, List, [], ◌∷◌, ◌++◌, length, get_or, Any, arith, sym, ◌∙◌, refl, subst}
use Rattle.std.specs.Prelude.{slice_get}
use Rattle.std.proofs.lemmas.Bool.{cases_lt}
use Rattle.std.proofs.lemmas.List.{length-append, get_or_append_left, get_or_push}
use Rattle.std.proofs.lemmas.Option.{none-some, same_Some}

pub three_items : {X : Type 0} (xs : List X) (a b c : X) → length xs ≡ 3 → xs ≡ get_or xs 0 a ∷ get_or xs 1 b ∷ get_or xs 2 c ∷ []
three_items [] a b c three = absurd (omega (arith, three))
three_items (x ∷ []) a b c three = absurd (omega (arith, three))
three_items (x ∷ y ∷ []) a b c three = absurd (omega (arith, three))
three_items (x ∷ y ∷ z ∷ []) a b c three = refl
three_items (x ∷ y ∷ z ∷ w ∷ xs) a b c three = absurd (omega (arith, three))

-- the elements before the last are those of the list
pub before_push : {X : Type 0} (xs : List X) (y : X) (i : ℕ) → i < length xs → slice_get (xs ++ y ∷ []) i ≡ slice_get xs i
before_push [] y i inside = absurd (omega (arith, inside))
before_push (x ∷ xs) y zero inside = refl
before_push (x ∷ xs) y (suc i) inside = before_push xs y i (omega (arith, inside))

-- the last
pub last_push : {X : Type 0} (xs : List X) (y : X) → slice_get (xs ++ y ∷ []) (length xs) ≡ Some y
last_push [] y = refl
last_push (x ∷ xs) y = last_push xs y

-- an element of the longer list stands before the last, or is the last
pub push_get : {X : Type 0} (xs : List X) (y z : X) (i : ℕ) → slice_get (xs ++ y ∷ []) i ≡ Some z → (slice_get xs i ≡ Some z) ⊎ ((i ≡ length xs) × (y ≡ z))
push_get [] y z zero at = inr (refl, same_Some y z at)
push_get [] y z (suc i) at = absurd (none-some z at)
push_get (x ∷ xs) y z zero at = inl at
push_get (x ∷ xs) y z (suc i) at =
    ⊎_elim (λ (before : slice_get xs i ≡ Some z). inl before) (λ (last : (i ≡ length xs) × (y ≡ z)). inr (next last.0, last.1)) (push_get xs y z i at)
  where
    next : i ≡ length xs → suc i ≡ length (x ∷ xs)
    next here = omega (arith, here)

pub push_before : {X : Type 0} (xs : List X) (y z : X) (i : ℕ) → slice_get xs i ≡ Some z → slice_get (xs ++ y ∷ []) i ≡ Some z
push_before [] y z i at = absurd (none-some z at)
push_before (x ∷ xs) y z zero at = at
push_before (x ∷ xs) y z (suc i) at = push_before xs y z i at

-- where some element of the longer list has a property, one before the last has it, or the last
pub any_in : {X : Type 0} (P : X → Type 0) (xs : List X) (y : X) → Any P (xs ++ y ∷ []) → Any P xs ⊎ P y
any_in P xs y some = ⊎_elim
    (λ (inside : some.0 < length xs). inl (some.0, some.1, inside, sym (get_or_append_left xs (y ∷ []) some.1 some.0 inside) ∙ some.3, some.4))
    (λ (past : length xs ≤ some.0). inr (subst P (sym some.3 ∙ last past) some.4)) (cases_lt some.0 (length xs))
  where
    last : length xs ≤ some.0 → get_or (xs ++ y ∷ []) some.0 some.1 ≡ y
    last past = get_or_push xs y some.1 some.0 (omega (arith, length-append xs (y ∷ []), some.2))

pub any_more : {X : Type 0} (P : X → Type 0) (xs : List X) (y : X) → Any P xs → Any P (xs ++ y ∷ [])
any_more P xs y some =
    let inside : some.0 < length xs = some.2 in
    (some.0, some.1, omega (arith, length-append xs (y ∷ []), inside), get_or_append_left xs (y ∷ []) some.1 some.0 inside ∙ some.3, some.4)
