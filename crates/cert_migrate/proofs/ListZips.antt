-- What holds of two lists place by place, and of all that a list is mapped to.
use Rattle.std.proofs.Common.{◌≡◌, ℕ, zero, suc, ◌+◌, ◌<◌, List, [], ◌∷◌, ◌++◌, length, take, map, get_or, All, arith, refl, sym, subst}
use Rattle.std.specs.List.{AllZip, AllPairs}
use Rattle.std.proofs.lemmas.List.{take_more}
use Rattle.std.proofs.lemmas.List.Elements.{All-nil, All-cons, All-head, All-tail}
use Rattle.std.proofs.lemmas.Slice.Zip.{AllZip-long, all_zipped_more}

-- one place more
pub zip_more : {A B : Type 0} (R : A → B → Type 0) (xs : List A) (ys zs : List B) (i : ℕ) (d : A) (y : B) → AllZip R (take i xs) ys → i < length xs → R (get_or xs i d) y → zs ≡ ys ++ y ∷ []
    → AllZip R (take (i + 1) xs) zs
zip_more R xs ys zs i d y h l r e =
    subst (λ (t : List _). AllZip R (take (i + 1) xs) t) (sym e) (subst (λ (t : List _). AllZip R t (ys ++ y ∷ [])) (sym (take_more xs i d l)) (all_zipped_more R (take i xs) ys (get_or xs i d) y h r))

pub zip_at : {A B : Type 0} (R : A → B → Type 0) (xs : List A) (ys : List B) (k : ℕ) (d : A) (e : B) → AllZip R xs ys → k < length xs → R (get_or xs k d) (get_or ys k e)
zip_at R [] ys k d e h l = absurd (omega arith)
zip_at R (x ∷ xs) [] k d e h l = absurd h
zip_at R (x ∷ xs) (y ∷ ys) zero d e h l = h.0
zip_at R (x ∷ xs) (y ∷ ys) (suc k) d e h l = zip_at R xs ys k d e h.1 (omega arith)

-- a fact of each item of the first list as one of each item of the second
pub zip_all : {A B : Type 0} (R : A → B → Type 0) (P : A → Type 0) (Q : B → Type 0) → ((x : A) (y : B) → R x y → P x → Q y) → (xs : List A) (ys : List B) → AllZip R xs ys → All P xs → All Q ys
zip_all R P Q f [] [] h p = All-nil Q
zip_all R P Q f [] (y ∷ ys) h p = absurd h
zip_all R P Q f (x ∷ xs) [] h p = absurd h
zip_all R P Q f (x ∷ xs) (y ∷ ys) h p = All-cons Q y ys (f x y h.0 (All-head P x xs p)) (zip_all R P Q f xs ys h.1 (All-tail P x xs p))

pub zip_weaker : {A B : Type 0} (R S : A → B → Type 0) → ((x : A) (y : B) → R x y → S x y) → (xs : List A) (ys : List B) → AllZip R xs ys → AllZip S xs ys
zip_weaker R S f [] [] h = tt
zip_weaker R S f [] (y ∷ ys) h = absurd h
zip_weaker R S f (x ∷ xs) [] h = absurd h
zip_weaker R S f (x ∷ xs) (y ∷ ys) h = (f x y h.0, zip_weaker R S f xs ys h.1)

-- the same of each two items
pub zip_all_pairs : {A B : Type 0} (R : A → B → Type 0) (P : A → A → Type 0) (Q : B → B → Type 0) → ((x x' : A) (y y' : B) → R x y → R x' y' → P x x' → Q y y')
    → (xs : List A) (ys : List B) → AllZip R xs ys → AllPairs P xs → AllPairs Q ys
zip_all_pairs R P Q f [] [] h p = λ i j e l m. absurd (omega arith)
zip_all_pairs R P Q f [] (y ∷ ys) h p = absurd h
zip_all_pairs R P Q f (x ∷ xs) [] h p = absurd h
zip_all_pairs R P Q f (x ∷ xs) (y ∷ ys) h p = λ i j e l m.
    let inside : j < length (x ∷ xs) = subst (λ (n : ℕ). j < n) (AllZip-long R (x ∷ xs) (y ∷ ys) h) m in
    f (get_or (x ∷ xs) i x) (get_or (x ∷ xs) j x) (get_or (y ∷ ys) i e) (get_or (y ∷ ys) j e) (zip_at R (x ∷ xs) (y ∷ ys) i x e h (omega arith)) (zip_at R (x ∷ xs) (y ∷ ys) j x e h inside)
    (p i j x l inside)

pub all_map : {A B : Type 0} (g : A → B) (P : A → Type 0) (Q : B → Type 0) → ((x : A) → P x → Q (g x)) → (xs : List A) → All P xs → All Q (map g xs)
all_map g P Q f [] p = All-nil Q
all_map g P Q f (x ∷ xs) p = All-cons Q (g x) (map g xs) (f x (All-head P x xs p)) (all_map g P Q f xs (All-tail P x xs p))

-- each item at a place, or what stands for none
pub all_at : {A : Type 0} (P : A → Type 0) (xs : List A) (k : ℕ) (d : A) → P d → All P xs → P (get_or xs k d)
all_at P [] k d n h = n
all_at P (x ∷ xs) zero d n h = All-head P x xs h
all_at P (x ∷ xs) (suc k) d n h = all_at P xs k d n (All-tail P x xs h)

-- two lists that a third one determines, place by place, are the same
pub zip_same : {A B : Type 0} (R : A → B → Type 0) → ((x : A) (y z : B) → R x y → R x z → y ≡ z) → (xs : List A) (ys zs : List B) → AllZip R xs ys → AllZip R xs zs → ys ≡ zs
zip_same R f [] [] [] h g = refl
zip_same R f [] [] (z ∷ zs) h g = absurd g
zip_same R f [] (y ∷ ys) zs h g = absurd h
zip_same R f (x ∷ xs) [] zs h g = absurd h
zip_same R f (x ∷ xs) (y ∷ ys) [] h g = absurd g
zip_same R f (x ∷ xs) (y ∷ ys) (z ∷ zs) h g = let head = f x y z h.0 g.0 in let tail = zip_same R f xs ys zs h.1 g.1 in λ i. head i ∷ tail i

-- each item with what it is mapped to
pub zip_map : {A B : Type 0} (R : A → B → Type 0) (g : A → B) → ((x : A) → R x (g x)) → (xs : List A) → AllZip R xs (map g xs)
zip_map R g f [] = tt
zip_map R g f (x ∷ xs) = (f x, zip_map R g f xs)

-- the same the other way round, where something holds of each item
pub map_zip : {A B : Type 0} (R : B → A → Type 0) (P : A → Type 0) (g : A → B) → ((x : A) → P x → R (g x) x) → (xs : List A) → All P xs → AllZip R (map g xs) xs
map_zip R P g f [] p = tt
map_zip R P g f (x ∷ xs) p = (f x (All-head P x xs p), map_zip R P g f xs (All-tail P x xs p))
