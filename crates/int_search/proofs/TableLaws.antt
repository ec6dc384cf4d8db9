-- A value written at its place in a table and across the diagonal.
use Rattle.std.proofs.Common.{◌≡◌, ◌≢◌, ◌⊎◌, inl, inr, ⊎_elim, ℕ, ◌<◌, List, ℤ, unsigned_abs, sym, ◌∙◌, subst, ap₂}
use Rattle.std.proofs.lemmas.Bool.{cases_eq}
use Rattle.quadratic_form.specs.Tables.{entry}
use Rattle.quadratic_form.specs.Matrices.{EntriesBelow}

-- p with the value x at row r and column c, and at row c and column r
pub record IsSetBoth (old p : List (List ℤ)) (r c : ℕ) (x : ℤ) : Type 0 where
  pub there : entry p r c ≡ x
  pub across : entry p c r ≡ x
  pub others : (i j : ℕ) → (i ≢ r) ⊎ (j ≢ c) → (i ≢ c) ⊎ (j ≢ r) → entry p i j ≡ entry old i j

pub set_twice : (old mid new : List (List ℤ)) (r c : ℕ) (x : ℤ) → entry mid r c ≡ x → ((i j : ℕ) → (i ≢ r) ⊎ (j ≢ c) → entry mid i j ≡ entry old i j) → entry new c r ≡ x →
    ((i j : ℕ) → (i ≢ c) ⊎ (j ≢ r) → entry new i j ≡ entry mid i j) → IsSetBoth old new r c x
set_twice old mid new r c x a o b q = record {
  there = ⊎_elim (λ (e : r ≡ c). subst (λ (k : ℕ). entry new r k ≡ x) e (subst (λ (k : ℕ). entry new k r ≡ x) (sym e) b)) (λ (d : r ≢ c). q r c (inl d) ∙ a) (cases_eq r c);
  across = b;
  others = λ i j h g. q i j g ∙ o i j h;
}

-- an entry is one of the two, or as before
pub by_place : (old p : List (List ℤ)) (r c i j : ℕ) (x : ℤ) → IsSetBoth old p r c x → (((i ≡ r) × (j ≡ c)) ⊎ ((i ≡ c) × (j ≡ r))) ⊎ ((entry p i j ≡ entry old i j) × (entry p j i ≡ entry old j i))
by_place old p r c i j x s = go (cases_eq i r) (cases_eq j c) (cases_eq i c) (cases_eq j r)
  where
    same : (i ≢ r) ⊎ (j ≢ c) → (i ≢ c) ⊎ (j ≢ r) → (entry p i j ≡ entry old i j) × (entry p j i ≡ entry old j i)
    same h g = (s.others i j h g, s.others j i (swap g) (swap h))
      where
        swap : {A B : Type 0} → A ⊎ B → B ⊎ A
        swap (inl a) = inr a
        swap (inr b) = inl b

    go : (i ≡ r) ⊎ (i ≢ r) → (j ≡ c) ⊎ (j ≢ c) → (i ≡ c) ⊎ (i ≢ c) → (j ≡ r) ⊎ (j ≢ r) → (((i ≡ r) × (j ≡ c)) ⊎ ((i ≡ c) × (j ≡ r))) ⊎ ((entry p i j ≡ entry old i j) × (entry p j i ≡ entry old j i))
    go (inl a) (inl b) u v = inl (inl (a, b))
    go a b (inl u) (inl v) = inl (inr (u, v))
    go (inr a) b (inr u) v = inr (same (inl a) (inl u))
    go (inr a) b u (inr v) = inr (same (inl a) (inr v))
    go a (inr b) (inr u) v = inr (same (inr b) (inl u))
    go a (inr b) u (inr v) = inr (same (inr b) (inr v))

value_at : (old p : List (List ℤ)) (r c i j : ℕ) (x : ℤ) → IsSetBoth old p r c x → ((i ≡ r) × (j ≡ c)) ⊎ ((i ≡ c) × (j ≡ r)) → (entry p i j ≡ x) × (entry p j i ≡ x)
value_at old p r c i j x s (inl e) = (ap₂ (λ a b. entry p a b) e.0 e.1 ∙ s.there, ap₂ (λ a b. entry p a b) e.1 e.0 ∙ s.across)
value_at old p r c i j x s (inr e) = (ap₂ (λ a b. entry p a b) e.0 e.1 ∙ s.across, ap₂ (λ a b. entry p a b) e.1 e.0 ∙ s.there)

pub both_below : (old p : List (List ℤ)) (r c m : ℕ) (x : ℤ) → IsSetBoth old p r c x → unsigned_abs x < m → EntriesBelow m old → EntriesBelow m p
both_below old p r c m x s l h i j = ⊎_elim (λ (e : ((i ≡ r) × (j ≡ c)) ⊎ ((i ≡ c) × (j ≡ r))). subst (λ (z : ℤ). unsigned_abs z < m) (sym (value_at old p r c i j x s e).0) l)
    (λ (e : (entry p i j ≡ entry old i j) × (entry p j i ≡ entry old j i)). subst (λ (z : ℤ). unsigned_abs z < m) (sym e.0) (h i j)) (by_place old p r c i j x s)
