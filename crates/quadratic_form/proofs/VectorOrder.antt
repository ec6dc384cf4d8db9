-- The order of integer vectors is strict and total, and there is at most one pair of two least.
use Rattle.std.proofs.Common.{◌≡◌, ◌⊎◌, inl, inr, ⊎_elim, List, [], ◌∷◌, ℤ, ◌≤ℤ◌, ◌<ℤ◌, arith, sym, ap₂, ◌∙◌, refl, subst}
use Rattle.std.proofs.lemmas.Int.{by_lt_z}
use Rattle.whole_math.proofs.Order.{lins}
use Rattle.quadratic_form.specs.Forms.{Column}
use Rattle.quadratic_form.specs.Rows.{value}
use Rattle.quadratic_form.specs.TwoLeast.{Before, Less, TwoLeast}
use Rattle.whole_math.proofs.Vectors.{len_nonneg, len_tail, len_apart}
use Rattle.whole_math.specs.Vectors.{len}

pub never : (a : ℤ) → a <ℤ a → ⊥
never a h = omega (arith, lins)

pub chain : (a b c : ℤ) → a <ℤ b → b <ℤ c → a <ℤ c
chain a b c h k = omega (arith, lins)

pub before_never : (v : List ℤ) → Before v v → ⊥
before_never [] h = h
before_never (x ∷ v) h = ⊎_elim (never x) (λ (p : (x ≡ x) × Before v v). before_never v p.1) h

pub before_chain : (u v w : List ℤ) → Before u v → Before v w → Before u w
before_chain [] v w h k = absurd h
before_chain (x ∷ u) [] w h k = absurd h
before_chain (x ∷ u) (y ∷ v) [] h k = absurd k
before_chain (x ∷ u) (y ∷ v) (z ∷ w) h k = ⊎_elim
    (λ (p : x <ℤ y). ⊎_elim (λ (q : y <ℤ z). inl (chain x y z p q)) (λ (q : (y ≡ z) × Before v w). inl (subst (λ (t : ℤ). x <ℤ t) q.0 p)) k)
    (λ (p : (x ≡ y) × Before u v). ⊎_elim (λ (q : y <ℤ z). inl (subst (λ (t : ℤ). t <ℤ z) (sym p.0) q)) (λ (q : (y ≡ z) × Before v w). inr (p.0 ∙ q.0, before_chain u v w p.1 q.1)) k) h

-- of two vectors of one length one is before the other, or they are equal
pub before_total : (v w : List ℤ) → len v ≡ len w → (v ≡ w) ⊎ (Before v w ⊎ Before w v)
before_total [] [] e = inl refl
before_total [] (y ∷ w) e = absurd (len_apart (len w) (len_nonneg w) e)
before_total (x ∷ v) [] e = absurd (len_apart (len v) (len_nonneg v) (sym e))
before_total (x ∷ v) (y ∷ w) e = by_lt_z x y (λ (h : x <ℤ y). inr (inl (inl h)))
    (λ (h : y ≤ℤ x). by_lt_z y x (λ (k : y <ℤ x). inr (inr (inl k))) (λ (k : x ≤ℤ y). go (same x y h k) (before_total v w (len_tail (len v) (len w) e))))
  where
    same : (x y : ℤ) → y ≤ℤ x → x ≤ℤ y → x ≡ y
    same x y h k = omega (arith, lins)

    go : x ≡ y → (v ≡ w) ⊎ (Before v w ⊎ Before w v) → ((x ∷ v) ≡ (y ∷ w)) ⊎ (Before (x ∷ v) (y ∷ w) ⊎ Before (y ∷ w) (x ∷ v))
    go i t = ⊎_elim (λ (p : v ≡ w). inl (ap₂ (λ a s. a ∷ s) i p))
        (λ (p : Before v w ⊎ Before w v). ⊎_elim (λ (q : Before v w). inr (inl (inr (i, q)))) (λ (q : Before w v). inr (inr (inr (sym i, q)))) p) t

pub less_never : (p : List Column) (v : List ℤ) → Less p v v → ⊥
less_never p v h = ⊎_elim (never (value p v)) (λ (q : (value p v ≡ value p v) × Before v v). before_never v q.1) h

pub less_chain : (p : List Column) (u v w : List ℤ) → Less p u v → Less p v w → Less p u w
less_chain p u v w h k = ⊎_elim
    (λ (q : value p u <ℤ value p v). ⊎_elim (λ (r : value p v <ℤ value p w). inl (chain _ _ _ q r)) (λ (r : (value p v ≡ value p w) × Before v w). inl (subst (λ (t : ℤ). value p u <ℤ t) r.0 q)) k)
    (λ (q : (value p u ≡ value p v) × Before u v). ⊎_elim (λ (r : value p v <ℤ value p w). inl (subst (λ (t : ℤ). t <ℤ value p w) (sym q.0) r))
    (λ (r : (value p v ≡ value p w) × Before v w). inr (q.0 ∙ r.0, before_chain u v w q.1 r.1)) k) h

pub less_total : (p : List Column) (v w : List ℤ) → len v ≡ len w → (v ≡ w) ⊎ (Less p v w ⊎ Less p w v)
less_total p v w e = by_lt_z (value p v) (value p w) (λ (h : value p v <ℤ value p w). inr (inl (inl h)))
    (λ (h : value p w ≤ℤ value p v). by_lt_z (value p w) (value p v) (λ (k : value p w <ℤ value p v). inr (inr (inl k)))
    (λ (k : value p v ≤ℤ value p w). go (same (value p v) (value p w) h k) (before_total v w e)))
  where
    same : (x y : ℤ) → y ≤ℤ x → x ≤ℤ y → x ≡ y
    same x y h k = omega (arith, lins)

    go : value p v ≡ value p w → (v ≡ w) ⊎ (Before v w ⊎ Before w v) → (v ≡ w) ⊎ (Less p v w ⊎ Less p w v)
    go i t = ⊎_elim (λ (q : v ≡ w). inl q) (λ (q : Before v w ⊎ Before w v). ⊎_elim (λ (r : Before v w). inr (inl (inr (i, r)))) (λ (r : Before w v). inr (inr (inr (sym i, r)))) q) t

-- the first of two least is less than every other vector
first_less : (p : List Column) (n : ℤ) (z1 z2 v : List ℤ) → TwoLeast p n z1 z2 → len v ≡ n → (v ≡ z1 → ⊥) → Less p z1 v
first_less p n z1 z2 v t e d = ⊎_elim (λ (i : v ≡ z2). subst (λ (s : List ℤ). Less p z1 s) (sym i) t.order)
    (λ (i : v ≡ z2 → ⊥). less_chain p z1 z2 v t.order (t.rest v e d i)) (decide v z2 (e ∙ sym t.second))
  where
    decide : (v w : List ℤ) → len v ≡ len w → (v ≡ w) ⊎ (v ≡ w → ⊥)
    decide v w e = ⊎_elim (λ (i : v ≡ w). inl i) (λ (q : Before v w ⊎ Before w v). inr (λ (i : v ≡ w). before_never w
        (⊎_elim (λ (r : Before v w). subst (λ (s : List ℤ). Before s w) i r) (λ (r : Before w v). subst (λ (s : List ℤ). Before w s) i r) q)))
        (before_total v w e)

pub first_unique : (p : List Column) (n : ℤ) (z1 z2 w1 w2 : List ℤ) → TwoLeast p n z1 z2 → TwoLeast p n w1 w2 → z1 ≡ w1
first_unique p n z1 z2 w1 w2 t u = ⊎_elim (λ (i : z1 ≡ w1). i) (λ (q : Less p z1 w1 ⊎ Less p w1 z1). absurd (both (distances_from q))) (less_total p z1 w1 (t.first ∙ sym u.first))
  where
    distances_from : Less p z1 w1 ⊎ Less p w1 z1 → z1 ≡ w1 → ⊥
    distances_from q i = ⊎_elim (λ (r : Less p z1 w1). less_never p w1 (subst (λ (s : List ℤ). Less p s w1) i r)) (λ (r : Less p w1 z1). less_never p w1 (subst (λ (s : List ℤ). Less p w1 s) i r)) q

    both : (z1 ≡ w1 → ⊥) → ⊥
    both d = less_never p z1 (less_chain p z1 w1 z1 (first_less p n z1 z2 w1 t u.first (λ (i : w1 ≡ z1). d (sym i))) (first_less p n w1 w2 z1 u t.first d))

pub second_unique : (p : List Column) (n : ℤ) (z1 z2 w1 w2 : List ℤ) → TwoLeast p n z1 z2 → TwoLeast p n w1 w2 → z2 ≡ w2
second_unique p n z1 z2 w1 w2 t u = ⊎_elim (λ (i : z2 ≡ w2). i) (λ (q : Less p z2 w2 ⊎ Less p w2 z2). absurd (both (distances_from q))) (less_total p z2 w2 (t.second ∙ sym u.second))
  where
    f : z1 ≡ w1
    f = first_unique p n z1 z2 w1 w2 t u

    distances_from : Less p z2 w2 ⊎ Less p w2 z2 → z2 ≡ w2 → ⊥
    distances_from q i = ⊎_elim (λ (r : Less p z2 w2). less_never p w2 (subst (λ (s : List ℤ). Less p s w2) i r)) (λ (r : Less p w2 z2). less_never p w2 (subst (λ (s : List ℤ). Less p w2 s) i r)) q

    both : (z2 ≡ w2 → ⊥) → ⊥
    both d = less_never p z2 (less_chain p z2 w2 z2
        (t.rest w2 u.second (λ (i : w2 ≡ z1). u.differ (sym f ∙ sym i)) (λ (i : w2 ≡ z2). d (sym i)))
        (u.rest z2 t.second (λ (i : z2 ≡ w1). t.differ (f ∙ sym i)) d))
