-- Gauss transformations, one after another.
use Rattle.std.proofs.Common.{ℕ, zero, suc, ◌≡◌, ◌+◌, ◌-◌, ◌^◌, ◌<◌, ◌≤◌, ⊎_elim, Bool, true, false, nat_lt, ℤ, pos, ◌-ℤ◌, ◌*ℤ◌, arith, sym, ap, ap₂, ◌∙◌, refl, subst, unsigned_abs, add-one}
use Rattle.std.proofs.lemmas.Bool.{cases_lt, lt-ltb, le-ltb}
use Rattle.whole_math.specs.Rounding.{nearest_div}
use Rattle.decorrelate.specs.GaussSteps.{with_own, after_gauss, left_at, IsGauss, IsWideGauss, GaussSmall}

pub own_before : (l : ℕ → ℕ → ℤ) (i m : ℕ) → m < i → with_own l i m ≡ l i m
own_before l i m h = rw (lt-ltb m i h, with_own) refl

pub own_at : (l : ℕ → ℕ → ℤ) (i : ℕ) → with_own l i i ≡ pos (2 ^ 30)
own_at l i = rw (le-ltb i i (omega arith), with_own) refl

pub own_size : (l : ℕ → ℕ → ℤ) → ((i c : ℕ) → unsigned_abs (l i c) < 2 ^ 52) → (i c : ℕ) → unsigned_abs (with_own l i c) ≤ 2 ^ 52
own_size l h i c = by_test (nat_lt c i)
  where
    by_test : (b : Bool) → unsigned_abs (elim b as (λ x. ℤ) [ true ↦ l i c | false ↦ pos (2 ^ 30) ]) ≤ 2 ^ 52
    by_test true = omega (arith, h i c)
    by_test false = omega arith

pub after_gauss_start : (l : ℕ → ℕ → ℤ) (j m : ℕ) → after_gauss l j 0 m ≡ l (j + 1) m
unfolding after_gauss
after_gauss_start l j m = refl

abbrev after : (ℕ → ℕ → ℤ) → ℕ → ℕ → ℕ → Bool → ℤ
after l j p m b = elim b [ true ↦ after_gauss l j p m | false ↦ after_gauss l j p m -ℤ (nearest_div (after_gauss l j p (j - p)) (2 ^ 30) *ℤ with_own l (j - p) m) ]

opened : (l : ℕ → ℕ → ℤ) (j p m : ℕ) → after_gauss l j (suc p) m ≡ after l j p m (nat_lt (j - p) m)
unfolding after_gauss
opened l j p m = refl

pub next_kept : (l : ℕ → ℕ → ℤ) (j p m : ℕ) → j - p < m → after_gauss l j (p + 1) m ≡ after_gauss l j p m
next_kept l j p m h = ap (λ (q : ℕ). after_gauss l j q m) (add-one p) ∙ opened l j p m ∙ ap (after l j p m) (lt-ltb (j - p) m h)

pub next_taken : (l : ℕ → ℕ → ℤ) (j p m : ℕ) → m ≤ j - p → after_gauss l j (p + 1) m ≡ after_gauss l j p m -ℤ (nearest_div (after_gauss l j p (j - p)) (2 ^ 30) *ℤ with_own l (j - p) m)
next_taken l j p m h = ap (λ (q : ℕ). after_gauss l j q m) (add-one p) ∙ opened l j p m ∙ ap (after l j p m) (le-ltb (j - p) m h)

pub gauss_next : (l : ℕ → ℕ → ℤ) (j p : ℕ) (f u : ℕ → ℤ) → ((m : ℕ) → m ≤ j → f m ≡ after_gauss l j p m) → IsGauss (j - p) (nearest_div (f (j - p)) (2 ^ 30)) (with_own l (j - p)) f u →
    (m : ℕ) → m ≤ j → u m ≡ after_gauss l j (p + 1) m
gauss_next l j p f u e s m h = ⊎_elim
    (λ (a : j - p < m). s.stays m a ∙ e m h ∙ sym (next_kept l j p m a))
    (λ (a : m ≤ j - p). s.taken m a ∙ ap₂ (λ x k. x -ℤ (nearest_div k (2 ^ 30) *ℤ with_own l (j - p) m)) (e m h) (e (j - p) (omega arith)) ∙ sym (next_taken l j p m a))
    (cases_lt (j - p) m)

pub gauss_stop : (l : ℕ → ℕ → ℤ) (j p : ℕ) (f : ℕ → ℤ) → p ≤ j → ((m : ℕ) → m ≤ j → f m ≡ after_gauss l j p m) → IsWideGauss (j - p) (nearest_div (f (j - p)) (2 ^ 30)) (with_own l (j - p)) f →
    GaussSmall l j → ⊥
gauss_stop l j p f g e w s =
    let m : ℕ = w.place in
    let place_within : m ≤ j - p = w.within in
    let same_after_gauss : f m -ℤ (nearest_div (f (j - p)) (2 ^ 30) *ℤ with_own l (j - p) m) ≡ after_gauss l j (p + 1) m =
    ap₂ (λ x k. x -ℤ (nearest_div k (2 ^ 30) *ℤ with_own l (j - p) m)) (e m (omega arith)) (e (j - p) (omega arith)) ∙ sym (next_taken l j p m place_within) in
    let is_wide : 2 ^ 62 ≤ unsigned_abs (after_gauss l j (p + 1) m) = subst (λ (z : ℤ). 2 ^ 62 ≤ unsigned_abs z) same_after_gauss w.wide in
    let is_small : unsigned_abs (after_gauss l j (p + 1) m) < 2 ^ 62 = s p m g (omega arith) in
    omega arith

-- what is left at place j after the first Gauss transformation stays
pub rest_is : (l : ℕ → ℕ → ℤ) (j : ℕ) → left_at l j j ≡ l (j + 1) j -ℤ (nearest_div (l (j + 1) j) (2 ^ 30) *ℤ pos (2 ^ 30))
rest_is l j = later j (omega arith) ∙ next_taken l j 0 j (omega arith)
    ∙ ap₂ (λ x y. after_gauss l j 0 j -ℤ (nearest_div x (2 ^ 30) *ℤ y)) (ap (after_gauss l j 0) (none j) ∙ after_gauss_start l j j) (ap (λ i. with_own l i j) (none j) ∙ own_at l j)
    ∙ ap (λ x. x -ℤ (nearest_div (l (j + 1) j) (2 ^ 30) *ℤ pos (2 ^ 30))) (after_gauss_start l j j)
  where
    none : (j : ℕ) → j - 0 ≡ j
    none j = omega arith

    later : (p : ℕ) → p ≤ j → after_gauss l j (p + 1) j ≡ after_gauss l j (0 + 1) j
    later zero h = refl
    later (suc p) h = next_kept l j (suc p) j (omega arith) ∙ ap (λ (q : ℕ). after_gauss l j q j) (sym (add-one p)) ∙ later p (omega arith)
