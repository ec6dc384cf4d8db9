-- Steps that are taken row by row are the steps of the form.
use Rattle.std.proofs.Common.{◌≡◌, ◌≢◌, ◌⊎◌, ⊎_elim, ℕ, zero, suc, ◌+◌, ◌-◌, ◌^◌, ◌<◌, ◌≤◌, Bool, true, false, int_lt, nat_eq, cond, List, [], ℤ, pos, ◌-ℤ◌, ◌*ℤ◌, ◌<ℤ◌, Result, Ok, unsigned_abs, slice_index_or, arith, sym, ap, ap₂, ◌∙◌, refl, subst, below_more}
use Rattle.std.proofs.lemmas.Bool.Decides.{nat_tests}
use Rattle.whole_math.specs.Rounding.{ceil_div, nearest_div}
use Rattle.whole_math.specs.Vectors.{len}
use Rattle.quadratic_form.specs.Forms.{Column}
use Rattle.quadratic_form.specs.Elimination.{factors, kept, next, Factor, Refusal, all_small, form_small, step, steps, with_factor}
use Rattle.quadratic_form.specs.Places.{list_from, form_from}
use Rattle.quadratic_form.proofs.Places.{list_factors, form_next, form_same, len_list}
use Rattle.quadratic_form.specs.Tables.{entry}
use Rattle.integer_form.specs.Factors.{factor_at, stored}
use Rattle.elimination.specs.StepEntries.{is_small}
use Rattle.elimination.specs.RowSteps.{left_own, left_other, left_entry, left_after, row_entry, HasFactors, ArePivotRows}
use Rattle.elimination.proofs.SmallEntries.{list_small, form_all_small, small_entry}
use Rattle.elimination.proofs.StepLaws.{step_tests, above}
use Rattle.elimination.proofs.StoredLaws.{steps_ok}

abbrev Answer : Type 0
Answer = Result (Factor × List Column) Refusal

abbrev Whole : Type 0
Whole = Result (List Factor × List Column) Refusal

-- ---- an entry by the steps so far
pub left_none : (q : List (List ℤ)) (n r c : ℕ) (x : ℤ) → left_after q n r c 0 x ≡ x
unfolding left_after
left_none q n r c x = refl

pub left_next : (q : List (List ℤ)) (n r c k : ℕ) (x : ℤ) → left_after q n r c (suc k) x ≡ left_entry q n r c k (left_after q n r c k x)
unfolding left_after
left_next q n r c k x = refl

same : (r : ℕ) → nat_eq r r ≡ true
same r = grind (arith, nat_tests)

apart : (r c : ℕ) → r < c → nat_eq r c ≡ false
apart r c h = grind (arith, nat_tests)

pub on_diagonal : (q : List (List ℤ)) (n r j : ℕ) (x : ℤ) → left_entry q n r r j x ≡ left_own (unsigned_abs (entry q j j)) (n - j - 1) (entry q j r) x
on_diagonal q n r j x = ap (λ (b : Bool). cond b (left_own (unsigned_abs (entry q j j)) (n - j - 1) (entry q j r) x) (left_other (unsigned_abs (entry q j j)) (entry q j r) (entry q j r) x)) (same r)

pub off_diagonal : (q : List (List ℤ)) (n r c j : ℕ) (x : ℤ) → r < c → left_entry q n r c j x ≡ left_other (unsigned_abs (entry q j j)) (entry q j r) (entry q j c) x
off_diagonal q n r c j x h = ap (λ (b : Bool). cond b (left_own (unsigned_abs (entry q j j)) (n - j - 1) (entry q j r) x) (left_other (unsigned_abs (entry q j j)) (entry q j r) (entry q j c) x)) (apart r c h)

-- by tables that agree in the rows of the first k columns
pub left_same : (q t : List (List ℤ)) (n r c k : ℕ) (x : ℤ) → ((j i : ℕ) → j < k → entry q j i ≡ entry t j i) → left_after q n r c k x ≡ left_after t n r c k x
left_same q t n r c zero x h = left_none q n r c x ∙ sym (left_none t n r c x)
left_same q t n r c (suc k) x h = left_next q n r c k x ∙ ap (λ z. left_entry q n r c k z) (left_same q t n r c k x (λ j i g. h j i (omega arith)))
    ∙ ap (λ (a : ℤ). cond (nat_eq r c) (left_own (unsigned_abs a) (n - k - 1) (entry q k r) y) (left_other (unsigned_abs a) (entry q k r) (entry q k c) y)) (h k k (omega arith))
    ∙ ap₂ (λ (u v : ℤ). cond (nat_eq r c) (left_own (unsigned_abs (entry t k k)) (n - k - 1) u y) (left_other (unsigned_abs (entry t k k)) u v y)) (h k r (omega arith)) (h k c (omega arith))
    ∙ sym (left_next t n r c k x)
  where
    y : ℤ
    y = left_after t n r c k x

-- ---- all rows of a form of n columns with the entries e, taken through the steps of the first three columns, by the rows q of these columns
pub record RowsTaken (e : ℕ → ℕ → ℤ) (q : List (List ℤ)) (n : ℕ) (d : List ℤ) (l : List (List ℤ)) : Type 0 where
  pub from : 4 ≤ n
  pub rows : (j c : ℕ) → j < 3 → j ≤ c → c < n → entry q j c ≡ row_entry e q n j j c
  pub strong : (j : ℕ) → j < 3 → int_lt (entry q j j) (pos (2 ^ 20)) ≡ false
  pub factors_are : (j r : ℕ) → j < 3 → j < r → r < n → HasFactors q l j r
  pub kept_are : (j : ℕ) → j < 3 → slice_index_or d j (pos 0) ≡ kept (unsigned_abs (entry q j j))
  pub small : (k r c : ℕ) → k ≤ 3 → k ≤ r → r ≤ c → c < n → is_small (row_entry e q n k r c) ≡ true

-- the step of column j
one_step : (e : ℕ → ℕ → ℤ) (q : List (List ℤ)) (n : ℕ) (d : List ℤ) (l : List (List ℤ)) (j : ℕ) → RowsTaken e q n d l → j < 3 →
    step j (record { own = row_entry e q n j j j; others = list_from (row_entry e q n j j) (suc j) (n - j - 1) }) (form_from (row_entry e q n j) (suc j) (n - j - 1))
    ≡ Ok (factor_at (slice_index_or d j (pos 0)) l j (n - j - 1), form_from (row_entry e q n (suc j)) (suc j) (n - j - 1))
one_step e q n d l j t low =
    step_tests j (record { own = row_entry e q n j j j; others = list_from (row_entry e q n j j) (suc j) (n - j - 1) }) (form_from (row_entry e q n j) (suc j) (n - j - 1)) true true strong fits fine
    ∙ answer (kept a) (slice_index_or d j (pos 0)) (factors a (list_from (old j) (suc j) m)) (list_from (λ i. entry l i j) (suc j) m)
    (next a (len (list_from (old j) (suc j) m)) (list_from (old j) (suc j) m) (form_from old (suc j) m)) (form_from new (suc j) m)
    (sym (t.kept_are j low ∙ ap (λ (z : ℕ). kept z) ea)) (sym factors_same) (sym next_same)
  where
    m : ℕ
    m = n - j - 1

    old : ℕ → ℕ → ℤ
    old = row_entry e q n j

    new : ℕ → ℕ → ℤ
    new = row_entry e q n (suc j)

    a : ℕ
    a = unsigned_abs (old j j)

    inside : (c : ℕ) → c < suc j + m → c < n
    inside c g = let h : 4 ≤ n = t.from in omega (arith, low)

    here : j < n
    here = let h : 4 ≤ n = t.from in omega (arith, low)

    is : (c : ℕ) → j ≤ c → c < n → entry q j c ≡ old j c
    is c h g = t.rows j c low h g

    ea : unsigned_abs (entry q j j) ≡ a
    ea = ap (λ (z : ℤ). unsigned_abs z) (is j (omega arith) here)

    strong : int_lt (old j j) (pos (2 ^ 20)) ≡ false
    strong = subst (λ (z : ℤ). int_lt z (pos (2 ^ 20)) ≡ false) (is j (omega arith) here) (t.strong j low)

    factors_same : list_from (λ i. entry l i j) (suc j) m ≡ factors a (list_from (old j) (suc j) m)
    factors_same = list_factors a (old j) (λ i. entry l i j) (suc j) m
        (λ c h g. (t.factors_are j c low (omega arith) (inside c g)).factor ∙ ap₂ (λ (z : ℤ) (b : ℕ). nearest_div (z *ℤ pos (2 ^ 30)) b) (is c (omega arith) (inside c g)) ea)

    fits : all_small (factors a (list_from (old j) (suc j) m)) ≡ true
    fits = subst (λ (s : List ℤ). all_small s ≡ true) factors_same (list_small (λ i. entry l i j) (suc j) m (λ c h g. (t.factors_are j c low (omega arith) (inside c g)).small))

    own : (r : ℕ) → suc j ≤ r → r < suc j + m → new r r ≡ ((old r r -ℤ ceil_div (old j r *ℤ old j r) a) -ℤ pos m) -ℤ ceil_div (pos m *ℤ pos a) (2 ^ 42)
    own r h g = left_next q n r r j (e r r) ∙ on_diagonal q n r j (old r r) ∙ ap₂ (λ (b : ℕ) (p : ℤ). left_own b m p (old r r)) ea (is r (omega arith) (inside r g))

    other : (r c : ℕ) → suc j ≤ r → r < c → c < suc j + m → new r c ≡ old r c -ℤ nearest_div (old j r *ℤ old j c) a
    other r c h o g = left_next q n r c j (e r c) ∙ off_diagonal q n r c j (old r c) o ∙ ap (λ (b : ℕ). left_other b (entry q j r) (entry q j c) (old r c)) ea
        ∙ ap₂ (λ (u v : ℤ). left_other a u v (old r c)) (is r (omega arith) (inside r (omega arith))) (is c (omega arith) (inside c g))

    next_same : form_from new (suc j) m ≡ next a (len (list_from (old j) (suc j) m)) (list_from (old j) (suc j) m) (form_from old (suc j) m)
    next_same = form_next a (pos m) (old j) old new (suc j) m own other
        ∙ ap (λ z. next a z (list_from (old j) (suc j) m) (form_from old (suc j) m)) (sym (len_list (old j) (suc j) m))

    fine : form_small (next a (len (list_from (old j) (suc j) m)) (list_from (old j) (suc j) m) (form_from old (suc j) m)) ≡ true
    fine = subst (λ (s : List Column). form_small s ≡ true) next_same (form_all_small new (suc j) m (λ r c h o g. t.small (suc j) r c (omega arith) h o (inside c g)))

    answer : (d e : ℤ) (s t : List ℤ) (a b : List Column) → d ≡ e → s ≡ t → a ≡ b → let x : Answer = Ok (record { d = d; l = s }, a) in
        let y : Answer = Ok (record { d = e; l = t }, b) in x ≡ y
    answer d e s t a b f g h = ap (λ (z : ℤ). let x : Answer = Ok (record { d = z; l = s }, a) in x) f
        ∙ ap (λ (z : List ℤ). let x : Answer = Ok (record { d = e; l = z }, a) in x) g
        ∙ ap (λ (z : List Column). let x : Answer = Ok (record { d = e; l = t }, z) in x) h

steps_from : (e : ℕ → ℕ → ℤ) (q : List (List ℤ)) (n : ℕ) (d : List ℤ) (l : List (List ℤ)) → RowsTaken e q n d l → (k j : ℕ) → j + k ≡ 3 →
    steps j k (form_from (row_entry e q n j) j (n - j)) ≡ Ok (stored d l n j k, form_from (row_entry e q n 3) 3 (n - 3))
steps_from e q n d l t zero j s = ap (λ (i : ℕ). let x : Whole = Ok ([], form_from (row_entry e q n i) i (n - i)) in x) last
  where
    last : j ≡ 3
    last = omega arith
steps_from e q n d l t (suc k) j s =
    ap (λ (i : ℕ). steps j (suc k) (form_from (row_entry e q n j) j i)) more
    ∙ steps_ok j k (record { own = row_entry e q n j j j; others = list_from (row_entry e q n j j) (suc j) (n - j - 1) }) (form_from (row_entry e q n j) (suc j) (n - j - 1))
    (f, form_from (row_entry e q n (suc j)) (suc j) (n - j - 1)) (one_step e q n d l j t low)
    ∙ ap (λ (i : ℕ). with_factor f (steps (suc j) k (form_from (row_entry e q n (suc j)) (suc j) i))) rest
    ∙ ap (λ (x : Whole). with_factor f x) (steps_from e q n d l t k (suc j) (omega arith))
  where
    low : j < 3
    low = omega arith

    f : Factor
    f = factor_at (slice_index_or d j (pos 0)) l j (n - j - 1)

    more : n - j ≡ suc (n - j - 1)
    more = let h : 4 ≤ n = t.from in omega (arith, low)

    rest : n - j - 1 ≡ n - suc j
    rest = omega arith

pub three_steps : (e : ℕ → ℕ → ℤ) (q : List (List ℤ)) (n : ℕ) (d : List ℤ) (l : List (List ℤ)) → RowsTaken e q n d l →
    steps 0 3 (form_from e 0 n) ≡ Ok (stored d l n 0 3, form_from (row_entry e q n 3) 3 (n - 3))
three_steps e q n d l t = ap (λ (a : List Column). steps 0 3 a) (form_same e (row_entry e q n 0) 0 n (λ r c h o g. sym (left_none q n r c (e r c))))
    ∙ ap (λ (i : ℕ). steps 0 3 (form_from (row_entry e q n 0) 0 i)) whole ∙ steps_from e q n d l t 3 0 refl
  where
    whole : n ≡ n - 0
    whole = omega arith

-- ---- the rows of the baseline's columns one by one
pub has_same : (q t l f : List (List ℤ)) (j r : ℕ) → entry t j r ≡ entry q j r → entry t j j ≡ entry q j j → entry f r j ≡ entry l r j → HasFactors q l j r → HasFactors t f j r
has_same q t l f j r x y z h = record {
  factor = z ∙ h.factor ∙ ap₂ (λ (u v : ℤ). nearest_div (u *ℤ pos (2 ^ 30)) (unsigned_abs v)) (sym x) (sym y);
  small = subst (λ (w : ℤ). is_small w ≡ true) (sym z) h.small;
}

pub no_rows : (e : ℕ → ℕ → ℤ) (q : List (List ℤ)) (n : ℕ) (d : List ℤ) (l : List (List ℤ)) → ArePivotRows e q n d l 0
no_rows e q n d l = record {
  rows = λ j c a. absurd (omega arith);
  strong = λ j a. absurd (omega arith);
  factors_are = λ j r a b. absurd (omega arith);
  kept_are = λ j a. absurd (omega arith);
  small = λ k r c a. absurd (omega arith);
}

pub more_rows : (e : ℕ → ℕ → ℤ) (q t : List (List ℤ)) (n : ℕ) (d b : List ℤ) (l f : List (List ℤ)) (m : ℕ) → ArePivotRows e q n d l m →
    ((i c : ℕ) → i ≢ m → entry t i c ≡ entry q i c) → ((i : ℕ) → i < m → slice_index_or b i (pos 0) ≡ slice_index_or d i (pos 0)) →
    ((i c : ℕ) → i ≢ m → entry f i c ≡ entry l i c) →
    ((c : ℕ) → m ≤ c → c < n → entry t m c ≡ row_entry e q n m m c) → int_lt (entry t m m) (pos (2 ^ 20)) ≡ false →
    ((j : ℕ) → j < m → HasFactors q f j m) → slice_index_or b m (pos 0) ≡ kept (unsigned_abs (entry t m m)) →
    ((k c : ℕ) → k ≤ m → m ≤ c → c < n → is_small (row_entry e q n k m c) ≡ true) → ArePivotRows e t n b f (m + 1)
more_rows e q t n d b l f m p same_rows same_kept same_factors row strong factor kept_is small = record {
  rows = λ j c g h o. below_more (λ (j : ℕ). j ≤ c → c < n → entry t j c ≡ row_entry e t n j j c) m
      (λ j g h o. same_rows j c (omega arith) ∙ p.rows j c g h o ∙ left_same q t n j c j (e j c) (λ i k a. sym (same_rows i k (omega arith))))
      (λ h o. row c h o ∙ left_same q t n m c m (e m c) (λ i k a. sym (same_rows i k (omega arith)))) j g h o;
  strong = λ j g. below_more (λ (j : ℕ). int_lt (entry t j j) (pos (2 ^ 20)) ≡ false) m
      (λ j g. subst (λ (z : ℤ). int_lt z (pos (2 ^ 20)) ≡ false) (sym (same_rows j j (omega arith))) (p.strong j g)) strong j g;
  factors_are = λ j r g h. below_more (λ (r : ℕ). j < r → HasFactors t f j r) m
      (λ r h g. has_same q t l f j r (same_rows j r (omega arith)) (same_rows j j (omega arith)) (same_factors r j (omega arith)) (p.factors_are j r g h))
      (λ g. has_same q t f f j m (same_rows j m (omega arith)) (same_rows j j (omega arith)) refl (factor j g)) r h g;
  kept_are = λ j g. below_more (λ (j : ℕ). slice_index_or b j (pos 0) ≡ kept (unsigned_abs (entry t j j))) m
      (λ j g. same_kept j g ∙ p.kept_are j g ∙ ap (λ (z : ℤ). kept (unsigned_abs z)) (sym (same_rows j j (omega arith)))) kept_is j g;
  small = λ k r c g h o a. below_more (λ (r : ℕ). k ≤ r → r ≤ c → c < n → is_small (row_entry e t n k r c) ≡ true) m
      (λ r g h o a. subst (λ (z : ℤ). is_small z ≡ true) (left_same q t n r c k (e r c) (λ i j b. sym (same_rows i j (omega arith)))) (p.small k r c g h o a))
      (λ h o a. subst (λ (z : ℤ). is_small z ≡ true) (left_same q t n m c k (e m c) (λ i j b. sym (same_rows i j (omega arith)))) (small k c h o a)) r g h o a;
}

pub pivot_sizes : (e : ℕ → ℕ → ℤ) (q : List (List ℤ)) (n : ℕ) (d : List ℤ) (l : List (List ℤ)) (m : ℕ) → ArePivotRows e q n d l m →
    (j c : ℕ) → j < m → j ≤ c → c < n → unsigned_abs (entry q j c) ≤ 2 ^ 52
pivot_sizes e q n d l m p j c g h o = small_entry (entry q j c) (subst (λ (z : ℤ). is_small z ≡ true) (sym (p.rows j c g h o)) (p.small j j c g (omega arith) h o))

pub pivots_positive : (e : ℕ → ℕ → ℤ) (q : List (List ℤ)) (n : ℕ) (d : List ℤ) (l : List (List ℤ)) (m : ℕ) → ArePivotRows e q n d l m → (j : ℕ) → j < m → pos 0 <ℤ entry q j j
pivots_positive e q n d l m p j g = above (entry q j j) (p.strong j g)

-- with the other rows
pub rows_taken : (e : ℕ → ℕ → ℤ) (q : List (List ℤ)) (n : ℕ) (d : List ℤ) (l f : List (List ℤ)) → 4 ≤ n → ArePivotRows e q n d l 3 →
    ((i c : ℕ) → i < 3 → entry f i c ≡ entry l i c) → ((j r : ℕ) → j < 3 → 3 ≤ r → r < n → HasFactors q f j r) →
    ((k r c : ℕ) → k ≤ 3 → 3 ≤ r → r ≤ c → c < n → is_small (row_entry e q n k r c) ≡ true) → RowsTaken e q n d f
rows_taken e q n d l f from p same_first factor small = record {
  from = from;
  rows = λ j c a h o. p.rows j c a h o;
  strong = λ j a. p.strong j a;
  factors_are = λ j r a h g. ⊎_elim (λ (o : r < 3). has_same q q l f j r refl refl (same_first r j o) (p.factors_are j r h o)) (λ (o : 3 ≤ r). factor j r a o g) (either r);
  kept_are = λ j a. p.kept_are j a;
  small = λ k r c a h o g. ⊎_elim (λ (b : r < 3). p.small k r c b h o g) (λ (b : 3 ≤ r). small k r c a b o g) (either r);
}
  where
    either : (r : ℕ) → (r < 3) ⊎ (3 ≤ r)
    either r = grind arith
