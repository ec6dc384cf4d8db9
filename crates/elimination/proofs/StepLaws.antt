-- One step of the elimination, by its tests.
use Rattle.std.proofs.Common.{◌≡◌, ℕ, suc, ◌+◌, ◌<◌, ◌≤◌, ◌^◌, Bool, true, false, int_lt, List, ℤ, pos, ◌<ℤ◌, Ok, Err, unsigned_abs, arith, sym, ap, ap₂, ◌∙◌, refl, subst}
use Rattle.std.proofs.lemmas.Int.{ints}
use Rattle.whole_math.specs.Vectors.{len}
use Rattle.quadratic_form.specs.Forms.{Column}
use Rattle.quadratic_form.specs.Elimination.{factors, kept, next, Factor, Refusal, weak, wide_factor, wide_entry, all_small, form_small, step, StepAnswer}
use Rattle.quadratic_form.specs.Places.{list_from, form_from}
use Rattle.quadratic_form.proofs.Places.{list_factors, form_next, len_list}
use Rattle.quadratic_form.specs.Tables.{entry}
use Rattle.elimination.specs.StepEntries.{is_small, factor_entry, new_entry}
use Rattle.elimination.specs.Stops.{form_after}
use Rattle.elimination.proofs.NewEntries.{new_own, new_other}
use Rattle.elimination.proofs.NewRows.{word, read}
use Rattle.elimination.proofs.SmallEntries.{list_small}

abbrev last : Factor × List Column → Bool → StepAnswer
last p b = elim b as (λ x. StepAnswer) [ false ↦ Err wide_entry | true ↦ Ok p ]

abbrev second : Factor × List Column → Bool → Bool → StepAnswer
second p b d = elim b as (λ x. StepAnswer) [ false ↦ Err wide_factor | true ↦ last p d ]

abbrev first : Refusal → Factor × List Column → Bool → Bool → Bool → StepAnswer
first e p b d g = elim b as (λ x. StepAnswer) [ true ↦ Err e | false ↦ second p d g ]

pub step_tests : (j : ℕ) (c : Column) (m : List Column) (b d : Bool) → int_lt c.own (pos (2 ^ 20)) ≡ false → all_small (factors (unsigned_abs c.own) c.others) ≡ b →
    form_small (next (unsigned_abs c.own) (len c.others) c.others m) ≡ d →
    step j c m ≡ second (record { d = kept (unsigned_abs c.own); l = factors (unsigned_abs c.own) c.others }, next (unsigned_abs c.own) (len c.others) c.others m) b d
step_tests j c m b d e f g = ap (λ (x : Bool). first (weak j c.own)
    (record { d = kept (unsigned_abs c.own); l = factors (unsigned_abs c.own) c.others }, next (unsigned_abs c.own) (len c.others) c.others m) x
    (all_small (factors (unsigned_abs c.own) c.others)) (form_small (next (unsigned_abs c.own) (len c.others) c.others m))) e
    ∙ ap₂ (λ (x y : Bool). second (record { d = kept (unsigned_abs c.own); l = factors (unsigned_abs c.own) c.others }, next (unsigned_abs c.own) (len c.others) c.others m) x y) f g

-- ---- by places
pub factors_are : (t : List (List ℤ)) (j a n : ℕ) → list_from (factor_entry t j a) (suc j) n ≡ factors a (list_from (entry t j) (suc j) n)
factors_are t j a n = list_factors a (entry t j) (factor_entry t j a) (suc j) n (λ c h g. refl)

pub next_is : (t : List (List ℤ)) (j a n : ℕ) → form_from (new_entry t j a (pos n)) (suc j) n ≡ next a (len (list_from (entry t j) (suc j) n)) (list_from (entry t j) (suc j) n) (form_after t j n)
next_is t j a n = form_next a (pos n) (entry t j) (entry t) (new_entry t j a (pos n)) (suc j) n (λ r h g. new_own t j a (pos n) r) (λ r c h l g. new_other t j a (pos n) r c l)
    ∙ ap (λ z. next a z (list_from (entry t j) (suc j) n) (form_after t j n)) (sym (len_list (entry t j) (suc j) n))

-- a pivot that is large enough is above 0
pub above : (x : ℤ) → int_lt x (pos (2 ^ 20)) ≡ false → pos 0 <ℤ x
above x h = omega (arith, ints)

-- the pivot that is read, which isn't weak
pub record Pivot (t : List (List ℤ)) (j : ℕ) (x : ℤ) : Type 0 where
  pub as_read : word x ≡ entry t j j
  pub strong : int_lt (entry t j j) (pos (2 ^ 20)) ≡ false

pub pivot_is : (t : List (List ℤ)) (j : ℕ) (x : ℤ) → x ≡ entry t j j → unsigned_abs (entry t j j) ≤ 2 ^ 52 → int_lt (word x) (pos (2 ^ 20)) ≡ false → Pivot t j x
pivot_is t j x is size strong = let word_is_pivot : word x ≡ entry t j j = read x (entry t j j) is size in
    record { as_read = word_is_pivot; strong = subst (λ (z : ℤ). int_lt z (pos (2 ^ 20)) ≡ false) word_is_pivot strong }

-- all its factors are small
pub factors_small : (t : List (List ℤ)) (j n : ℕ) (x : ℤ) → word x ≡ entry t j j → ((c : ℕ) → j < c → c < suc j + n → is_small (factor_entry t j (unsigned_abs (word x)) c) ≡ true) →
    all_small (factors (unsigned_abs (entry t j j)) (list_from (entry t j) (suc j) n)) ≡ true
factors_small t j n x e small = subst (λ (l : List ℤ). all_small l ≡ true) (factors_are t j (unsigned_abs (entry t j j)) n)
    (list_small (factor_entry t j (unsigned_abs (entry t j j))) (suc j) n
    (λ c h g. subst (λ (z : ℤ). is_small (factor_entry t j (unsigned_abs z) c) ≡ true) e (small c (omega arith) g)))
