-- The ranges of a weak pivot.
use Rattle.std.proofs.Common.{◌≡◌, ℕ, zero, suc, ◌+◌, ◌-◌, ◌^◌, ◌<◌, ◌≤◌, Bool, true, false, ◌&&◌, nat_lt, int_lt, List, [], ◌∷◌, ℤ, pos, Ok, Err, unsigned_abs, arith, refl, sym, ap, ◌∙◌, subst}
use Rattle.std.proofs.lemmas.Bool.{and_parts}
use Rattle.std.proofs.lemmas.Bool.Decides.{nat_tests}
use Rattle.whole_math.specs.Vectors.{len}
use Rattle.quadratic_form.specs.Forms.{Column}
use Rattle.quadratic_form.specs.Elimination.{Factor, Refusal, weak, wide_factor, wide_entry, kept, factors, next, all_small, form_small, with_factor, steps, StepsAnswer, StepAnswer}
use Rattle.normal_sum.specs.declared.normal.Normal.{Normal}
use Rattle.integer_form.specs.declared.faults.LowerFault.TheVariants.{Weak}
use Rattle.integer_form.specs.ReportedRefusals.{fault_of, IsReportedAs}
use Rattle.lower_form.specs.FirstRounding.{first_form}
use Rattle.lower_form.specs.Forms.{elimination_of}
use Rattle.obs_rows.specs.declared.sessions.Session.{Session}
use Rattle.quadratic_form.specs.declared.sizes.TheConstants.{MOST_COLUMNS, MOST_FACTORS}
use Rattle.cert_data.specs.Tails.{IsWeak}
use Rattle.cert_check.specs.Settled.{IsRefused}

-- a pivot of one of k steps from the j-th on, below 2^52 in size
pub record IsPivot (j k i : ℕ) (p : ℤ) : Type 0 where
  pub column : i < j + k
  pub size : unsigned_abs p < 2 ^ 52

small_own : (c : Column) (m : List Column) → form_small (c ∷ m) ≡ true → unsigned_abs c.own < 2 ^ 52
small_own c m e = less (unsigned_abs c.own) (and_parts (nat_lt (unsigned_abs c.own) (2 ^ 52)) (all_small c.others && form_small m) e).0
  where
    less : (n : ℕ) → nat_lt n (2 ^ 52) ≡ true → n < 2 ^ 52
    less n e = grind (arith, nat_tests)

abbrev tested : Bool → Bool → Bool → Refusal → Factor × List Column → StepAnswer
tested a b d e p = elim a as (λ x. StepAnswer) [ true ↦ Err e | false ↦ elim b as (λ x. StepAnswer) [ false ↦ Err wide_factor | true ↦ elim d as (λ x. StepAnswer) [ false ↦ Err wide_entry | true ↦ Ok p ] ] ]

abbrev after : ℕ → ℕ → StepAnswer → StepsAnswer
after j k r = elim r as (λ x. StepsAnswer) [ Ok q ↦ with_factor q.0 (steps (suc j) k q.1) | Err i ↦ Err i ]

unfactored : (f : Factor) (r : StepsAnswer) (e : Refusal) → with_factor f r ≡ Err e → r ≡ Err e
unfactored f (Ok q) e h = absurd cc
unfactored f (Err n) e h = h

later : (j k i : ℕ) (p : ℤ) → IsPivot (suc j) k i p → IsPivot j (suc k) i p
later j k i p h = record { column = more j k i h.column; size = h.size }
  where
    more : (j k i : ℕ) → i < suc j + k → i < j + suc k
    more j k i g = omega arith

here : (j k i : ℕ) (own p : ℤ) → unsigned_abs own < 2 ^ 52 → j ≡ i → own ≡ p → IsPivot j (suc k) i p
here j k i own p h e g = record { column = first j k i e; size = subst (λ (x : ℤ). unsigned_abs x < 2 ^ 52) g h }
  where
    first : (j k i : ℕ) → j ≡ i → i < j + suc k
    first j k i e = omega arith

column_same : (j i : ℕ) (a p : ℤ) → after j zero (Err (weak j a)) ≡ Err (weak i p) → j ≡ i
column_same j i a p e = cc

pivot_same : (j i : ℕ) (a p : ℤ) → after j zero (Err (weak j a)) ≡ Err (weak i p) → a ≡ p
pivot_same j i a p e = cc

cases : (a b d : Bool) (j k i : ℕ) (own p : ℤ) (q : Factor × List Column) → d ≡ form_small q.1 → unsigned_abs own < 2 ^ 52 →
    ((m : List Column) → form_small m ≡ true → steps (suc j) k m ≡ Err (weak i p) → IsPivot (suc j) k i p) →
    after j k (tested a b d (weak j own) q) ≡ Err (weak i p) → IsPivot j (suc k) i p
cases true b d j k i own p q f s ih e = here j k i own p s (column_same j i own p e) (pivot_same j i own p e)
cases false false d j k i own p q f s ih e = absurd cc
cases false true false j k i own p q f s ih e = absurd cc
cases false true true j k i own p q f s ih e = later j k i p (ih q.1 (sym f) (unfactored q.0 (steps (suc j) k q.1) (weak i p) e))

pub weak_of_steps : (j k : ℕ) (a : List Column) (i : ℕ) (p : ℤ) → form_small a ≡ true → steps j k a ≡ Err (weak i p) → IsPivot j k i p
weak_of_steps j zero a i p s e = absurd cc
weak_of_steps j (suc k) [] i p s e = absurd cc
weak_of_steps j (suc k) (c ∷ m) i p s e =
    let l : List ℤ = factors (unsigned_abs c.own) c.others in
    let rest : List Column = next (unsigned_abs c.own) (len c.others) c.others m in
    cases (int_lt c.own (pos (2 ^ 20))) (all_small l) (form_small rest) j k i c.own p (record { d = kept (unsigned_abs c.own); l = l }, rest) refl
    (small_own c m s) (λ n t h. weak_of_steps (suc j) k n i p t h) e

pub weak_of : (b : Bool) (k : ℕ) (a : List Column) (i : ℕ) (p : ℤ) → b ≡ form_small a → elim b as (λ x. StepsAnswer) [ true ↦ steps 0 k a | false ↦ Err wide_entry ] ≡ Err (weak i p) → IsPivot 0 k i p
weak_of true k a i p f e = weak_of_steps 0 k a i p (sym f) e
weak_of false k a i p f e = absurd cc

-- ---- a refusal by a weak pivot
pub reported_weak : (column : ℕ) (pivot : ℤ) (refusal : Refusal) → Weak column pivot ≡ fault_of refusal → refusal ≡ weak column pivot
reported_weak column pivot (weak j a) e = cc
reported_weak column pivot wide_factor e = absurd cc
reported_weak column pivot wide_entry e = absurd cc

pub weak_fits : (s : Session) (column : ℕ) (pivot : ℤ) → IsRefused s (Weak column pivot) → IsWeak column pivot
weak_fits s column pivot h =
    let normal : Normal = h.normal in
    let is_reported : IsReportedAs (Weak column pivot) (elimination_of h.h normal) = h.reported in
    let is_pivot : IsPivot 0 (normal.columns - 1) column pivot = weak_of (form_small (first_form h.h normal)) (normal.columns - 1) (first_form h.h normal) column pivot refl (is_reported.1.0 ∙ ap Err (reported_weak column pivot is_reported.0 is_reported.1.1)) in
    record { column_to = small normal.columns column normal.columns_to is_pivot.column; pivot_in = is_pivot.size }
  where
    small : (c i : ℕ) → c ≤ MOST_COLUMNS → i < 0 + (c - 1) → i < MOST_FACTORS
    small c i h g = omega arith
