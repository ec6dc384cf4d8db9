-- The front and the finish together are the whole elimination.
use Rattle.std.proofs.Common.{◌≡◌, ℕ, zero, suc, ◌+◌, ◌-◌, ◌≤◌, Bool, true, false, List, [], ◌∷◌, ℤ, Ok, Err, arith, sym, ap, ap₂, ◌∙◌, refl, subst, add-zero, zero-add, suc-add}
use Rattle.quadratic_form.specs.Forms.{Column}
use Rattle.quadratic_form.specs.Elimination.{Factor, Refusal, wide_entry, form_small, step, steps, with_factor, StepsAnswer, StepAnswer}
use Rattle.quadratic_form.specs.Lowering.{IsExponent}
use Rattle.quadratic_form.proofs.Places.{later}
use Rattle.normal_sum.specs.declared.normal.Normal.{Normal}
use Rattle.normal_sum.specs.Values.{form_of}
use Rattle.integer_form.specs.declared.front_form.FrontForm.{FrontForm}
use Rattle.integer_form.specs.declared.form.Form.{Form}
use Rattle.integer_form.specs.declared.faults.LowerFault.{LowerFault}
use Rattle.integer_form.specs.Factors.{stored}
use Rattle.integer_form.specs.Kept.{form_of_table, constant_form}
use Rattle.integer_form.specs.ReportedRefusals.{IsReportedAs}
use Rattle.elimination.specs.Taken.{before}
use Rattle.lower_form.specs.FirstRounding.{first_form}
use Rattle.lower_form.specs.Fronts.{front_of}
use Rattle.elimination.specs.Finish.{finish_of, IsFinishOf}
use Rattle.lower_form.specs.Forms.{elimination_of, IsFrontOf, IsLowerOf}
use Rattle.lower_form.proofs.Exponents.{exponent_unique}
use Rattle.lower_form.proofs.FrontKept.{front_answer}

-- ---- k steps and then m

empty : (j m : ℕ) → let answer : StepsAnswer = Ok ([], []) in steps j m [] ≡ answer
empty j zero = refl
empty j (suc m) = refl

pub steps_after : (j k m : ℕ) (a : List Column) (p : List Factor × List Column) → steps j k a ≡ Ok p → steps j (k + m) a ≡ before p.0 (steps (j + k) m p.1)
steps_after j zero m a p e =
    let outcome : (List Factor × List Column) = ([], a) in
    let same_outcome : outcome ≡ p = cc in
    subst (λ (z : List Factor × List Column). steps j (0 + m) a ≡ before z.0 (steps (j + 0) m z.1)) same_outcome (ap₂ (λ x y. steps x y a) (sym (add-zero j)) (zero-add m))
steps_after j (suc k) m [] p e =
    let outcome : (List Factor × List Column) = ([], []) in
    let same_outcome : outcome ≡ p = cc in
    subst (λ (z : List Factor × List Column). steps j (suc k + m) [] ≡ before z.0 (steps (j + suc k) m z.1)) same_outcome (empty j (suc k + m) ∙ sym (empty (j + suc k) m))
steps_after j (suc k) m (c ∷ a) p e = ap (λ (n : ℕ). steps j n (c ∷ a)) (suc-add k m) ∙ first (step j c a) refl (λ b q. steps_after (suc j) k m b q) e
  where
    second : (u : Factor × List Column) (r : StepsAnswer) → ((q : List Factor × List Column) → r ≡ Ok q → steps (suc j) (k + m) u.1 ≡ before q.0 (steps (suc j + k) m q.1)) → with_factor u.0 r
        ≡ Ok p → with_factor u.0 (steps (suc j) (k + m) u.1) ≡ before p.0 (steps (j + suc k) m p.1)
    second u (Err n) ih e = absurd cc
    second u (Ok q) ih e =
        let longer_outcome : (List Factor × List Column) = (u.0 ∷ q.0, q.1) in
        let same_outcome : longer_outcome ≡ p = cc in
        ap (λ (x : StepsAnswer). with_factor u.0 x) (ih q refl ∙ ap (λ (n : ℕ). before q.0 (steps n m q.1)) (later j k))
        ∙ subst (λ (z : List Factor × List Column). with_factor u.0 (before q.0 (steps (j + suc k) m q.1)) ≡ before z.0 (steps (j + suc k) m z.1)) same_outcome refl

    first : (r : StepAnswer) → step j c a ≡ r → ((b : List Column) (q : List Factor × List Column) → steps (suc j) k b ≡ Ok q → steps (suc j) (k + m) b ≡ before q.0
        (steps (suc j + k) m q.1)) →
        elim r as (λ t. StepsAnswer) [ Ok u ↦ with_factor u.0 (steps (suc j) k u.1) | Err n ↦ Err n ] ≡ Ok p →
        elim (step j c a) as (λ t. StepsAnswer) [ Ok u ↦ with_factor u.0 (steps (suc j) (k + m) u.1) | Err n ↦ Err n ] ≡ before p.0 (steps (j + suc k) m p.1)
    first (Err n) o ih e = absurd cc
    first (Ok u) o ih e = ap (λ (x : StepAnswer). elim x as (λ t. StepsAnswer) [ Ok v ↦ with_factor v.0 (steps (suc j) (k + m) v.1) | Err n ↦ Err n ]) o
        ∙ second u (steps (suc j) k u.1) (λ q. ih u.1 q) e

pub steps_stop : (j k m : ℕ) (a : List Column) (i : Refusal) → steps j k a ≡ Err i → steps j (k + m) a ≡ Err i
steps_stop j zero m a i e = absurd cc
steps_stop j (suc k) m [] i e = absurd cc
steps_stop j (suc k) m (c ∷ a) i e = ap (λ (n : ℕ). steps j n (c ∷ a)) (suc-add k m) ∙ first (step j c a) refl (λ b n. steps_stop (suc j) k m b n) e
  where
    second : (u : Factor × List Column) (r : StepsAnswer) → ((n : Refusal) → r ≡ Err n → steps (suc j) (k + m) u.1 ≡ Err n) → with_factor u.0 r ≡ Err i → with_factor u.0 (steps (suc j) (k + m) u.1)
        ≡ Err i
    second u (Ok q) ih e = absurd cc
    second u (Err n) ih e = ap (λ (x : StepsAnswer). with_factor u.0 x) (ih n refl) ∙ e

    first : (r : StepAnswer) → step j c a ≡ r → ((b : List Column) (n : Refusal) → steps (suc j) k b ≡ Err n → steps (suc j) (k + m) b ≡ Err n) →
        elim r as (λ t. StepsAnswer) [ Ok u ↦ with_factor u.0 (steps (suc j) k u.1) | Err n ↦ Err n ] ≡ Err i →
        elim (step j c a) as (λ t. StepsAnswer) [ Ok u ↦ with_factor u.0 (steps (suc j) (k + m) u.1) | Err n ↦ Err n ] ≡ Err i
    first (Err n) o ih e = ap (λ (x : StepAnswer). elim x as (λ t. StepsAnswer) [ Ok v ↦ with_factor v.0 (steps (suc j) (k + m) v.1) | Err n ↦ Err n ]) o ∙ e
    first (Ok u) o ih e = ap (λ (x : StepAnswer). elim x as (λ t. StepsAnswer) [ Ok v ↦ with_factor v.0 (steps (suc j) (k + m) v.1) | Err n ↦ Err n ]) o
        ∙ second u (steps (suc j) k u.1) (λ n. ih u.1 n) e

-- ---- a normal matrix
abbrev tested : StepsAnswer → Bool → StepsAnswer
tested r b = elim b as (λ x. StepsAnswer) [ true ↦ r | false ↦ Err wide_entry ]

small_first : (h : ℕ) (n : Normal) → form_small (first_form h n) ≡ true → elimination_of h n ≡ steps 0 (n.columns - 1) (first_form h n)
small_first h n e = ap (λ (b : Bool). tested (steps 0 (n.columns - 1) (first_form h n)) b) e

all_columns : (n : ℕ) → 4 ≤ n → n - 1 ≡ 3 + (n - 4)
all_columns n h = omega arith

-- where the front answers, the whole elimination is its factors and then the further steps
pub front_then : (h : ℕ) (n : Normal) (p : List Factor × List Column) → front_of h n ≡ Ok p → elimination_of h n ≡ before p.0 (steps 3 (n.columns - 4) p.1)
front_then h n p e = let small_and_stepped : (form_small (first_form h n) ≡ true) × (steps 0 3 (first_form h n) ≡ Ok p) = front_answer h n p e in
    small_first h n small_and_stepped.0 ∙ ap (λ (k : ℕ). steps 0 k (first_form h n)) (all_columns n.columns n.columns_from) ∙ steps_after 0 3 (n.columns - 4) (first_form h n) p small_and_stepped.1

-- where the front is refused, so is the whole
pub front_stops : (h : ℕ) (n : Normal) (i : Refusal) → front_of h n ≡ Err i → elimination_of h n ≡ Err i
front_stops h n i e = go (form_small (first_form h n)) refl e
  where
    go : (t : Bool) → form_small (first_form h n) ≡ t → tested (steps 0 3 (first_form h n)) t ≡ Err i → elimination_of h n ≡ Err i
    go true o e = small_first h n o ∙ ap (λ (k : ℕ). steps 0 k (first_form h n)) (all_columns n.columns n.columns_from) ∙ steps_stop 0 3 (n.columns - 4) (first_form h n) i e
    go false o e = ap (λ (b : Bool). tested (steps 0 (n.columns - 1) (first_form h n)) b) o ∙ e

-- ---- the forms
integers_count : (n : ℕ) → 4 ≤ n → n - 1 ≡ suc (suc (suc (n - 4)))
integers_count n h = omega arith

pub lower_is : (n : Normal) (r : FrontForm) (f : Form) → IsFrontOf n r → IsFinishOf r f → IsLowerOf n f
lower_is n r f a b = record {
  columns = b.columns ∙ a.columns;
  exponent = subst (λ (h : ℕ). IsExponent h (form_of n)) (sym b.h) a.exponent;
  front = front;
  taken = front_then f.h n (stored f.d f.l f.columns 0 3, form_of_table f.p (f.columns - 3)) front
      ∙ ap (λ (x : StepsAnswer). before (stored f.d f.l f.columns 0 3) x) rest ∙ together ∙ ap (λ (k : ℕ). let answer : StepsAnswer = Ok (stored f.d f.l f.columns 0 k, constant_form f.g) in answer)
      (sym (integers_count f.columns f.columns_from));
}
  where
    front : front_of f.h n ≡ Ok (stored f.d f.l f.columns 0 3, form_of_table f.p (f.columns - 3))
    front = ap (λ (h : ℕ). front_of h n) b.h ∙ a.taken
        ∙ ap₂ (λ (s : List Factor) (k : ℕ). let answer : StepsAnswer = Ok (s, form_of_table r.p (k - 3)) in answer) (sym b.baseline) (sym b.columns)
        ∙ ap (λ (t : List (List ℤ)). let answer : StepsAnswer = Ok (stored f.d f.l f.columns 0 3, form_of_table t (f.columns - 3)) in answer) (sym b.p)

    rest : steps 3 (n.columns - 4) (form_of_table f.p (f.columns - 3)) ≡ Ok (stored f.d f.l f.columns 3 (f.columns - 4), constant_form f.g)
    rest = ap (λ (k : ℕ). steps 3 (k - 4) (form_of_table f.p (f.columns - 3))) (sym (b.columns ∙ a.columns)) ∙ f.eliminated

    together : before (stored f.d f.l f.columns 0 3) (Ok (stored f.d f.l f.columns 3 (f.columns - 4), constant_form f.g))
        ≡ Ok (stored f.d f.l f.columns 0 (suc (suc (suc (f.columns - 4)))), constant_form f.g)
    together = refl

-- a refusal of the front, and of the finish, is that of the whole
pub front_reported : (n : Normal) (e : LowerFault) → ((h : ℕ) → IsExponent h (form_of n) → IsReportedAs e (front_of h n)) → (h : ℕ) → IsExponent h (form_of n) → IsReportedAs e (elimination_of h n)
front_reported n e t h k = let is_reported : IsReportedAs e (front_of h n) = t h k in (is_reported.0, (front_stops h n is_reported.0 is_reported.1.0, is_reported.1.1))

pub finish_reported : (n : Normal) (r : FrontForm) (e : LowerFault) → IsFrontOf n r → IsReportedAs e (finish_of r) → (h : ℕ) → IsExponent h (form_of n) → IsReportedAs e (elimination_of h n)
finish_reported n r e a t h k = (
  t.0,
  (
    ap (λ (m : ℕ). elimination_of m n) (exponent_unique h r.h (form_of n) k a.exponent) ∙ front_then r.h n (stored r.d r.l r.columns 0 3, form_of_table r.p (r.columns - 3)) a.taken
        ∙ ap (λ (x : StepsAnswer). before (stored r.d r.l r.columns 0 3) x) (ap (λ (m : ℕ). steps 3 (m - 4) (form_of_table r.p (r.columns - 3))) (sym a.columns) ∙ t.1.0),
    t.1.1,
  ),
)
