-- Where no integers are counted, the front of a normal matrix is the whole elimination, and its baseline is the float point.
use Rattle.std.proofs.Common.{◌≡◌, ℕ, zero, suc, ◌+◌, ◌*◌, ◌-◌, ◌≤◌, List, [], ◌∷◌, ℤ, pos, Bool, true, false, Ok, Err, slice_index_or, arith, refl, sym, ap, subst, ◌∙◌}
use Rattle.quadratic_form.specs.Forms.{Column}
use Rattle.quadratic_form.specs.Elimination.{Factor, wide_entry, form_small, steps, StepsAnswer}
use Rattle.quadratic_form.specs.Lowering.{IsExponent}
use Rattle.quadratic_form.specs.Tables.{entry}
use Rattle.obs_rows.specs.declared.arcs.Arc.{Arc}
use Rattle.obs_rows.specs.declared.bands.Signals.{Signals}
use Rattle.obs_rows.specs.declared.units.TheConstants.{COARSE_SCALE}
use Rattle.obs_rows.specs.Arcs.{free_count}
use Rattle.obs_rows.specs.Integers.{integer_count}
use Rattle.obs_rows.specs.Signals.{counted}
use Rattle.normal_sum.specs.declared.normal.Normal.{Normal}
use Rattle.integer_form.specs.declared.front_form.FrontForm.{FrontForm}
use Rattle.integer_form.specs.declared.form.Form.{Form}
use Rattle.integer_form.specs.Factors.{stored}
use Rattle.integer_form.specs.Kept.{AreKept, IsZeroFrom, IsEliminated, form_of_table, constant_form}
use Rattle.integer_form.specs.FloatPoint.{solved, float_point, baseline_at}
use Rattle.integer_form.specs.declared.faults.LowerFault.{LowerFault}
use Rattle.integer_form.specs.ReportedRefusals.{IsReportedAs}
use Rattle.normal_sum.specs.Values.{form_of}
use Rattle.lower_form.specs.FirstRounding.{first_form}
use Rattle.lower_form.specs.Fronts.{front_of}
use Rattle.lower_form.specs.Forms.{IsFrontOf, IsLowerOf, elimination_of}

abbrev answer_of : List Factor → List Column → StepsAnswer
answer_of s m = Ok (s, m)

-- what is kept of the three pivots, and no more
abbrev three : List ℤ → List ℤ
three d = slice_index_or d 0 (pos 0) ∷ (slice_index_or d 1 (pos 0) ∷ (slice_index_or d 2 (pos 0) ∷ []))

three_end : (d : List ℤ) (i : ℕ) → 3 ≤ i → slice_index_or (three d) i (pos 0) ≡ pos 0
three_end d zero h = absurd (omega arith)
three_end d (suc zero) h = absurd (omega arith)
three_end d (suc (suc zero)) h = absurd (omega arith)
three_end d (suc (suc (suc i))) h = refl

none_kept : (n : ℕ) (d : List ℤ) → n ≡ 4 → AreKept n d
none_kept n d e = λ j h k. absurd (omega arith)

zero_behind : (n : ℕ) (d : List ℤ) → n ≡ 4 → IsZeroFrom (n - 1) (three d)
zero_behind n d e = λ i h. three_end d i (omega arith)

no_steps : (n : ℕ) (d : List ℤ) (l p : List (List ℤ)) → n ≡ 4 → IsEliminated n d l (entry p 0 0) p
no_steps n d l p e = subst (λ (m : ℕ). IsEliminated m d l (entry p 0 0) p) (sym e) refl

same_numbers : (n : ℕ) (d : List ℤ) (l : List (List ℤ)) → n ≡ 4 → solved (stored (three d) l n 0 (n - 1)) [] ≡ baseline_at d l n []
same_numbers n d l e = subst (λ (m : ℕ). solved (stored (three d) l m 0 (m - 1)) [] ≡ baseline_at d l m []) (sym e) refl

whole : (r : FrontForm) → r.columns ≡ 4 → Form
whole r e = record {
  columns = r.columns;
  h = r.h;
  d = three r.d;
  l = r.l;
  g = entry r.p 0 0;
  p = r.p;
  columns_from = r.columns_from;
  columns_to = r.columns_to;
  h_in = r.h_in;
  kept_in = none_kept r.columns (three r.d) e;
  kept_outside = zero_behind r.columns r.d e;
  factors_in = r.factors_in;
  factors_outside = r.factors_outside;
  symmetric = r.symmetric;
  entries_in = r.entries_in;
  nothing_outside = r.nothing_outside;
  eliminated = no_steps r.columns (three r.d) r.l r.p e;
}

three_columns : (n : ℕ) → n ≡ 4 → n - 1 ≡ 3
three_columns n e = omega arith

abbrev answer : Bool → StepsAnswer → StepsAnswer
answer b a = elim b [ true ↦ a | false ↦ Err wide_entry ]

-- the front is the whole
same_steps : (h : ℕ) (n : Normal) → n.columns ≡ 4 → elimination_of h n ≡ front_of h n
same_steps h n e = ap (λ (k : ℕ). answer (form_small (first_form h n)) (steps 0 k (first_form h n))) (three_columns n.columns e)

same_answer : (n : ℕ) (d : List ℤ) (l p : List (List ℤ)) → n ≡ 4 → answer_of (stored d l n 0 3) (form_of_table p (n - 3)) ≡ answer_of (stored (three d) l n 0 (n - 1)) (constant_form (entry p 0 0))
same_answer n d l p e = subst (λ (m : ℕ). answer_of (stored d l m 0 3) (form_of_table p (m - 3)) ≡ answer_of (stored (three d) l m 0 (m - 1)) (constant_form (entry p 0 0))) (sym e) refl

same_front : (n : ℕ) (d : List ℤ) (l p : List (List ℤ)) → n ≡ 4 → answer_of (stored d l n 0 3) (form_of_table p (n - 3)) ≡ answer_of (stored (three d) l n 0 3) (form_of_table p (n - 3))
same_front n d l p e = refl

pub reported_by_front : (n : Normal) (e : LowerFault) → n.columns ≡ 4 → ((h : ℕ) → IsExponent h (form_of n) → IsReportedAs e (front_of h n)) → (h : ℕ) → IsExponent h (form_of n) → IsReportedAs e (elimination_of h n)
reported_by_front n e four reported h k = subst (IsReportedAs e) (sym (same_steps h n four)) (reported h k)

-- a form of a matrix, whose float point is the baseline of its front
pub record HasNumbers (n : Normal) (x : List ℤ) : Type 0 where
  pub form : Form
  pub lowered : IsLowerOf n form
  pub numbers : float_point form ≡ x

pub numbers_of_front : (n : Normal) (r : FrontForm) → IsFrontOf n r → n.columns ≡ 4 → HasNumbers n (baseline_at r.d r.l r.columns [])
unfolding whole
numbers_of_front n r a four =
    let four_columns : r.columns ≡ 4 = a.columns ∙ four in
    record {
      form = whole r four_columns;
      lowered = record {
        columns = a.columns;
        exponent = a.exponent;
        front = a.taken ∙ same_front r.columns r.d r.l r.p four_columns;
        taken = same_steps r.h n four ∙ a.taken ∙ same_answer r.columns r.d r.l r.p four_columns;
      };
      numbers = same_numbers r.columns r.d r.l four_columns;
    }

-- a coarse session counts none
pub coarse_columns : (arcs : List Arc) (signals : Signals) (scale : ℕ) → scale ≡ COARSE_SCALE → 4 + integer_count arcs (counted signals scale) ≡ 4
coarse_columns arcs signals scale e = subst (λ (s : ℕ). 4 + integer_count arcs (counted signals s) ≡ 4) (sym e) (none (free_count arcs))
  where
    none : (n : ℕ) → 4 + 0 * n ≡ 4
    none n = omega arith
