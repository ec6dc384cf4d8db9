-- The ranges of a weak pivot, of the front of a pair and of the finish of the sum.
use Rattle.std.proofs.Common.{◌≡◌, inl, inr, ℕ, ◌+◌, ◌-◌, ◌^◌, ◌<◌, ◌≤◌, true, List, ℤ, Err, unsigned_abs, arith, refl, ap, ◌∙◌}
use Rattle.std.proofs.lemmas.Bool.Decides.{nat_tests}
use Rattle.quadratic_form.specs.Elimination.{Refusal, form_small, steps}
use Rattle.quadratic_form.specs.Tables.{entry}
use Rattle.quadratic_form.specs.declared.sizes.TheConstants.{MOST_COLUMNS, MOST_FACTORS}
use Rattle.normal_sum.specs.declared.normal.Normal.{Normal}
use Rattle.integer_form.specs.declared.front_form.FrontForm.{FrontForm}
use Rattle.integer_form.specs.declared.faults.LowerFault.{LowerFault}
use Rattle.integer_form.specs.declared.faults.LowerFault.TheVariants as fault
use Rattle.integer_form.specs.ReportedRefusals.{fault_of, IsReportedAs}
use Rattle.integer_form.specs.Kept.{form_of_table}
use Rattle.elimination.specs.StepEntries.{is_small}
use Rattle.elimination.proofs.SmallEntries.{form_all_small}
use Rattle.lower_form.specs.FirstRounding.{first_form}
use Rattle.lower_form.specs.Fronts.{front_of}
use Rattle.obs_rows.specs.declared.arcs.Arc.{Arc}
use Rattle.obs_rows.specs.declared.pair_rows.PairRows.{PairRows}
use Rattle.cert_data.specs.Tails.{IsWeak}
use Rattle.cert_check.proofs.WeakLaws.{IsPivot, weak_of, weak_of_steps, reported_weak}
use Rattle.track_data.specs.TrackTails.{IsTrackTailOf}
use Rattle.track_form.specs.PairFronts.{IsRefusedPair}
use Rattle.track_form.specs.Decided.{IsFormRefused, track_tail_of}
use Rattle.track_form.proofs.OneDecision.{some_pair}

-- ---- a pair whose front is refused by a weak pivot
pair_weak : (arcs : List Arc) (ss : List ℕ) (p : PairRows) (column : ℕ) (pivot : ℤ) → IsRefusedPair arcs ss p (fault.Weak column pivot) → IsWeak column pivot
pair_weak arcs ss p column pivot a =
    let normal : Normal = a.normal in
    let is_reported : IsReportedAs (fault.Weak column pivot) (front_of a.h normal) = a.reported in
    let is_pivot : IsPivot 0 3 column pivot = weak_of (form_small (first_form a.h normal)) 3 (first_form a.h normal) column pivot refl (is_reported.1.0 ∙ ap Err (reported_weak column pivot is_reported.0 is_reported.1.1)) in
    record { column_to = small column is_pivot.column; pivot_in = is_pivot.size }
  where
    small : (i : ℕ) → i < 0 + 3 → i < MOST_FACTORS
    small i h = omega (arith, h)

-- ---- a sum whose finish is
sum_weak : (sum : FrontForm) (column : ℕ) (pivot : ℤ) (refusal : Refusal) → steps 3 (sum.columns - 4) (form_of_table sum.p (sum.columns - 3)) ≡ Err refusal →
    fault.Weak column pivot ≡ fault_of refusal → IsWeak column pivot
sum_weak sum column pivot refusal e f =
    let is_pivot : IsPivot 3 (sum.columns - 4) column pivot =
    weak_of_steps 3 (sum.columns - 4) (form_of_table sum.p (sum.columns - 3)) column pivot (form_all_small (entry sum.p) 0 (sum.columns - 3) (λ r c a b l. test (entry sum.p r c) (sum.entries_in r c)))
    (e ∙ ap Err (reported_weak column pivot refusal f)) in
    record { column_to = small sum.columns column sum.columns_to is_pivot.column; pivot_in = is_pivot.size }
  where
    test : (x : ℤ) → unsigned_abs x < 2 ^ 52 → is_small x ≡ true
    test x h = grind (arith, nat_tests, h)

    small : (c i : ℕ) → c ≤ MOST_COLUMNS → i < 3 + (c - 4) → i < MOST_FACTORS
    small c i h g = omega (arith, h, g)

-- ---- so a refusal is a tail of a certificate
pub refused_fits : (arcs : List Arc) (ss : List ℕ) (pairs : List PairRows) (budget : ℕ) (why : LowerFault) → IsFormRefused arcs ss pairs why → IsTrackTailOf ss arcs pairs budget (track_tail_of why)
refused_fits arcs ss pairs budget (fault.Weak column pivot) (inl a) = pair_weak arcs ss _ column pivot (a.refused (some_pair pairs a.place a.inside))
refused_fits arcs ss pairs budget (fault.Weak column pivot) (inr a) = sum_weak a.sum column pivot a.reported.0 a.reported.1.0 a.reported.1.1
refused_fits arcs ss pairs budget (fault.Overwidth place) a = tt
