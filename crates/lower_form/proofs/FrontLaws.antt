-- The front of a normal matrix is that of its rows, so its form bounds the sum of squares over all data.
use Rattle.std.proofs.Common.{◌≡◌, ℕ, ◌+◌, ◌-◌, ◌^◌, List, ℤ, pos, Ok, arith, sym, ap, ap₂, ◌∙◌, subst}
use Rattle.quadratic_form.specs.Forms.{Column}
use Rattle.quadratic_form.specs.Elimination.{Factor, rounded, steps}
use Rattle.quadratic_form.specs.Rows.{SignalGroup, Radii, columns, bounding_form, first_rounding}
use Rattle.obs_rows.specs.declared.arcs.Arc.{Arc}
use Rattle.obs_rows.specs.declared.pair_rows.PairRows.{PairRows}
use Rattle.obs_rows.specs.Integers.{integer_count}
use Rattle.obs_rows.specs.SignalGroups.{signal_groups}
use Rattle.obs_rows.proofs.SessionLaws.{bound_for_all_data}
use Rattle.normal_sum.specs.declared.normal.Normal.{Normal}
use Rattle.normal_sum.specs.Normals.{IsNormalOf}
use Rattle.normal_sum.specs.Values.{form_of, radii_from}
use Rattle.normal_sum.proofs.NormalValues.{form_is}
use Rattle.lower_form.specs.FirstRounding.{first_form}
use Rattle.lower_form.specs.Fronts.{BoundsAllData}

four_and : (n : ℕ) → columns n ≡ 4 + n
four_and n = omega arith

pub fewer : (m n : ℕ) → m ≡ 4 + n → m - 4 ≡ n
fewer m n e = omega arith

pub first_is : (arcs : List Arc) (ss : List ℕ) (pairs : List PairRows) (n : Normal) (h : ℕ) → IsNormalOf arcs ss pairs n → first_form h n ≡ first_rounding h (integer_count arcs ss)
    (signal_groups arcs ss pairs)
first_is arcs ss pairs n h k =
    let integers : ℕ = integer_count arcs ss in
    let groups : List SignalGroup = signal_groups arcs ss pairs in
    ap₂ (λ (m j : ℕ). rounded (2 ^ h) (pos m) (bounding_form j (form_of n) (radii_from n.r))) (k.columns ∙ sym (four_and integers)) (fewer n.columns integers k.columns)
    ∙ ap₂ (λ (a : List Column) (r : Radii). rounded (2 ^ h) (pos (columns integers)) (bounding_form integers a r)) (form_is arcs ss pairs n k) (ap (λ (r : List ℤ). radii_from r) k.radii)

pub bounds_all : (arcs : List Arc) (ss : List ℕ) (pairs : List PairRows) (n : Normal) (h : ℕ) (p : List Factor × List Column) → IsNormalOf arcs ss pairs n → steps 0 3 (first_form h n) ≡ Ok p →
    BoundsAllData arcs ss pairs h p.1
bounds_all arcs ss pairs n h p k e = record {
  below = λ z b observed l d. bound_for_all_data arcs ss pairs h z b observed p l d
      (subst (λ (m : ℕ). steps 0 3 (first_rounding h m (signal_groups arcs ss pairs)) ≡ Ok p) (sym l) (subst (λ (a : List Column). steps 0 3 a ≡ Ok p) (first_is arcs ss pairs n h k) e));
}
