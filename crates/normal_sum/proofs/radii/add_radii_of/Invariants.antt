use Rattle.std.proofs.Common.{◌≡◌, ℕ, ◌+◌, ◌*◌, ◌^◌, List, ℤ, pos, ◌*ℤ◌, map, drop}
use Rattle.quadratic_form.specs.Rows.{add_radii, row_radii}
use Rattle.obs_rows.specs.declared.arcs.Arc.{Arc}
use Rattle.obs_rows.specs.SignalGroups.{signal_row}
use Rattle.normal_sum.specs.RadiusSums.{radii_of, IsAtMost}
use Rattle.normal_sum.proofs.radii.add_radii_of.Given as goal

abbrev pub invariant-loop-row : goal.invariant-loop-row
invariant-loop-row l = record {
  value : (w : ℤ) (arcs : List Arc) (ss : List ℕ) (s : ℕ) → l.fn.weight ≡ pos 360360 *ℤ w →
      add_radii (radii_of l.sums) (row_radii w (map (signal_row arcs ss s) (drop l.row-index l.rows))) ≡ add_radii (radii_of l.fn.start) (row_radii w (map (signal_row arcs ss s) l.rows));
  size : (m : ℕ) → IsAtMost m l.fn.start → IsAtMost (m + (l.row-index * 2 ^ 75)) l.sums;
}
