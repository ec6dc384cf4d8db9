use Rattle.row_build.proofs.BasePseudorangeLaws.{no_base_pseudoranges, no_sights}
use Rattle.row_build.proofs.shifts.shift_at.Goals as goal

pub invariant_of-from : goal.invariant_of-from
invariant_of-from c = record {
  cut = ∣ c.requires.cut ∣₁;
  few = c.requires.few;
  base_in = c.requires.base;
  point_in = c.requires.point;
  base_pseudoranges_hold = ∣ no_base_pseudoranges c.args.screened.now.boxes c.args.base.now ∣₁;
  sights_hold = no_sights c.args.screened.now.boxes c.args.point.now;
}
