use Rattle.std.proofs.Common.{List, ℤ, sym, subst}
use Rattle.row_boxes.specs.declared.pseudoranges.Pseudorange.{Pseudorange}
use Rattle.row_boxes.specs.declared.sights.Sight.{Sight}
use Rattle.row_build.specs.Sights.{AreRoverSights}
use Rattle.row_build.specs.BasePseudoranges.{AreBasePseudoranges}
use Rattle.session.proofs.CutLaws.{cut_along}
use Rattle.session.proofs.RangeLaws.{arcs_along}
use Rattle.session.proofs.file_rounds.FileRunRounds.session.Goals as goal

pub rows_with-requires-clause-arcs : goal.rows_with-requires-clause-arcs
rows_with-requires-clause-arcs c = arcs_along c.args.self.now.files.now.kept c.args.arcs.now c.requires.arcs c.requires.ready.1.0 c.requires.shifts

pub invariant_of-from : goal.invariant_of-from
invariant_of-from c =
    let files = c.args.self.now.files.now in
    let ready = c.requires.ready in
    record {
      cut = ∣ cut_along files.screened.used files.kept c.args.arcs.now c.requires.arcs ready.0 ∣₁;
      few = (arcs_along files.kept c.args.arcs.now c.requires.arcs ready.1.0 c.requires.shifts).few;
      base_in = ready.1.1;
      point_in = c.requires.point;
      base_pseudoranges_hold = ∣ subst (λ (base_pseudoranges : List Pseudorange). AreBasePseudoranges files.screened.boxes files.position base_pseudoranges) (sym c.as_slice.ensures.value) ready.2.0 ∣₁;
      sights_hold = subst (λ (sights : List Sight). AreRoverSights files.screened.boxes c.args.point.now sights) (sym c.as_slice-2.ensures.value)
          (subst (λ (p : List ℤ). AreRoverSights files.screened.boxes p c.turn_to.new.self.sights.items) c.in_ok-turn_to.ensures.there c.turn_to.ensures.kept);
    }
