use Rattle.std.proofs.Common.{List, All, length, ap, sym, subst, ◌∙◌}
use Rattle.orbit_model.specs.SeenPlaces.{place_at}
use Rattle.screening.specs.declared.sv_pair.SvPair.{SvPair}
use Rattle.screening.specs.BaseRanges.{HoldsRange}
use Rattle.row_build.specs.BasePseudoranges.{AreBasePseudoranges}
use Rattle.row_build.proofs.pseudoranges.base_pseudoranges.Goals as goal

pub base_pseudoranges_of-requires-clause-ranges : goal.base_pseudoranges_of-requires-clause-ranges
base_pseudoranges_of-requires-clause-ranges c = subst (All (HoldsRange (place_at c.args.screened.now.base))) (sym c.as_slice.ensures) c.args.screened.now.seen

pub returns-clause-base_pseudoranges : goal.returns-clause-base_pseudoranges
returns-clause-base_pseudoranges c = subst (λ (boxes : List SvPair). AreBasePseudoranges boxes c.args.base.now c.in_ok-base_pseudoranges.base_pseudoranges.items) c.as_slice.ensures c.in_ok-base_pseudoranges.ensures.base_pseudoranges

pub returns-clause-each : goal.returns-clause-each
returns-clause-each c = c.in_ok-base_pseudoranges.ensures.each ∙ ap (λ (boxes : List SvPair). length boxes) c.as_slice.ensures
