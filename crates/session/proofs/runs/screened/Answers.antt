use Rattle.std.proofs.Common.{refl}
use Rattle.session.proofs.runs.screened.Goals as goal

pub base_pseudoranges-requires : goal.base_pseudoranges-requires
base_pseudoranges-requires c = c.requires.position.in_reach

pub returns-clause-screened : goal.returns-clause-screened
returns-clause-screened c = record { position_is = refl; signals_are = refl; system_is = refl; short = c.in_ok-cut.cut.arcs.short; arcs_are = c.in_ok-cut.ensures.screened }
