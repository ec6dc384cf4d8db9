use Rattle.std.proofs.Common.{sym, subst}
use Rattle.row_build.specs.Sights.{AreRoverSights}
use Rattle.row_build.proofs.BasePseudorangeLaws.{no_sights}
use Rattle.row_build.proofs.sights.KeptSights.none.Goals as goal

pub returns : goal.returns
returns c = λ boxes. subst (AreRoverSights boxes _) (sym c.new.ensures.items) (no_sights boxes _)
