use Rattle.std.proofs.Common.{List, sym, subst}
use Rattle.std.specs.Cmp.Rules.{signed_items}
use Rattle.screening.specs.declared.sv_pair.SvPair.{SvPair}
use Rattle.row_build.specs.Sights.{AreRoverSights}
use Rattle.row_build.proofs.sights.KeptSights.turn_to.Goals as goal

pub returns-then-eq-clause-there : goal.returns-then-eq-clause-there
returns-then-eq-clause-there c = (signed_items c.args.self.now.point c.args.point.now).0 (sym c.if-eq.ensures)

pub returns-clause-kept : goal.returns-clause-kept
returns-clause-kept c = subst (λ (boxes : List SvPair). AreRoverSights boxes c.args.point.now c.in_ok-sights.sights.items) c.as_slice.ensures c.in_ok-sights.ensures

pub returns-in_err-sights-clause-kept : goal.returns-in_err-sights-clause-kept
returns-in_err-sights-clause-kept c = c.none.ensures c.args.screened.now.boxes
