use Rattle.std.proofs.Common.{◌≡◌, ◌++◌, drop}
use Rattle.report_text.specs.Residuals.{pairs_text}
use Rattle.report_text.proofs.residuals.write_session.Given as goal

abbrev pub invariant-loop-pair : goal.invariant-loop-pair
invariant-loop-pair l = l.out.items ++ pairs_text l.session.arcs l.signals l.z l.moved (drop l.pair-index l.session.pairs)
    ≡ l.fn.out.items ++ pairs_text l.session.arcs l.signals l.z l.moved l.session.pairs
