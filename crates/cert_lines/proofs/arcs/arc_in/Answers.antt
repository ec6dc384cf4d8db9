use Rattle.cert_lines.proofs.ArcLaws.{arc_spelled}
use Rattle.cert_lines.proofs.arcs.arc_in.Goals as goal

pub returns-clause-spelled : goal.returns-clause-spelled
returns-clause-spelled c =
    arc_spelled c.args.version c.args.signals.l2 c.args.signals.l5 c.phase_bands-bands.result.now c.args.line.now c.in_ok-words.words c.as_slice.result.now c.arc_numbers.result
    c.phase_bands-bands.ensures.value c.in_ok-words.ensures.value c.in_ok-words.ensures.count c.as_slice.ensures.value c.arc_numbers.ensures.value
