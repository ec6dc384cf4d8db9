use Rattle.std.proofs.Common.{codes}
use Rattle.report_text.specs.Baselines.{baseline_of, baseline_line}
use Rattle.report_text.proofs.Texts.{then_more}
use Rattle.report_text.proofs.outcomes.push_fixed.Goals as goal

pub returns : goal.returns
returns c =
    let session = c.args.session.now in
    then_more c.args.text.now.items c.push_place.new.text.items c.push_verdict_line.new.text.items (baseline_line (baseline_of session.point session.base c.args.moved.now))
    (codes "verdict fixed\n") c.in_ok-push_place.ensures c.in_ok-push_verdict_line.ensures
