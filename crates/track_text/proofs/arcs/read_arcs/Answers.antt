use Rattle.obs_rows.specs.Signals.{fine_signals}
use Rattle.track_text.specs.Rules.{frame, ArcCount, before_arcs}
use Rattle.track_text.proofs.LineLaws.{arc_count_taken, arcs_taken}
use Rattle.track_text.proofs.arcs.read_arcs.Goals as goal

pub returns-clause-reads : goal.returns-clause-reads
returns-clause-reads c = λ budget.
    let f = frame budget (fine_signals c.args.signals) in
    c.read_arcs.ensures.reads (ArcCount f) (before_arcs f) (arc_count_taken f) (arcs_taken f)
