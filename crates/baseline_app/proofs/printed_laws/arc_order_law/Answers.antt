use Rattle.baseline_app.proofs.PrintedArcs.{fix_ordered, track_ordered}
use Rattle.baseline_app.proofs.printed_laws.arc_order_law.Goals as goal

pub returns : goal.returns
returns c = record { fix = fix_ordered; track = track_ordered }
