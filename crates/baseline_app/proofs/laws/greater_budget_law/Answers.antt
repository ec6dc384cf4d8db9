use Rattle.baseline_app.proofs.Agreements.{more_check, more_track_check}
use Rattle.baseline_app.proofs.laws.greater_budget_law.Goals as goal

pub returns : goal.returns
returns c = record { check = more_check; check_track = more_track_check }
