use Rattle.baseline_app.proofs.Agreements.{one_check, one_track_check}
use Rattle.baseline_app.proofs.laws.one_verdict_law.Goals as goal

pub returns : goal.returns
returns c = record { check = one_check; check_track = one_track_check }
