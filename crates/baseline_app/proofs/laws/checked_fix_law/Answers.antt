use Rattle.baseline_app.proofs.Agreements.{checked_fix, checked_track, checked_migrate}
use Rattle.baseline_app.proofs.laws.checked_fix_law.Goals as goal

pub returns : goal.returns
returns c = record { fix = checked_fix; track = checked_track; migrate = checked_migrate }
