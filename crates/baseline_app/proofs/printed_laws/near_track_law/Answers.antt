use Rattle.baseline_app.proofs.PrintedTracks.{track_near, check_track_near}
use Rattle.baseline_app.proofs.printed_laws.near_track_law.Goals as goal

pub returns : goal.returns
returns c = record { track = track_near; check = check_track_near }
