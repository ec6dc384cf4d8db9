use Rattle.track_rows.proofs.StandsLaws.{track_stands}
use Rattle.track_rows.proofs.laws.track_stands_law.Goals as goal

pub returns : goal.returns
returns c = track_stands
