use Rattle.orbit_model.proofs.Exists.{seen_place_exists}
use Rattle.orbit_model.proofs.travel.seen_place_exists.Goals as goal

pub returns : goal.returns
returns c = seen_place_exists
