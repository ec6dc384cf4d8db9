use Rattle.track_form.proofs.Bounds.{bound_of_track}
use Rattle.track_form.proofs.sum_laws.track_bound_law.Goals as goal

pub returns : goal.returns
returns c = bound_of_track
