use Rattle.track_form.proofs.Decision.{track_decided}
use Rattle.track_form.proofs.sum_laws.track_decision_law.Goals as goal

pub returns : goal.returns
returns c = track_decided
