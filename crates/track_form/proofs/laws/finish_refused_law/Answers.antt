use Rattle.track_form.proofs.OneDecision.{finish_refused}
use Rattle.track_form.proofs.laws.finish_refused_law.Goals as goal

pub returns : goal.returns
returns c = finish_refused
