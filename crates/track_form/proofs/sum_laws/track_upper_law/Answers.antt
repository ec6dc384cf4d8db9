use Rattle.track_form.proofs.Bounds.{top_at_most}
use Rattle.track_form.proofs.sum_laws.track_upper_law.Goals as goal

pub returns : goal.returns
returns c = top_at_most
