use Rattle.track_form.proofs.RatioLaws.{ratio_is_strict}
use Rattle.track_form.proofs.sum_laws.track_ratio_law.Goals as goal

pub returns : goal.returns
returns c = ratio_is_strict
