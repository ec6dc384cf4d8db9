use Rattle.obs_rows.proofs.RatioLaws.{ratio_is_strict}
use Rattle.obs_rows.proofs.laws.ratio_law.Goals as goal

pub returns : goal.returns
returns c = ratio_is_strict
