use Rattle.rinex_nav.proofs.FitOnce.{fit_once}
use Rattle.rinex_nav.proofs.laws.one_fit_law.Goals as goal

pub returns : goal.returns
returns c = λ records fit other is same. fit_once records fit other is same
