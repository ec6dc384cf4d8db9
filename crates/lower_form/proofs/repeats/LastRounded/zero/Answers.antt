use Rattle.std.proofs.Common.{refl}
use Rattle.lower_form.proofs.FirstRoundingLaws.{zero_rounds}
use Rattle.lower_form.proofs.repeats.LastRounded.zero.Goals as goal

pub returns : goal.returns
returns c = λ h. record { value = zero_rounds h; small = refl }
