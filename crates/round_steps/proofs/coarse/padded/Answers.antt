use Rattle.std.proofs.Common.{arith, refl}
use Rattle.quadratic_form.specs.declared.sizes.TheConstants.{MOST_FACTORS}
use Rattle.quadratic_form.proofs.TableLaws.{zero_item}
use Rattle.round_steps.proofs.coarse.padded.Goals as goal

pub loop-i-init : goal.loop-i-init
loop-i-init c = record { full = refl; same = λ k h. absurd (omega arith); outside = λ k h. zero_item MOST_FACTORS k }
