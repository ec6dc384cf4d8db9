use Rattle.std.proofs.Common.{◌<◌, ◌^◌, List, ℤ, unsigned_abs, arith, subst, sym, ap, ◌∙◌}
use Rattle.quadratic_form.specs.Tables.{entry}
use Rattle.quadratic_form.proofs.TableLaws.{zero_entry, zero_small}
use Rattle.quadratic_form.specs.declared.sizes.TheConstants.{MOST_INTEGERS}
use Rattle.decorrelate.proofs.start.integer_factors.Goals as goal

pub loop-i-init : goal.loop-i-init
loop-i-init c = record {
  same = λ k m h g. absurd (omega arith);
  small = λ i j. subst (λ (z : ℤ). unsigned_abs z < 2 ^ 52) (sym (ap (λ (t : List (List ℤ)). entry t i j) c.zeros-integers.ensures.zeros ∙ zero_entry MOST_INTEGERS MOST_INTEGERS i j)) zero_small;
}
