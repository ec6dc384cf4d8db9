use Rattle.std.proofs.Common.{◌≡◌, List, ℤ, pos, arith, subst, sym}
use Rattle.quadratic_form.specs.declared.sizes.TheConstants.{MOST_INTEGERS}
use Rattle.quadratic_form.specs.Tables.{entry}
use Rattle.quadratic_form.proofs.TableLaws.{zero_entry}
use Rattle.decorrelate.proofs.unimodular.ones.Goals as goal

pub loop-i-init : goal.loop-i-init
loop-i-init c = record {
  own = λ k h. absurd (omega arith);
  others =
      λ k j _. subst (λ (m : List (List ℤ)). entry m k j ≡ pos 0) (sym c.zeros-map.ensures.zeros) (zero_entry MOST_INTEGERS MOST_INTEGERS k j);
}
