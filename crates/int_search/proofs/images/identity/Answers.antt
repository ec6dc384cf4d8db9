use Rattle.std.proofs.Common.{◌≡◌, inl, List, ℤ, pos, arith, subst, sym}
use Rattle.quadratic_form.specs.declared.sizes.TheConstants.{MOST_INTEGERS}
use Rattle.quadratic_form.specs.Tables.{entry}
use Rattle.quadratic_form.proofs.TableLaws.{zero_entry}
use Rattle.int_search.proofs.ImageLaws.{identity_is, identity_entries}
use Rattle.int_search.proofs.images.identity.Goals as goal

pub loop-i-init : goal.loop-i-init
loop-i-init c = record {
  own = λ k h. absurd (omega arith);
  others =
      λ k j _. subst (λ (m : List (List ℤ)). entry m k j ≡ pos 0) (sym c.zeros-map.ensures.zeros) (zero_entry MOST_INTEGERS MOST_INTEGERS k j);
  shape = c.zeros-map.ensures.shape;
}

pub returns-clause-map : goal.returns-clause-map
returns-clause-map c = record { shape = c.loop-i.invariant.shape; entries = identity_entries c.loop-i.map c.loop-i.i c.loop-i.invariant.own c.loop-i.invariant.others }

pub returns-clause-own : goal.returns-clause-own
returns-clause-own c = λ n v h e. identity_is c.loop-i.map MOST_INTEGERS n v c.loop-i.invariant.shape (λ k l. c.loop-i.invariant.own k (omega arith))
    (λ k j d. c.loop-i.invariant.others k j (inl d)) h e
