use Rattle.std.proofs.Common.{sym, subst}
use Rattle.int_search.specs.declared.answer.TwoBest.{TwoBest}
use Rattle.integer_form.specs.Kept.{IsZeroFrom}
use Rattle.cert_migrate.proofs.MovedLists.{front_zero}
use Rattle.cert_migrate.proofs.moved_tails.old_best.Goals as goal

pub invariant_of-result : goal.invariant_of-result
invariant_of-result c =
    let best : TwoBest = c.args.best.now in
    record {
      size_to = c.requires;
      first_rest = subst (IsZeroFrom best.size) (sym c.first_entries.ensures) (front_zero 40 best.size best.first best.first_rest);
      second_rest = subst (IsZeroFrom best.size) (sym c.first_entries-2.ensures) (front_zero 40 best.size best.second best.second_rest);
    }
