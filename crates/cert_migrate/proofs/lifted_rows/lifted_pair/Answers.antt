use Rattle.std.proofs.Common.{ℕ, ◌≤◌, List, sym, subst}
use Rattle.std.specs.List.{AllZip}
use Rattle.std.proofs.lemmas.Slice.Zip.{AllZip-long}
use Rattle.obs_rows.specs.declared.rows.Row.{Row}
use Rattle.obs_rows.specs.declared.limits.TheConstants.{MOST_SATELLITES}
use Rattle.cert_migrate.specs.declared.old_rows.OldRow.{OldRow}
use Rattle.cert_migrate.specs.declared.old_pairs.OldPair.{OldPair}
use Rattle.cert_migrate.specs.Lifted.{IsLiftedRow}
use Rattle.cert_migrate.proofs.LiftedNumbers.{group_below}
use Rattle.cert_migrate.proofs.LiftedSessions.{rows_rise}
use Rattle.cert_migrate.proofs.lifted_rows.lifted_pair.Goals as goal

pub invariant_of-result : goal.invariant_of-result
invariant_of-result c =
    let old : OldPair = c.args.pair.now in
    let zip : AllZip IsLiftedRow old.rows c.new.result =
    subst (λ (rs : List Row). AllZip IsLiftedRow old.rows rs) (sym c.new.ensures)
    (subst (λ (os : List OldRow). AllZip IsLiftedRow os c.in_ok-rows.rows.items) c.as_slice.ensures c.in_ok-rows.ensures) in
    record {
      number_in = old.number_in;
      tag_in = old.tag_in;
      group_in = group_below old.group old.group_in;
      some_rows = subst (λ (n : ℕ). 1 ≤ n) (sym (AllZip-long IsLiftedRow old.rows c.new.result zip)) old.some_rows;
      few_rows = subst (λ (n : ℕ). n ≤ MOST_SATELLITES) (sym (AllZip-long IsLiftedRow old.rows c.new.result zip)) old.few_rows;
      arcs_rise = rows_rise old.rows c.new.result zip old.arcs_rise;
    }
