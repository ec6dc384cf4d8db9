use Rattle.std.proofs.Common.{ℕ, ◌≤◌, List, sym, subst}
use Rattle.std.specs.List.{AllZip}
use Rattle.std.proofs.lemmas.Slice.Zip.{AllZip-long}
use Rattle.obs_rows.specs.declared.rows.Row.{Row}
use Rattle.obs_rows.specs.declared.pair_rows.PairRows.{PairRows}
use Rattle.obs_rows.specs.declared.limits.TheConstants.{MOST_SATELLITES}
use Rattle.cert_migrate.specs.declared.old_rows.OldRow.{OldRow}
use Rattle.cert_migrate.specs.Carriers.{IsRowOf}
use Rattle.cert_migrate.proofs.MovedSessions.{rows_rise_moved}
use Rattle.cert_migrate.proofs.LiftedNumbers.{group_kept}
use Rattle.cert_migrate.proofs.moved_rows.old_pair.Goals as goal

pub invariant_of-result : goal.invariant_of-result
invariant_of-result c =
    let pair : PairRows = c.args.pair.now in
    let zip : AllZip IsRowOf pair.rows c.new.result =
    subst (λ (os : List OldRow). AllZip IsRowOf pair.rows os) (sym c.new.ensures) (subst (λ (rs : List Row). AllZip IsRowOf rs c.in_ok-rows.rows.items) c.as_slice.ensures c.in_ok-rows.ensures) in
    record {
      number_in = pair.number_in;
      tag_in = pair.tag_in;
      group_in = group_kept pair.group c.requires;
      some_rows = subst (λ (n : ℕ). 1 ≤ n) (sym (AllZip-long IsRowOf pair.rows c.new.result zip)) pair.some_rows;
      few_rows = subst (λ (n : ℕ). n ≤ MOST_SATELLITES) (sym (AllZip-long IsRowOf pair.rows c.new.result zip)) pair.few_rows;
      arcs_rise = rows_rise_moved pair.rows c.new.result zip pair.arcs_rise;
    }
