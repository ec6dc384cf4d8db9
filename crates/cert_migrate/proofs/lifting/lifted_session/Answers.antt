use Rattle.std.proofs.Common.{◌≡◌, ℕ, ◌≤◌, List, map, All, rules, sym, ap, ◌∙◌, subst}
use Rattle.std.specs.List.{AllZip}
use Rattle.std.proofs.lemmas.Slice.Zip.{AllZip-long}
use Rattle.obs_rows.specs.declared.arcs.Arc.{Arc}
use Rattle.obs_rows.specs.declared.pair_rows.PairRows.{PairRows}
use Rattle.obs_rows.specs.Arcs.{AreArcs}
use Rattle.obs_rows.specs.Pairs.{ArePairs}
use Rattle.obs_rows.specs.Unused.{HasUsedShifts}
use Rattle.cert_migrate.specs.declared.old_arcs.OldArc.{OldArc}
use Rattle.cert_migrate.specs.declared.old_pairs.OldPair.{OldPair}
use Rattle.cert_migrate.specs.declared.old_sessions.OldSession.{OldSession}
use Rattle.cert_migrate.specs.OldSums.{old_signals}
use Rattle.cert_migrate.specs.Lifted.{lifted_arc, IsLiftedPair}
use Rattle.cert_migrate.proofs.LiftedArcs.{arcs_lifted, shifts_lifted}
use Rattle.cert_migrate.proofs.LiftedSessions.{pairs_like, used_like, like_pairs}
use Rattle.cert_migrate.proofs.lifting.lifted_session.Goals as goal

pub invariant_of-result : goal.invariant_of-result
invariant_of-result c =
    let old : OldSession = c.args.old.now in
    let arcs : c.new.result ≡ map lifted_arc old.arcs = c.new.ensures ∙ c.in_ok-arcs.ensures ∙ ap (λ (l : List OldArc). map lifted_arc l) c.as_slice.ensures in
    let zip : AllZip IsLiftedPair old.pairs c.new-2.result =
    subst (λ (ps : List PairRows). AllZip IsLiftedPair old.pairs ps) (sym c.new-2.ensures)
    (subst (λ (os : List OldPair). AllZip IsLiftedPair os c.in_ok-pairs.pairs.items) c.as_slice-2.ensures c.in_ok-pairs.ensures) in
    record {
      scale_is = search rules;
      system_is = search rules;
      base_in = old.base_in;
      point_in = old.point_in;
      arcs_in = subst AreArcs (sym arcs) (arcs_lifted old.arcs old.arcs_in);
      some_pairs = subst (λ (n : ℕ). 1 ≤ n) (sym (AllZip-long IsLiftedPair old.pairs c.new-2.result zip)) old.some_pairs;
      pairs_in = subst (λ (l : List Arc). ArePairs l c.new-2.result) (sym arcs) (pairs_like old.arcs old.pairs c.new-2.result (like_pairs old.pairs c.new-2.result zip) old.pairs_in);
      rows_used = used_like old.pairs c.new-2.result (like_pairs old.pairs c.new-2.result zip);
      shifts_used = subst (λ (l : List Arc). All (HasUsedShifts old_signals) l) (sym arcs) (shifts_lifted old.arcs);
    }
