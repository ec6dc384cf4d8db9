use Rattle.std.proofs.Common.{◌≡◌, ℕ, ◌<◌, ◌≤◌, ◌^◌, List, map, All, unsigned_abs, refl, sym, ap, ◌∙◌, subst}
use Rattle.std.specs.List.{AllZip}
use Rattle.std.proofs.lemmas.Slice.Zip.{AllZip-long}
use Rattle.obs_rows.specs.declared.arcs.Arc.{Arc}
use Rattle.obs_rows.specs.declared.pair_rows.PairRows.{PairRows}
use Rattle.obs_rows.specs.declared.sessions.Session.{Session}
use Rattle.cert_migrate.specs.declared.old_arcs.OldArc.{OldArc}
use Rattle.cert_migrate.specs.declared.old_pairs.OldPair.{OldPair}
use Rattle.cert_migrate.specs.OldArcs.{AreOldArcs}
use Rattle.cert_migrate.specs.OldPairs.{AreOldPairs}
use Rattle.cert_migrate.specs.Carriers.{old_arc, IsPairOf}
use Rattle.cert_migrate.proofs.MovedSessions.{arcs_moved, pairs_moved, second_letter}
use Rattle.cert_migrate.proofs.moved.old_session.Goals as goal

pub old_pairs-requires : goal.old_pairs-requires
old_pairs-requires c = subst (λ (ps : List PairRows). All (λ p. unsigned_abs p.group < 2 ^ 50) ps) (sym c.as_slice-2.ensures) c.requires.groups

pub invariant_of-signals : goal.invariant_of-signals
invariant_of-signals c =
    let session : Session = c.args.cert.now.session in
    record { on_l1 = session.signals.on_l1; on_l2 = second_letter session.signals.l2 session.signals.l5 (c.requires.bands refl) session.signals.on_l2 session.signals.two_bands }

pub invariant_of-result : goal.invariant_of-result
invariant_of-result c =
    let session : Session = c.args.cert.now.session in
    let arcs : c.new.result ≡ map old_arc session.arcs = c.new.ensures ∙ c.in_ok-arcs.ensures ∙ ap (λ (l : List Arc). map old_arc l) c.as_slice.ensures in
    let zip : AllZip IsPairOf session.pairs c.new-2.result =
    subst (λ (os : List OldPair). AllZip IsPairOf session.pairs os) (sym c.new-2.ensures)
    (subst (λ (ps : List PairRows). AllZip IsPairOf ps c.in_ok-pairs.pairs.items) c.as_slice-2.ensures c.in_ok-pairs.ensures) in
    record {
      fine = refl;
      base_in = session.base_in;
      point_in = session.point_in;
      arcs_in = subst AreOldArcs (sym arcs) (arcs_moved session.arcs session.arcs_in c.requires.sats);
      some_pairs = subst (λ (n : ℕ). 1 ≤ n) (sym (AllZip-long IsPairOf session.pairs c.new-2.result zip)) session.some_pairs;
      pairs_in = subst (λ (l : List OldArc). AreOldPairs l c.new-2.result) (sym arcs) (pairs_moved session.arcs session.pairs c.new-2.result zip session.pairs_in);
    }
