use Rattle.std.proofs.Common.{refl}
use Rattle.cert_data.specs.declared.certs.Cert.{Cert}
use Rattle.cert_migrate.proofs.MovedSessions.{few_entries, tail_moved}
use Rattle.cert_migrate.proofs.moved.old_cert.Goals as goal

pub old_tail-requires : goal.old_tail-requires
old_tail-requires c = few_entries c.args.cert.now (c.requires.bands refl)

pub invariant_of-result : goal.invariant_of-result
invariant_of-result c =
    let cert : Cert = c.args.cert.now in
    record {
      ratio_from = cert.ratio_from;
      ratio_to = cert.ratio_to;
      budget_from = cert.budget_from;
      budget_to = cert.budget_to;
      tail_fits = tail_moved cert c.in_ok-session.session.arcs c.old_tail.result (c.requires.bands refl) c.in_ok-session.ensures.arcs c.old_tail.ensures c.requires.column;
    }
