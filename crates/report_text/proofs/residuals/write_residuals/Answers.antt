use Rattle.std.proofs.Common.{subst}
use Rattle.obs_rows.specs.Signals.{fine_signals}
use Rattle.cert_data.specs.Tails.{IsTailOf}
use Rattle.report_text.proofs.residuals.write_residuals.Goals as goal

pub write_shown-requires : goal.write_shown-requires
write_shown-requires c =
    let cert = c.args.cert.now in
    let are = subst (IsTailOf (fine_signals cert.session.signals) cert.session.arcs cert.budget) c.in-Fixed.is cert.tail_fits in
    record { size = are.values.size; small = are.values.first_in; moved = are.moved_in }

pub write_shown-requires-in-Unseparated : goal.write_shown-requires-in-Unseparated
write_shown-requires-in-Unseparated c =
    let cert = c.args.cert.now in
    let are = subst (IsTailOf (fine_signals cert.session.signals) cert.session.arcs cert.budget) c.in-Unseparated.is cert.tail_fits in
    record { size = are.values.size; small = are.values.first_in; moved = are.moved_in }
