use Rattle.std.proofs.Common.{◌≡◌, subst}
use Rattle.obs_rows.specs.Signals.{fine_signals}
use Rattle.cert_data.specs.declared.verdicts.Verdict.TheVariants.{Certified}
use Rattle.track_form.specs.Verdicts.{IsSaidOf, IsTrackVerdict}
use Rattle.track_form.proofs.OneVerdict.{one_verdict, ratio_said, strictly_in}
use Rattle.track_form.proofs.verdict.check_track.Goals as goal

pub returns-clause-verdict : goal.returns-clause-verdict
returns-clause-verdict c = record { decided = c.in_ok-decided.decided; decision = c.in_ok-decided.ensures.decision; said = c.said_of.ensures }

pub returns-clause-strictly_best : goal.returns-clause-strictly_best
returns-clause-strictly_best c = λ e.
    let cert = c.args.cert.now in
    let track = cert.track in
    let certified : c.said_of.result ≡ Certified = cc in
    strictly_in cert.ratio track.arcs (fine_signals track.signals) track.pairs cert.tail cert.ratio_from
    (ratio_said cert.ratio track.arcs (fine_signals track.signals) track.pairs c.in_ok-decided.decided cert.tail c.in_ok-decided.ensures.by_ratio
    (subst (IsSaidOf c.in_ok-decided.decided cert.tail) certified c.said_of.ensures))

pub returns-clause-by_ratio : goal.returns-clause-by_ratio
returns-clause-by_ratio c = λ e.
    let cert = c.args.cert.now in
    let track = cert.track in
    let certified : c.said_of.result ≡ Certified = cc in
    ratio_said cert.ratio track.arcs (fine_signals track.signals) track.pairs c.in_ok-decided.decided cert.tail c.in_ok-decided.ensures.by_ratio
    (subst (IsSaidOf c.in_ok-decided.decided cert.tail) certified c.said_of.ensures)

pub returns-clause-only : goal.returns-clause-only
returns-clause-only c =
    let cert = c.args.cert.now in
    let track = cert.track in
    let verdict : IsTrackVerdict track.arcs (fine_signals track.signals) track.pairs cert.ratio cert.budget cert.tail c.said_of.result =
    record { decided = c.in_ok-decided.decided; decision = c.in_ok-decided.ensures.decision; said = c.said_of.ensures } in
    λ w is. one_verdict track.arcs (fine_signals track.signals) track.pairs cert.ratio cert.budget cert.tail w c.said_of.result is verdict
