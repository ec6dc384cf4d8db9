use Rattle.std.proofs.Common.{Err, sym, ◌∙◌}
use Rattle.std.proofs.lemmas.Result.{err_from_is_err_and}
use Rattle.rinex_head.specs.declared.place.At.{At}
use Rattle.rinex_head.specs.declared.place.TextFault.{TextFault}
use Rattle.rinex_head.specs.declared.place.TextFault.TheVariants.{Refused, NoMemory}
use Rattle.rinex_head.specs.LineRules.{OnRefusal, IfRefused}
use Rattle.cert_lines.specs.declared.version.Version.TheVariants.{One}
use Rattle.cert_data.specs.declared.certs.Cert.{Cert}
use Rattle.cert_text.specs.Editions.{IsCertificateAs}
use Rattle.cert_text.proofs.BegunCertificates.{begins_as}
use Rattle.cert_migrate.specs.OldSpelling.{IsOldCertificate}
use Rattle.cert_migrate.specs.declared.old_certs.OldCert.{OldCert}
use Rattle.cert_migrate.proofs.ReadLaws.{spelled_old, read_only, none_read, none_begins, read_whole}
use Rattle.cert_migrate.proofs.OldTexts.{old_text}
use Rattle.cert_migrate.proofs.read.read_old.Goals as goal

refused : (P Q : Type 0) (f : TextFault) → (P → Q) → OnRefusal {X = Cert} (Err f) P → OnRefusal {X = OldCert} (Err f) Q
refused P Q (Refused at) more h = more h
refused P Q NoMemory more h = tt

weaker : (P Q : At → Type 0) (f : TextFault) → ((at : At) → P at → Q at) → IfRefused {X = Cert} (Err f) P → IfRefused {X = OldCert} (Err f) Q
weaker P Q (Refused at) more h = more at h
weaker P Q NoMemory more h = tt

pub returns-clause-ok : goal.returns-clause-ok
returns-clause-ok c =
    c.in_ok-cert.ensures.ok ∙ sym (spelled_old c.in_ok-cert.cert c.in_ok-old_cert.field-0 c.in_ok-cert.ensures.of_version c.in_ok-old_cert.ensures)

pub returns-clause-whole : goal.returns-clause-whole
returns-clause-whole c = read_whole c.in_ok-cert.cert c.in_ok-old_cert.field-0 c.in_ok-old_cert.ensures c.in_ok-cert.ensures.whole

pub returns-clause-only : goal.returns-clause-only
returns-clause-only c = read_only c.args.text.now c.in_ok-cert.cert c.in_ok-old_cert.field-0 c.in_ok-old_cert.ensures c.in_ok-cert.ensures.only

pub returns-in_err-cert-clause-refused : goal.returns-in_err-cert-clause-refused
returns-in_err-cert-clause-refused c =
    let answered = err_from_is_err_and c.from_residual.result c.from_residual.ensures.1 in
    rw (answered.1, answered.2) (refused _ _ c.in_err-cert.field-0.0 (none_read c.args.text.now) c.in_err-cert.ensures.refused)

pub returns-in_err-cert-clause-stuck : goal.returns-in_err-cert-clause-stuck
returns-in_err-cert-clause-stuck c =
    let answered = err_from_is_err_and c.from_residual.result c.from_residual.ensures.1 in
    rw (answered.1, answered.2) (weaker _ _ c.in_err-cert.field-0.0 (λ at. none_begins c.args.text.now at.line) c.in_err-cert.ensures.stuck)

pub returns-in_err-cert-clause-first : goal.returns-in_err-cert-clause-first
returns-in_err-cert-clause-first c =
    let answered = err_from_is_err_and c.from_residual.result c.from_residual.ensures.1 in
    rw (answered.1, answered.2)
    (weaker _ _ c.in_err-cert.field-0.0 (λ at. begins_as (IsCertificateAs One) IsOldCertificate old_text c.args.text.now at.line) c.in_err-cert.ensures.first)

pub returns-in_err-cert-clause-exact : goal.returns-in_err-cert-clause-exact
returns-in_err-cert-clause-exact c =
    let answered = err_from_is_err_and c.from_residual.result c.from_residual.ensures.1 in
    rw (answered.1, answered.2) c.in_err-cert.ensures.exact
