use Rattle.std.proofs.Common.{◌≡◌, List, Result, Ok, Err, IfOk, ℕ}
use Rattle.rinex_head.specs.declared.place.TextFault.{TextFault}
use Rattle.rinex_head.specs.declared.place.TextFault.TheVariants.{Refused, NoMemory}
use Rattle.rinex_head.specs.LineRules.{OnRefusal, IfRefused}
use Rattle.cert_lines.specs.declared.version.Version.TheVariants.{Two}
use Rattle.cert_data.specs.declared.certs.Cert.{Cert}
use Rattle.cert_text.specs.Spelling.{spelling_as, spelling}
use Rattle.cert_text.specs.Lengths.{IsWhole, IsCertificate}
use Rattle.cert_text.specs.Editions.{IsOfVersion, IsCertificateAs}
use Rattle.cert_text.specs.Beginnings.{NoneBegins}
use Rattle.cert_text.specs.BeforePairs.{BeginsBefore}
use Rattle.cert_text.proofs.BegunCertificates.{begins_as}
use Rattle.cert_text.proofs.Versions.{of_two}
use Rattle.cert_text.proofs.reader.read_cert.Goals as goal

-- every certificate can be written in the form of the second version
alone : (text : List ℕ) (r : Result Cert TextFault) → IfOk r (λ c. (d : Cert) → IsWhole d → IsOfVersion Two d → text ≡ spelling_as Two d → d ≡ c)
    → IfOk r (λ c. (d : Cert) → IsWhole d → text ≡ spelling d → d ≡ c)
alone text (Ok c) only = λ d whole is. only d whole (of_two d) is
alone text (Err fault) only = tt

as_two : (text : List ℕ) → IsCertificate text → IsCertificateAs Two text
as_two text is = record { cert = is.cert; whole = is.whole; of_version = of_two is.cert; spelled = is.spelled }

no_other : (text : List ℕ) (r : Result Cert TextFault) → OnRefusal r (IsCertificateAs Two text → ⊥) → OnRefusal r (IsCertificate text → ⊥)
no_other text (Ok c) none = tt
no_other text (Err (Refused at)) none = λ is. none (as_two text is)
no_other text (Err NoMemory) none = tt

none_begins : (text : List ℕ) (r : Result Cert TextFault) → IfRefused r (λ at. NoneBegins (IsCertificateAs Two) text at.line) → IfRefused r (λ at. NoneBegins IsCertificate text at.line)
none_begins text (Ok c) none = tt
none_begins text (Err (Refused at)) none = λ other is same. none other (as_two other is) same
none_begins text (Err NoMemory) none = tt

of_any : (text : List ℕ) → IsCertificateAs Two text → IsCertificate text
of_any text is = record { cert = is.cert; whole = is.whole; spelled = is.spelled }

one_begins : (text : List ℕ) (r : Result Cert TextFault) → IfRefused r (λ at. BeginsBefore (IsCertificateAs Two) text at.line) → IfRefused r (λ at. BeginsBefore IsCertificate text at.line)
one_begins text (Ok c) one = tt
one_begins text (Err (Refused at)) one = begins_as (IsCertificateAs Two) IsCertificate of_any text at.line one
one_begins text (Err NoMemory) one = tt

pub returns-clause-only : goal.returns-clause-only
returns-clause-only c = alone c.args.text.now c.read_as.result c.read_as.ensures.only

pub returns-clause-refused : goal.returns-clause-refused
returns-clause-refused c = no_other c.args.text.now c.read_as.result c.read_as.ensures.refused

pub returns-clause-stuck : goal.returns-clause-stuck
returns-clause-stuck c = none_begins c.args.text.now c.read_as.result c.read_as.ensures.stuck

pub returns-clause-first : goal.returns-clause-first
returns-clause-first c = one_begins c.args.text.now c.read_as.result c.read_as.ensures.first
