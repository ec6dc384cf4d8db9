use Rattle.std.proofs.Common.{◌≡◌, List, Result, Ok, Err, IfOk, ℕ, sym, ap, ◌∙◌, subst}
use Rattle.line_source.specs.Lines.{Reading}
use Rattle.cert_words.specs.Spelling.{text_of_lines}
use Rattle.line_source.specs.EndedLines.{ended_lines}
use Rattle.cert_words.proofs.TextLaws.{AreLines, text_of_ended}
use Rattle.rinex_head.specs.declared.place.TextFault.{TextFault}
use Rattle.cert_data.specs.declared.certs.Cert.{Cert}
use Rattle.cert_text.specs.Spelling.{lines_of_cert, spelling_as}
use Rattle.rinex_head.specs.LineRules.{rest_gives}
use Rattle.rinex_head.proofs.LineRuleLaws.{gives_same}
use Rattle.cert_text.specs.Rules.{cert_rules, Form}
use Rattle.cert_lines.specs.declared.version.Version.{Version}
use Rattle.cert_text.proofs.Accepted.{refused_text, stuck_text}
use Rattle.cert_text.specs.Lengths.{IsWhole}
use Rattle.cert_text.specs.Editions.{IsOfVersion}
use Rattle.cert_text.proofs.BegunCertificates.{first_text}
use Rattle.cert_text.proofs.SameSpelling.{spelling_same}
use Rattle.cert_text.proofs.FeedLaws.{cert_feed}
use Rattle.cert_text.proofs.reader.read_as.Goals as goal

-- lines that spell a certificate are those of its text
spelled : (version : Version) (text : List ℕ) (lines : List (List ℕ)) (r : Result Cert TextFault) → lines ≡ ended_lines text → IfOk r (λ c. lines ≡ lines_of_cert version c)
    → IfOk r (IsOfVersion version) → IfOk r (λ c. text ≡ spelling_as version c)
unfolding spelling_as
spelled version text lines (Ok c) are took of_version =
    let same : ended_lines text ≡ lines_of_cert version c = sym are ∙ took in
    text_of_ended text (subst AreLines (sym same) (cert_feed version c of_version.bands)) ∙ ap text_of_lines same
spelled version text lines (Err fault) are took of_version = tt

pub returns-clause-ok : goal.returns-clause-ok
returns-clause-ok c =
    spelled c.args.version c.args.text.now c.strict.result.left c.read_lines.result (ap (λ (r : Reading). r.left) c.strict.ensures) c.read_lines.ensures.took c.read_lines.ensures.of_version

pub returns-clause-refused : goal.returns-clause-refused
returns-clause-refused c =
    let text = c.args.text.now in
    let whole = sym (ap (λ (r : Reading). rest_gives cert_rules r (Form c.args.version)) c.strict.ensures) in
    refused_text c.args.version text (λ x. tt) c.read_lines.result (gives_same _ _ (λ x. tt) c.read_lines.result whole c.read_lines.ensures.reads)

pub returns-clause-stuck : goal.returns-clause-stuck
returns-clause-stuck c =
    let text = c.args.text.now in
    let whole = sym (ap (λ (r : Reading). rest_gives cert_rules r (Form c.args.version)) c.strict.ensures) in
    stuck_text c.args.version text (λ x. tt) c.read_lines.result (gives_same _ _ (λ x. tt) c.read_lines.result whole c.read_lines.ensures.reads)

pub returns-clause-first : goal.returns-clause-first
returns-clause-first c =
    let text = c.args.text.now in
    let whole = sym (ap (λ (r : Reading). rest_gives cert_rules r (Form c.args.version)) c.strict.ensures) in
    first_text c.args.version text (λ x. tt) c.read_lines.result (gives_same _ _ (λ x. tt) c.read_lines.result whole c.read_lines.ensures.reads)

-- what is read is the only certificate with this spelling
alone : (version : Version) (text : List ℕ) (r : Result Cert TextFault) → IfOk r (λ c. text ≡ spelling_as version c) → IfOk r IsWhole → IfOk r (IsOfVersion version)
    → IfOk r (λ c. (d : Cert) → IsWhole d → IsOfVersion version d → text ≡ spelling_as version d → d ≡ c)
alone version text (Ok c) ok whole of_version = λ d other other_of is. spelling_same version d c other whole other_of of_version (sym is ∙ ok)
alone version text (Err fault) ok whole of_version = tt

pub returns-clause-only : goal.returns-clause-only
returns-clause-only c =
    alone c.args.version c.args.text.now c.read_lines.result (spelled c.args.version c.args.text.now c.strict.result.left c.read_lines.result
    (ap (λ (r : Reading). r.left) c.strict.ensures) c.read_lines.ensures.took c.read_lines.ensures.of_version) c.read_lines.ensures.whole c.read_lines.ensures.of_version
