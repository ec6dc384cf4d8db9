use Rattle.std.proofs.Common.{◌≡◌, List, Result, Ok, Err, IfOk, ℕ, sym, ap, ◌∙◌, subst}
use Rattle.line_source.specs.Lines.{Reading}
use Rattle.rinex_head.specs.declared.place.TextFault.{TextFault}
use Rattle.rinex_head.specs.LineRules.{rest_gives}
use Rattle.rinex_head.proofs.LineRuleLaws.{gives_same}
use Rattle.cert_words.specs.Spelling.{text_of_lines}
use Rattle.line_source.specs.EndedLines.{ended_lines}
use Rattle.cert_words.proofs.TextLaws.{AreLines, text_of_ended}
use Rattle.track_data.specs.declared.certs.TrackCert.{TrackCert}
use Rattle.track_text.specs.Spelling.{lines_of_track, track_spelling}
use Rattle.track_text.specs.Lengths.{IsWholeTrackCert}
use Rattle.track_text.specs.Rules.{track_rules, Form}
use Rattle.track_text.proofs.Feeds.{track_feed}
use Rattle.track_text.proofs.Accepted.{refused_text, stuck_text}
use Rattle.track_text.proofs.BegunTracks.{first_text}
use Rattle.track_text.proofs.SameTrack.{spelling_same}
use Rattle.track_text.proofs.reader.read_track.Goals as goal

-- lines that spell a certificate are those of its text
spelled : (text : List ℕ) (lines : List (List ℕ)) (r : Result TrackCert TextFault) → lines ≡ ended_lines text → IfOk r (λ c. lines ≡ lines_of_track c) → IfOk r (λ c. text ≡ track_spelling c)
unfolding track_spelling
spelled text lines (Ok c) are took =
    let same : ended_lines text ≡ lines_of_track c = sym are ∙ took in
    text_of_ended text (subst AreLines (sym same) (track_feed c)) ∙ ap text_of_lines same
spelled text lines (Err fault) are took = tt

pub returns-clause-ok : goal.returns-clause-ok
returns-clause-ok c = spelled c.args.text.now c.strict.result.left c.read_lines.result (ap (λ (r : Reading). r.left) c.strict.ensures) c.read_lines.ensures.took

pub returns-clause-refused : goal.returns-clause-refused
returns-clause-refused c =
    let whole = sym (ap (λ (r : Reading). rest_gives track_rules r Form) c.strict.ensures) in
    refused_text c.args.text.now (λ x. tt) c.read_lines.result (gives_same _ _ (λ x. tt) c.read_lines.result whole c.read_lines.ensures.reads)

pub returns-clause-stuck : goal.returns-clause-stuck
returns-clause-stuck c =
    let whole = sym (ap (λ (r : Reading). rest_gives track_rules r Form) c.strict.ensures) in
    stuck_text c.args.text.now (λ x. tt) c.read_lines.result (gives_same _ _ (λ x. tt) c.read_lines.result whole c.read_lines.ensures.reads)

pub returns-clause-first : goal.returns-clause-first
returns-clause-first c =
    let whole = sym (ap (λ (r : Reading). rest_gives track_rules r Form) c.strict.ensures) in
    first_text c.args.text.now (λ x. tt) c.read_lines.result (gives_same _ _ (λ x. tt) c.read_lines.result whole c.read_lines.ensures.reads)

-- what is read is the only certificate with this spelling
alone : (text : List ℕ) (r : Result TrackCert TextFault) → IfOk r (λ c. text ≡ track_spelling c) → IfOk r IsWholeTrackCert
    → IfOk r (λ c. (d : TrackCert) → IsWholeTrackCert d → text ≡ track_spelling d → d ≡ c)
alone text (Ok c) ok whole = λ d other is. spelling_same d c other whole (sym is ∙ ok)
alone text (Err fault) ok whole = tt

pub returns-clause-only : goal.returns-clause-only
returns-clause-only c =
    alone c.args.text.now c.read_lines.result (spelled c.args.text.now c.strict.result.left c.read_lines.result
    (ap (λ (r : Reading). r.left) c.strict.ensures) c.read_lines.ensures.took) c.read_lines.ensures.whole
