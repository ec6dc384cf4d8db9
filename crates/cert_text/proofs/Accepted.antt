-- The rules admit the spelling of every certificate.
use Rattle.std.proofs.Common.{◌≡◌, ◌<◌, ◌≤◌, ℕ, suc, ℤ, pos, List, [], ◌∷◌, ◌++◌, length, codes, All, refl, ap, subst, arith, ◌+◌, ◌-◌, unsigned_abs, Result, Ok, sym, ◌∙◌, lit≤, Err, append_assoc}
use Rattle.std.proofs.lemmas.List.Elements.{All-head, All-tail}
use Rattle.obs_rows.specs.declared.arcs.Arc.{Arc}
use Rattle.obs_rows.specs.declared.rows.Row.{Row}
use Rattle.obs_rows.specs.declared.pair_rows.PairRows.{PairRows}
use Rattle.obs_rows.specs.declared.units.TheConstants.{SIGNALS}
use Rattle.obs_rows.specs.Ranges.{IsSystem}
use Rattle.obs_rows.specs.Pairs.{HasItsArcs}
use Rattle.cert_text.specs.Rules.{Point, Tail, Frame, cert_rules, admit, frame, behind_budget, Form, Ratio, Budget, SystemLine, Base, Letters, ArcCount, PairCount, NextPair, before_arcs, before_pairs, before_rows, reading_as}
use Rattle.cert_lines.specs.Lines.{vector_line, signals_line, row_lines, pair_lines, counted_arcs, count_line, pair_line, system_line}
use Rattle.cert_lines.specs.declared.version.Version.{Version}
use Rattle.cert_lines.specs.declared.version.Version.TheVariants.{One, Two}
use Rattle.cert_lines.specs.Versions.{form_line, group_limit, groups}
use Rattle.obs_rows.specs.Signals.{fine_signals}
use Rattle.obs_rows.specs.declared.limits.TheConstants.{MOST_PAIRS, MOST_RATIO, MOST_BUDGET, MOST_ARCS}
use Rattle.cert_data.specs.declared.certs.Cert.{Cert}
use Rattle.cert_text.specs.Spelling.{system_lines, head_lines, all_pair_lines, counted_pairs, tail_lines, lines_of_cert, spelling_as}
use Rattle.rinex_head.specs.Places.{and_then}
use Rattle.rinex_head.specs.declared.place.Flaw.{Flaw}
use Rattle.rinex_head.specs.LineRules.{walk, Gives, OnRefusal, IfRefused}
use Rattle.cert_lines.proofs.LineSpells.{line_length, count_spells, pair_spells, point_spells, point_length}
use Rattle.rinex_head.specs.declared.place.TextFault.{TextFault}
use Rattle.rinex_head.specs.declared.place.TextFault.TheVariants.{Refused, NoMemory}
use Rattle.line_source.specs.EndedLines.{ended_lines}
use Rattle.cert_words.proofs.TextLaws.{lines_of_text}
use Rattle.cert_lines.specs.Forms.{Letters as LettersOf, signals_of}
use Rattle.cert_lines.proofs.Spreading.{signals_good}
use Rattle.cert_lines.specs.Lengths.{IsWholePair}
use Rattle.cert_text.specs.Lengths.{IsWhole}
use Rattle.cert_text.specs.Editions.{IsOfVersion, IsCertificateAs}
use Rattle.cert_text.proofs.FeedLaws.{cert_feed}
use Rattle.cert_text.specs.Beginnings.{NoneBegins}
use Rattle.cert_text.proofs.Accepts.{step, AreAccepted, RisesFrom, rises, rows_accepted, counted_arcs_accepted}
use Rattle.cert_text.proofs.FirstLines.{none_agrees}
use Rattle.cert_text.proofs.TailSpells.{tail_accepted}
use Rattle.cert_lines.proofs.LetterLaws.{letters_spell, letters_length, system_spells}
use Rattle.cert_lines.proofs.Sizes.{pair_small}
use Rattle.cert_text.proofs.LineLaws.{arcs_taken, rows_taken}

-- ---- pairs

abbrev HasGroupOf : Version → PairRows → Type 0
HasGroupOf version p = unsigned_abs p.group < group_limit version

pairs_accepted : (f : Frame) (arcs : List Arc) (least : ℕ) (pairs : List PairRows) (rest : List (List ℕ)) → length f.signals ≤ SIGNALS → length arcs ≤ MOST_ARCS → All (HasItsArcs arcs) pairs
    → All IsWholePair pairs → All (HasGroupOf f.version) pairs → RisesFrom (λ p. p.number) least pairs
    → AreAccepted cert_rules (Tail f arcs) rest → AreAccepted cert_rules (before_pairs f arcs (length pairs) least) (all_pair_lines f.signals pairs ++ rest)
pairs_accepted f arcs least [] rest signals few has whole groups rising behind = behind
pairs_accepted f arcs least (p ∷ pairs) rest signals few has whole groups rising behind =
    let own = All-head (HasItsArcs arcs) p pairs has in
    let wide = All-head IsWholePair p pairs whole in
    let group = All-head (HasGroupOf f.version) p pairs groups in
    let fewer : suc (length pairs) - 1 ≡ length pairs = omega arith in
    let numbers : List ℤ = pos p.number ∷ pos p.tag.0 ∷ p.group ∷ pos (length p.rows) ∷ [] in
    let line = pair_line p.number p.tag.0 p.group (length p.rows) in
    let others = row_lines f.signals p.rows ++ (all_pair_lines f.signals pairs ++ rest) in
    let reads : admit (NextPair f arcs (suc (length pairs)) least) line ≡ Ok (before_rows f arcs (length pairs) p.number (length p.rows) 0) =
    ap (λ a. and_then a (λ h. Ok (before_rows f arcs (suc (length pairs) - 1) h.number h.count 0)))
    (pair_spells f.version least p.number p.tag.0 (length p.rows) p.group rising.0 p.number_in p.tag_in group p.some_rows p.few_rows)
    ∙ ap (λ (n : ℕ). Ok (before_rows f arcs n p.number (length p.rows) 0)) fewer in
    let later = pairs_accepted f arcs (p.number + 1) pairs rest signals few (All-tail (HasItsArcs arcs) p pairs has) (All-tail IsWholePair p pairs whole)
    (All-tail (HasGroupOf f.version) p pairs groups) rising.1 behind in
    let rows = rows_accepted cert_rules f.signals arcs p.number (λ (left least : ℕ). before_rows f arcs (length pairs) p.number left least) (before_pairs f arcs (length pairs) (p.number + 1)) 0 p.rows
    (all_pair_lines f.signals pairs ++ rest) (rows_taken f arcs (length pairs) p.number) signals few own wide
    (rises (λ (r : Row). r.arc) 0 p.rows p.arcs_rise (λ d some. omega arith)) later in
    let split : (pair_lines f.signals p ++ all_pair_lines f.signals pairs) ++ rest ≡ line ∷ others = append_assoc (pair_lines f.signals p) (all_pair_lines f.signals pairs) rest in
    subst (AreAccepted cert_rules (NextPair f arcs (suc (length pairs)) least)) (sym split)
    (step cert_rules (NextPair f arcs (suc (length pairs)) least) (before_rows f arcs (length pairs) p.number (length p.rows) 0) line others
    (line_length (codes "pair") numbers (lit≤ tt) (lit≤ tt) (pair_small p)) reads rows)

-- ---- the head

system_accepted : (version : Version) (budget system : ℕ) (rest : List (List ℕ)) → IsSystem system → AreAccepted cert_rules (Base version budget) rest
    → AreAccepted cert_rules (behind_budget version budget) (system_lines version system ++ rest)
system_accepted One budget system rest is behind = behind
system_accepted Two budget system rest is behind =
    step cert_rules (SystemLine budget) (Base Two budget) (system_line system) rest (lit≤ tt) (ap (λ (r : Result ℕ Flaw). and_then r (λ s. Ok (Base Two budget))) (system_spells system is)) behind

form_read : (version : Version) → admit (Form version) (form_line version) ≡ Ok (Ratio version)
form_read One = refl
form_read Two = refl

form_length : (version : Version) → length (form_line version) ≤ 4096
form_length One = lit≤ tt
form_length Two = lit≤ tt

-- ---- the whole

-- the lines of a certificate, one after the other
pub regrouped : (version : Version) (c : Cert) → lines_of_cert version c ≡ form_line version ∷ count_line (codes "ratio") c.ratio ∷ count_line (codes "budget") c.budget
    ∷ (system_lines version c.session.system ++ vector_line (codes "base") c.session.base ∷ vector_line
    (codes "point") c.session.point ∷ signals_line version c.session.signals.l1 c.session.signals.l2 c.session.signals.l5
    ∷ (counted_arcs (fine_signals c.session.signals) c.session.arcs ++ (counted_pairs (fine_signals c.session.signals) c.session.pairs ++ tail_lines c.tail)))
regrouped One c = ap (λ (l : List (List ℕ)). head_lines One c.ratio c.budget c.session.system c.session.base c.session.point c.session.signals ++ l)
    (append_assoc (counted_arcs (fine_signals c.session.signals) c.session.arcs) (counted_pairs (fine_signals c.session.signals) c.session.pairs) (tail_lines c.tail))
regrouped Two c = ap (λ (l : List (List ℕ)). head_lines Two c.ratio c.budget c.session.system c.session.base c.session.point c.session.signals ++ l)
    (append_assoc (counted_arcs (fine_signals c.session.signals) c.session.arcs) (counted_pairs (fine_signals c.session.signals) c.session.pairs) (tail_lines c.tail))

cert_accepted : (version : Version) (c : Cert) → IsWhole c → IsOfVersion version c → AreAccepted cert_rules (Form version) (lines_of_cert version c)
cert_accepted version c whole of_version =
    let session = c.session in
    let signal_list = fine_signals session.signals in
    let budget = c.budget in
    let its_frame = frame version budget signal_list in
    let few_signals : length signal_list ≤ SIGNALS = (signals_good session.signals.l2 session.signals.l5).few in
    let tail = tail_accepted its_frame session.arcs c.tail c.budget_to c.tail_fits of_version.column whole.tail in
    let pair_lines_rest = all_pair_lines signal_list session.pairs ++ tail_lines c.tail in
    let after_arcs = counted_pairs signal_list session.pairs ++ tail_lines c.tail in
    let pairs_hold = pairs_accepted its_frame session.arcs 0 session.pairs (tail_lines c.tail) few_signals session.arcs_in.few session.pairs_in.rows_have_arcs whole.session.pairs of_version.groups
    (rises (λ (p : PairRows). p.number) 0 session.pairs session.pairs_in.rising (λ d some. omega arith)) tail in
    let pair_count_holds : AreAccepted cert_rules (PairCount its_frame session.arcs) after_arcs =
    step cert_rules (PairCount its_frame session.arcs) (before_pairs its_frame session.arcs (length session.pairs) 0) (count_line (codes "pairs") (length session.pairs)) pair_lines_rest
    (line_length (codes "pairs") (pos (length session.pairs) ∷ []) (lit≤ tt) (lit≤ tt) (omega (arith, session.pairs_in.few), tt))
    (ap (λ (r : Result ℕ Flaw). and_then r (λ n. Ok (before_pairs its_frame session.arcs n 0))) (count_spells (codes "pairs") 1 MOST_PAIRS (length session.pairs) session.some_pairs session.pairs_in.few (omega arith))) pairs_hold in
    let arcs_hold = counted_arcs_accepted cert_rules version session.signals.l2 session.signals.l5 (ArcCount its_frame) (before_arcs its_frame) session.arcs after_arcs (record { admits = λ line. refl; ends = refl }) (arcs_taken its_frame) session.arcs_in
    of_version.sats session.shifts_used whole.session.arcs pair_count_holds in
    let signals = signals_line version session.signals.l1 session.signals.l2 session.signals.l5 in
    let letters_hold : AreAccepted cert_rules (Letters version budget) (signals ∷ (counted_arcs signal_list session.arcs ++ after_arcs)) =
    step cert_rules (Letters version budget) (ArcCount its_frame) signals (counted_arcs signal_list session.arcs ++ after_arcs) (letters_length version session.signals)
    (ap (λ (r : Result LettersOf Flaw). and_then r (λ l. Ok (ArcCount (frame version budget (signals_of l))))) (letters_spell version session.signals of_version.bands)) arcs_hold in
    let point_holds = step cert_rules (Point version budget) (Letters version budget) (vector_line (codes "point") session.point) _ (point_length (codes "point") session.point (lit≤ tt) whole.session.point session.point_in)
    (ap (λ (r : Result (List ℤ) Flaw). and_then r (λ p. Ok (Letters version budget))) (point_spells (codes "point") session.point whole.session.point session.point_in)) letters_hold in
    let base_holds = step cert_rules (Base version budget) (Point version budget) (vector_line (codes "base") session.base) _ (point_length (codes "base") session.base (lit≤ tt) whole.session.base session.base_in)
    (ap (λ (r : Result (List ℤ) Flaw). and_then r (λ p. Ok (Point version budget))) (point_spells (codes "base") session.base whole.session.base session.base_in)) point_holds in
    let system = system_accepted version budget session.system _ session.system_is base_holds in
    let budget_holds = step cert_rules (Budget version) (behind_budget version budget) (count_line (codes "budget") budget) _
    (line_length (codes "budget") (pos budget ∷ []) (lit≤ tt) (lit≤ tt) (omega (arith, c.budget_to), tt))
    (ap (λ (r : Result ℕ Flaw). and_then r (λ n. Ok (behind_budget version n))) (count_spells (codes "budget") 1 MOST_BUDGET budget c.budget_from c.budget_to (omega arith))) system in
    let ratio_holds = step cert_rules (Ratio version) (Budget version) (count_line (codes "ratio") c.ratio) _ (line_length (codes "ratio") (pos c.ratio ∷ []) (lit≤ tt) (lit≤ tt)
    (omega (arith, c.ratio_to), tt))
    (ap (λ (r : Result ℕ Flaw). and_then r (λ n. Ok (Budget version))) (count_spells (codes "ratio") 1000 MOST_RATIO c.ratio c.ratio_from c.ratio_to (omega arith))) budget_holds in
    let all = step cert_rules (Form version) (Ratio version) (form_line version) _ (form_length version) (form_read version) ratio_holds in
    subst (AreAccepted cert_rules (Form version)) (sym (regrouped version c)) all

-- the text of a certificate is none that is refused
pub certificate_read : (version : Version) (text : List ℕ) → IsCertificateAs version text → reading_as version text ≡ Ok tt
unfolding spelling_as
certificate_read version text is =
    let lines : ended_lines text ≡ lines_of_cert version is.cert = ap ended_lines is.spelled ∙ lines_of_text (lines_of_cert version is.cert) (cert_feed version is.cert is.of_version.bands) in
    ap (λ (l : List (List ℕ)). walk cert_rules l 0 (Form version)) lines ∙ cert_accepted version is.cert is.whole is.of_version 0

pub refused_text : {X : Type 0} (version : Version) (text : List ℕ) (view : X → Unit {0}) (r : Result X TextFault) → Gives (reading_as version text) view r
    → OnRefusal r (IsCertificateAs version text → ⊥)
refused_text version text view (Ok x) given = tt
refused_text version text view (Err (Refused at)) given = λ is. absurd (cc (certificate_read version text is, given))
refused_text version text view (Err NoMemory) given = tt

-- nor does that of any other begin with its lines up to the place
pub stuck_text : {X : Type 0} (version : Version) (text : List ℕ) (view : X → Unit {0}) (r : Result X TextFault) → Gives (reading_as version text) view r
    → IfRefused r (λ at. NoneBegins (IsCertificateAs version) text at.line)
stuck_text version text view (Ok x) given = tt
stuck_text version text view (Err (Refused at)) given = λ other is same.
    none_agrees cert_rules (ended_lines text) (ended_lines other) (Form version) at tt given (certificate_read version other is) same
stuck_text version text view (Err NoMemory) given = tt
