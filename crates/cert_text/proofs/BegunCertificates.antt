-- Up to the line `pairs` the lines that the rules admit are the first of some certificate.
use Rattle.std.proofs.Common.{◌≡◌, ◌+◌, ◌-◌, ◌≤◌, ℕ, zero, suc, true, false, List, [], ◌∷◌, ◌++◌, length, take, codes, All, Result, Ok, Err, refl, sym, ap, ◌∙◌, subst, arith, length-append, append_assoc}
use Rattle.std.proofs.lemmas.List.{append-nil, take_at}
use Rattle.std.proofs.lemmas.List.Elements.{All-head, All-tail}
use Rattle.obs_rows.specs.declared.arcs.Arc.{Arc}
use Rattle.obs_rows.specs.Arcs.{free_count}
use Rattle.obs_rows.specs.declared.limits.TheConstants.{MOST_PAIRS, MOST_RATIO, MOST_BUDGET, MOST_ARCS}
use Rattle.rinex_head.specs.declared.place.Flaw.{Flaw}
use Rattle.rinex_head.specs.declared.place.At.{At}
use Rattle.rinex_head.specs.declared.place.TextFault.{TextFault}
use Rattle.rinex_head.specs.declared.place.TextFault.TheVariants.{Refused, NoMemory}
use Rattle.rinex_head.specs.Places.{and_then, place, at_line}
use Rattle.rinex_head.specs.LineRules.{Rules, admitted, walk, Gives, IfRefused}
use Rattle.rinex_head.proofs.Stops.{at_line-number, admitted_short}
use Rattle.rinex_head.proofs.TakenLines.{then_holds}
use Rattle.line_source.specs.EndedLines.{ended_lines}
use Rattle.cert_words.proofs.TextLaws.{lines_of_text}
use Rattle.cert_lines.specs.declared.ranges.TheConstants.{COORDINATES}
use Rattle.cert_lines.specs.declared.version.Version.{Version}
use Rattle.cert_lines.specs.declared.version.Version.TheVariants.{One, Two}
use Rattle.cert_lines.specs.Versions.{form_line}
use Rattle.cert_lines.specs.Lines.{count_line, vector_line, system_line, signals_line, arc_line, arc_lines, counted_arcs}
use Rattle.cert_lines.specs.Forms.{count_in, vector_in, system_in, Letters as LettersOf, signals_in, signals_of, arc_in}
use Rattle.cert_lines.specs.TailForms.{begins}
use Rattle.cert_text.specs.LineParts.{word_in}
use Rattle.cert_text.proofs.ArcSteps.{arcs_took}
use Rattle.cert_data.specs.declared.certs.Cert.{Cert}
use Rattle.cert_text.specs.Spelling.{system_lines, head_lines, counted_pairs, tail_lines, lines_of_cert, spelling_as}
use Rattle.cert_text.specs.Lengths.{IsWhole}
use Rattle.cert_text.specs.Editions.{IsOfVersion, IsCertificateAs}
use Rattle.cert_lines.proofs.LetterLaws.{not_one}
use Rattle.cert_text.specs.Rules.{Expected, Frame, frame, behind_budget, before_arcs, Form, Ratio, Budget, SystemLine, Base, Point, Letters, ArcCount, NextArc, PairCount, NextPair, NextRow, Tail, Second, Move, Values, Last, End, admit, before_pairs, cert_rules, reading_as}
use Rattle.cert_text.specs.BeforePairs.{lines_before, SomeBegins, BeginsBefore}
use Rattle.cert_text.proofs.FeedLaws.{cert_feed}
use Rattle.cert_text.proofs.ReadBack.{word_was, count_was, point_was, system_was, signals_were, arc_was}
use Rattle.cert_text.proofs.Completed.{Fit, IsRatio, IsBudget, IsSystemOf, IsWholePoint, AreSignalsOf, Head, signals_of_head, any_head, AreBegun, none_begun, one_more, filled, pairs_of, cert_of, cert_whole, cert_of_version}

-- ---- the lines that are admitted before a text is refused

pub record Admitted {S F : Type 0} (rules : Rules S F) (Held : S → List (List ℕ) → Type 0) (Fine : List ℕ → Type 0) (s : S) (n : ℕ) (lines : List (List ℕ)) (at : At) : Type 0 where
  pub taken : List (List ℕ)
  pub rest : List (List ℕ)
  pub split : lines ≡ taken ++ rest
  pub numbered : at.line ≡ n + length taken + 1
  pub last : S
  pub held : (front : List (List ℕ)) → Held s front → All Fine taken → Held last (front ++ taken)

pub admitted_lines : {S F : Type 0} (rules : Rules S F) (Held : S → List (List ℕ) → Type 0) (Fine : List ℕ → Type 0)
    → ((s next : S) (front : List (List ℕ)) (line : List ℕ) → Held s front → Fine line → rules.admit s line ≡ Ok next → Held next (front ++ line ∷ []))
    → (s : S) (n : ℕ) (lines : List (List ℕ)) (at : At) → walk rules lines n s ≡ Err at → Admitted rules Held Fine s n lines at
unfolding walk
admitted_lines rules Held Fine keeps s n [] at e =
    let number = at_line-number (n + 1) (rules.finish s) at e in
    record { taken = []; rest = []; split = refl; numbered = omega (arith, number); last = s; held = λ front holds fine. subst (Held s) (sym (append-nil front)) holds }
admitted_lines {S} {F} rules Held Fine keeps s n (line ∷ lines) at e = by_first (λ next. admitted_lines rules Held Fine keeps next (n + 1) lines at) (admitted rules s line) refl e
  where
    by_first : ((next : S) → walk rules lines (n + 1) next ≡ Err at → Admitted rules Held Fine next (n + 1) lines at) → (r : Result S Flaw) → admitted rules s line ≡ r
        → and_then (at_line (n + 1) r) (λ next. walk rules lines (n + 1) next) ≡ Err at → Admitted rules Held Fine s n (line ∷ lines) at
    by_first again (Err flaw) is gives =
        let same : place (n + 1) flaw.column flaw.what ≡ at = cc (gives) in
        let number = ap (λ (a : At). a.line) same in
        record { taken = []; rest = line ∷ lines; split = refl; numbered = omega (arith, number); last = s; held = λ front holds fine. subst (Held s) (sym (append-nil front)) holds }
    by_first again (Ok next) is gives =
        let later = again next gives in
        let number = later.numbered in
        record {
          taken = line ∷ later.taken;
          rest = later.rest;
          split = ap (λ (l : List (List ℕ)). line ∷ l) later.split;
          numbered = omega (arith, number);
          last = later.last;
          held = λ front holds fine.
              let one = keeps s next front line holds (All-head Fine line later.taken fine) (admitted_short rules s next line is) in
              subst (Held later.last) (append_assoc front (line ∷ []) later.taken) (later.held (front ++ line ∷ []) one (All-tail Fine line later.taken fine));
        }

-- ---- a certificate that begins with some lines

pub record IsBegunBy (version : Version) (front : List (List ℕ)) : Type 0 where
  pub cert : Cert
  pub whole : IsWhole cert
  pub of_version : IsOfVersion version cert
  pub more : List (List ℕ)
  pub split : lines_of_cert version cert ≡ front ++ more

-- so it begins with fewer
fewer_lines : (version : Version) (front behind : List (List ℕ)) → IsBegunBy version (front ++ behind) → IsBegunBy version front
fewer_lines version front behind begun = record {
  cert = begun.cert;
  whole = begun.whole;
  of_version = begun.of_version;
  more = behind ++ begun.more;
  split = begun.split ∙ append_assoc front behind begun.more;
}

abbrev head_of : {version : Version} → Head version → List (List ℕ)
head_of {version} h = head_lines version h.ratio.value h.budget.value h.system.value h.base.value h.point.value h.signals.value

-- the lines of a head, and of its arcs up to one
abbrev arcs_front : {version : Version} → Head version → ℕ → List Arc → List (List ℕ)
arcs_front h left arcs = head_of h ++ count_line (codes "arcs") (length arcs + left) ∷ arc_lines (signals_of_head h) arcs

pub arc_lines-append : (ss : List ℕ) (xs ys : List Arc) → arc_lines ss (xs ++ ys) ≡ arc_lines ss xs ++ arc_lines ss ys
arc_lines-append ss [] ys = refl
arc_lines-append ss (x ∷ xs) ys = ap (λ (l : List (List ℕ)). arc_line ss x ∷ l) (arc_lines-append ss xs ys)

pub regroup : {X : Type 0} (a b c d f : List X) → (a ++ ((b ++ c) ++ d)) ++ f ≡ (a ++ b) ++ (c ++ (d ++ f))
regroup {X} a b c d f =
    append_assoc a ((b ++ c) ++ d) f ∙ ap (λ (l : List X). a ++ l) (append_assoc (b ++ c) d f ∙ append_assoc b c (d ++ f)) ∙ sym (append_assoc a b (c ++ (d ++ f)))

arcs_begun : (version : Version) (h : Head version) (left : ℕ) (arcs : List Arc) → AreBegun version (signals_of_head h) left arcs → IsBegunBy version (arcs_front h left arcs)
arcs_begun version h left arcs begun =
    let head_signals = signals_of_head h in
    let completed = filled version head_signals left arcs begun in
    let whole_cert = cert_of h (arcs ++ completed.more) completed.whole in
    let pairs = counted_pairs head_signals (pairs_of version head_signals (arcs ++ completed.more) completed.whole) in
    let tail = tail_lines whole_cert.tail in
    let count : length (arcs ++ completed.more) ≡ length arcs + left = length-append arcs completed.more ∙ ap (λ (n : ℕ). length arcs + n) completed.count in
    let lines : counted_arcs head_signals (arcs ++ completed.more) ≡ (count_line (codes "arcs") (length arcs + left) ∷ arc_lines head_signals arcs) ++ arc_lines head_signals completed.more =
    λ i. count_line (codes "arcs") (count i) ∷ arc_lines-append head_signals arcs completed.more i in
    record {
      cert = whole_cert;
      whole = cert_whole h (arcs ++ completed.more) completed.whole;
      of_version = cert_of_version h (arcs ++ completed.more) completed.whole;
      more = arc_lines head_signals completed.more ++ (pairs ++ tail);
      split = ap (λ (l : List (List ℕ)). (head_of h ++ (l ++ pairs)) ++ tail) lines
          ∙ regroup (head_of h) (count_line (codes "arcs") (length arcs + left) ∷ arc_lines head_signals arcs) (arc_lines head_signals completed.more) pairs tail;
    }

-- a head alone
whole_head : (version : Version) (h : Head version) → IsBegunBy version (head_of h)
whole_head version h =
    fewer_lines version (head_of h) (count_line (codes "arcs") 2 ∷ []) (arcs_begun version h 2 [] (none_begun version (signals_of_head h) 2 (omega arith) (omega arith)))

-- the three lines before that of the system, and those from it on
abbrev three_lines : {version : Version} → Head version → List (List ℕ)
three_lines {version} h = form_line version ∷ count_line (codes "ratio") h.ratio.value ∷ count_line (codes "budget") h.budget.value ∷ []

abbrev base_of : {version : Version} → Head version → List ℕ
base_of h = vector_line (codes "base") h.base.value

abbrev point_of : {version : Version} → Head version → List ℕ
point_of h = vector_line (codes "point") h.point.value

abbrev letters_of : {version : Version} → Head version → List ℕ
letters_of {version} h = signals_line version h.signals.value.l1 h.signals.value.l2 h.signals.value.l5

abbrev system_of : {version : Version} → Head version → List (List ℕ)
system_of {version} h = system_lines version h.system.value

-- a part of the head
part_of_head : (version : Version) (h : Head version) (front behind : List (List ℕ)) → front ++ behind ≡ system_of h ++ base_of h ∷ point_of h ∷ letters_of h ∷ []
    → IsBegunBy version (three_lines h ++ front)
part_of_head version h front behind are =
    fewer_lines version (three_lines h ++ front) behind (subst (IsBegunBy version) (ap (λ (l : List (List ℕ)). three_lines h ++ l) (sym are)) (whole_head version h))

-- ---- what was read, where something is expected

record HeldArcs (f : Frame) (left : ℕ) (arcs : List Arc) (front : List (List ℕ)) : Type 0 where
  pub head : Head f.version
  pub signals : f.signals ≡ signals_of_head head
  pub begun : AreBegun f.version (signals_of_head head) left arcs
  pub are : front ≡ arcs_front head left arcs

record HeldHead (version : Version) (front : List (List ℕ)) (lines : Head version → List (List ℕ)) : Type 0 where
  pub head : Head version
  pub are : front ≡ lines head

abbrev Held : Expected → List (List ℕ) → Type 0
Held (Form v) front = front ≡ []
Held (Ratio v) front = front ≡ form_line v ∷ []
Held (Budget v) front = HeldHead v front (λ h. form_line v ∷ count_line (codes "ratio") h.ratio.value ∷ [])
Held (SystemLine budget) front = HeldHead Two front (λ h. three_lines h)
Held (Base v budget) front = HeldHead v front (λ h. three_lines h ++ system_of h)
Held (Point v budget) front = HeldHead v front (λ h. three_lines h ++ (system_of h ++ base_of h ∷ []))
Held (Letters v budget) front = HeldHead v front (λ h. three_lines h ++ (system_of h ++ base_of h ∷ point_of h ∷ []))
Held (ArcCount f) front = (h : Head f.version) × (f.signals ≡ signals_of_head h) × (front ≡ head_of h)
Held (NextArc f left arcs) front = (1 ≤ left) × HeldArcs f left arcs front
Held (PairCount f arcs) front = HeldArcs f 0 arcs front
Held other front = ⊥

abbrev version_of : Expected → Version
version_of (Form v) = v
version_of (Ratio v) = v
version_of (Budget v) = v
version_of (SystemLine budget) = Two
version_of (Base v budget) = v
version_of (Point v budget) = v
version_of (Letters v budget) = v
version_of (ArcCount f) = f.version
version_of (NextArc f left arcs) = f.version
version_of (PairCount f arcs) = f.version
version_of other = Two

-- with the version of the text
abbrev HeldOf : Version → Expected → List (List ℕ) → Type 0
HeldOf version s front = (version_of s ≡ version) × Held s front

held_begins : (s : Expected) (front : List (List ℕ)) → Held s front → IsBegunBy (version_of s) front
held_begins (Form v) front are = subst (IsBegunBy v) (sym are) (fewer_lines v [] (head_of (any_head v)) (whole_head v (any_head v)))
held_begins (Ratio v) front are =
    let held_head = any_head v in
    subst (IsBegunBy v) (sym are) (fewer_lines v (form_line v ∷ []) (count_line (codes "ratio") held_head.ratio.value ∷ count_line (codes "budget") held_head.budget.value ∷ [])
    (part_of_head v held_head [] (system_of held_head ++ base_of held_head ∷ point_of held_head ∷ letters_of held_head ∷ []) refl))
held_begins (Budget v) front held =
    let held_head = held.head in
    subst (IsBegunBy v) (sym held.are) (fewer_lines v (form_line v ∷ count_line (codes "ratio") held_head.ratio.value ∷ []) (count_line (codes "budget") held_head.budget.value ∷ [])
    (part_of_head v held_head [] (system_of held_head ++ base_of held_head ∷ point_of held_head ∷ letters_of held_head ∷ []) refl))
held_begins (SystemLine budget) front held =
    let held_head = held.head in
    subst (IsBegunBy Two) (sym held.are) (part_of_head Two held_head [] (system_of held_head ++ base_of held_head ∷ point_of held_head ∷ letters_of held_head ∷ []) refl)
held_begins (Base v budget) front held =
    let held_head = held.head in
    subst (IsBegunBy v) (sym held.are) (part_of_head v held_head (system_of held_head) (base_of held_head ∷ point_of held_head ∷ letters_of held_head ∷ []) refl)
held_begins (Point v budget) front held =
    let held_head = held.head in
    subst (IsBegunBy v) (sym held.are) (part_of_head v held_head (system_of held_head ++ base_of held_head ∷ []) (point_of held_head ∷ letters_of held_head ∷ []) (append_assoc (system_of held_head) (base_of held_head ∷ []) (point_of held_head ∷ letters_of held_head ∷ [])))
held_begins (Letters v budget) front held =
    let held_head = held.head in
    subst (IsBegunBy v) (sym held.are) (part_of_head v held_head (system_of held_head ++ base_of held_head ∷ point_of held_head ∷ []) (letters_of held_head ∷ []) (append_assoc (system_of held_head) (base_of held_head ∷ point_of held_head ∷ []) (letters_of held_head ∷ [])))
held_begins (ArcCount f) front held = subst (IsBegunBy f.version) (sym held.2) (whole_head f.version held.0)
held_begins (NextArc f left arcs) front held = let first_arc = held.1 in subst (IsBegunBy f.version) (sym first_arc.are) (arcs_begun f.version first_arc.head left arcs first_arc.begun)
held_begins (PairCount f arcs) front held = subst (IsBegunBy f.version) (sym held.are) (arcs_begun f.version held.head 0 arcs held.begun)
held_begins (NextPair f arcs left least) front held = absurd held
held_begins (NextRow f arcs pairs number left least) front held = absurd held
held_begins (Tail f arcs) front held = absurd held
held_begins (Second n) front held = absurd held
held_begins Move front held = absurd held
held_begins Values front held = absurd held
held_begins Last front held = absurd held
held_begins End front held = absurd held

-- ---- one more line

-- by what the line gives
by_line : {X : Type 0} (version : Version) (front : List (List ℕ)) (form : Result X Flaw) (behind : X → Expected) (next : Expected) → and_then form (λ x. Ok (behind x)) ≡ Ok next
    → ((x : X) → form ≡ Ok x → HeldOf version (behind x) front) → HeldOf version next front
by_line version front form behind next e each = then_holds (λ (s : Expected). HeldOf version s front) form behind next each e

abbrev pub with_ratio : {version : Version} → Head version → Fit IsRatio → Head version
with_ratio h x = record { ratio = x; budget = h.budget; system = h.system; base = h.base; point = h.point; signals = h.signals }

abbrev pub with_budget : {version : Version} → Head version → Fit IsBudget → Head version
with_budget h x = record { ratio = h.ratio; budget = x; system = h.system; base = h.base; point = h.point; signals = h.signals }

abbrev pub with_system : {version : Version} → Head version → Fit (IsSystemOf version) → Head version
with_system h x = record { ratio = h.ratio; budget = h.budget; system = x; base = h.base; point = h.point; signals = h.signals }

abbrev pub with_base : {version : Version} → Head version → Fit IsWholePoint → Head version
with_base h x = record { ratio = h.ratio; budget = h.budget; system = h.system; base = x; point = h.point; signals = h.signals }

abbrev with_point : {version : Version} → Head version → Fit IsWholePoint → Head version
with_point h x = record { ratio = h.ratio; budget = h.budget; system = h.system; base = h.base; point = x; signals = h.signals }

abbrev pub with_signals : {version : Version} → Head version → Fit (AreSignalsOf version) → Head version
with_signals h x = record { ratio = h.ratio; budget = h.budget; system = h.system; base = h.base; point = h.point; signals = x }

-- the lines before it and the line
pub pushed : (front front' : List (List ℕ)) (line line' : List ℕ) → front ≡ front' → line ≡ line' → front ++ line ∷ [] ≡ front' ++ line' ∷ []
pushed front front' line line' e l = λ i. e i ++ l i ∷ []

behind_three : (v : Version) (budget : ℕ) (front : List (List ℕ)) → HeldHead v front (λ h. three_lines h) → HeldOf v (behind_budget v budget) front
behind_three One budget front held = (refl, held)
behind_three Two budget front held = (refl, held)

arcs_next : (f : Frame) (left : ℕ) (arcs : List Arc) (front : List (List ℕ)) → HeldArcs f left arcs front → HeldOf f.version (before_arcs f left arcs) front
arcs_next f zero arcs front held = (refl, held)
arcs_next f (suc left) arcs front held = (refl, (omega arith, held))

arc_step : (f : Frame) (left : ℕ) (arcs : List Arc) (front : List (List ℕ)) (line : List ℕ) (a : Arc) → 1 ≤ left → HeldArcs f left arcs front → arc_in f.version f.signals (free_count arcs) left line ≡ Ok a
    → HeldArcs f (left - 1) (arcs ++ a ∷ []) (front ++ line ∷ [])
arc_step f left arcs front line a some held is =
    let held_head = held.head in
    let spelled_signals = held_head.signals.value in
    let head_signals = signals_of_head held_head in
    let read = arc_was f.version spelled_signals.l2 spelled_signals.l5 (free_count arcs) left line a (ap (λ (l : List ℕ). arc_in f.version l (free_count arcs) left line) (sym held.signals) ∙ is) in
    let sizes = length-append arcs (a ∷ []) in
    let count : length arcs + left ≡ length (arcs ++ a ∷ []) + (left - 1) = omega (arith, sizes, some) in
    let own : arc_lines head_signals arcs ++ arc_line head_signals a ∷ [] ≡ arc_lines head_signals (arcs ++ a ∷ []) = arcs_took head_signals arcs a [] ∙ append-nil (arc_lines head_signals (arcs ++ a ∷ [])) in
    record {
      head = held_head;
      signals = held.signals;
      begun = one_more f.version head_signals left arcs a some held.begun read.of_version read.stands;
      are = pushed front (arcs_front held_head left arcs) line (arc_line head_signals a) held.are read.line_is
          ∙ append_assoc (head_of held_head) (count_line (codes "arcs") (length arcs + left) ∷ arc_lines head_signals arcs) (arc_line head_signals a ∷ [])
          ∙ (λ i. head_of held_head ++ count_line (codes "arcs") (count i) ∷ own i);
    }

-- what stands after the word is read
pub pairs_begins : (n : ℕ) (line : List ℕ) → line ≡ count_line (codes "pairs") n → begins (codes "pairs") line ≡ true
pairs_begins n line is = ap (λ (l : List ℕ). begins (codes "pairs") l) is

abbrev pub IsOtherLine : List ℕ → Type 0
IsOtherLine line = begins (codes "pairs") line ≡ false

next_held : (s next : Expected) (front : List (List ℕ)) (line : List ℕ) → Held s front → IsOtherLine line → admit s line ≡ Ok next → HeldOf (version_of s) next (front ++ line ∷ [])
next_held (Form v) next front line are other e =
    by_line v (front ++ line ∷ []) (word_in (form_line v) line) (λ u. Ratio v) next e (λ u is. (refl, pushed front [] line (form_line v) are (word_was (form_line v) line u is)))
next_held (Ratio v) next front line are other e =
    by_line v (front ++ line ∷ []) (count_in (codes "ratio") 1000 MOST_RATIO line) (λ n. Budget v) next e (λ n is.
    let read = count_was (codes "ratio") 1000 MOST_RATIO line n (omega arith) is in
    (refl, record { head = with_ratio (any_head v) (record { value = n; is = (read.from, read.to) }); are = pushed front (form_line v ∷ []) line (count_line (codes "ratio") n) are read.line_is }))
next_held (Budget v) next front line held other e =
    by_line v (front ++ line ∷ []) (count_in (codes "budget") 1 MOST_BUDGET line) (behind_budget v) next e (λ n is.
    let read = count_was (codes "budget") 1 MOST_BUDGET line n (omega arith) is in
    let held_head = held.head in
    behind_three v n (front ++ line ∷ []) (record {
      head = with_budget held_head (record { value = n; is = (read.from, read.to) });
      are = pushed front (form_line v ∷ count_line (codes "ratio") held_head.ratio.value ∷ []) line (count_line (codes "budget") n) held.are read.line_is;
    }))
next_held (SystemLine budget) next front line held other e =
    by_line Two (front ++ line ∷ []) (system_in line) (λ s. Base Two budget) next e (λ s is.
    let read = system_was line s is in
    let held_head = held.head in
    (refl, record { head = with_system held_head (record { value = s; is = (read.1, λ old. absurd (not_one old)) }); are = pushed front (three_lines held_head) line (system_line s) held.are read.0 }))
next_held (Base v budget) next front line held other e =
    by_line v (front ++ line ∷ []) (vector_in (codes "base") 3 COORDINATES line) (λ p. Point v budget) next e (λ p is.
    let read = point_was (codes "base") line p is in
    let held_head = held.head in (
      refl,
      record {
        head = with_base held_head (record { value = p; is = (read.point, read.three) });
        are = pushed front (three_lines held_head ++ system_of held_head) line (vector_line (codes "base") p) held.are read.line_is ∙ append_assoc (three_lines held_head) (system_of held_head) (vector_line (codes "base") p ∷ []);
      },
    ))
next_held (Point v budget) next front line held other e =
    by_line v (front ++ line ∷ []) (vector_in (codes "point") 3 COORDINATES line) (λ p. Letters v budget) next e (λ p is.
    let read = point_was (codes "point") line p is in
    let held_head = held.head in
    let own = vector_line (codes "point") p in (
      refl,
      record {
        head = with_point held_head (record { value = p; is = (read.point, read.three) });
        are = pushed front (three_lines held_head ++ (system_of held_head ++ base_of held_head ∷ [])) line own held.are read.line_is ∙ append_assoc (three_lines held_head) (system_of held_head ++ base_of held_head ∷ []) (own ∷ [])
            ∙ ap (λ (l : List (List ℕ)). three_lines held_head ++ l) (append_assoc (system_of held_head) (base_of held_head ∷ []) (own ∷ []));
      },
    ))
next_held (Letters v budget) next front line held other e =
    by_line v (front ++ line ∷ []) (signals_in v line) (λ (l : LettersOf). ArcCount (frame v budget (signals_of l))) next e (λ l is.
    let read = signals_were v line l is in
    let held_head = held.head in
    let signals = read.signals in
    let own = signals_line v signals.l1 signals.l2 signals.l5 in (
      refl,
      (
        with_signals held_head (record { value = signals; is = read.old }),
        ap (λ (x : LettersOf). signals_of x) (sym read.same),
        pushed front (three_lines held_head ++ (system_of held_head ++ base_of held_head ∷ point_of held_head ∷ [])) line own held.are read.line_is
            ∙ append_assoc (three_lines held_head) (system_of held_head ++ base_of held_head ∷ point_of held_head ∷ []) (own ∷ [])
            ∙ ap (λ (l : List (List ℕ)). three_lines held_head ++ l) (append_assoc (system_of held_head) (base_of held_head ∷ point_of held_head ∷ []) (own ∷ [])),
      ),
    ))
next_held (ArcCount f) next front line held other e =
    by_line f.version (front ++ line ∷ []) (count_in (codes "arcs") 2 MOST_ARCS line) (λ n. before_arcs f n []) next e (λ n is.
    let read = count_was (codes "arcs") 2 MOST_ARCS line n (omega arith) is in
    let first_arc = held.0 in
    let none : n ≡ 0 + n = omega arith in
    arcs_next f n [] (front ++ line ∷ []) (record {
      head = first_arc;
      signals = held.1;
      begun = none_begun f.version (signals_of_head first_arc) n read.from read.to;
      are = pushed front (head_of first_arc) line (count_line (codes "arcs") n) held.2 read.line_is ∙ ap (λ (k : ℕ). head_of first_arc ++ count_line (codes "arcs") k ∷ []) none;
    }))
next_held (NextArc f left arcs) next front line held other e =
    by_line f.version (front ++ line ∷ []) (arc_in f.version f.signals (free_count arcs) left line) (λ (a : Arc). before_arcs f (left - 1) (arcs ++ a ∷ [])) next e (λ a is.
    arcs_next f (left - 1) (arcs ++ a ∷ []) (front ++ line ∷ []) (arc_step f left arcs front line a held.0 held.1 is))
next_held (PairCount f arcs) next front line held other e =
    by_line f.version (front ++ line ∷ []) (count_in (codes "pairs") 1 MOST_PAIRS line) (λ n. before_pairs f arcs n 0) next e (λ n is.
    let read = count_was (codes "pairs") 1 MOST_PAIRS line n (omega arith) is in
    absurd (cc (pairs_begins n line read.line_is, other)))
next_held (NextPair f arcs left least) next front line held other e = absurd held
next_held (NextRow f arcs pairs number left least) next front line held other e = absurd held
next_held (Tail f arcs) next front line held other e = absurd held
next_held (Second n) next front line held other e = absurd held
next_held Move next front line held other e = absurd held
next_held Values next front line held other e = absurd held
next_held Last next front line held other e = absurd held
next_held End next front line held other e = absurd held

held_on : (version : Version) (s next : Expected) (front : List (List ℕ)) (line : List ℕ) → HeldOf version s front → IsOtherLine line → admit s line ≡ Ok next → HeldOf version next (front ++ line ∷ [])
held_on version s next front line held other e =
    let one = next_held s next front line held.1 other e in
    (one.0 ∙ held.0, one.1)

-- ---- the text

text_begins : (version : Version) (front : List (List ℕ)) → IsBegunBy version front → SomeBegins (IsCertificateAs version) front
unfolding spelling_as
text_begins version front begun = record {
  other = spelling_as version begun.cert;
  is = record { cert = begun.cert; whole = begun.whole; of_version = begun.of_version; spelled = refl };
  more = begun.more;
  split = lines_of_text (lines_of_cert version begun.cert) (cert_feed version begun.cert begun.of_version.bands) ∙ begun.split;
}

refused_begins : (version : Version) (text : List ℕ) (at : At) → reading_as version text ≡ Err at → BeginsBefore (IsCertificateAs version) text at.line
refused_begins version text at e = λ others.
    let stop = admitted_lines cert_rules (HeldOf version) IsOtherLine (held_on version) (Form version) 0 (ended_lines text) at e in
    let number = stop.numbered in
    let before : at.line - 1 ≡ length stop.taken = omega (arith, number) in
    let taken : lines_before text at.line ≡ stop.taken = (λ i. take (before i) (stop.split i)) ∙ take_at stop.taken stop.rest (length stop.taken) refl in
    let held = stop.held [] (refl, refl) (subst (All IsOtherLine) taken others) in
    let begun = subst (λ (v : Version). IsBegunBy v stop.taken) held.0 (held_begins stop.last stop.taken held.1) in
    subst (SomeBegins (IsCertificateAs version)) (sym taken) (text_begins version stop.taken begun)

-- up to the line `pairs` some certificate begins with the lines before the place of a refusal
pub first_text : {X : Type 0} (version : Version) (text : List ℕ) (view : X → Unit {0}) (r : Result X TextFault) → Gives (reading_as version text) view r
    → IfRefused r (λ at. BeginsBefore (IsCertificateAs version) text at.line)
first_text version text view (Ok x) given = tt
first_text version text view (Err (Refused at)) given = refused_begins version text at given
first_text version text view (Err NoMemory) given = tt

-- the same of a form whose texts are all of another
pub begins_as : (IsText IsOther : List ℕ → Type 0) → ((text : List ℕ) → IsText text → IsOther text) → (text : List ℕ) (number : ℕ) → BeginsBefore IsText text number → BeginsBefore IsOther text number
begins_as IsText IsOther each text number begins = λ others.
    let some = begins others in
    record { other = some.other; is = each some.other some.is; more = some.more; split = some.split }
