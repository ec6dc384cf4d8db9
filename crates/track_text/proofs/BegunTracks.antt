-- Up to the line `pairs` the lines that the rules admit are the first of the certificate of some track.
use Rattle.std.proofs.Common.{◌≡◌, ◌+◌, ◌-◌, ◌≤◌, ℕ, ℤ, zero, suc, List, [], ◌∷◌, ◌++◌, length, take, codes, All, Result, Ok, Err, refl, sym, ap, ◌∙◌, subst, arith, length-append, append_assoc}
use Rattle.std.proofs.lemmas.List.{append-nil, take_at}
use Rattle.integer_form.specs.declared.faults.Place.TheVariants.{Y}
use Rattle.obs_rows.specs.declared.arcs.Arc.{Arc}
use Rattle.obs_rows.specs.Ranges.{IsPoint}
use Rattle.obs_rows.specs.Arcs.{free_count}
use Rattle.obs_rows.specs.declared.limits.TheConstants.{MOST_PAIRS, MOST_RATIO, MOST_BUDGET, MOST_ARCS}
use Rattle.rinex_head.specs.declared.place.Flaw.{Flaw}
use Rattle.rinex_head.specs.declared.place.At.{At}
use Rattle.rinex_head.specs.declared.place.TextFault.{TextFault}
use Rattle.rinex_head.specs.declared.place.TextFault.TheVariants.{Refused, NoMemory}
use Rattle.rinex_head.specs.Places.{and_then}
use Rattle.rinex_head.specs.LineRules.{Gives, IfRefused}
use Rattle.rinex_head.proofs.TakenLines.{then_holds}
use Rattle.line_source.specs.EndedLines.{ended_lines}
use Rattle.cert_words.proofs.TextLaws.{lines_of_text}
use Rattle.cert_lines.specs.declared.ranges.TheConstants.{COORDINATES}
use Rattle.cert_lines.specs.declared.version.Version.TheVariants.{Two}
use Rattle.cert_lines.specs.Lines.{count_line, vector_line, system_line, signals_line, arc_line, arc_lines, counted_arcs}
use Rattle.cert_lines.specs.Forms.{count_in, vector_in, system_in, Letters as LettersOf, signals_in, signals_of, arc_in}
use Rattle.cert_lines.proofs.LetterLaws.{not_one}
use Rattle.cert_text.specs.LineParts.{word_in}
use Rattle.cert_text.proofs.ArcSteps.{arcs_took}
use Rattle.cert_data.specs.declared.certs.Cert.{Cert}
use Rattle.cert_text.specs.BeforePairs.{lines_before, SomeBegins, BeginsBefore}
use Rattle.cert_text.proofs.ReadBack.{word_was, count_was, point_was, system_was, signals_were, arc_was}
use Rattle.cert_text.proofs.Completed.{Head, signals_of_head, any_head, AreBegun, none_begun, one_more, filled, All-one, cert_of, cert_whole}
use Rattle.cert_text.proofs.BegunCertificates.{admitted_lines, arc_lines-append, regroup, pushed, pairs_begins, with_ratio, with_budget, with_system, with_base, with_signals, IsOtherLine}
use Rattle.track_data.specs.declared.tracks.Track.{Track}
use Rattle.track_data.specs.declared.certs.TrackCert.{TrackCert}
use Rattle.track_data.specs.declared.tails.TrackTail.TheVariants.{Overwidth}
use Rattle.track_text.specs.Spelling.{track_form, counted_placed_pairs, track_tail_lines, lines_of_track, track_spelling}
use Rattle.track_text.specs.Lengths.{IsWholeTrackCert, IsTrackCertificate}
use Rattle.track_text.specs.Rules.{Expected, Frame, frame, Form, Ratio, Budget, SystemLine, Base, Letters, ArcCount, NextArc, PairCount, NextPair, PairPoint, NextRow, Tail, Second, NextMove, Values, Last, End}
use Rattle.track_text.specs.Rules.{before_arcs, before_pairs, admit, track_rules, track_reading}
use Rattle.track_text.proofs.Feeds.{track_feed}

-- ---- a certificate for each head and each beginning of a list of arcs

-- what a session's certificate says in its head: the track's pair has its point
abbrev TrackHead : Type 0
TrackHead = Head Two

-- the arcs and the pair of the session's certificate
abbrev session_cert : (h : TrackHead) (arcs : List Arc) → AreBegun Two (signals_of_head h) 0 arcs → Cert
session_cert h arcs begun = cert_of h arcs begun

abbrev points_of : TrackHead → List (List ℤ)
points_of h = h.point.value ∷ []

abbrev track_of : (h : TrackHead) (arcs : List Arc) → AreBegun Two (signals_of_head h) 0 arcs → Track
track_of h arcs begun =
    let session = (session_cert h arcs begun).session in
    record {
      system = h.system.value;
      base = h.base.value;
      signals = h.signals.value;
      arcs = arcs;
      points = points_of h;
      pairs = session.pairs;
      system_is = h.system.is.0;
      base_in = h.base.is.0;
      arcs_in = session.arcs_in;
      points_in = All-one IsPoint h.point.value h.point.is.0;
      point_each = refl;
      pairs_in = session.pairs_in;
      rows_used = session.rows_used;
      shifts_used = session.shifts_used;
    }

abbrev track_cert : (h : TrackHead) (arcs : List Arc) → AreBegun Two (signals_of_head h) 0 arcs → TrackCert
track_cert h arcs begun = record {
  ratio = h.ratio.value;
  budget = h.budget.value;
  track = track_of h arcs begun;
  tail = Overwidth Y;
  ratio_from = h.ratio.is.0;
  ratio_to = h.ratio.is.1;
  budget_from = h.budget.is.0;
  budget_to = h.budget.is.1;
  some_pairs = (session_cert h arcs begun).session.some_pairs;
  tail_fits = tt;
}

track_whole : (h : TrackHead) (arcs : List Arc) (begun : AreBegun Two (signals_of_head h) 0 arcs) → IsWholeTrackCert (track_cert h arcs begun)
track_whole h arcs begun =
    let whole = (cert_whole h arcs begun).session in
    record {
      track = record {
        base = h.base.is.1;
        arcs = whole.arcs;
        points = All-one (λ (m : List ℤ). length m ≡ 3) h.point.value h.point.is.1;
        pairs = whole.pairs;
      };
      tail = tt;
    }

-- ---- a certificate that begins with some lines

record IsBegunBy (front : List (List ℕ)) : Type 0 where
  pub cert : TrackCert
  pub whole : IsWholeTrackCert cert
  pub more : List (List ℕ)
  pub split : lines_of_track cert ≡ front ++ more

-- so it begins with fewer
fewer_lines : (front behind : List (List ℕ)) → IsBegunBy (front ++ behind) → IsBegunBy front
fewer_lines front behind begun = record { cert = begun.cert; whole = begun.whole; more = behind ++ begun.more; split = begun.split ∙ append_assoc front behind begun.more }

-- the lines of a head, one by one
abbrev ratio_of : TrackHead → List ℕ
ratio_of h = count_line (codes "ratio") h.ratio.value

abbrev budget_of : TrackHead → List ℕ
budget_of h = count_line (codes "budget") h.budget.value

abbrev system_of : TrackHead → List ℕ
system_of h = system_line h.system.value

abbrev base_of : TrackHead → List ℕ
base_of h = vector_line (codes "base") h.base.value

abbrev letters_of : TrackHead → List ℕ
letters_of h = signals_line Two h.signals.value.l1 h.signals.value.l2 h.signals.value.l5

abbrev head_of : TrackHead → List (List ℕ)
head_of h = track_form ∷ ratio_of h ∷ budget_of h ∷ system_of h ∷ base_of h ∷ letters_of h ∷ []

-- with those of its arcs up to one
abbrev arcs_front : TrackHead → ℕ → List Arc → List (List ℕ)
arcs_front h left arcs = head_of h ++ count_line (codes "arcs") (length arcs + left) ∷ arc_lines (signals_of_head h) arcs

arcs_begun : (h : TrackHead) (left : ℕ) (arcs : List Arc) → AreBegun Two (signals_of_head h) left arcs → IsBegunBy (arcs_front h left arcs)
arcs_begun h left arcs begun =
    let head_signals = signals_of_head h in
    let f = filled Two head_signals left arcs begun in
    let made_cert = track_cert h (arcs ++ f.more) f.whole in
    let pairs = counted_placed_pairs head_signals made_cert.track.pairs (points_of h) in
    let tail = track_tail_lines made_cert.track.pairs made_cert.tail in
    let count : length (arcs ++ f.more) ≡ length arcs + left = length-append arcs f.more ∙ ap (λ (n : ℕ). length arcs + n) f.count in
    let lines : counted_arcs head_signals (arcs ++ f.more) ≡ (count_line (codes "arcs") (length arcs + left) ∷ arc_lines head_signals arcs) ++ arc_lines head_signals f.more =
    λ i. count_line (codes "arcs") (count i) ∷ arc_lines-append head_signals arcs f.more i in
    record {
      cert = made_cert;
      whole = track_whole h (arcs ++ f.more) f.whole;
      more = arc_lines head_signals f.more ++ (pairs ++ tail);
      split = ap (λ (l : List (List ℕ)). (head_of h ++ (l ++ pairs)) ++ tail) lines
          ∙ regroup (head_of h) (count_line (codes "arcs") (length arcs + left) ∷ arc_lines head_signals arcs) (arc_lines head_signals f.more) pairs tail;
    }

-- a head alone
whole_head : (h : TrackHead) → IsBegunBy (head_of h)
whole_head h = fewer_lines (head_of h) (count_line (codes "arcs") 2 ∷ []) (arcs_begun h 2 [] (none_begun Two (signals_of_head h) 2 (omega arith) (omega arith)))

-- ---- what was read, where something is expected

record HeldArcs (f : Frame) (left : ℕ) (arcs : List Arc) (front : List (List ℕ)) : Type 0 where
  pub head : TrackHead
  pub signals : f.signals ≡ signals_of_head head
  pub begun : AreBegun Two (signals_of_head head) left arcs
  pub are : front ≡ arcs_front head left arcs

record HeldHead (front : List (List ℕ)) (lines : TrackHead → List (List ℕ)) : Type 0 where
  pub head : TrackHead
  pub are : front ≡ lines head

abbrev Held : Expected → List (List ℕ) → Type 0
Held Form front = front ≡ []
Held Ratio front = front ≡ track_form ∷ []
Held Budget front = HeldHead front (λ h. track_form ∷ ratio_of h ∷ [])
Held (SystemLine budget) front = HeldHead front (λ h. track_form ∷ ratio_of h ∷ budget_of h ∷ [])
Held (Base budget) front = HeldHead front (λ h. track_form ∷ ratio_of h ∷ budget_of h ∷ system_of h ∷ [])
Held (Letters budget) front = HeldHead front (λ h. track_form ∷ ratio_of h ∷ budget_of h ∷ system_of h ∷ base_of h ∷ [])
Held (ArcCount f) front = (h : TrackHead) × (f.signals ≡ signals_of_head h) × (front ≡ head_of h)
Held (NextArc f left arcs) front = (1 ≤ left) × HeldArcs f left arcs front
Held (PairCount f arcs) front = HeldArcs f 0 arcs front
Held other front = ⊥

-- a part of the head
part_begins : (h : TrackHead) (front part behind : List (List ℕ)) → front ≡ part → part ++ behind ≡ head_of h → IsBegunBy front
part_begins h front part behind are split = subst IsBegunBy (sym are) (fewer_lines part behind (subst IsBegunBy (sym split) (whole_head h)))

held_begins : (s : Expected) (front : List (List ℕ)) → Held s front → IsBegunBy front
held_begins Form front are = let head = any_head Two in part_begins head front [] (head_of head) are refl
held_begins Ratio front are =
    let head = any_head Two in
    part_begins head front (track_form ∷ []) (ratio_of head ∷ budget_of head ∷ system_of head ∷ base_of head ∷ letters_of head ∷ []) are refl
held_begins Budget front held =
    let head = held.head in
    part_begins head front (track_form ∷ ratio_of head ∷ []) (budget_of head ∷ system_of head ∷ base_of head ∷ letters_of head ∷ []) held.are refl
held_begins (SystemLine budget) front held =
    let head = held.head in
    part_begins head front (track_form ∷ ratio_of head ∷ budget_of head ∷ []) (system_of head ∷ base_of head ∷ letters_of head ∷ []) held.are refl
held_begins (Base budget) front held =
    let head = held.head in
    part_begins head front (track_form ∷ ratio_of head ∷ budget_of head ∷ system_of head ∷ []) (base_of head ∷ letters_of head ∷ []) held.are refl
held_begins (Letters budget) front held =
    let head = held.head in
    part_begins head front (track_form ∷ ratio_of head ∷ budget_of head ∷ system_of head ∷ base_of head ∷ []) (letters_of head ∷ []) held.are refl
held_begins (ArcCount f) front held = subst IsBegunBy (sym held.2) (whole_head held.0)
held_begins (NextArc f left arcs) front held = let begun_arcs = held.1 in subst IsBegunBy (sym begun_arcs.are) (arcs_begun begun_arcs.head left arcs begun_arcs.begun)
held_begins (PairCount f arcs) front held = subst IsBegunBy (sym held.are) (arcs_begun held.head 0 arcs held.begun)
held_begins (NextPair f arcs left least numbers) front held = absurd held
held_begins (PairPoint f arcs pairs number count numbers) front held = absurd held
held_begins (NextRow f arcs pairs number left least numbers) front held = absurd held
held_begins (Tail f arcs numbers) front held = absurd held
held_begins (Second n numbers) front held = absurd held
held_begins (NextMove number numbers) front held = absurd held
held_begins Values front held = absurd held
held_begins Last front held = absurd held
held_begins End front held = absurd held

-- ---- one more line

-- by what the line gives
by_line : {X : Type 0} (front : List (List ℕ)) (form : Result X Flaw) (behind : X → Expected) (next : Expected) → and_then form (λ x. Ok (behind x)) ≡ Ok next
    → ((x : X) → form ≡ Ok x → Held (behind x) front) → Held next front
by_line front form behind next e each = then_holds (λ (s : Expected). Held s front) form behind next each e

arcs_next : (f : Frame) (left : ℕ) (arcs : List Arc) (front : List (List ℕ)) → HeldArcs f left arcs front → Held (before_arcs f left arcs) front
arcs_next f zero arcs front held = held
arcs_next f (suc left) arcs front held = (omega arith, held)

arc_step : (f : Frame) (left : ℕ) (arcs : List Arc) (front : List (List ℕ)) (line : List ℕ) (a : Arc) → 1 ≤ left → HeldArcs f left arcs front → arc_in Two f.signals (free_count arcs) left line ≡ Ok a
    → HeldArcs f (left - 1) (arcs ++ a ∷ []) (front ++ line ∷ [])
arc_step f left arcs front line a some held is =
    let held_head = held.head in
    let given_signals = held_head.signals.value in
    let head_signals = signals_of_head held_head in
    let read = arc_was Two given_signals.l2 given_signals.l5 (free_count arcs) left line a (ap (λ (l : List ℕ). arc_in Two l (free_count arcs) left line) (sym held.signals) ∙ is) in
    let sizes = length-append arcs (a ∷ []) in
    let count : length arcs + left ≡ length (arcs ++ a ∷ []) + (left - 1) = omega (arith, sizes, some) in
    let own : arc_lines head_signals arcs ++ arc_line head_signals a ∷ [] ≡ arc_lines head_signals (arcs ++ a ∷ []) = arcs_took head_signals arcs a [] ∙ append-nil (arc_lines head_signals (arcs ++ a ∷ [])) in
    record {
      head = held_head;
      signals = held.signals;
      begun = one_more Two head_signals left arcs a some held.begun read.of_version read.stands;
      are = pushed front (arcs_front held_head left arcs) line (arc_line head_signals a) held.are read.line_is
          ∙ append_assoc (head_of held_head) (count_line (codes "arcs") (length arcs + left) ∷ arc_lines head_signals arcs) (arc_line head_signals a ∷ [])
          ∙ (λ i. head_of held_head ++ count_line (codes "arcs") (count i) ∷ own i);
    }

next_held : (s next : Expected) (front : List (List ℕ)) (line : List ℕ) → Held s front → IsOtherLine line → admit s line ≡ Ok next → Held next (front ++ line ∷ [])
next_held Form next front line are other e =
    by_line (front ++ line ∷ []) (word_in track_form line) (λ u. Ratio) next e (λ u is. pushed front [] line track_form are (word_was track_form line u is))
next_held Ratio next front line are other e =
    by_line (front ++ line ∷ []) (count_in (codes "ratio") 1000 MOST_RATIO line) (λ n. Budget) next e (λ n is.
    let read = count_was (codes "ratio") 1000 MOST_RATIO line n (omega arith) is in
    record {
      head = with_ratio (any_head Two) (record { value = n; is = (read.from, read.to) });
      are = pushed front (track_form ∷ []) line (count_line (codes "ratio") n) are read.line_is;
    })
next_held Budget next front line held other e =
    by_line (front ++ line ∷ []) (count_in (codes "budget") 1 MOST_BUDGET line) (λ n. SystemLine n) next e (λ n is.
    let read = count_was (codes "budget") 1 MOST_BUDGET line n (omega arith) is in
    let held_head = held.head in
    record {
      head = with_budget held_head (record { value = n; is = (read.from, read.to) });
      are = pushed front (track_form ∷ ratio_of held_head ∷ []) line (count_line (codes "budget") n) held.are read.line_is;
    })
next_held (SystemLine budget) next front line held other e =
    by_line (front ++ line ∷ []) (system_in line) (λ s. Base budget) next e (λ s is.
    let read = system_was line s is in
    let held_head = held.head in
    record {
      head = with_system held_head (record { value = s; is = (read.1, λ old. absurd (not_one old)) });
      are = pushed front (track_form ∷ ratio_of held_head ∷ budget_of held_head ∷ []) line (system_line s) held.are read.0;
    })
next_held (Base budget) next front line held other e =
    by_line (front ++ line ∷ []) (vector_in (codes "base") 3 COORDINATES line) (λ p. Letters budget) next e (λ p is.
    let read = point_was (codes "base") line p is in
    let held_head = held.head in
    record {
      head = with_base held_head (record { value = p; is = (read.point, read.three) });
      are = pushed front (track_form ∷ ratio_of held_head ∷ budget_of held_head ∷ system_of held_head ∷ []) line (vector_line (codes "base") p) held.are read.line_is;
    })
next_held (Letters budget) next front line held other e =
    by_line (front ++ line ∷ []) (signals_in Two line) (λ (l : LettersOf). ArcCount (frame budget (signals_of l))) next e (λ l is.
    let read = signals_were Two line l is in
    let head = held.head in
    let signals = read.signals in (
      with_signals head (record { value = signals; is = read.old }),
      ap (λ (x : LettersOf). signals_of x) (sym read.same),
      pushed front (track_form ∷ ratio_of head ∷ budget_of head ∷ system_of head ∷ base_of head ∷ []) line (signals_line Two signals.l1 signals.l2 signals.l5) held.are read.line_is,
    ))
next_held (ArcCount f) next front line held other e =
    by_line (front ++ line ∷ []) (count_in (codes "arcs") 2 MOST_ARCS line) (λ n. before_arcs f n []) next e (λ n is.
    let read = count_was (codes "arcs") 2 MOST_ARCS line n (omega arith) is in
    let held_head = held.0 in
    let none : n ≡ 0 + n = omega arith in
    arcs_next f n [] (front ++ line ∷ []) (record {
      head = held_head;
      signals = held.1;
      begun = none_begun Two (signals_of_head held_head) n read.from read.to;
      are = pushed front (head_of held_head) line (count_line (codes "arcs") n) held.2 read.line_is ∙ ap (λ (k : ℕ). head_of held_head ++ count_line (codes "arcs") k ∷ []) none;
    }))
next_held (NextArc f left arcs) next front line held other e =
    by_line (front ++ line ∷ []) (arc_in Two f.signals (free_count arcs) left line) (λ (a : Arc). before_arcs f (left - 1) (arcs ++ a ∷ [])) next e (λ a is.
    arcs_next f (left - 1) (arcs ++ a ∷ []) (front ++ line ∷ []) (arc_step f left arcs front line a held.0 held.1 is))
next_held (PairCount f arcs) next front line held other e =
    by_line (front ++ line ∷ []) (count_in (codes "pairs") 1 MOST_PAIRS line) (λ n. before_pairs f arcs n 0 []) next e (λ n is.
    let read = count_was (codes "pairs") 1 MOST_PAIRS line n (omega arith) is in
    absurd (cc (pairs_begins n line read.line_is, other)))
next_held (NextPair f arcs left least numbers) next front line held other e = absurd held
next_held (PairPoint f arcs pairs number count numbers) next front line held other e = absurd held
next_held (NextRow f arcs pairs number left least numbers) next front line held other e = absurd held
next_held (Tail f arcs numbers) next front line held other e = absurd held
next_held (Second n numbers) next front line held other e = absurd held
next_held (NextMove number numbers) next front line held other e = absurd held
next_held Values next front line held other e = absurd held
next_held Last next front line held other e = absurd held
next_held End next front line held other e = absurd held

-- ---- the text

text_begins : (front : List (List ℕ)) → IsBegunBy front → SomeBegins IsTrackCertificate front
unfolding track_spelling
text_begins front begun = record {
  other = track_spelling begun.cert;
  is = record { cert = begun.cert; whole = begun.whole; spelled = refl };
  more = begun.more;
  split = lines_of_text (lines_of_track begun.cert) (track_feed begun.cert) ∙ begun.split;
}

refused_begins : (text : List ℕ) (at : At) → track_reading text ≡ Err at → BeginsBefore IsTrackCertificate text at.line
refused_begins text at e = λ others.
    let stop = admitted_lines track_rules Held IsOtherLine next_held Form 0 (ended_lines text) at e in
    let number = stop.numbered in
    let before : at.line - 1 ≡ length stop.taken = omega (arith, number) in
    let taken : lines_before text at.line ≡ stop.taken = (λ i. take (before i) (stop.split i)) ∙ take_at stop.taken stop.rest (length stop.taken) refl in
    let held = stop.held [] refl (subst (All IsOtherLine) taken others) in
    subst (SomeBegins IsTrackCertificate) (sym taken) (text_begins stop.taken (held_begins stop.last stop.taken held))

-- up to the line `pairs` the certificate of some track begins with the lines before the place of a refusal
pub first_text : {X : Type 0} (text : List ℕ) (view : X → Unit {0}) (r : Result X TextFault) → Gives (track_reading text) view r
    → IfRefused r (λ at. BeginsBefore IsTrackCertificate text at.line)
first_text text view (Ok x) given = tt
first_text text view (Err (Refused at)) given = refused_begins text at given
first_text text view (Err NoMemory) given = tt
