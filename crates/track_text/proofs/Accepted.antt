-- The rules admit the spelling of the certificate of every track.
use Rattle.std.proofs.Common.{◌≡◌, ◌+◌, ◌-◌, ◌<◌, ◌≤◌, ◌^◌, ℕ, ℤ, suc, pos, Bool, true, false, List, [], ◌∷◌, ◌++◌, length, take, codes, All, Result, Ok, Err, refl, sym, ap, ◌∙◌, subst, lit≤, arith, append_assoc}
use Rattle.std.proofs.lemmas.List.{append-nil, length-take-le}
use Rattle.std.proofs.lemmas.List.Elements.{All-head, All-tail}
use Rattle.quadratic_form.specs.declared.sizes.TheConstants.{MOST_INTEGERS}
use Rattle.obs_rows.specs.declared.arcs.Arc.{Arc}
use Rattle.obs_rows.specs.declared.units.TheConstants.{SIGNALS}
use Rattle.obs_rows.specs.declared.rows.Row.{Row}
use Rattle.obs_rows.specs.declared.pair_rows.PairRows.{PairRows}
use Rattle.obs_rows.specs.Pairs.{HasItsArcs}
use Rattle.obs_rows.specs.Ranges.{IsPoint}
use Rattle.obs_rows.specs.Signals.{fine_signals}
use Rattle.obs_rows.specs.declared.limits.TheConstants.{MOST_PAIRS, MOST_RATIO, MOST_BUDGET, MOST_ARCS}
use Rattle.int_search.specs.declared.answer.TwoBest.{TwoBest}
use Rattle.rinex_head.specs.declared.place.Flaw.{Flaw}
use Rattle.rinex_head.specs.declared.place.TextFault.{TextFault}
use Rattle.rinex_head.specs.declared.place.TextFault.TheVariants.{Refused, NoMemory}
use Rattle.rinex_head.specs.Places.{and_then}
use Rattle.rinex_head.specs.LineRules.{walk, Gives, OnRefusal, IfRefused}
use Rattle.line_source.specs.EndedLines.{ended_lines}
use Rattle.cert_words.proofs.NumberLaws.{AreSmall}
use Rattle.cert_words.proofs.TextLaws.{lines_of_text}
use Rattle.cert_lines.specs.declared.ranges.TheConstants.{COORDINATES, ENTRIES}
use Rattle.cert_lines.specs.declared.version.Version.TheVariants.{Two}
use Rattle.cert_lines.specs.declared.pairs.PairHead.{PairHead}
use Rattle.cert_lines.specs.declared.tails.FormValues.{FormValues}
use Rattle.cert_lines.specs.Lengths.{IsWholePair}
use Rattle.cert_lines.specs.Lines.{count_line, vector_line, system_line, signals_line, counted_arcs, pair_line, row_lines, values_line, weak_line, decision_line}
use Rattle.cert_lines.specs.Forms.{count_in, vector_in, system_in, signals_in, pair_head, pair_in}
use Rattle.cert_lines.specs.TailForms.{begins, form_values, values_in, decision_line_in}
use Rattle.cert_lines.proofs.Sizes.{entries_small, pair_small, values_small, weak_small}
use Rattle.cert_lines.proofs.LineSpells.{line_length, count_spells, vector_spells, pair_spells, point_spells, point_length, entries_in}
use Rattle.cert_lines.proofs.TailSpells.{values_spell, decision_read, decision_length}
use Rattle.cert_lines.proofs.LetterLaws.{not_one, letters_of_signals, letters_spell, letters_length, system_spells}
use Rattle.cert_lines.proofs.Spreading.{signals_good}
use Rattle.cert_data.specs.Tails.{IsMove}
use Rattle.cert_text.specs.Spelling.{spent_line}
use Rattle.cert_text.proofs.PlaceLaws.{place_length}
use Rattle.cert_text.specs.Beginnings.{NoneBegins}
use Rattle.cert_text.proofs.FirstLines.{none_agrees}
use Rattle.cert_text.proofs.Accepts.{AreAccepted, step, line_accepted, end_accepted, RisesFrom, rises, rows_accepted, counted_arcs_accepted}
use Rattle.track_data.specs.TrackTails.{AreTrackVectors, IsTrackTailOf}
use Rattle.track_data.specs.declared.tails.TrackTail.{TrackTail}
use Rattle.track_data.specs.declared.tails.TrackTail.TheVariants.{Fixed, Unseparated, Weak, Overwidth, Spent}
use Rattle.track_data.specs.declared.certs.TrackCert.{TrackCert}
use Rattle.track_text.specs.Lengths.{AreTriples, AreWholeTrackVectors, IsWholeTrackTail, IsWholeTrackCert, IsTrackCertificate}
use Rattle.track_text.specs.Spelling.{track_form, track_head_lines, placed_pair_lines, all_placed_pairs, counted_placed_pairs, move_line, move_lines, track_vectors_lines, track_tail_lines, lines_of_track, track_spelling}
use Rattle.track_text.specs.TailForms.{move_in, declined_in}
use Rattle.track_text.specs.Rules.{Frame, frame, Form, Ratio, Budget, SystemLine, Base, Letters, ArcCount, PairCount, PairPoint, Tail, Second, Values, Last, End}
use Rattle.track_text.specs.Rules.{numbers_of, track_rules, track_reading, admit, before_arcs, before_pairs, before_rows, before_moves}
use Rattle.track_text.proofs.LineLaws.{ratio_taken, budget_taken, system_taken, base_taken, behind_letters, letters_taken, arc_count_taken, arcs_taken, pair_count_taken, pair_taken, point_taken, rows_taken}
use Rattle.track_text.proofs.LineLaws.{second_taken, move_taken, values_taken, decision_taken, admits_vectors, admits_declined}
use Rattle.track_text.proofs.Feeds.{move_small, track_feed}
use Rattle.track_text.proofs.TailSpells.{move_spells, weak_read, spent_read, place_line, place_read}

-- ---- pairs with their points

pairs_accepted : (f : Frame) (arcs : List Arc) (least : ℕ) (pairs : List PairRows) (points : List (List ℤ)) (numbers : List ℕ) (rest : List (List ℕ)) → length f.signals ≤ SIGNALS → length arcs ≤ MOST_ARCS
    → length points ≡ length pairs → All (HasItsArcs arcs) pairs → All IsWholePair pairs → All IsPoint points → AreTriples points → RisesFrom (λ (p : PairRows). p.number) least pairs
    → AreAccepted track_rules (Tail f arcs (numbers ++ numbers_of pairs)) rest
    → AreAccepted track_rules (before_pairs f arcs (length pairs) least numbers) (all_placed_pairs f.signals pairs points ++ rest)
pairs_accepted f arcs least [] points numbers rest few_signals few each has whole are triples rising behind =
    subst (λ (ns : List ℕ). AreAccepted track_rules (Tail f arcs ns) rest) (append-nil numbers) behind
pairs_accepted f arcs least (p ∷ pairs) [] numbers rest few_signals few each has whole are triples rising behind = absurd (omega (arith, each))
pairs_accepted f arcs least (p ∷ pairs) (x ∷ points) numbers rest few_signals few each has whole are triples rising behind =
    let own = All-head (HasItsArcs arcs) p pairs has in
    let wide = All-head IsWholePair p pairs whole in
    let point = All-head IsPoint x points are in
    let three = All-head (λ (m : List ℤ). length m ≡ 3) x points triples in
    let left : ℕ = suc (length pairs) in
    let fewer : suc (length pairs) - 1 ≡ length pairs = omega arith in
    let count = length p.rows in
    let now : List ℕ = numbers ++ p.number ∷ [] in
    let rows = row_lines f.signals p.rows in
    let others = all_placed_pairs f.signals pairs points ++ rest in
    let head = pair_line p.number p.tag.0 p.group count in
    let at_point = vector_line (codes "at") x in
    let with_this = subst (λ (ns : List ℕ). AreAccepted track_rules (Tail f arcs ns) rest) (sym (append_assoc numbers (p.number ∷ []) (numbers_of pairs))) behind in
    let later = pairs_accepted f arcs (p.number + 1) pairs points now rest few_signals few (omega (arith, each)) (All-tail (HasItsArcs arcs) p pairs has) (All-tail IsWholePair p pairs whole)
    (All-tail IsPoint x points are) (All-tail (λ (m : List ℤ). length m ≡ 3) x points triples) rising.1 with_this in
    let rows_pass = rows_accepted track_rules f.signals arcs p.number (λ (n k : ℕ). before_rows f arcs (length pairs) p.number n k numbers) (before_pairs f arcs (length pairs) (p.number + 1) now) 0 p.rows others
    (rows_taken f arcs (length pairs) p.number numbers) few_signals few own wide (rises (λ (r : Row). r.arc) 0 p.rows p.arcs_rise (λ d some. omega arith)) later in
    let point_passes = line_accepted track_rules (PairPoint f arcs (length pairs) p.number count numbers) (vector_in (codes "at") 3 COORDINATES)
    (λ (z : List ℤ). before_rows f arcs (length pairs) p.number count 0 numbers) x at_point (rows ++ others)
    (point_taken f arcs (length pairs) p.number count numbers) (point_length (codes "at") x (lit≤ tt) three point) (point_spells (codes "at") x three point) rows_pass in
    let point_still_passes = subst (λ (n : ℕ). AreAccepted track_rules (PairPoint f arcs n p.number count numbers) (at_point ∷ (rows ++ others))) (sym fewer) point_passes in
    let reads = pair_spells Two least p.number p.tag.0 count p.group rising.0 p.number_in p.tag_in p.group_in p.some_rows p.few_rows in
    let short = line_length (codes "pair") (pos p.number ∷ pos p.tag.0 ∷ p.group ∷ pos count ∷ []) (lit≤ tt) (lit≤ tt) (pair_small p) in
    let head_passes = line_accepted track_rules (before_pairs f arcs left least numbers) (pair_in Two least) (λ (h : PairHead). PairPoint f arcs (left - 1) h.number h.count numbers)
    (pair_head p.number p.tag.0 p.group count) head (at_point ∷ (rows ++ others)) (pair_taken f arcs left least numbers (omega arith)) short reads point_still_passes in
    subst (AreAccepted track_rules (before_pairs f arcs left least numbers)) (sym (append_assoc (placed_pair_lines f.signals p x) (all_placed_pairs f.signals pairs points) rest)) head_passes

-- ---- tails

moves_accepted : (pairs : List PairRows) (moves : List (List ℤ)) (rest : List (List ℕ)) → length moves ≡ length pairs → All IsMove moves → AreTriples moves → AreAccepted track_rules Values rest
    → AreAccepted track_rules (before_moves (numbers_of pairs)) (move_lines pairs moves ++ rest)
moves_accepted [] moves rest each are triples behind = behind
moves_accepted (p ∷ pairs) [] rest each are triples behind = absurd (omega (arith, each))
moves_accepted (p ∷ pairs) (m ∷ moves) rest each are triples behind =
    let is_move = All-head IsMove m moves are in
    let three = All-head (λ (z : List ℤ). length z ≡ 3) m moves triples in
    let later = moves_accepted pairs moves rest (omega (arith, each)) (All-tail IsMove m moves are) (All-tail (λ (z : List ℤ). length z ≡ 3) m moves triples) behind in
    let few : length (pos p.number ∷ m) ≤ MOST_INTEGERS = omega (arith, three) in
    let short = line_length (codes "move") (pos p.number ∷ m) (lit≤ tt) few (move_small p m is_move) in
    line_accepted track_rules (before_moves (p.number ∷ numbers_of pairs)) (move_in p.number) (λ (z : List ℤ). before_moves (numbers_of pairs)) m (move_line p.number m)
    (move_lines pairs moves ++ rest)
    (move_taken p.number (numbers_of pairs)) short (move_spells p m three is_move) later

-- the lines of a tail with vectors, and the last one
vectors_accepted : (f : Frame) (arcs : List Arc) (pairs : List PairRows) (h : ℕ) (moves : List (List ℤ)) (best : TwoBest) (top : ℤ) (fixed : Bool)
    → AreTrackVectors f.signals arcs pairs h moves best top → AreWholeTrackVectors moves best
    → AreAccepted track_rules (Tail f arcs (numbers_of pairs)) (track_vectors_lines pairs h moves best top ++ decision_line fixed ∷ [])
vectors_accepted f arcs pairs h moves best top fixed are whole =
    let n = best.size in
    let values_fit = are.values in
    let numbers = numbers_of pairs in
    let first = take n best.first in
    let second = take n best.second in
    let first_long : length first ≡ n = length-take-le n best.first (omega (arith, best.size_to, whole.first)) in
    let second_long : length second ≡ n = length-take-le n best.second (omega (arith, best.size_to, whole.second)) in
    let first_small = entries_small n best.first values_fit.first_in in
    let second_small = entries_small n best.second values_fit.second_in in
    let values_are_small = values_small h best.p1 best.p2 top values_fit.h_to values_fit.p1_in values_fit.p2_in values_fit.top_in in
    let line = values_line h best.p1 best.p2 top in
    let z1_read = vector_spells (codes "z1") n ENTRIES first first_long first_small (entries_in n best.first values_fit.first_in) in
    let first_admitted : admit (Tail f arcs numbers) (vector_line (codes "z1") first) ≡ Ok (Second n numbers) =
    admits_vectors f n arcs numbers (vector_line (codes "z1") first) values_fit.size refl ∙ ap (λ (r : Result (List ℤ) Flaw). and_then r (λ z. Ok (Second n numbers))) z1_read in
    let z2_read = vector_spells (codes "z2") n ENTRIES second second_long second_small (entries_in n best.second values_fit.second_in) in
    let values_read = values_spell h best.p1 best.p2 top values_fit.h_to values_fit.p1_in values_fit.p2_in values_fit.top_in in
    let last_passes = line_accepted track_rules Last decision_line_in (λ (b : Bool). End) fixed (decision_line fixed) [] decision_taken (decision_length fixed) (decision_read fixed) (end_accepted track_rules End refl) in
    let values_pass = line_accepted track_rules Values values_in (λ (x : FormValues). Last) (form_values h best.p1 best.p2 top) line (decision_line fixed ∷ []) values_taken
    (line_length (codes "values") (pos h ∷ best.p1 ∷ best.p2 ∷ top ∷ []) (lit≤ tt) (lit≤ tt) values_are_small) values_read last_passes in
    let moves_pass = moves_accepted pairs moves (line ∷ decision_line fixed ∷ []) are.move_each are.moves_in whole.move_each values_pass in
    let second_passes = line_accepted track_rules (Second n numbers) (vector_in (codes "z2") n ENTRIES) (λ (z : List ℤ). before_moves numbers) second (vector_line (codes "z2") second)
    (move_lines pairs moves ++ (line ∷ decision_line fixed ∷ [])) (second_taken n numbers) (line_length (codes "z2") second (lit≤ tt) (omega (arith, second_long, best.size_to)) second_small) z2_read moves_pass in
    let all = step track_rules (Tail f arcs numbers) (Second n numbers) (vector_line (codes "z1") first) (vector_line (codes "z2") second ∷ (move_lines pairs moves ++ (line ∷ decision_line fixed ∷ [])))
    (line_length (codes "z1") first (lit≤ tt) (omega (arith, first_long, best.size_to)) first_small) first_admitted second_passes in
    let split : track_vectors_lines pairs h moves best top ++ decision_line fixed ∷ []
    ≡ vector_line (codes "z1") first ∷ vector_line (codes "z2") second ∷ (move_lines pairs moves ++ (line ∷ decision_line fixed ∷ [])) =
    ap (λ (l : List (List ℕ)). vector_line (codes "z1") first ∷ vector_line (codes "z2") second ∷ l) (append_assoc (move_lines pairs moves) (line ∷ []) (decision_line fixed ∷ [])) in
    subst (AreAccepted track_rules (Tail f arcs numbers)) (sym split) all

-- a line that is no vector, and what it says
declined_accepted : (f : Frame) (arcs : List Arc) (numbers line : List ℕ) (t : TrackTail) → length line ≤ 4096 → begins (codes "z1") line ≡ false → declined_in f.budget line ≡ Ok t
    → AreAccepted track_rules (Tail f arcs numbers) (line ∷ [])
declined_accepted f arcs numbers line t short other read =
    step track_rules (Tail f arcs numbers) End line [] short (admits_declined f arcs numbers line other ∙ ap (λ (r : Result TrackTail Flaw). and_then r (λ t. Ok End)) read)
    (end_accepted track_rules End refl)

tail_accepted : (f : Frame) (arcs : List Arc) (pairs : List PairRows) (t : TrackTail) → f.budget ≤ MOST_BUDGET → IsTrackTailOf f.signals arcs pairs f.budget t → IsWholeTrackTail t
    → AreAccepted track_rules (Tail f arcs (numbers_of pairs)) (track_tail_lines pairs t)
tail_accepted f arcs pairs (Fixed h moves best top) few fits whole = vectors_accepted f arcs pairs h moves best top true fits whole
tail_accepted f arcs pairs (Unseparated h moves best top) few fits whole = vectors_accepted f arcs pairs h moves best top false fits whole
tail_accepted f arcs pairs (Weak column pivot) few fits whole =
    let words = codes "declined weak" in
    let short = line_length words (pos column ∷ pivot ∷ []) (lit≤ tt) (lit≤ tt) (weak_small column pivot (omega (arith, fits.column_to)) fits.pivot_in) in
    declined_accepted f arcs (numbers_of pairs) (weak_line words column pivot) (Weak column pivot) short refl (weak_read f.budget column pivot fits)
tail_accepted f arcs pairs (Overwidth place) few fits whole =
    declined_accepted f arcs (numbers_of pairs) (place_line place) (Overwidth place) (place_length (codes "declined overwidth ") place (lit≤ tt)) refl (place_read f.budget place)
tail_accepted f arcs pairs (Spent spent) few fits whole =
    let small : AreSmall (pos spent ∷ []) = (omega (arith, fits), tt) in
    let short = line_length (codes "declined spent") (pos spent ∷ []) (lit≤ tt) (lit≤ tt) small in
    declined_accepted f arcs (numbers_of pairs) (spent_line spent) (Spent spent) short refl (spent_read f.budget spent few fits)

-- ---- the whole

-- the lines of the certificate, one after the other
pub regrouped : (c : TrackCert) → lines_of_track c ≡ track_form ∷ count_line (codes "ratio") c.ratio ∷ count_line (codes "budget") c.budget ∷ system_line c.track.system
    ∷ vector_line (codes "base") c.track.base ∷ signals_line Two c.track.signals.l1 c.track.signals.l2 c.track.signals.l5
    ∷ (counted_arcs (fine_signals c.track.signals) c.track.arcs
    ++ (counted_placed_pairs (fine_signals c.track.signals) c.track.pairs c.track.points ++ track_tail_lines c.track.pairs c.tail))
regrouped c = ap (λ (l : List (List ℕ)). track_head_lines c.ratio c.budget c.track.system c.track.base c.track.signals ++ l)
    (append_assoc (counted_arcs (fine_signals c.track.signals) c.track.arcs) (counted_placed_pairs (fine_signals c.track.signals) c.track.pairs c.track.points) (track_tail_lines c.track.pairs c.tail))

track_accepted : (c : TrackCert) → IsWholeTrackCert c → AreAccepted track_rules Form (lines_of_track c)
track_accepted c whole =
    let track = c.track in
    let fine = fine_signals track.signals in
    let budget = c.budget in
    let f = frame budget fine in
    let n = length track.pairs in
    let few_signals : length fine ≤ SIGNALS = (signals_good track.signals.l2 track.signals.l5).few in
    let ends = track_tail_lines track.pairs c.tail in
    let after_arcs = counted_placed_pairs fine track.pairs track.points ++ ends in
    let tail = tail_accepted f track.arcs track.pairs c.tail c.budget_to c.tail_fits whole.tail in
    let pairs_pass = pairs_accepted f track.arcs 0 track.pairs track.points [] ends few_signals track.arcs_in.few track.point_each track.pairs_in.rows_have_arcs whole.track.pairs track.points_in whole.track.points
    (rises (λ (p : PairRows). p.number) 0 track.pairs track.pairs_in.rising (λ d some. omega arith)) tail in
    let few_pairs : n < 2 ^ 126 = omega (arith, track.pairs_in.few) in
    let pair_count_passes = line_accepted track_rules (PairCount f track.arcs) (count_in (codes "pairs") 1 MOST_PAIRS) (λ (k : ℕ). before_pairs f track.arcs k 0 []) n (count_line (codes "pairs") n)
    (all_placed_pairs fine track.pairs track.points ++ ends) (pair_count_taken f track.arcs) (line_length (codes "pairs") (pos n ∷ []) (lit≤ tt) (lit≤ tt) (few_pairs, tt))
    (count_spells (codes "pairs") 1 MOST_PAIRS n c.some_pairs track.pairs_in.few (omega arith)) pairs_pass in
    let arcs_pass = counted_arcs_accepted track_rules Two track.signals.l2 track.signals.l5 (ArcCount f) (before_arcs f) track.arcs after_arcs (arc_count_taken f) (arcs_taken f) track.arcs_in
    (λ k d inside. (track.arcs_in.ranges k d inside).sat_to) track.shifts_used whole.track.arcs pair_count_passes in
    let signals = signals_line Two track.signals.l1 track.signals.l2 track.signals.l5 in
    let letters_pass = line_accepted track_rules (Letters budget) (signals_in Two) (behind_letters budget) (letters_of_signals track.signals) signals (counted_arcs fine track.arcs ++ after_arcs) (letters_taken budget)
    (letters_length Two track.signals) (letters_spell Two track.signals (λ e. absurd (not_one e))) arcs_pass in
    let base_passes = line_accepted track_rules (Base budget) (vector_in (codes "base") 3 COORDINATES) (λ (p : List ℤ). Letters budget) track.base (vector_line (codes "base") track.base) _ (base_taken budget)
    (point_length (codes "base") track.base (lit≤ tt) whole.track.base track.base_in) (point_spells (codes "base") track.base whole.track.base track.base_in) letters_pass in
    let system_passes = line_accepted track_rules (SystemLine budget) system_in (λ (s : ℕ). Base budget) track.system (system_line track.system) _ (system_taken budget) (lit≤ tt)
    (system_spells track.system track.system_is) base_passes in
    let few_visits : budget < 2 ^ 126 = omega (arith, c.budget_to) in
    let budget_passes = line_accepted track_rules Budget (count_in (codes "budget") 1 MOST_BUDGET) (λ (k : ℕ). SystemLine k) budget (count_line (codes "budget") budget) _ budget_taken
    (line_length (codes "budget") (pos budget ∷ []) (lit≤ tt) (lit≤ tt) (few_visits, tt)) (count_spells (codes "budget") 1 MOST_BUDGET budget c.budget_from c.budget_to (omega arith)) system_passes in
    let small_ratio : c.ratio < 2 ^ 126 = omega (arith, c.ratio_to) in
    let ratio_passes = line_accepted track_rules Ratio (count_in (codes "ratio") 1000 MOST_RATIO) (λ (k : ℕ). Budget) c.ratio (count_line (codes "ratio") c.ratio) _ ratio_taken
    (line_length (codes "ratio") (pos c.ratio ∷ []) (lit≤ tt) (lit≤ tt) (small_ratio, tt)) (count_spells (codes "ratio") 1000 MOST_RATIO c.ratio c.ratio_from c.ratio_to (omega arith)) budget_passes in
    let all = step track_rules Form Ratio track_form _ (lit≤ tt) refl ratio_passes in
    subst (AreAccepted track_rules Form) (sym (regrouped c)) all

-- the text of the certificate of a track is none that is refused
pub certificate_read : (text : List ℕ) → IsTrackCertificate text → track_reading text ≡ Ok tt
unfolding track_spelling
certificate_read text is =
    let lines : ended_lines text ≡ lines_of_track is.cert = ap ended_lines is.spelled ∙ lines_of_text (lines_of_track is.cert) (track_feed is.cert) in
    ap (λ (l : List (List ℕ)). walk track_rules l 0 Form) lines ∙ track_accepted is.cert is.whole 0

pub refused_text : {X : Type 0} (text : List ℕ) (view : X → Unit {0}) (r : Result X TextFault) → Gives (track_reading text) view r → OnRefusal r (IsTrackCertificate text → ⊥)
refused_text text view (Ok x) given = tt
refused_text text view (Err (Refused at)) given = λ is. absurd (cc (certificate_read text is, given))
refused_text text view (Err NoMemory) given = tt

-- nor does that of any other begin with its lines up to the place
pub stuck_text : {X : Type 0} (text : List ℕ) (view : X → Unit {0}) (r : Result X TextFault) → Gives (track_reading text) view r → IfRefused r (λ at. NoneBegins IsTrackCertificate text at.line)
stuck_text text view (Ok x) given = tt
stuck_text text view (Err (Refused at)) given = λ other is same. none_agrees track_rules (ended_lines text) (ended_lines other) Form at tt given (certificate_read other is) same
stuck_text text view (Err NoMemory) given = tt
