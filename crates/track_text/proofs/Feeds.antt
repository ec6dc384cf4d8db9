-- No line of the certificate of a track has a line feed.
use Rattle.std.proofs.Common.{◌≤◌, ◌<◌, ◌^◌, ℕ, ℤ, pos, true, false, List, [], ◌∷◌, ◌++◌, length, codes, All, refl, arith}
use Rattle.std.proofs.lemmas.List.Elements.{All-head, All-tail}
use Rattle.obs_rows.specs.declared.arcs.Arc.{Arc}
use Rattle.obs_rows.specs.declared.pair_rows.PairRows.{PairRows}
use Rattle.obs_rows.specs.Pairs.{HasItsArcs}
use Rattle.obs_rows.specs.Ranges.{IsPoint}
use Rattle.obs_rows.specs.Signals.{fine_signals}
use Rattle.obs_rows.specs.declared.limits.TheConstants.{MOST_RATIO, MOST_BUDGET, MOST_ARCS}
use Rattle.int_search.specs.declared.answer.TwoBest.{TwoBest}
use Rattle.cert_words.proofs.NumberLaws.{AreSmall}
use Rattle.cert_words.proofs.TextLaws.{AreLines, lines-append}
use Rattle.cert_lines.specs.Lines.{counted_arcs, values_line, decision_line}
use Rattle.cert_lines.specs.declared.version.Version.TheVariants.{Two}
use Rattle.cert_lines.proofs.Sizes.{moves_small}
use Rattle.cert_lines.proofs.Feeds.{worded, count_feed, point_feed, entries_feed, counted_arcs_feed, rows_feed, pair_line_feed, values_feed, weak_feed}
use Rattle.cert_lines.proofs.LetterLaws.{not_one, signals_feed, system_line_feed}
use Rattle.cert_data.specs.Tails.{IsMove}
use Rattle.cert_text.proofs.PlaceLaws.{place_feed}
use Rattle.track_data.specs.TrackTails.{AreTrackVectors, IsTrackTailOf}
use Rattle.track_data.specs.declared.tracks.Track.{Track}
use Rattle.track_data.specs.declared.tails.TrackTail.{TrackTail}
use Rattle.track_data.specs.declared.tails.TrackTail.TheVariants.{Fixed, Unseparated, Weak, Overwidth, Spent}
use Rattle.track_data.specs.declared.certs.TrackCert.{TrackCert}
use Rattle.track_text.specs.Spelling.{track_head_lines, placed_pair_lines, all_placed_pairs, counted_placed_pairs, track_lines, move_lines, track_vectors_lines, track_tail_lines, lines_of_track}

-- the number of a pair, and its move
pub move_small : (p : PairRows) (m : List ℤ) → IsMove m → AreSmall (pos p.number ∷ m)
move_small p m is = (omega (arith, p.number_in), moves_small m is)

pairs_feed : (ss : List ℕ) (arcs : List Arc) (pairs : List PairRows) (points : List (List ℤ)) → length arcs ≤ MOST_ARCS → All (HasItsArcs arcs) pairs → All IsPoint points
    → AreLines (all_placed_pairs ss pairs points)
pairs_feed ss arcs [] points few has are = tt
pairs_feed ss arcs (p ∷ pairs) [] few has are = tt
pairs_feed ss arcs (p ∷ pairs) (x ∷ points) few has are =
    let rows = rows_feed ss arcs p.number p.rows few (All-head (HasItsArcs arcs) p pairs has) in
    let block : AreLines (placed_pair_lines ss p x) = (pair_line_feed p, (point_feed (codes "at") x refl (All-head IsPoint x points are), rows)) in
    lines-append (placed_pair_lines ss p x) (all_placed_pairs ss pairs points) block
    (pairs_feed ss arcs pairs points few (All-tail (HasItsArcs arcs) p pairs has) (All-tail IsPoint x points are))

head_feed : (ratio budget : ℕ) (t : Track) → ratio ≤ MOST_RATIO → budget ≤ MOST_BUDGET → AreLines (track_head_lines ratio budget t.system t.base t.signals)
head_feed ratio budget t few_ratio few_budget =
    let signals = signals_feed Two t.signals (λ e. absurd (not_one e)) in
    let base = point_feed (codes "base") t.base refl t.base_in in
    let system = system_line_feed t.system t.system_is in
    let small_ratio : ratio < 2 ^ 126 = omega arith in
    let small_budget : budget < 2 ^ 126 = omega arith in
    (refl, (count_feed (codes "ratio") ratio refl small_ratio, (count_feed (codes "budget") budget refl small_budget, (system, (base, (signals, tt))))))

moves_feed : (pairs : List PairRows) (moves : List (List ℤ)) → All IsMove moves → AreLines (move_lines pairs moves)
moves_feed [] moves are = tt
moves_feed (p ∷ pairs) [] are = tt
moves_feed (p ∷ pairs) (m ∷ moves) are = (worded (codes "move") (pos p.number ∷ m) refl (move_small p m (All-head IsMove m moves are)), moves_feed pairs moves (All-tail IsMove m moves are))

vectors_feed : (ss : List ℕ) (arcs : List Arc) (pairs : List PairRows) (h : ℕ) (moves : List (List ℤ)) (best : TwoBest) (top : ℤ) → AreTrackVectors ss arcs pairs h moves best top
    → AreLines (track_vectors_lines pairs h moves best top)
vectors_feed ss arcs pairs h moves best top are =
    let values_fit = are.values in
    let first = entries_feed (codes "z1") best.size best.first refl values_fit.first_in in
    let second = entries_feed (codes "z2") best.size best.second refl values_fit.second_in in
    let values = values_feed h best.p1 best.p2 top values_fit.h_to values_fit.p1_in values_fit.p2_in values_fit.top_in in
    (first, (second, lines-append (move_lines pairs moves) (values_line h best.p1 best.p2 top ∷ []) (moves_feed pairs moves are.moves_in) (values, tt)))

tail_feed : (ss : List ℕ) (arcs : List Arc) (pairs : List PairRows) (budget : ℕ) (t : TrackTail) → budget ≤ MOST_BUDGET → IsTrackTailOf ss arcs pairs budget t → AreLines (track_tail_lines pairs t)
tail_feed ss arcs pairs budget (Fixed h moves best top) few fits =
    lines-append (track_vectors_lines pairs h moves best top) (decision_line true ∷ []) (vectors_feed ss arcs pairs h moves best top fits) (refl, tt)
tail_feed ss arcs pairs budget (Unseparated h moves best top) few fits =
    lines-append (track_vectors_lines pairs h moves best top) (decision_line false ∷ []) (vectors_feed ss arcs pairs h moves best top fits) (refl, tt)
tail_feed ss arcs pairs budget (Weak column pivot) few fits = (weak_feed (codes "declined weak") column pivot refl (omega (arith, fits.column_to)) fits.pivot_in, tt)
tail_feed ss arcs pairs budget (Overwidth place) few fits = (place_feed (codes "declined overwidth ") place refl, tt)
tail_feed ss arcs pairs budget (Spent spent) few fits = (count_feed (codes "declined spent") spent refl (omega (arith, fits)), tt)

pub track_feed : (c : TrackCert) → AreLines (lines_of_track c)
track_feed c =
    let track = c.track in
    let fine = fine_signals track.signals in
    let few : length track.pairs < 2 ^ 126 = omega (arith, track.pairs_in.few) in
    let placed = pairs_feed fine track.arcs track.pairs track.points track.arcs_in.few track.pairs_in.rows_have_arcs track.points_in in
    let pairs : AreLines (counted_placed_pairs fine track.pairs track.points) = (count_feed (codes "pairs") (length track.pairs) refl few, placed) in
    let arcs = counted_arcs_feed fine track.arcs track.arcs_in in
    let parts = lines-append (counted_arcs fine track.arcs) (counted_placed_pairs fine track.pairs track.points) arcs pairs in
    let head = head_feed c.ratio c.budget track c.ratio_to c.budget_to in
    let front = lines-append (track_head_lines c.ratio c.budget track.system track.base track.signals) (counted_arcs fine track.arcs ++ counted_placed_pairs fine track.pairs track.points) head parts in
    lines-append (track_lines c.ratio c.budget track) (track_tail_lines track.pairs c.tail) front (tail_feed fine track.arcs track.pairs c.budget c.tail c.budget_to c.tail_fits)
