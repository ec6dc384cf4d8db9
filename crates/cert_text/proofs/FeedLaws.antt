-- No line of a certificate has a line feed.
use Rattle.std.proofs.Common.{◌≡◌, ◌^◌, ◌≤◌, ℕ, ℤ, true, false, List, [], ◌∷◌, ◌++◌, length, codes, All, refl, arith}
use Rattle.std.proofs.lemmas.List.Elements.{All-head, All-tail}
use Rattle.obs_rows.specs.declared.arcs.Arc.{Arc}
use Rattle.obs_rows.specs.declared.pair_rows.PairRows.{PairRows}
use Rattle.obs_rows.specs.declared.sessions.Session.{Session}
use Rattle.obs_rows.specs.Ranges.{IsSystem}
use Rattle.obs_rows.specs.Pairs.{HasItsArcs}
use Rattle.int_search.specs.declared.answer.TwoBest.{TwoBest}
use Rattle.cert_words.proofs.TextLaws.{has_no_feed, AreLines, lines-append}
use Rattle.cert_lines.specs.Lines.{vector_line, signals_line, pair_lines, decision_line, counted_arcs}
use Rattle.cert_lines.specs.declared.version.Version.{Version}
use Rattle.cert_lines.specs.declared.version.Version.TheVariants.{One, Two}
use Rattle.cert_lines.specs.Versions.{form_line}
use Rattle.obs_rows.specs.Signals.{fine_signals}
use Rattle.obs_rows.specs.declared.limits.TheConstants.{MOST_RATIO, MOST_BUDGET, MOST_ARCS}
use Rattle.cert_data.specs.declared.certs.Cert.{Cert}
use Rattle.cert_data.specs.declared.tails.Tail.{Tail}
use Rattle.cert_data.specs.declared.tails.Tail.TheVariants.{Fixed, Unseparated, Weak, Overwidth, Unsettled, Spent}
use Rattle.cert_data.specs.Tails.{AreVectors, IsTailOf}
use Rattle.cert_text.specs.Spelling.{system_lines, head_lines, all_pair_lines, counted_pairs, session_lines, vectors_lines, tail_lines, lines_of_cert}
use Rattle.cert_lines.proofs.Sizes.{below_small, moves_small}
use Rattle.cert_lines.proofs.Feeds.{worded, rows_feed, count_feed, point_feed, entries_feed, pair_line_feed, counted_arcs_feed, values_feed, weak_feed}
use Rattle.cert_lines.proofs.LetterLaws.{signals_feed, system_line_feed}
use Rattle.cert_text.proofs.PlaceLaws.{place_feed}

form_feed : (version : Version) → has_no_feed (form_line version) ≡ true
form_feed One = refl
form_feed Two = refl

system_feed : (version : Version) (system : ℕ) → IsSystem system → AreLines (system_lines version system)
system_feed One system is = tt
system_feed Two system is = (system_line_feed system is, tt)

pairs_feed : (ss : List ℕ) (arcs : List Arc) (pairs : List PairRows) → length arcs ≤ MOST_ARCS → All (HasItsArcs arcs) pairs → AreLines (all_pair_lines ss pairs)
pairs_feed ss arcs [] few all = tt
pairs_feed ss arcs (p ∷ pairs) few all =
    lines-append (pair_lines ss p) (all_pair_lines ss pairs) (pair_line_feed p, rows_feed ss arcs p.number p.rows few (All-head (HasItsArcs arcs) p pairs all))
    (pairs_feed ss arcs pairs few (All-tail (HasItsArcs arcs) p pairs all))

session_feed : (version : Version) (ratio budget : ℕ) (s : Session) → ratio ≤ MOST_RATIO → budget ≤ MOST_BUDGET → (version ≡ One → s.signals.l5 ≡ 0) → AreLines (session_lines version ratio budget s)
session_feed version ratio budget s few_ratio few_budget old =
    let signals = fine_signals s.signals in
    let pairs : AreLines (counted_pairs signals s.pairs) =
    (count_feed (codes "pairs") (length s.pairs) refl (omega (arith, s.pairs_in.few)), pairs_feed signals s.arcs s.pairs s.arcs_in.few s.pairs_in.rows_have_arcs) in
    let places : List (List ℕ) = vector_line (codes "base") s.base ∷ vector_line (codes "point") s.point ∷ signals_line version s.signals.l1 s.signals.l2 s.signals.l5 ∷ [] in
    let place_lines : AreLines places = (point_feed (codes "base") s.base refl s.base_in, (point_feed (codes "point") s.point refl s.point_in, (signals_feed version s.signals old, tt))) in
    let head : AreLines (head_lines version ratio budget s.system s.base s.point s.signals) = (
      form_feed version,
      (
        count_feed (codes "ratio") ratio refl (omega arith),
        (count_feed (codes "budget") budget refl (omega arith), lines-append (system_lines version s.system) places (system_feed version s.system s.system_is) place_lines),
      ),
    ) in
    lines-append (head_lines version ratio budget s.system s.base s.point s.signals) (counted_arcs signals s.arcs ++ counted_pairs signals s.pairs) head
    (lines-append (counted_arcs signals s.arcs) (counted_pairs signals s.pairs) (counted_arcs_feed signals s.arcs s.arcs_in) pairs)

vectors_feed : (ss : List ℕ) (arcs : List Arc) (h : ℕ) (moved : List ℤ) (best : TwoBest) (top : ℤ) → AreVectors ss arcs h moved best top → AreLines (vectors_lines h moved best top)
vectors_feed ss arcs h moved best top are =
    let values_hold = are.values in
    let first = entries_feed (codes "z1") best.size best.first refl values_hold.first_in in
    let second = entries_feed (codes "z2") best.size best.second refl values_hold.second_in in
    let move = worded (codes "move") moved refl (moves_small moved are.moved_in) in
    (first, (second, (move, (values_feed h best.p1 best.p2 top values_hold.h_to values_hold.p1_in values_hold.p2_in values_hold.top_in, tt))))

tail_feed : (ss : List ℕ) (arcs : List Arc) (budget : ℕ) (t : Tail) → budget ≤ MOST_BUDGET → IsTailOf ss arcs budget t → AreLines (tail_lines t)
tail_feed ss arcs budget (Fixed h moved best top) few fits = lines-append (vectors_lines h moved best top) (decision_line true ∷ []) (vectors_feed ss arcs h moved best top fits) (refl, tt)
tail_feed ss arcs budget (Unseparated h moved best top) few fits = lines-append (vectors_lines h moved best top) (decision_line false ∷ []) (vectors_feed ss arcs h moved best top fits) (refl, tt)
tail_feed ss arcs budget (Weak column pivot) few fits =
    (weak_feed (codes "declined weak fine") column pivot refl (omega (arith, fits.column_to)) fits.pivot_in, tt)
tail_feed ss arcs budget (Overwidth place) few fits = (place_feed (codes "declined overwidth fine ") place refl, tt)
tail_feed ss arcs budget (Unsettled entry) few fits = (worded (codes "declined unsettled fine") (entry ∷ []) refl (below_small (2 ^ 46) entry (omega arith) fits, tt), tt)
tail_feed ss arcs budget (Spent spent) few fits =
    (count_feed (codes "declined spent") spent refl (omega (arith, fits)), tt)

pub cert_feed : (version : Version) (c : Cert) → (version ≡ One → c.session.signals.l5 ≡ 0) → AreLines (lines_of_cert version c)
cert_feed version c old =
    lines-append (session_lines version c.ratio c.budget c.session) (tail_lines c.tail) (session_feed version c.ratio c.budget c.session c.ratio_to c.budget_to old)
    (tail_feed (fine_signals c.session.signals) c.session.arcs c.budget c.tail c.budget_to c.tail_fits)
