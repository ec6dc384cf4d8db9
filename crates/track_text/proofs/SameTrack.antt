-- No two certificates of tracks have one spelling.
use Rattle.std.proofs.Common.{◌≡◌, ◌≤◌, ℕ, ℤ, pos, Bool, true, false, List, [], ◌∷◌, ◌++◌, length, codes, All, Ok, refl, sym, ap, ◌∙◌, subst, arith, append_assoc}
use Rattle.std.proofs.lemmas.List.Elements.{All-head, All-tail}
use Rattle.obs_rows.specs.declared.arcs.Arc.{Arc}
use Rattle.obs_rows.specs.declared.pair_rows.PairRows.{PairRows}
use Rattle.obs_rows.specs.Pairs.{HasItsArcs}
use Rattle.obs_rows.specs.Ranges.{IsPoint}
use Rattle.obs_rows.specs.Signals.{used_signals, fine_signals}
use Rattle.obs_rows.specs.Unused.{HasUsedRows, HasUsedShifts}
use Rattle.obs_rows.specs.declared.limits.TheConstants.{MOST_BUDGET, MOST_ARCS}
use Rattle.int_search.specs.declared.answer.TwoBest.{TwoBest}
use Rattle.line_source.specs.EndedLines.{ended_lines}
use Rattle.cert_words.proofs.TextLaws.{lines_of_text}
use Rattle.cert_lines.specs.declared.version.Version.TheVariants.{Two}
use Rattle.cert_lines.specs.Lengths.{IsWholePair}
use Rattle.cert_lines.specs.Lines.{vector_line, counted_arcs, pair_line, row_lines, values_line, weak_line, decision_line}
use Rattle.cert_lines.specs.TailForms.{decision_line_in}
use Rattle.cert_lines.proofs.Sizes.{point_small}
use Rattle.cert_lines.proofs.LetterLaws.{not_one}
use Rattle.cert_lines.proofs.TailSpells.{decision_read}
use Rattle.cert_lines.proofs.SameLines.{cons_same, numbers_same, count_same, system_line_same, signals_line_same, rows_same, pair_line_same, counted_arcs_same}
use Rattle.cert_lines.proofs.SameStructs.{pair_same}
use Rattle.cert_data.specs.Tails.{IsMove}
use Rattle.cert_text.specs.Spelling.{spent_line}
use Rattle.cert_text.proofs.SameVectors.{bests_same}
use Rattle.track_data.specs.TrackTails.{AreTrackVectors, IsTrackTailOf, track_tail_of_vectors}
use Rattle.track_data.specs.declared.tails.TrackTail.{TrackTail}
use Rattle.track_data.specs.declared.tails.TrackTail.TheVariants.{Fixed, Unseparated, Weak, Overwidth, Spent}
use Rattle.track_data.specs.declared.certs.TrackCert.{TrackCert}
use Rattle.track_text.specs.Lengths.{AreTriples, AreWholeTrackVectors, IsWholeTrackTail, IsWholeTrackCert}
use Rattle.track_text.specs.Spelling.{placed_pair_lines, all_placed_pairs, counted_placed_pairs, move_line, move_lines, track_vectors_lines, track_tail_lines, lines_of_track, track_spelling}
use Rattle.track_text.specs.TailForms.{declined_in}
use Rattle.track_text.proofs.Feeds.{move_small, track_feed}
use Rattle.track_text.proofs.TailSpells.{weak_read, spent_read, place_line, place_read}
use Rattle.track_text.proofs.Accepted.{regrouped}
use Rattle.track_text.proofs.SameStructs.{track_same, certs_same}

-- ---- pairs with their points

-- pairs of these arcs, each with its point, whose arrays have their lengths
record ArePlaced (ss : List ℕ) (arcs : List Arc) (pairs : List PairRows) (points : List (List ℤ)) : Type 0 where
  pub each : length points ≡ length pairs
  pub has : All (HasItsArcs arcs) pairs
  pub whole : All IsWholePair pairs
  pub used : All (HasUsedRows ss) pairs
  pub are : All IsPoint points
  pub triples : AreTriples points

-- the pairs after the first are placed too
placed_tail : (ss : List ℕ) (arcs : List Arc) (p : PairRows) (pairs : List PairRows) (x : List ℤ) (points : List (List ℤ)) → ArePlaced ss arcs (p ∷ pairs) (x ∷ points) → ArePlaced ss arcs pairs points
placed_tail ss arcs p pairs x points h = record {
  each = omega (arith, h.each);
  has = All-tail (HasItsArcs arcs) p pairs h.has;
  whole = All-tail IsWholePair p pairs h.whole;
  used = All-tail (HasUsedRows ss) p pairs h.used;
  are = All-tail IsPoint x points h.are;
  triples = All-tail (λ (m : List ℤ). length m ≡ 3) x points h.triples;
}

-- the points of two pairs
points_same : (ss : List ℕ) (arcs arcs' : List Arc) (p q : PairRows) (pairs pairs' : List PairRows) (x y : List ℤ) (points points' : List (List ℤ)) → ArePlaced ss arcs (p ∷ pairs) (x ∷ points)
    → ArePlaced ss arcs' (q ∷ pairs') (y ∷ points') → vector_line (codes "at") x ≡ vector_line (codes "at") y → x ≡ y
points_same ss arcs arcs' p q pairs pairs' x y points points' h h' e =
    numbers_same (codes "at") 3 x y (All-head (λ (m : List ℤ). length m ≡ 3) x points h.triples) (All-head (λ (m : List ℤ). length m ≡ 3) y points' h'.triples)
    (point_small x (All-head IsPoint x points h.are)) (point_small y (All-head IsPoint y points' h'.are)) e

pairs_same : (l2 l5 : ℕ) (arcs arcs' : List Arc) (pairs pairs' : List PairRows) (points points' : List (List ℤ)) (rest rest' : List (List ℕ)) → length arcs ≤ MOST_ARCS → length arcs' ≤ MOST_ARCS
    → ArePlaced (used_signals l2 l5) arcs pairs points → ArePlaced (used_signals l2 l5) arcs' pairs' points' → length pairs ≡ length pairs'
    → all_placed_pairs (used_signals l2 l5) pairs points ++ rest ≡ all_placed_pairs (used_signals l2 l5) pairs' points' ++ rest' → (pairs ≡ pairs') × (points ≡ points') × (rest ≡ rest')
pairs_same l2 l5 arcs arcs' [] [] [] [] rest rest' few few' h h' l e = (refl, refl, e)
pairs_same l2 l5 arcs arcs' [] [] [] (y ∷ points') rest rest' few few' h h' l e = absurd (omega (arith, h'.each))
pairs_same l2 l5 arcs arcs' [] [] (x ∷ points) points' rest rest' few few' h h' l e = absurd (omega (arith, h.each))
pairs_same l2 l5 arcs arcs' [] (q ∷ pairs') points points' rest rest' few few' h h' l e = absurd (omega (arith, l))
pairs_same l2 l5 arcs arcs' (p ∷ pairs) [] points points' rest rest' few few' h h' l e = absurd (omega (arith, l))
pairs_same l2 l5 arcs arcs' (p ∷ pairs) (q ∷ pairs') [] points' rest rest' few few' h h' l e = absurd (omega (arith, h.each))
pairs_same l2 l5 arcs arcs' (p ∷ pairs) (q ∷ pairs') (x ∷ points) [] rest rest' few few' h h' l e = absurd (omega (arith, h'.each))
pairs_same l2 l5 arcs arcs' (p ∷ pairs) (q ∷ pairs') (x ∷ points) (y ∷ points') rest rest' few few' h h' l e =
    let used_list = used_signals l2 l5 in
    let left_line = pair_line p.number p.tag.0 p.group (length p.rows) in
    let right_line = pair_line q.number q.tag.0 q.group (length q.rows) in
    let left_point = vector_line (codes "at") x in
    let right_point = vector_line (codes "at") y in
    let mine = all_placed_pairs used_list pairs points ++ rest in
    let theirs = all_placed_pairs used_list pairs' points' ++ rest' in
    let lines : left_line ∷ left_point ∷ (row_lines used_list p.rows ++ mine) ≡ right_line ∷ right_point ∷ (row_lines used_list q.rows ++ theirs) =
    sym (append_assoc (placed_pair_lines used_list p x) (all_placed_pairs used_list pairs points) rest) ∙ e ∙ append_assoc (placed_pair_lines used_list q y) (all_placed_pairs used_list pairs' points') rest' in
    let heads = cons_same left_line right_line (left_point ∷ (row_lines used_list p.rows ++ mine)) (right_point ∷ (row_lines used_list q.rows ++ theirs)) lines in
    let ats = cons_same left_point right_point (row_lines used_list p.rows ++ mine) (row_lines used_list q.rows ++ theirs) heads.1 in
    let head = pair_line_same p q heads.0 in
    let point = points_same used_list arcs arcs' p q pairs pairs' x y points points' h h' ats.0 in
    let rows = rows_same l2 l5 arcs arcs' p.number q.number p.rows q.rows mine theirs few few' (All-head (HasItsArcs arcs) p pairs h.has) (All-head (HasItsArcs arcs') q pairs' h'.has)
    (All-head IsWholePair p pairs h.whole) (All-head IsWholePair q pairs' h'.whole) (All-head (HasUsedRows used_list) p pairs h.used) (All-head (HasUsedRows used_list) q pairs' h'.used) head.3 ats.1 in
    let one = pair_same p q head.0 head.1 head.2 rows.0 in
    let more = pairs_same l2 l5 arcs arcs' pairs pairs' points points' rest rest' few few' (placed_tail used_list arcs p pairs x points h) (placed_tail used_list arcs' q pairs' y points' h')
    (omega (arith, l)) rows.1 in
    ((λ i. one i ∷ more.0 i), (λ i. point i ∷ more.1 i), more.2)

-- ---- moves

-- a move for each pair, of three numbers
record AreMoves (pairs : List PairRows) (moves : List (List ℤ)) : Type 0 where
  pub each : length moves ≡ length pairs
  pub are : All IsMove moves
  pub triples : AreTriples moves

moves_tail : (p : PairRows) (pairs : List PairRows) (m : List ℤ) (moves : List (List ℤ)) → AreMoves (p ∷ pairs) (m ∷ moves) → AreMoves pairs moves
moves_tail p pairs m moves h = record {
  each = omega (arith, h.each);
  are = All-tail IsMove m moves h.are;
  triples = All-tail (λ (z : List ℤ). length z ≡ 3) m moves h.triples;
}

moves_same : (pairs : List PairRows) (moves moves' : List (List ℤ)) (rest rest' : List (List ℕ)) → AreMoves pairs moves → AreMoves pairs moves'
    → move_lines pairs moves ++ rest ≡ move_lines pairs moves' ++ rest' → (moves ≡ moves') × (rest ≡ rest')
moves_same [] [] [] rest rest' h h' e = (refl, e)
moves_same [] [] (n ∷ moves') rest rest' h h' e = absurd (omega (arith, h'.each))
moves_same [] (m ∷ moves) moves' rest rest' h h' e = absurd (omega (arith, h.each))
moves_same (p ∷ pairs) [] moves' rest rest' h h' e = absurd (omega (arith, h.each))
moves_same (p ∷ pairs) (m ∷ moves) [] rest rest' h h' e = absurd (omega (arith, h'.each))
moves_same (p ∷ pairs) (m ∷ moves) (n ∷ moves') rest rest' h h' e =
    let lines = cons_same (move_line p.number m) (move_line p.number n) (move_lines pairs moves ++ rest) (move_lines pairs moves' ++ rest') e in
    let three = All-head (λ (z : List ℤ). length z ≡ 3) m moves h.triples in
    let three' = All-head (λ (z : List ℤ). length z ≡ 3) n moves' h'.triples in
    let four : length (pos p.number ∷ m) ≡ 4 = omega (arith, three) in
    let four' : length (pos p.number ∷ n) ≡ 4 = omega (arith, three') in
    let all = numbers_same (codes "move") 4 (pos p.number ∷ m) (pos p.number ∷ n) four four' (move_small p m (All-head IsMove m moves h.are))
    (move_small p n (All-head IsMove n moves' h'.are)) lines.0 in
    let one = (cons_same (pos p.number) (pos p.number) m n all).1 in
    let more = moves_same pairs moves moves' rest rest' (moves_tail p pairs m moves h) (moves_tail p pairs n moves' h') lines.1 in
    ((λ i. one i ∷ more.0 i), more.1)

-- ---- tails

-- a tail with vectors, or of one line
data Shape (ss : List ℕ) (arcs : List Arc) (pairs : List PairRows) (budget : ℕ) (t : TrackTail) : Type 0 where
  vectors : (fixed : Bool) (h : ℕ) (moves : List (List ℤ)) (best : TwoBest) (top : ℤ) → t ≡ track_tail_of_vectors fixed h moves best top
      → track_tail_lines pairs t ≡ track_vectors_lines pairs h moves best top ++ decision_line fixed ∷ []
      → AreTrackVectors ss arcs pairs h moves best top → AreWholeTrackVectors moves best → Shape ss arcs pairs budget t
  single : (line : List ℕ) → track_tail_lines pairs t ≡ line ∷ [] → declined_in budget line ≡ Ok t → Shape ss arcs pairs budget t

shape : (ss : List ℕ) (arcs : List Arc) (pairs : List PairRows) (budget : ℕ) (t : TrackTail) → budget ≤ MOST_BUDGET → IsTrackTailOf ss arcs pairs budget t → IsWholeTrackTail t
    → Shape ss arcs pairs budget t
shape ss arcs pairs budget (Fixed h moves best top) few fits whole = vectors true h moves best top refl refl fits whole
shape ss arcs pairs budget (Unseparated h moves best top) few fits whole = vectors false h moves best top refl refl fits whole
shape ss arcs pairs budget (Weak column pivot) few fits whole = single (weak_line (codes "declined weak") column pivot) refl (weak_read budget column pivot fits)
shape ss arcs pairs budget (Overwidth place) few fits whole = single (place_line place) refl (place_read budget place)
shape ss arcs pairs budget (Spent spent) few fits whole = single (spent_line spent) refl (spent_read budget spent few fits)

vectors_same : (ss : List ℕ) (arcs : List Arc) (pairs : List PairRows) (h h' : ℕ) (moves moves' : List (List ℤ)) (best best' : TwoBest) (top top' : ℤ) (last last' : List ℕ)
    → AreTrackVectors ss arcs pairs h moves best top → AreTrackVectors ss arcs pairs h' moves' best' top' → AreWholeTrackVectors moves best → AreWholeTrackVectors moves' best'
    → track_vectors_lines pairs h moves best top ++ last ∷ [] ≡ track_vectors_lines pairs h' moves' best' top' ++ last' ∷ []
    → (h ≡ h') × (moves ≡ moves') × (best ≡ best') × (top ≡ top') × (last ≡ last')
vectors_same ss arcs pairs h h' moves moves' best best' top top' last last' a b w w' e =
    let line = values_line h best.p1 best.p2 top in
    let line' = values_line h' best'.p1 best'.p2 top' in
    let first_same = cons_same _ _ _ _ e in
    let second_same = cons_same _ _ _ _ first_same.1 in
    let behind : move_lines pairs moves ++ (line ∷ last ∷ []) ≡ move_lines pairs moves' ++ (line' ∷ last' ∷ []) =
    sym (append_assoc (move_lines pairs moves) (line ∷ []) (last ∷ [])) ∙ second_same.1 ∙ append_assoc (move_lines pairs moves') (line' ∷ []) (last' ∷ []) in
    let mine : AreMoves pairs moves = record { each = a.move_each; are = a.moves_in; triples = w.move_each } in
    let theirs : AreMoves pairs moves' = record { each = b.move_each; are = b.moves_in; triples = w'.move_each } in
    let moved = moves_same pairs moves moves' (line ∷ last ∷ []) (line' ∷ last' ∷ []) mine theirs behind in
    let values_line_same = cons_same line line' (last ∷ []) (last' ∷ []) moved.1 in
    let last_same = cons_same last last' [] [] values_line_same.1 in
    let bests = bests_same ss arcs h h' best best' top top' a.values b.values w.first w.second w'.first w'.second first_same.0 second_same.0 values_line_same.0 in
    (bests.0, moved.0, bests.1, bests.2, last_same.0)

tails_same : (ss : List ℕ) (arcs : List Arc) (pairs : List PairRows) (budget : ℕ) (t u : TrackTail) → Shape ss arcs pairs budget t → Shape ss arcs pairs budget u
    → track_tail_lines pairs t ≡ track_tail_lines pairs u → t ≡ u
tails_same ss arcs pairs budget t u (vectors f h m b x is lines are whole) (vectors f' h' m' b' x' is' lines' are' whole') e =
    let parts = vectors_same ss arcs pairs h h' m m' b b' x x' (decision_line f) (decision_line f') are are' whole whole' (sym lines ∙ e ∙ lines') in
    let kinds : Ok f ≡ Ok f' = sym (decision_read f) ∙ ap decision_line_in parts.4 ∙ decision_read f' in
    let kind : f ≡ f' = cc in
    is ∙ (λ i. track_tail_of_vectors (kind i) (parts.0 i) (parts.1 i) (parts.2 i) (parts.3 i)) ∙ sym is'
tails_same ss arcs pairs budget t u (vectors f h m b x is lines are whole) (single line one read) e = absurd (apart (cons_same _ _ _ _ (sym lines ∙ e ∙ one)).1)
  where
    apart : {y : List ℕ} {ys : List (List ℕ)} → y ∷ ys ≡ [] → ⊥
    apart e = absurd cc
tails_same ss arcs pairs budget t u (single line one read) (vectors f h m b x is lines are whole) e = absurd (apart (cons_same _ _ _ _ (sym one ∙ e ∙ lines)).1)
  where
    apart : {y : List ℕ} {ys : List (List ℕ)} → [] ≡ y ∷ ys → ⊥
    apart e = absurd cc
tails_same ss arcs pairs budget t u (single line one read) (single line' one' read') e =
    let same = (cons_same line line' [] [] (sym one ∙ e ∙ one')).0 in
    let both : Ok t ≡ Ok u = sym read ∙ ap (declined_in budget) same ∙ read' in
    cc

-- ---- certificates

lines_same : (c d : TrackCert) → IsWholeTrackCert c → IsWholeTrackCert d → lines_of_track c ≡ lines_of_track d → c ≡ d
lines_same c d w v e =
    let left_track = c.track in
    let right_track = d.track in
    let fine = fine_signals left_track.signals in
    let form_same = cons_same _ _ _ _ (sym (regrouped c) ∙ e ∙ regrouped d) in
    let ratio_same = cons_same _ _ _ _ form_same.1 in
    let budget_same = cons_same _ _ _ _ ratio_same.1 in
    let system_same = cons_same _ _ _ _ budget_same.1 in
    let base_same = cons_same _ _ _ _ system_same.1 in
    let letters_same = cons_same _ _ _ _ base_same.1 in
    let ratio = count_same (codes "ratio") c.ratio d.ratio (omega (arith, c.ratio_to)) (omega (arith, d.ratio_to)) ratio_same.0 in
    let budget = count_same (codes "budget") c.budget d.budget (omega (arith, c.budget_to)) (omega (arith, d.budget_to)) budget_same.0 in
    let system = system_line_same left_track.system right_track.system system_same.0 in
    let base = numbers_same (codes "base") 3 left_track.base right_track.base w.track.base v.track.base (point_small left_track.base left_track.base_in) (point_small right_track.base right_track.base_in) base_same.0 in
    let signals = signals_line_same Two left_track.signals right_track.signals (λ a. absurd (not_one a)) (λ a. absurd (not_one a)) letters_same.0 in
    let counted : fine_signals right_track.signals ≡ fine = ap fine_signals (sym signals) in
    let after = letters_same.1 ∙ ap (λ (us : List ℕ). counted_arcs us right_track.arcs ++ (counted_placed_pairs us right_track.pairs right_track.points ++ track_tail_lines right_track.pairs d.tail)) counted in
    let shifts : All (HasUsedShifts fine) right_track.arcs = subst (λ (us : List ℕ). All (HasUsedShifts us) right_track.arcs) counted right_track.shifts_used in
    let rows : All (HasUsedRows fine) right_track.pairs = subst (λ (us : List ℕ). All (HasUsedRows us) right_track.pairs) counted right_track.rows_used in
    let arcs = counted_arcs_same left_track.signals.l2 left_track.signals.l5 left_track.arcs right_track.arcs (counted_placed_pairs fine left_track.pairs left_track.points ++ track_tail_lines left_track.pairs c.tail)
    (counted_placed_pairs fine right_track.pairs right_track.points ++ track_tail_lines right_track.pairs d.tail) left_track.arcs_in right_track.arcs_in left_track.shifts_used shifts w.track.arcs v.track.arcs after in
    let pair_count_same = cons_same _ _ _ _ arcs.1 in
    let pair_count = count_same (codes "pairs") (length left_track.pairs) (length right_track.pairs) (omega (arith, left_track.pairs_in.few)) (omega (arith, right_track.pairs_in.few)) pair_count_same.0 in
    let mine : ArePlaced fine left_track.arcs left_track.pairs left_track.points =
    record { each = left_track.point_each; has = left_track.pairs_in.rows_have_arcs; whole = w.track.pairs; used = left_track.rows_used; are = left_track.points_in; triples = w.track.points } in
    let theirs : ArePlaced fine right_track.arcs right_track.pairs right_track.points =
    record { each = right_track.point_each; has = right_track.pairs_in.rows_have_arcs; whole = v.track.pairs; used = rows; are = right_track.points_in; triples = v.track.points } in
    let pairs = pairs_same left_track.signals.l2 left_track.signals.l5 left_track.arcs right_track.arcs left_track.pairs right_track.pairs left_track.points right_track.points (track_tail_lines left_track.pairs c.tail) (track_tail_lines right_track.pairs d.tail)
    left_track.arcs_in.few right_track.arcs_in.few mine theirs pair_count pair_count_same.1 in
    let track = track_same left_track right_track system base signals arcs.0 pairs.1 pairs.0 in
    let fits : IsTrackTailOf fine left_track.arcs left_track.pairs c.budget d.tail = subst (λ (b : ℕ). IsTrackTailOf fine left_track.arcs left_track.pairs b d.tail) (sym budget)
    (subst (λ (ps : List PairRows). IsTrackTailOf fine left_track.arcs ps d.budget d.tail) (sym pairs.0)
    (subst (λ (a : List Arc). IsTrackTailOf fine a right_track.pairs d.budget d.tail) (sym arcs.0) (subst (λ (us : List ℕ). IsTrackTailOf us right_track.arcs right_track.pairs d.budget d.tail) counted d.tail_fits))) in
    let ends = pairs.2 ∙ ap (λ (ps : List PairRows). track_tail_lines ps d.tail) (sym pairs.0) in
    let tail = tails_same fine left_track.arcs left_track.pairs c.budget c.tail d.tail (shape fine left_track.arcs left_track.pairs c.budget c.tail c.budget_to c.tail_fits w.tail)
    (shape fine left_track.arcs left_track.pairs c.budget d.tail c.budget_to fits v.tail) ends in
    certs_same c d ratio budget track tail

-- two certificates of tracks with one spelling are the same
pub spelling_same : (c d : TrackCert) → IsWholeTrackCert c → IsWholeTrackCert d → track_spelling c ≡ track_spelling d → c ≡ d
unfolding track_spelling
spelling_same c d w v e = lines_same c d w v (sym (lines_of_text (lines_of_track c) (track_feed c)) ∙ ap ended_lines e ∙ lines_of_text (lines_of_track d) (track_feed d))
