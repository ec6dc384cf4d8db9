-- No two certificates have one spelling.
use Rattle.std.proofs.Common.{◌≡◌, ◌≤◌, ℕ, ℤ, Bool, true, false, List, [], ◌∷◌, ◌++◌, length, codes, All, refl, ap, subst, arith, Ok, sym, ◌∙◌, append_assoc}
use Rattle.std.proofs.lemmas.List.Elements.{All-head, All-tail}
use Rattle.obs_rows.specs.declared.arcs.Arc.{Arc}
use Rattle.obs_rows.specs.declared.pair_rows.PairRows.{PairRows}
use Rattle.obs_rows.specs.Pairs.{HasItsArcs}
use Rattle.int_search.specs.declared.answer.TwoBest.{TwoBest}
use Rattle.cert_lines.specs.Lines.{row_lines, pair_lines, decision_line, counted_arcs, pair_line, weak_line, system_line}
use Rattle.cert_lines.specs.declared.version.Version.{Version}
use Rattle.cert_lines.specs.declared.version.Version.TheVariants.{One, Two}
use Rattle.obs_rows.specs.Signals.{fine_signals, used_signals}
use Rattle.cert_data.specs.declared.certs.Cert.{Cert}
use Rattle.cert_data.specs.declared.tails.Tail.{Tail}
use Rattle.cert_data.specs.declared.tails.Tail.TheVariants.{Fixed, Unseparated, Weak, Overwidth, Unsettled, Spent}
use Rattle.cert_data.specs.Tails.{AreVectors, IsTailOf, tail_of_vectors}
use Rattle.cert_text.specs.Spelling.{system_lines, all_pair_lines, counted_pairs, vectors_lines, tail_lines, lines_of_cert, unsettled_line, spent_line, spelling_as}
use Rattle.obs_rows.specs.Unused.{HasUsedShifts, HasUsedRows}
use Rattle.obs_rows.specs.declared.limits.TheConstants.{MOST_BUDGET, MOST_ARCS}
use Rattle.cert_lines.specs.TailForms.{decision_line_in}
use Rattle.cert_text.specs.TailForms.{declined_in}
use Rattle.cert_text.specs.Lengths.{AreWholeVectors, IsWholeTail, IsWhole}
use Rattle.line_source.specs.EndedLines.{ended_lines}
use Rattle.cert_words.proofs.TextLaws.{lines_of_text}
use Rattle.cert_lines.specs.Lengths.{IsWholePair}
use Rattle.cert_text.specs.Editions.{IsOfVersion}
use Rattle.cert_lines.proofs.Sizes.{point_small, moves_small}
use Rattle.cert_text.proofs.FeedLaws.{cert_feed}
use Rattle.cert_text.proofs.TailSpells.{weak_read, place_line, place_read, unsettled_read, spent_read}
use Rattle.cert_text.proofs.Accepted.{regrouped}
use Rattle.cert_lines.proofs.SameStructs.{pair_same}
use Rattle.cert_text.proofs.SameStructs.{session_same, certs_same}
use Rattle.cert_lines.proofs.TailSpells.{decision_read}
use Rattle.cert_lines.proofs.SameLines.{cons_same, numbers_same, count_same, rows_same, counted_arcs_same, pair_line_same, signals_line_same, system_line_same}
use Rattle.cert_text.proofs.SameVectors.{bests_same}

-- ---- pairs

pub pairs_same : (l2 l5 : ℕ) (arcs arcs' : List Arc) (pairs pairs' : List PairRows) (rest rest' : List (List ℕ)) → length arcs ≤ MOST_ARCS → length arcs' ≤ MOST_ARCS → All (HasItsArcs arcs) pairs
    → All (HasItsArcs arcs') pairs' → All IsWholePair pairs → All IsWholePair pairs'
    → All (HasUsedRows (used_signals l2 l5)) pairs → All (HasUsedRows (used_signals l2 l5)) pairs' → length pairs ≡ length pairs'
    → all_pair_lines (used_signals l2 l5) pairs ++ rest ≡ all_pair_lines (used_signals l2 l5) pairs' ++ rest' → (pairs ≡ pairs') × (rest ≡ rest')
pairs_same l2 l5 arcs arcs' [] [] rest rest' few few' h h' w w' u u' l e = (refl, e)
pairs_same l2 l5 arcs arcs' [] (q ∷ pairs') rest rest' few few' h h' w w' u u' l e = absurd (omega (arith, l))
pairs_same l2 l5 arcs arcs' (p ∷ pairs) [] rest rest' few few' h h' w w' u u' l e = absurd (omega (arith, l))
pairs_same l2 l5 arcs arcs' (p ∷ pairs) (q ∷ pairs') rest rest' few few' h h' w w' u u' l e =
    let signals = used_signals l2 l5 in
    let left_line = pair_line p.number p.tag.0 p.group (length p.rows) in
    let right_line = pair_line q.number q.tag.0 q.group (length q.rows) in
    let whole : left_line ∷ (row_lines signals p.rows ++ (all_pair_lines signals pairs ++ rest)) ≡ right_line ∷ (row_lines signals q.rows ++ (all_pair_lines signals pairs' ++ rest')) =
    sym (append_assoc (pair_lines signals p) (all_pair_lines signals pairs) rest) ∙ e ∙ append_assoc (pair_lines signals q) (all_pair_lines signals pairs') rest' in
    let lines = cons_same left_line right_line (row_lines signals p.rows ++ (all_pair_lines signals pairs ++ rest)) (row_lines signals q.rows ++ (all_pair_lines signals pairs' ++ rest')) whole in
    let head = pair_line_same p q lines.0 in
    let rows = rows_same l2 l5 arcs arcs' p.number q.number p.rows q.rows (all_pair_lines signals pairs ++ rest) (all_pair_lines signals pairs' ++ rest') few few' (All-head (HasItsArcs arcs) p pairs h)
    (All-head (HasItsArcs arcs') q pairs' h')
    (All-head IsWholePair p pairs w) (All-head IsWholePair q pairs' w') (All-head (HasUsedRows signals) p pairs u) (All-head (HasUsedRows signals) q pairs' u') head.3 lines.1 in
    let one = pair_same p q head.0 head.1 head.2 rows.0 in
    let more = pairs_same l2 l5 arcs arcs' pairs pairs' rest rest' few few' (All-tail (HasItsArcs arcs) p pairs h) (All-tail (HasItsArcs arcs') q pairs' h') (All-tail IsWholePair p pairs w)
    (All-tail IsWholePair q pairs' w')
    (All-tail (HasUsedRows signals) p pairs u) (All-tail (HasUsedRows signals) q pairs' u') (omega (arith, l)) rows.1 in
    ((λ i. one i ∷ more.0 i), more.1)

-- ---- tails

-- a tail of five lines, or of one
data Shape (ss : List ℕ) (arcs : List Arc) (budget : ℕ) (t : Tail) : Type 0 where
  vectors : (fixed : Bool) (h : ℕ) (moved : List ℤ) (best : TwoBest) (top : ℤ) → t ≡ tail_of_vectors fixed h moved best top → tail_lines t ≡ vectors_lines h moved best top ++ decision_line fixed ∷ []
      → AreVectors ss arcs h moved best top → AreWholeVectors moved best → Shape ss arcs budget t
  single : (line : List ℕ) → tail_lines t ≡ line ∷ [] → declined_in Two budget line ≡ Ok t → Shape ss arcs budget t

shape : (ss : List ℕ) (arcs : List Arc) (budget : ℕ) (t : Tail) → budget ≤ MOST_BUDGET → IsTailOf ss arcs budget t → IsWholeTail t → Shape ss arcs budget t
shape ss arcs budget (Fixed h moved best top) few fits whole = vectors true h moved best top refl refl fits whole
shape ss arcs budget (Unseparated h moved best top) few fits whole = vectors false h moved best top refl refl fits whole
shape ss arcs budget (Weak column pivot) few fits whole = single (weak_line (codes "declined weak fine") column pivot) refl (weak_read Two budget column pivot fits (omega (arith, fits.column_to)))
shape ss arcs budget (Overwidth place) few fits whole = single (place_line place) refl (place_read Two budget place)
shape ss arcs budget (Unsettled entry) few fits whole = single (unsettled_line entry) refl (unsettled_read Two budget entry fits)
shape ss arcs budget (Spent spent) few fits whole = single (spent_line spent) refl (spent_read Two budget spent few fits)

vectors_same : (ss : List ℕ) (arcs : List Arc) (h h' : ℕ) (moved moved' : List ℤ) (best best' : TwoBest) (top top' : ℤ) (last last' : List ℕ) → AreVectors ss arcs h moved best top
    → AreVectors ss arcs h' moved' best' top' → AreWholeVectors moved best → AreWholeVectors moved' best'
    → vectors_lines h moved best top ++ last ∷ [] ≡ vectors_lines h' moved' best' top' ++ last' ∷ [] → (h ≡ h') × (moved ≡ moved') × (best ≡ best') × (top ≡ top') × (last ≡ last')
vectors_same ss arcs h h' moved moved' best best' top top' last last' a b w w' e =
    let first_same = cons_same _ _ _ _ e in
    let second_same = cons_same _ _ _ _ first_same.1 in
    let move_same = cons_same _ _ _ _ second_same.1 in
    let values_same = cons_same _ _ _ _ move_same.1 in
    let last_same = cons_same _ _ _ _ values_same.1 in
    let bests = bests_same ss arcs h h' best best' top top' a.values b.values w.first w.second w'.first w'.second first_same.0 second_same.0 values_same.0 in
    let move = numbers_same (codes "move") 3 moved moved' w.move w'.move (moves_small moved a.moved_in) (moves_small moved' b.moved_in) move_same.0 in
    (bests.0, move, bests.1, bests.2, last_same.0)

tails_same : (ss : List ℕ) (arcs : List Arc) (budget : ℕ) (t u : Tail) → Shape ss arcs budget t → Shape ss arcs budget u → tail_lines t ≡ tail_lines u → t ≡ u
tails_same ss arcs budget t u (vectors f h m b x is lines are whole) (vectors f' h' m' b' x' is' lines' are' whole') e =
    let parts = vectors_same ss arcs h h' m m' b b' x x' (decision_line f) (decision_line f') are are' whole whole' (sym lines ∙ e ∙ lines') in
    let kinds : Ok f ≡ Ok f' = sym (decision_read f) ∙ ap decision_line_in parts.4 ∙ decision_read f' in
    let kind : f ≡ f' = cc in
    is ∙ (λ i. tail_of_vectors (kind i) (parts.0 i) (parts.1 i) (parts.2 i) (parts.3 i)) ∙ sym is'
tails_same ss arcs budget t u (vectors f h m b x is lines are whole) (single line one read) e = absurd (apart (cons_same _ _ _ _ (sym lines ∙ e ∙ one)).1)
  where
    apart : {y : List ℕ} {ys : List (List ℕ)} → y ∷ ys ≡ [] → ⊥
    apart e = absurd cc
tails_same ss arcs budget t u (single line one read) (vectors f h m b x is lines are whole) e = absurd (apart (cons_same _ _ _ _ (sym one ∙ e ∙ lines)).1)
  where
    apart : {y : List ℕ} {ys : List (List ℕ)} → [] ≡ y ∷ ys → ⊥
    apart e = absurd cc
tails_same ss arcs budget t u (single line one read) (single line' one' read') e =
    let same = (cons_same line line' [] [] (sym one ∙ e ∙ one')).0 in
    let both : Ok t ≡ Ok u = sym read ∙ ap (declined_in Two budget) same ∙ read' in
    cc

-- ---- certificates

-- the lines of the system and those after them
systems_same : (version : Version) (s t : ℕ) (xs ys : List (List ℕ)) → (version ≡ One → s ≡ t) → system_lines version s ++ xs ≡ system_lines version t ++ ys → (s ≡ t) × (xs ≡ ys)
systems_same One s t xs ys same e = (same refl, e)
systems_same Two s t xs ys same e =
    let lines = cons_same (system_line s) (system_line t) xs ys e in
    (system_line_same s t lines.0, lines.1)

lines_same : (version : Version) (c d : Cert) → IsWhole c → IsWhole d → IsOfVersion version c → IsOfVersion version d → lines_of_cert version c ≡ lines_of_cert version d → c ≡ d
lines_same version c d w v oc od e =
    let left_session = c.session in
    let right_session = d.session in
    let used = fine_signals left_session.signals in
    let form_same = cons_same _ _ _ _ (sym (regrouped version c) ∙ e ∙ regrouped version d) in
    let ratio_same = cons_same _ _ _ _ form_same.1 in
    let budget_same = cons_same _ _ _ _ ratio_same.1 in
    let systems = systems_same version left_session.system right_session.system _ _ (λ is. oc.system is ∙ sym (od.system is)) budget_same.1 in
    let base_same = cons_same _ _ _ _ systems.1 in
    let point_same = cons_same _ _ _ _ base_same.1 in
    let letters_same = cons_same _ _ _ _ point_same.1 in
    let ratio = count_same (codes "ratio") c.ratio d.ratio (omega (arith, c.ratio_to)) (omega (arith, d.ratio_to)) ratio_same.0 in
    let budget = count_same (codes "budget") c.budget d.budget (omega (arith, c.budget_to)) (omega (arith, d.budget_to)) budget_same.0 in
    let base = numbers_same (codes "base") 3 left_session.base right_session.base w.session.base v.session.base (point_small left_session.base left_session.base_in) (point_small right_session.base right_session.base_in) base_same.0 in
    let point = numbers_same (codes "point") 3 left_session.point right_session.point w.session.point v.session.point (point_small left_session.point left_session.point_in) (point_small right_session.point right_session.point_in) point_same.0 in
    let signals = signals_line_same version left_session.signals right_session.signals oc.bands od.bands letters_same.0 in
    let counted : fine_signals right_session.signals ≡ used = ap fine_signals (sym signals) in
    let after = letters_same.1 ∙ ap (λ (us : List ℕ). counted_arcs us right_session.arcs ++ (counted_pairs us right_session.pairs ++ tail_lines d.tail)) counted in
    let shifts : All (HasUsedShifts used) right_session.arcs = subst (λ (us : List ℕ). All (HasUsedShifts us) right_session.arcs) counted right_session.shifts_used in
    let rows : All (HasUsedRows used) right_session.pairs = subst (λ (us : List ℕ). All (HasUsedRows us) right_session.pairs) counted right_session.rows_used in
    let arcs = counted_arcs_same left_session.signals.l2 left_session.signals.l5 left_session.arcs right_session.arcs (counted_pairs used left_session.pairs ++ tail_lines c.tail)
    (counted_pairs used right_session.pairs ++ tail_lines d.tail) left_session.arcs_in right_session.arcs_in left_session.shifts_used shifts w.session.arcs v.session.arcs after in
    let pair_count_same = cons_same _ _ _ _ arcs.1 in
    let pair_count = count_same (codes "pairs") (length left_session.pairs) (length right_session.pairs) (omega (arith, left_session.pairs_in.few)) (omega (arith, right_session.pairs_in.few)) pair_count_same.0 in
    let pairs = pairs_same left_session.signals.l2 left_session.signals.l5 left_session.arcs right_session.arcs left_session.pairs right_session.pairs (tail_lines c.tail)
    (tail_lines d.tail) left_session.arcs_in.few right_session.arcs_in.few left_session.pairs_in.rows_have_arcs right_session.pairs_in.rows_have_arcs w.session.pairs v.session.pairs left_session.rows_used rows pair_count pair_count_same.1 in
    let session = session_same left_session right_session (c.fine ∙ sym d.fine) systems.0 base point signals arcs.0 pairs.0 in
    let fits : IsTailOf used left_session.arcs c.budget d.tail = subst (λ (b : ℕ). IsTailOf used left_session.arcs b d.tail) (sym budget)
    (subst (λ (a : List Arc). IsTailOf used a d.budget d.tail) (sym arcs.0) (subst (λ (us : List ℕ). IsTailOf us right_session.arcs d.budget d.tail) counted d.tail_fits)) in
    let tail = tails_same used left_session.arcs c.budget c.tail d.tail (shape used left_session.arcs c.budget c.tail c.budget_to c.tail_fits w.tail) (shape used left_session.arcs c.budget d.tail c.budget_to fits v.tail) pairs.1 in
    certs_same c d ratio budget session tail

-- two certificates with one spelling are the same
pub spelling_same : (version : Version) (c d : Cert) → IsWhole c → IsWhole d → IsOfVersion version c → IsOfVersion version d → spelling_as version c ≡ spelling_as version d → c ≡ d
unfolding spelling_as
spelling_same version c d w v oc od e =
    lines_same version c d w v oc od (sym (lines_of_text (lines_of_cert version c) (cert_feed version c oc.bands)) ∙ ap ended_lines e
    ∙ lines_of_text (lines_of_cert version d) (cert_feed version d od.bands))
