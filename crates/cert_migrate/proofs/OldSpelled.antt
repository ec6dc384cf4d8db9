-- A certificate of version 1 is spelled as the one that carries it, in the form of version 1.
use Rattle.std.proofs.Common.{◌≡◌, ℕ, ◌≤◌, List, [], ◌∷◌, ◌++◌, length, map, take, codes, ℤ, pos, true, false, refl, sym, ap, ap₂, ◌∙◌}
use Rattle.std.specs.List.{AllZip, flat_map}
use Rattle.std.proofs.lemmas.List.{length-map}
use Rattle.std.proofs.lemmas.Slice.Zip.{AllZip-long}
use Rattle.obs_rows.specs.declared.arcs.Arc.{Arc}
use Rattle.obs_rows.specs.declared.rows.Row.{Row}
use Rattle.obs_rows.specs.declared.pair_rows.PairRows.{PairRows}
use Rattle.obs_rows.specs.declared.sessions.Session.{Session}
use Rattle.obs_rows.specs.Signals.{fine_signals}
use Rattle.int_search.specs.declared.answer.TwoBest.{TwoBest}
use Rattle.cert_words.specs.Spelling.{behind_blanks, text_of_lines}
use Rattle.cert_lines.specs.Lines.{row_line, row_lines, pair_lines, arc_line, arc_lines, decision_line}
use Rattle.cert_lines.specs.declared.version.Version.TheVariants.{One}
use Rattle.cert_data.specs.declared.tails.Tail.{Tail}
use Rattle.cert_data.specs.declared.tails.Tail.TheVariants as now
use Rattle.cert_data.specs.declared.certs.Cert.{Cert}
use Rattle.cert_text.specs.Spelling.{all_pair_lines, vectors_lines, tail_lines, lines_of_cert, spelling_as}
use Rattle.cert_migrate.specs.declared.old_rows.OldRow.{OldRow}
use Rattle.cert_migrate.specs.declared.old_pairs.OldPair.{OldPair}
use Rattle.cert_migrate.specs.declared.old_tails.OldBest.{OldBest}
use Rattle.cert_migrate.specs.declared.old_tails.OldTail.{OldTail}
use Rattle.cert_migrate.specs.declared.old_certs.OldCert.{OldCert}
use Rattle.cert_migrate.specs.OldSums.{old_signals}
use Rattle.cert_migrate.specs.OldSpelling.{old_line, old_arc_line, old_row_line, old_pair_lines, old_vectors_lines, old_tail_lines, old_lines, old_spelling}
use Rattle.cert_migrate.specs.Carriers.{old_arc, IsRowOf, IsPairOf, IsBestOf, IsEndOf, HasFewEntries, IsCarrierOf}
use Rattle.cert_migrate.proofs.LiftedData.{signals_are}
use Rattle.cert_migrate.proofs.MovedLists.{front_of_front}

-- ---- arcs
arcs_spelled : (arcs : List Arc) → map old_arc_line (map old_arc arcs) ≡ arc_lines old_signals arcs
arcs_spelled [] = refl
arcs_spelled (a ∷ arcs) = ap (λ (lines : List (List ℕ)). arc_line old_signals a ∷ lines) (arcs_spelled arcs)

-- ---- rows and pairs
abbrev row_text : ℕ → List ℤ → ℤ → List ℤ → List ℤ → List ℕ
row_text arc y ry u ru = codes "row" ++ behind_blanks (pos arc ∷ (y ++ (ry ∷ (u ++ ru))))

row_spelled : (r : Row) (o : OldRow) → IsRowOf r o → old_row_line o ≡ row_line old_signals r
row_spelled r o h = λ i. row_text (h.arc i) (h.y i) (h.ry i) (h.u i) (h.ru i)

rows_spelled : (rs : List Row) (os : List OldRow) → AllZip IsRowOf rs os → map old_row_line os ≡ row_lines old_signals rs
rows_spelled [] [] h = refl
rows_spelled [] (o ∷ os) h = absurd h
rows_spelled (r ∷ rs) [] h = absurd h
rows_spelled (r ∷ rs) (o ∷ os) h = let head = row_spelled r o h.0 in let tail = rows_spelled rs os h.1 in λ i. head i ∷ tail i

abbrev pair_text : ℕ → ℕ → ℤ → ℕ → List ℕ
pair_text number tag group count = codes "pair" ++ behind_blanks (pos number ∷ pos tag ∷ group ∷ pos count ∷ [])

pair_spelled : (p : PairRows) (o : OldPair) → IsPairOf p o → old_pair_lines o ≡ pair_lines old_signals p
pair_spelled p o h =
    let rows = rows_spelled p.rows o.rows h.rows in
    let count : length o.rows ≡ length p.rows = AllZip-long IsRowOf p.rows o.rows h.rows in
    λ i. pair_text (h.number i) (h.tag i).0 (h.group i) (count i) ∷ rows i

pairs_spelled : (ps : List PairRows) (os : List OldPair) → AllZip IsPairOf ps os → flat_map old_pair_lines os ≡ all_pair_lines old_signals ps
pairs_spelled [] [] h = refl
pairs_spelled [] (o ∷ os) h = absurd h
pairs_spelled (p ∷ ps) [] h = absurd h
pairs_spelled (p ∷ ps) (o ∷ os) h = let head = pair_spelled p o h.0 in let tail = pairs_spelled ps os h.1 in λ i. head i ++ tail i

-- ---- the tail
abbrev vectors_text : List ℤ → List ℤ → List ℤ → ℕ → ℤ → ℤ → ℤ → List (List ℕ)
vectors_text z1 z2 moved h p1 p2 top =
    old_line (codes "z1") z1 ∷ old_line (codes "z2") z2 ∷ old_line (codes "move") moved ∷ old_line (codes "values") (pos h ∷ p1 ∷ p2 ∷ top ∷ []) ∷ []

entries_same : (n m : ℕ) (xs ys : List ℤ) → n ≡ m → ys ≡ take 40 xs → m ≤ 40 → take n ys ≡ take m xs
entries_same n m xs ys e f few = ap₂ (λ (k : ℕ) (l : List ℤ). take k l) e f ∙ front_of_front m 40 xs few

vectors_spelled : (h : ℕ) (moved : List ℤ) (b : TwoBest) (o : OldBest) (top : ℤ) → IsBestOf b o → b.size ≤ 40 → old_vectors_lines h moved o top ≡ vectors_lines h moved b top
vectors_spelled h moved b o top e few =
    let first = entries_same o.size b.size b.first o.first e.size e.first few in
    let second = entries_same o.size b.size b.second o.second e.size e.second few in
    λ i. vectors_text (first i) (second i) moved h (e.p1 i) (e.p2 i) top

tail_spelled : (t : Tail) (o : OldTail) → IsEndOf t o → HasFewEntries t → old_tail_lines o ≡ tail_lines t
tail_spelled (now.Fixed h moved best top) o e few =
    ap old_tail_lines e.1.1 ∙ ap (λ (lines : List (List ℕ)). lines ++ decision_line true ∷ []) (vectors_spelled h moved best e.0 top e.1.0 few)
tail_spelled (now.Unseparated h moved best top) o e few =
    ap old_tail_lines e.1.1 ∙ ap (λ (lines : List (List ℕ)). lines ++ decision_line false ∷ []) (vectors_spelled h moved best e.0 top e.1.0 few)
tail_spelled (now.Weak column pivot) o e few = ap old_tail_lines e
tail_spelled (now.Overwidth place) o e few = ap old_tail_lines e
tail_spelled (now.Unsettled entry) o e few = ap old_tail_lines e
tail_spelled (now.Spent budget) o e few = ap old_tail_lines e

-- ---- the text
abbrev lines_by : ℕ → ℕ → List ℤ → List ℤ → ℕ → ℕ → ℕ → List (List ℕ) → ℕ → List (List ℕ) → List (List ℕ) → List (List ℕ)
lines_by ratio budget base point l1 l2 arcs arc_lines pairs pair_lines tail =
    codes "baseline-cert 1" ∷ old_line (codes "ratio") (pos ratio ∷ []) ∷ old_line (codes "budget") (pos budget ∷ [])
    ∷ old_line (codes "base") base ∷ old_line (codes "point") point ∷ (codes "signals" ++ (32 ∷ l1 ∷ 32 ∷ l2 ∷ []))
    ∷ (((old_line (codes "arcs") (pos arcs ∷ []) ∷ arc_lines) ++ (old_line (codes "pairs") (pos pairs ∷ []) ∷ pair_lines)) ++ tail)

lines_same : (c : Cert) (o : OldCert) → IsCarrierOf c o → c.session.signals.l5 ≡ 0 → HasFewEntries c.tail → old_lines o ≡ lines_of_cert One c
lines_same c o h l5 few =
    let session : Session = c.session in
    let same_signals = sym (signals_are session.signals l5) in
    let session_carried = h.session in
    let arc_count : length o.session.arcs ≡ length session.arcs = ap length session_carried.arcs ∙ length-map session.arcs old_arc in
    let arcs : map old_arc_line o.session.arcs ≡ arc_lines (fine_signals session.signals) session.arcs = ap (map old_arc_line) session_carried.arcs ∙ arcs_spelled session.arcs ∙ ap (λ (l : List ℕ). arc_lines l session.arcs) same_signals in
    let pair_count : length o.session.pairs ≡ length session.pairs = AllZip-long IsPairOf session.pairs o.session.pairs session_carried.pairs in
    let pairs : flat_map old_pair_lines o.session.pairs ≡ all_pair_lines (fine_signals session.signals) session.pairs = pairs_spelled session.pairs o.session.pairs session_carried.pairs ∙ ap
    (λ (l : List ℕ). all_pair_lines l session.pairs) same_signals in
    let tail = tail_spelled c.tail o.tail h.tail few in
    λ i. lines_by (h.ratio i) (h.budget i) (session_carried.base i) (session_carried.point i) (session_carried.l1 i) (session_carried.l2 i) (arc_count i) (arcs i) (pair_count i) (pairs i) (tail i)

pub spelled_same : (c : Cert) (o : OldCert) → IsCarrierOf c o → c.session.signals.l5 ≡ 0 → HasFewEntries c.tail → old_spelling o ≡ spelling_as One c
unfolding old_spelling spelling_as
spelled_same c o h l5 few = ap text_of_lines (lines_same c o h l5 few)
