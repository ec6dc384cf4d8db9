-- How the certificate of a track is spelled: the lines of its head, of its arcs, of its pairs with their points, and of its
-- tail.
use Rattle.std.specs.Prelude.{ℕ, ℤ, pos, true, false, List, [], ◌∷◌, ◌++◌, length, take, codes}
use Rattle.obs_rows.specs.declared.bands.Signals.{Signals}
use Rattle.obs_rows.specs.declared.pair_rows.PairRows.{PairRows}
use Rattle.obs_rows.specs.Signals.{fine_signals}
use Rattle.int_search.specs.declared.answer.TwoBest.{TwoBest}
use Rattle.cert_data.specs.Places.{name_of_place}
use Rattle.cert_words.specs.Spelling.{text_of_lines}
use Rattle.cert_lines.specs.declared.version.Version.TheVariants.{Two}
use Rattle.cert_lines.specs.Lines.{count_line, vector_line, system_line, signals_line, counted_arcs, pair_line, row_lines, values_line, weak_line, named_line, decision_line}
use Rattle.cert_text.specs.Spelling.{spent_line}
use Rattle.track_data.specs.declared.tracks.Track.{Track}
use Rattle.track_data.specs.declared.tails.TrackTail.{TrackTail}
use Rattle.track_data.specs.declared.tails.TrackTail.TheVariants.{Fixed, Unseparated, Weak, Overwidth, Spent}
use Rattle.track_data.specs.declared.certs.TrackCert.{TrackCert}

-- the first line
abbrev pub track_form : List ℕ
track_form = codes "baseline-track 1"

-- what stands before the arcs
abbrev pub track_head_lines : ℕ → ℕ → ℕ → List ℤ → Signals → List (List ℕ)
track_head_lines ratio budget system base signals =
    track_form ∷ count_line (codes "ratio") ratio ∷ count_line (codes "budget") budget ∷ system_line system ∷ vector_line (codes "base") base
    ∷ signals_line Two signals.l1 signals.l2 signals.l5 ∷ []

-- the lines of a pair, of its point and of its rows
abbrev pub placed_pair_lines : List ℕ → PairRows → List ℤ → List (List ℕ)
placed_pair_lines signals p point = pair_line p.number p.tag.0 p.group (length p.rows) ∷ vector_line (codes "at") point ∷ row_lines signals p.rows

-- each pair with its point and its rows
abbrev pub all_placed_pairs : List ℕ → List PairRows → List (List ℤ) → List (List ℕ)
all_placed_pairs signals [] points = []
all_placed_pairs signals (p ∷ pairs) [] = []
all_placed_pairs signals (p ∷ pairs) (point ∷ points) = placed_pair_lines signals p point ++ all_placed_pairs signals pairs points

abbrev pub counted_placed_pairs : List ℕ → List PairRows → List (List ℤ) → List (List ℕ)
counted_placed_pairs signals pairs points = count_line (codes "pairs") (length pairs) ∷ all_placed_pairs signals pairs points

-- what stands before the tail
abbrev pub track_lines : ℕ → ℕ → Track → List (List ℕ)
track_lines ratio budget t =
    track_head_lines ratio budget t.system t.base t.signals ++ (counted_arcs (fine_signals t.signals) t.arcs ++ counted_placed_pairs (fine_signals t.signals) t.pairs t.points)

-- the number of a pair and its move
abbrev pub move_line : ℕ → List ℤ → List ℕ
move_line number m = vector_line (codes "move") (pos number ∷ m)

-- the move of each pair
abbrev pub move_lines : List PairRows → List (List ℤ) → List (List ℕ)
move_lines [] moves = []
move_lines (p ∷ pairs) [] = []
move_lines (p ∷ pairs) (m ∷ moves) = move_line p.number m ∷ move_lines pairs moves

-- the two integer vectors, the moves, and the values
abbrev pub track_vectors_lines : List PairRows → ℕ → List (List ℤ) → TwoBest → ℤ → List (List ℕ)
track_vectors_lines pairs h moves best top =
    vector_line (codes "z1") (take best.size best.first) ∷ vector_line (codes "z2") (take best.size best.second)
    ∷ (move_lines pairs moves ++ values_line h best.p1 best.p2 top ∷ [])

abbrev pub track_tail_lines : List PairRows → TrackTail → List (List ℕ)
track_tail_lines pairs (Fixed h moves best top) = track_vectors_lines pairs h moves best top ++ decision_line true ∷ []
track_tail_lines pairs (Unseparated h moves best top) = track_vectors_lines pairs h moves best top ++ decision_line false ∷ []
track_tail_lines pairs (Weak column pivot) = weak_line (codes "declined weak") column pivot ∷ []
track_tail_lines pairs (Overwidth place) = named_line (codes "declined overwidth ") (name_of_place place) ∷ []
track_tail_lines pairs (Spent budget) = spent_line budget ∷ []

abbrev pub lines_of_track : TrackCert → List (List ℕ)
lines_of_track c = track_lines c.ratio c.budget c.track ++ track_tail_lines c.track.pairs c.tail

-- the text of the certificate of a track
unfoldable pub track_spelling : TrackCert → List ℕ
track_spelling c = text_of_lines (lines_of_track c)
