-- How a certificate is spelled: the lines of its head, of its arcs, of its pairs and of its tail.
use Rattle.std.specs.Prelude.{ℕ, ℤ, true, false, List, [], ◌∷◌, ◌++◌, length, take, codes}
use Rattle.obs_rows.specs.declared.bands.Signals.{Signals}
use Rattle.obs_rows.specs.declared.pair_rows.PairRows.{PairRows}
use Rattle.obs_rows.specs.declared.sessions.Session.{Session}
use Rattle.int_search.specs.declared.answer.TwoBest.{TwoBest}
use Rattle.cert_data.specs.declared.tails.Tail.{Tail}
use Rattle.cert_data.specs.declared.tails.Tail.TheVariants.{Fixed, Unseparated, Weak, Overwidth, Unsettled, Spent}
use Rattle.cert_data.specs.declared.certs.Cert.{Cert}
use Rattle.cert_data.specs.Places.{name_of_place}
use Rattle.obs_rows.specs.Signals.{fine_signals}
use Rattle.cert_lines.specs.declared.version.Version.{Version}
use Rattle.cert_lines.specs.declared.version.Version.TheVariants.{One, Two}
use Rattle.cert_lines.specs.Versions.{form_line}
use Rattle.cert_words.specs.Spelling.{text_of_lines}
use Rattle.cert_lines.specs.Lines.{count_line, vector_line, system_line, signals_line, counted_arcs, pair_lines, values_line, weak_line, named_line, decision_line}

-- the line of the system, of which the first version knew nothing
abbrev pub system_lines : Version → ℕ → List (List ℕ)
system_lines One system = []
system_lines Two system = system_line system ∷ []

-- what stands before the arcs
abbrev pub head_lines : Version → ℕ → ℕ → ℕ → List ℤ → List ℤ → Signals → List (List ℕ)
head_lines version ratio budget system base point signals =
    form_line version ∷ count_line (codes "ratio") ratio ∷ count_line (codes "budget") budget
    ∷ (system_lines version system ++ vector_line (codes "base") base ∷ vector_line (codes "point") point ∷ signals_line version signals.l1 signals.l2 signals.l5 ∷ [])

-- each pair with its rows
abbrev pub all_pair_lines : List ℕ → List PairRows → List (List ℕ)
all_pair_lines signals [] = []
all_pair_lines signals (p ∷ pairs) = pair_lines signals p ++ all_pair_lines signals pairs

abbrev pub counted_pairs : List ℕ → List PairRows → List (List ℕ)
counted_pairs signals pairs = count_line (codes "pairs") (length pairs) ∷ all_pair_lines signals pairs

-- the two integer vectors, the move, and the values
abbrev pub vectors_lines : ℕ → List ℤ → TwoBest → ℤ → List (List ℕ)
vectors_lines h moved best top =
    vector_line (codes "z1") (take best.size best.first) ∷ vector_line (codes "z2") (take best.size best.second) ∷ vector_line (codes "move") moved
    ∷ values_line h best.p1 best.p2 top ∷ []

abbrev pub unsettled_line : ℤ → List ℕ
unsettled_line entry = vector_line (codes "declined unsettled fine") (entry ∷ [])

abbrev pub spent_line : ℕ → List ℕ
spent_line budget = count_line (codes "declined spent") budget

abbrev pub tail_lines : Tail → List (List ℕ)
tail_lines (Fixed h moved best top) = vectors_lines h moved best top ++ decision_line true ∷ []
tail_lines (Unseparated h moved best top) = vectors_lines h moved best top ++ decision_line false ∷ []
tail_lines (Weak column pivot) = weak_line (codes "declined weak fine") column pivot ∷ []
tail_lines (Overwidth place) = named_line (codes "declined overwidth fine ") (name_of_place place) ∷ []
tail_lines (Unsettled entry) = unsettled_line entry ∷ []
tail_lines (Spent budget) = spent_line budget ∷ []

abbrev pub session_lines : Version → ℕ → ℕ → Session → List (List ℕ)
session_lines version ratio budget s =
    head_lines version ratio budget s.system s.base s.point s.signals ++ (counted_arcs (fine_signals s.signals) s.arcs ++ counted_pairs (fine_signals s.signals) s.pairs)

abbrev pub lines_of_cert : Version → Cert → List (List ℕ)
lines_of_cert version c = session_lines version c.ratio c.budget c.session ++ tail_lines c.tail

-- the text of a certificate in the form of a version
unfoldable pub spelling_as : Version → Cert → List ℕ
spelling_as version c = text_of_lines (lines_of_cert version c)

-- the text of a certificate
abbrev pub spelling : Cert → List ℕ
spelling c = spelling_as Two c
