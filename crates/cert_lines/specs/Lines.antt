-- How the lines of a certificate are spelled: a word, and numbers as `itoa` writes them, each after one blank.
use Rattle.std.specs.Prelude.{ℕ, ℤ, pos, ◌==◌, Bool, if◌then◌else◌, List, [], ◌∷◌, ◌++◌, length, codes}
use Rattle.obs_rows.specs.declared.arcs.Arc.{Arc}
use Rattle.obs_rows.specs.declared.pair_rows.PairRows.{PairRows}
use Rattle.obs_rows.specs.declared.rows.Row.{Row}
use Rattle.cert_lines.specs.declared.version.Version.{Version}
use Rattle.cert_lines.specs.declared.version.Version.TheVariants.{One, Two}
use Rattle.cert_lines.specs.Places.{select}
use Rattle.obs_rows.specs.CountedSignals.{phase_bands}
use Rattle.cert_words.specs.Spelling.{behind_blanks}

-- `ratio`, `budget`, `arcs`, `pairs` and others: one number that isn't below 0
abbrev pub count_line : List ℕ → ℕ → List ℕ
count_line word n = word ++ behind_blanks (pos n ∷ [])

-- `base`, `point`, `z1`, `z2` and `move`
abbrev pub vector_line : List ℕ → List ℤ → List ℕ
vector_line word zs = word ++ behind_blanks zs

-- the letter of the system: G or E
abbrev pub system_line : ℕ → List ℕ
system_line letter = codes "system" ++ 32 ∷ letter ∷ []

-- letters, each after one blank
abbrev pub letters_text : List ℕ → List ℕ
letters_text [] = []
letters_text (x ∷ xs) = 32 ∷ x ∷ letters_text xs

-- the bands that have a letter, and the letters. The first version knew two bands and didn't name them
abbrev pub signals_line : Version → ℕ → ℕ → ℕ → List ℕ
signals_line One l1 l2 l5 = codes "signals" ++ letters_text (l1 ∷ l2 ∷ [])
signals_line Two l1 l2 l5 =
    if l5 == 0 then codes "signals 12" ++ letters_text (l1 ∷ l2 ∷ []) else
    if l2 == 0 then codes "signals 15" ++ letters_text (l1 ∷ l5 ∷ []) else codes "signals 125" ++ letters_text (l1 ∷ l2 ∷ l5 ∷ [])

abbrev pub kind_text : Bool → List ℕ
kind_text datum = if datum then codes " datum" else codes " free"

-- the line of an arc, with the shift of each phase among these signals
abbrev pub arc_line : List ℕ → Arc → List ℕ
arc_line signals a = codes "arc" ++ (behind_blanks (pos a.sat ∷ pos a.first ∷ pos a.last ∷ []) ++ (kind_text a.datum ++ behind_blanks (select (phase_bands signals) a.shift)))

-- the number of a pair, its tag, its group and how many rows follow
abbrev pub pair_line : ℕ → ℕ → ℤ → ℕ → List ℕ
pair_line number tag group count = codes "pair" ++ behind_blanks (pos number ∷ pos tag ∷ group ∷ pos count ∷ [])

-- the numbers of a row, with the observation of each of these signals
abbrev pub row_numbers : List ℕ → Row → List ℤ
row_numbers signals r = pos r.arc ∷ (select signals r.y ++ (r.ry ∷ (r.u ++ r.ru)))

abbrev pub row_line : List ℕ → Row → List ℕ
row_line signals r = codes "row" ++ behind_blanks (row_numbers signals r)

-- the lines of a pair and of its rows
abbrev pub row_lines : List ℕ → List Row → List (List ℕ)
row_lines signals [] = []
row_lines signals (r ∷ rs) = row_line signals r ∷ row_lines signals rs

abbrev pub pair_lines : List ℕ → PairRows → List (List ℕ)
pair_lines signals p = pair_line p.number p.tag.0 p.group (length p.rows) ∷ row_lines signals p.rows

-- each arc on a line of its own
abbrev pub arc_lines : List ℕ → List Arc → List (List ℕ)
arc_lines signals [] = []
arc_lines signals (a ∷ arcs) = arc_line signals a ∷ arc_lines signals arcs

abbrev pub counted_arcs : List ℕ → List Arc → List (List ℕ)
counted_arcs signals arcs = count_line (codes "arcs") (length arcs) ∷ arc_lines signals arcs

-- the values of the form and the upper sum
abbrev pub values_line : ℕ → ℤ → ℤ → ℤ → List ℕ
values_line h p1 p2 top = codes "values" ++ behind_blanks (pos h ∷ p1 ∷ p2 ∷ top ∷ [])

-- words, and a column with its pivot
abbrev pub weak_line : List ℕ → ℕ → ℤ → List ℕ
weak_line words column pivot = words ++ behind_blanks (pos column ∷ pivot ∷ [])

-- words that end with a blank, and a name
abbrev pub named_line : List ℕ → List ℕ → List ℕ
named_line words name = words ++ name

-- the last line after two vectors
abbrev pub decision_line : Bool → List ℕ
decision_line fixed = if fixed then codes "fixed" else codes "declined unseparated"
