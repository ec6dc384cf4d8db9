-- What each line of a certificate must be in its place, and what is expected after it.
use Rattle.std.specs.Prelude.{ℕ, zero, suc, ◌+◌, ◌-◌, if◌then◌else◌, List, [], ◌∷◌, ◌++◌, codes, Result, Ok}
use Rattle.obs_rows.specs.declared.arcs.Arc.{Arc}
use Rattle.obs_rows.specs.Arcs.{free_count}
use Rattle.obs_rows.specs.Integers.{integer_count}
use Rattle.obs_rows.specs.declared.limits.TheConstants.{MOST_PAIRS, MOST_RATIO, MOST_BUDGET, MOST_ARCS}
use Rattle.rinex_head.specs.declared.place.At.{At}
use Rattle.rinex_head.specs.declared.place.Flaw.{Flaw}
use Rattle.rinex_head.specs.declared.place.What.TheVariants.{BadLine}
use Rattle.rinex_head.specs.Places.{and_then, flawed}
use Rattle.rinex_head.specs.LineRules.{Rules, walk}
use Rattle.line_source.specs.EndedLines.{ended_lines}
use Rattle.cert_lines.specs.Forms.{count_in, vector_in, system_in, signals_in, signals_of, arc_in, pair_in, row_in}
use Rattle.cert_lines.specs.declared.ranges.TheConstants.{COORDINATES, ENTRIES, MOVES}
use Rattle.cert_lines.specs.declared.version.Version.{Version}
use Rattle.cert_lines.specs.declared.version.Version.TheVariants.{One, Two}
use Rattle.cert_lines.specs.Versions.{form_line}
use Rattle.cert_lines.specs.TailForms.{begins, values_in, decision_line_in}
use Rattle.cert_text.specs.LineParts.{word_in}
use Rattle.cert_text.specs.TailForms.{declined_in}

-- what the head says of the lines after it: the form of the text, the budget, and the signals that count
pub record Frame : Type 0 where
  pub version : Version
  pub budget : ℕ
  pub signals : List ℕ

abbrev pub frame : Version → ℕ → List ℕ → Frame
frame version budget signals = record { version = version; budget = budget; signals = signals }

-- What may be expected: the lines of the head, with the budget from its line on; further arcs after these; the number
-- of pairs; pairs, with numbers from a least one on; rows of a pair of a number before other
-- pairs, with arcs from a least one on; the lines of the tail; the end.
pub data Expected : Type 0 where
  Form : Version → Expected
  Ratio : Version → Expected
  Budget : Version → Expected
  SystemLine : ℕ → Expected
  Base : Version → ℕ → Expected
  Point : Version → ℕ → Expected
  Letters : Version → ℕ → Expected
  ArcCount : Frame → Expected
  NextArc : Frame → ℕ → List Arc → Expected
  PairCount : Frame → List Arc → Expected
  NextPair : Frame → List Arc → ℕ → ℕ → Expected
  NextRow : Frame → List Arc → ℕ → ℕ → ℕ → ℕ → Expected
  Tail : Frame → List Arc → Expected
  Second : ℕ → Expected
  Move : Expected
  Values : Expected
  Last : Expected
  End : Expected

-- the second version alone has a line for the system
abbrev pub behind_budget : Version → ℕ → Expected
behind_budget One budget = Base One budget
behind_budget Two budget = SystemLine budget

-- what is expected, by how many arcs are to come
abbrev pub before_arcs : Frame → ℕ → List Arc → Expected
before_arcs f zero arcs = PairCount f arcs
before_arcs f (suc left) arcs = NextArc f (suc left) arcs

-- what is expected, by how many pairs are to come
abbrev pub before_pairs : Frame → List Arc → ℕ → ℕ → Expected
before_pairs f arcs zero least = Tail f arcs
before_pairs f arcs (suc left) least = NextPair f arcs (suc left) least

-- what is expected, by how many rows of a pair are to come
abbrev pub before_rows : Frame → List Arc → ℕ → ℕ → ℕ → ℕ → Expected
before_rows f arcs pairs number zero least = before_pairs f arcs pairs (number + 1)
before_rows f arcs pairs number (suc left) least = NextRow f arcs pairs number (suc left) least

-- a tail with vectors or one of one line
abbrev pub admit_tail : Frame → ℕ → List ℕ → Result Expected Flaw
admit_tail f integers line =
    if begins (codes "z1") line then and_then (vector_in (codes "z1") integers ENTRIES line) (λ z. Ok (Second integers)) else
    and_then (declined_in f.version f.budget line) (λ t. Ok End)

abbrev pub admit : Expected → List ℕ → Result Expected Flaw
admit (Form v) line = and_then (word_in (form_line v) line) (λ u. Ok (Ratio v))
admit (Ratio v) line = and_then (count_in (codes "ratio") 1000 MOST_RATIO line) (λ n. Ok (Budget v))
admit (Budget v) line = and_then (count_in (codes "budget") 1 MOST_BUDGET line) (λ n. Ok (behind_budget v n))
admit (SystemLine budget) line = and_then (system_in line) (λ s. Ok (Base Two budget))
admit (Base v budget) line = and_then (vector_in (codes "base") 3 COORDINATES line) (λ p. Ok (Point v budget))
admit (Point v budget) line = and_then (vector_in (codes "point") 3 COORDINATES line) (λ p. Ok (Letters v budget))
admit (Letters v budget) line = and_then (signals_in v line) (λ s. Ok (ArcCount (frame v budget (signals_of s))))
admit (ArcCount f) line = and_then (count_in (codes "arcs") 2 MOST_ARCS line) (λ n. Ok (before_arcs f n []))
admit (NextArc f left arcs) line = and_then (arc_in f.version f.signals (free_count arcs) left line) (λ a. Ok (before_arcs f (left - 1) (arcs ++ a ∷ [])))
admit (PairCount f arcs) line = and_then (count_in (codes "pairs") 1 MOST_PAIRS line) (λ n. Ok (before_pairs f arcs n 0))
admit (NextPair f arcs left least) line = and_then (pair_in f.version least line) (λ p. Ok (before_rows f arcs (left - 1) p.number p.count 0))
admit (NextRow f arcs pairs number left least) line = and_then (row_in f.signals arcs number least line) (λ k. Ok (before_rows f arcs pairs number (left - 1) (k + 1)))
admit (Tail f arcs) line = admit_tail f (integer_count arcs f.signals) line
admit (Second integers) line = and_then (vector_in (codes "z2") integers ENTRIES line) (λ z. Ok Move)
admit Move line = and_then (vector_in (codes "move") 3 MOVES line) (λ m. Ok Values)
admit Values line = and_then (values_in line) (λ v. Ok Last)
admit Last line = and_then (decision_line_in line) (λ f. Ok End)
admit End line = flawed 1 BadLine

-- the text may end after its tail alone
abbrev pub finish : Expected → Result (Unit {0}) Flaw
finish End = Ok tt
finish other = flawed 1 BadLine

abbrev pub cert_rules : Rules Expected (Unit {0})
cert_rules = record { start = Form Two; admit = admit; finish = finish }

-- that the text is a certificate in the form of this version, or its first failing place
abbrev pub reading_as : Version → List ℕ → Result (Unit {0}) At
reading_as version text = walk cert_rules (ended_lines text) 0 (Form version)

-- the same in the form that is written now
abbrev pub reading_of : List ℕ → Result (Unit {0}) At
reading_of text = reading_as Two text
