-- What each line of the certificate of a track must be in its place, and what is expected after it.
use Rattle.std.specs.Prelude.{ℕ, zero, suc, ◌+◌, ◌-◌, if◌then◌else◌, List, [], ◌∷◌, ◌++◌, map, codes, Result, Ok}
use Rattle.obs_rows.specs.declared.arcs.Arc.{Arc}
use Rattle.obs_rows.specs.declared.pair_rows.PairRows.{PairRows}
use Rattle.obs_rows.specs.Arcs.{free_count}
use Rattle.obs_rows.specs.Integers.{integer_count}
use Rattle.obs_rows.specs.declared.limits.TheConstants.{MOST_PAIRS, MOST_RATIO, MOST_BUDGET, MOST_ARCS}
use Rattle.rinex_head.specs.declared.place.At.{At}
use Rattle.rinex_head.specs.declared.place.Flaw.{Flaw}
use Rattle.rinex_head.specs.declared.place.What.TheVariants.{BadLine}
use Rattle.rinex_head.specs.Places.{and_then, flawed}
use Rattle.rinex_head.specs.LineRules.{Rules, text_gives}
use Rattle.line_source.specs.EndedLines.{ended_lines}
use Rattle.cert_lines.specs.Forms.{count_in, vector_in, system_in, signals_in, signals_of, arc_in, pair_in, row_in}
use Rattle.cert_lines.specs.declared.ranges.TheConstants.{COORDINATES, ENTRIES}
use Rattle.cert_lines.specs.declared.version.Version.TheVariants.{Two}
use Rattle.cert_lines.specs.TailForms.{begins, values_in, decision_line_in}
use Rattle.cert_text.specs.LineParts.{word_in}
use Rattle.track_text.specs.Spelling.{track_form}
use Rattle.track_text.specs.TailForms.{move_in, declined_in}

abbrev pub numbers_of : List PairRows → List ℕ
numbers_of pairs = map (λ p. p.number) pairs

-- what the head says of the lines after it: the budget, and the signals that count
pub record Frame : Type 0 where
  pub budget : ℕ
  pub signals : List ℕ

abbrev pub frame : ℕ → List ℕ → Frame
frame budget signals = record { budget = budget; signals = signals }

-- What may be expected: the lines of the head, with the budget from its line on; a number of arcs after these; the
-- number of pairs; a number of pairs, with numbers from a least one on; a number of other pairs after the point and the
-- rows of a pair of a number, with arcs from a least one on; the lines of the tail; the end. The numbers of the pairs so
-- far go along, and after the second vector those whose moves are due.
pub data Expected : Type 0 where
  Form : Expected
  Ratio : Expected
  Budget : Expected
  SystemLine : ℕ → Expected
  Base : ℕ → Expected
  Letters : ℕ → Expected
  ArcCount : Frame → Expected
  NextArc : Frame → ℕ → List Arc → Expected
  PairCount : Frame → List Arc → Expected
  NextPair : Frame → List Arc → ℕ → ℕ → List ℕ → Expected
  PairPoint : Frame → List Arc → ℕ → ℕ → ℕ → List ℕ → Expected
  NextRow : Frame → List Arc → ℕ → ℕ → ℕ → ℕ → List ℕ → Expected
  Tail : Frame → List Arc → List ℕ → Expected
  Second : ℕ → List ℕ → Expected
  NextMove : ℕ → List ℕ → Expected
  Values : Expected
  Last : Expected
  End : Expected

-- the number says how many arcs are to come
abbrev pub before_arcs : Frame → ℕ → List Arc → Expected
before_arcs f zero arcs = PairCount f arcs
before_arcs f (suc left) arcs = NextArc f (suc left) arcs

-- the first number says how many pairs are to come after those of these numbers
abbrev pub before_pairs : Frame → List Arc → ℕ → ℕ → List ℕ → Expected
before_pairs f arcs zero least numbers = Tail f arcs numbers
before_pairs f arcs (suc left) least numbers = NextPair f arcs (suc left) least numbers

-- the third number says how many rows of a pair are to come
abbrev pub before_rows : Frame → List Arc → ℕ → ℕ → ℕ → ℕ → List ℕ → Expected
before_rows f arcs pairs number zero least numbers = before_pairs f arcs pairs (number + 1) (numbers ++ number ∷ [])
before_rows f arcs pairs number (suc left) least numbers = NextRow f arcs pairs number (suc left) least numbers

-- the moves of the pairs of these numbers are to come
abbrev pub before_moves : List ℕ → Expected
before_moves [] = Values
before_moves (number ∷ numbers) = NextMove number numbers

-- a tail with vectors or one of one line
abbrev pub admit_tail : Frame → ℕ → List ℕ → List ℕ → Result Expected Flaw
admit_tail f integers numbers line =
    if begins (codes "z1") line then and_then (vector_in (codes "z1") integers ENTRIES line) (λ z. Ok (Second integers numbers)) else
    and_then (declined_in f.budget line) (λ t. Ok End)

abbrev pub admit : Expected → List ℕ → Result Expected Flaw
admit Form line = and_then (word_in track_form line) (λ u. Ok Ratio)
admit Ratio line = and_then (count_in (codes "ratio") 1000 MOST_RATIO line) (λ n. Ok Budget)
admit Budget line = and_then (count_in (codes "budget") 1 MOST_BUDGET line) (λ n. Ok (SystemLine n))
admit (SystemLine budget) line = and_then (system_in line) (λ s. Ok (Base budget))
admit (Base budget) line = and_then (vector_in (codes "base") 3 COORDINATES line) (λ p. Ok (Letters budget))
admit (Letters budget) line = and_then (signals_in Two line) (λ s. Ok (ArcCount (frame budget (signals_of s))))
admit (ArcCount f) line = and_then (count_in (codes "arcs") 2 MOST_ARCS line) (λ n. Ok (before_arcs f n []))
admit (NextArc f left arcs) line = and_then (arc_in Two f.signals (free_count arcs) left line) (λ a. Ok (before_arcs f (left - 1) (arcs ++ a ∷ [])))
admit (PairCount f arcs) line = and_then (count_in (codes "pairs") 1 MOST_PAIRS line) (λ n. Ok (before_pairs f arcs n 0 []))
admit (NextPair f arcs left least numbers) line = and_then (pair_in Two least line) (λ p. Ok (PairPoint f arcs (left - 1) p.number p.count numbers))
admit (PairPoint f arcs pairs number count numbers) line =
    and_then (vector_in (codes "at") 3 COORDINATES line) (λ p. Ok (before_rows f arcs pairs number count 0 numbers))
admit (NextRow f arcs pairs number left least numbers) line =
    and_then (row_in f.signals arcs number least line) (λ k. Ok (before_rows f arcs pairs number (left - 1) (k + 1) numbers))
admit (Tail f arcs numbers) line = admit_tail f (integer_count arcs f.signals) numbers line
admit (Second integers numbers) line = and_then (vector_in (codes "z2") integers ENTRIES line) (λ z. Ok (before_moves numbers))
admit (NextMove number numbers) line = and_then (move_in number line) (λ m. Ok (before_moves numbers))
admit Values line = and_then (values_in line) (λ v. Ok Last)
admit Last line = and_then (decision_line_in line) (λ f. Ok End)
admit End line = flawed 1 BadLine

-- the text may end after its tail alone
abbrev pub finish : Expected → Result (Unit {0}) Flaw
finish End = Ok tt
finish other = flawed 1 BadLine

abbrev pub track_rules : Rules Expected (Unit {0})
track_rules = record { start = Form; admit = admit; finish = finish }

-- that the text is the certificate of a track, or its first failing place
abbrev pub track_reading : List ℕ → Result (Unit {0}) At
track_reading text = text_gives track_rules (ended_lines text)
