-- What each line of a `zero` file must be.
use Rattle.std.specs.Prelude.{ℕ, ℤ, ◌+◌, nat_le, List, [], ◌∷◌, ◌++◌, length, take, drop, codes, Result, Ok, None, Some, if◌then◌else◌}
use Rattle.std.specs.declared.option.Option.{Option}
use Rattle.std.specs.Str.{bytes_eq}
use Rattle.decimal_text.specs.Whole.{whole_of, size_of}
use Rattle.rinex_head.specs.declared.place.At.{At}
use Rattle.rinex_head.specs.declared.place.Flaw.{Flaw}
use Rattle.rinex_head.specs.declared.place.What.TheVariants.{BadLine, BadRange}
use Rattle.rinex_head.specs.Places.{and_then, flawed}
use Rattle.rinex_head.specs.LineRules.{Rules, text_gives}
use Rattle.file_jobs.specs.ZeroRows.{Rows, rows}

-- the number in a line after a word: first its shape, then its range
abbrev pub within : ℕ → ℕ → Option ℤ → Result ℤ Flaw
within most column None = flawed 1 BadLine
within most column (Some z) = if nat_le (size_of z) most then Ok z else flawed column BadRange

abbrev pub number_behind : List ℕ → ℕ → List ℕ → Result ℤ Flaw
number_behind word most line = if bytes_eq (take (length word) line) word then within most (length word + 1) (whole_of (drop (length word) line)) else flawed 1 BadLine

-- what can be expected: the first line, the claimed number, or a difference after these rows
pub data Expected : Type 0 where
  Head : Expected
  Claim : Expected
  Diff : Rows → Expected

abbrev pub claimed : ℤ → Expected
claimed z = Diff (rows z [])

abbrev pub with_diff : Rows → ℤ → Expected
with_diff so_far d = Diff (rows so_far.claim (so_far.diffs ++ d ∷ []))

abbrev pub admit : Expected → List ℕ → Result Expected Flaw
admit Head line = if bytes_eq line (codes "zero 1") then Ok Claim else flawed 1 BadLine
admit Claim line = and_then (number_behind (codes "z ") 10000000 line) (λ z. Ok (claimed z))
admit (Diff so_far) line = if nat_le 1000 (length so_far.diffs) then flawed 1 BadLine else and_then (number_behind (codes "diff ") 1000000000 line) (λ d. Ok (with_diff so_far d))

-- the text may end after one difference or more
abbrev pub with_some : ℤ → List ℤ → Result Rows Flaw
with_some z [] = flawed 1 BadLine
with_some z (d ∷ ds) = Ok (rows z (d ∷ ds))

abbrev pub finish : Expected → Result Rows Flaw
finish Head = flawed 1 BadLine
finish Claim = flawed 1 BadLine
finish (Diff so_far) = with_some so_far.claim so_far.diffs

abbrev pub rows_rules : Rules Expected Rows
rows_rules = record { start = Head; admit = admit; finish = finish }

-- the rows that the lines say, or their first failing place
abbrev pub rows_of : List (List ℕ) → Result Rows At
rows_of lines = text_gives rows_rules lines
