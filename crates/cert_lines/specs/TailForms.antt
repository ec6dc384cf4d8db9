-- What the lines of a tail must be, each in its place: first its shape, then its numbers from left to right.
use Rattle.std.specs.Prelude.{ℕ, ℤ, neg_ℤ, Bool, true, false, if◌then◌else◌, List, length, take, drop, codes, Result, Ok}
use Rattle.std.specs.Str.{bytes_eq}
use Rattle.rinex_head.specs.declared.place.Flaw.{Flaw}
use Rattle.rinex_head.specs.declared.place.What.TheVariants.{BadLine}
use Rattle.rinex_head.specs.Places.{and_then, flawed}
use Rattle.cert_words.specs.declared.numbers.Number.{Number}
use Rattle.cert_words.specs.Numbers.{numbers_behind, number_at, within, natural_within, within_range}
use Rattle.cert_lines.specs.declared.ranges.TheConstants.{PIVOTS, VALUE_LIMIT}
use Rattle.cert_lines.specs.declared.tails.FormValues.{FormValues}
use Rattle.cert_lines.specs.declared.tails.WeakPivot.{WeakPivot}

-- the line begins so
abbrev pub begins : List ℕ → List ℕ → Bool
begins word line = bytes_eq (take (length word) line) word

abbrev pub weak_pivot : ℕ → ℤ → WeakPivot
weak_pivot column pivot = record { column = column; pivot = pivot }

-- words, a column up to the last one, and its pivot
abbrev pub weak_in : List ℕ → ℕ → List ℕ → Result WeakPivot Flaw
weak_in words last_column line =
    and_then (numbers_behind words 2 line) (λ ns.
    and_then (natural_within 0 last_column (number_at ns 0)) (λ column.
    and_then (within_range PIVOTS (number_at ns 1)) (λ pivot. Ok (weak_pivot column pivot))))

-- what stands after these words
abbrev pub name_in : List ℕ → List ℕ → Result (List ℕ) Flaw
name_in words line = if begins words line then Ok (drop (length words) line) else flawed 1 BadLine

-- the values of the form at the two integer vectors, and the upper sum at the first
abbrev pub form_values : ℕ → ℤ → ℤ → ℤ → FormValues
form_values h p1 p2 top = record { h = h; p1 = p1; p2 = p2; top = top }

abbrev pub value_within : Number → Result ℤ Flaw
value_within n = within (neg_ℤ VALUE_LIMIT) VALUE_LIMIT n

abbrev pub values_in : List ℕ → Result FormValues Flaw
values_in line =
    and_then (numbers_behind (codes "values") 4 line) (λ ns.
    and_then (natural_within 0 127 (number_at ns 0)) (λ h.
    and_then (value_within (number_at ns 1)) (λ p1.
    and_then (value_within (number_at ns 2)) (λ p2.
    and_then (value_within (number_at ns 3)) (λ top. Ok (form_values h p1 p2 top))))))

-- whether the integers are fixed
abbrev pub decision_line_in : List ℕ → Result Bool Flaw
decision_line_in line = if bytes_eq line (codes "fixed") then Ok true else if bytes_eq line (codes "declined unseparated") then Ok false else flawed 1 BadLine
