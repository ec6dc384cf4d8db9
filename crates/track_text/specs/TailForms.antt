-- What the move of a pair and a tail of one line must be: first the shape, then the numbers from left to right.
use Rattle.std.specs.Prelude.{ℕ, ℤ, if◌then◌else◌, List, take, drop, codes, Result, Ok}
use Rattle.rinex_head.specs.declared.place.Flaw.{Flaw}
use Rattle.rinex_head.specs.Places.{and_then}
use Rattle.cert_words.specs.Numbers.{numbers_behind, number_at, natural_within, all_within}
use Rattle.cert_lines.specs.Forms.{count_in}
use Rattle.cert_lines.specs.TailForms.{begins, weak_in}
use Rattle.cert_lines.specs.declared.ranges.TheConstants.{MOVES}
use Rattle.cert_lines.specs.declared.version.Version.TheVariants.{Two}
use Rattle.cert_lines.specs.Versions.{last_column}
use Rattle.cert_text.specs.TailParts.{place_in}
use Rattle.track_data.specs.declared.tails.TrackTail.{TrackTail}
use Rattle.track_data.specs.declared.tails.TrackTail.TheVariants.{Weak, Overwidth, Spent}

-- the move of the pair of this number
abbrev pub move_in : ℕ → List ℕ → Result (List ℤ) Flaw
move_in number line =
    and_then (numbers_behind (codes "move") 4 line) (λ ns.
    and_then (natural_within number number (number_at ns 0)) (λ n. all_within MOVES (take 3 (drop 1 ns))))

abbrev pub weak_tail_in : List ℕ → Result TrackTail Flaw
weak_tail_in line = and_then (weak_in (codes "declined weak") (last_column Two) line) (λ w. Ok (Weak w.column w.pivot))

-- the budget is that of the head
abbrev pub spent_in : ℕ → List ℕ → Result TrackTail Flaw
spent_in budget line = and_then (count_in (codes "declined spent") budget budget line) (λ b. Ok (Spent b))

abbrev pub overwidth_in : List ℕ → Result TrackTail Flaw
overwidth_in line = and_then (place_in (codes "declined overwidth ") line) (λ place. Ok (Overwidth place))

-- a tail of one line
abbrev pub declined_in : ℕ → List ℕ → Result TrackTail Flaw
declined_in budget line =
    if begins (codes "declined weak") line then weak_tail_in line else
    if begins (codes "declined spent") line then spent_in budget line else overwidth_in line
