-- What a tail of one line must be: first its shape, then its numbers from left to right.
use Rattle.std.specs.Prelude.{ℕ, pos, if◌then◌else◌, List, slice_index_or, codes, Result, Ok}
use Rattle.rinex_head.specs.declared.place.Flaw.{Flaw}
use Rattle.rinex_head.specs.Places.{and_then}
use Rattle.cert_lines.specs.Forms.{count_in, vector_in}
use Rattle.cert_lines.specs.TailForms.{begins, weak_in}
use Rattle.cert_lines.specs.declared.ranges.TheConstants.{MOVES}
use Rattle.cert_lines.specs.declared.version.Version.{Version}
use Rattle.cert_lines.specs.Versions.{last_column}
use Rattle.cert_text.specs.TailParts.{place_in}
use Rattle.cert_data.specs.declared.tails.Tail.{Tail}
use Rattle.cert_data.specs.declared.tails.Tail.TheVariants.{Weak, Overwidth, Unsettled, Spent}

abbrev pub weak_tail_in : Version → List ℕ → Result Tail Flaw
weak_tail_in version line = and_then (weak_in (codes "declined weak fine") (last_column version) line) (λ w. Ok (Weak w.column w.pivot))

abbrev pub unsettled_in : List ℕ → Result Tail Flaw
unsettled_in line = and_then (vector_in (codes "declined unsettled fine") 1 MOVES line) (λ zs. Ok (Unsettled (slice_index_or zs 0 (pos 0))))

-- the budget is that of the head
abbrev pub spent_in : ℕ → List ℕ → Result Tail Flaw
spent_in budget line = and_then (count_in (codes "declined spent") budget budget line) (λ b. Ok (Spent b))

abbrev pub overwidth_in : List ℕ → Result Tail Flaw
overwidth_in line = and_then (place_in (codes "declined overwidth fine ") line) (λ place. Ok (Overwidth place))

-- a tail of one line
abbrev pub declined_in : Version → ℕ → List ℕ → Result Tail Flaw
declined_in version budget line =
    if begins (codes "declined weak") line then weak_tail_in version line else
    if begins (codes "declined unsettled") line then unsettled_in line else
    if begins (codes "declined spent") line then spent_in budget line else overwidth_in line
