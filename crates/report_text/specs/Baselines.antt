-- The baseline of a fix in 0.1 mm, and how it is printed.
use Rattle.std.specs.Prelude.{ℕ, ℤ, ◌+ℤ◌, ◌-ℤ◌, ◌*ℤ◌, List, [], ◌∷◌, ◌++◌, codes}
use Rattle.whole_math.specs.Rounding.{nearest_div}
use Rattle.obs_rows.specs.declared.units.TheConstants.{LIGHT_SPEED}
use Rattle.integer_form.specs.FloatPoint.{item}
use Rattle.cert_data.specs.Moves.{parts}
use Rattle.decimal_text.specs.Write.{fixed_text}

-- a number of a move in 0.1 mm
abbrev pub in_tenths : ℤ → ℤ
in_tenths number = nearest_div (number *ℤ LIGHT_SPEED) parts

-- how far a coordinate of the moved point lies from the base's
abbrev pub from_base : ℤ → ℤ → ℤ → ℤ
from_base point base number = (point -ℤ base) +ℤ in_tenths number

-- the point moved, less the base
abbrev pub baseline_of : List ℤ → List ℤ → List ℤ → List ℤ
baseline_of point base moved =
    from_base (item point 0) (item base 0) (item moved 0) ∷ from_base (item point 1) (item base 1) (item moved 1) ∷ from_base (item point 2) (item base 2) (item moved 2) ∷ []

-- lengths in 0.1 mm as metres with four places, each after one blank
abbrev pub metres_behind_blanks : List ℤ → List ℕ
metres_behind_blanks [] = []
metres_behind_blanks (n ∷ ns) = 32 ∷ (fixed_text n 4 ++ metres_behind_blanks ns)

-- a line of these words and lengths
abbrev pub place_line : List ℕ → List ℤ → List ℕ
place_line words ns = words ++ (metres_behind_blanks ns ++ 10 ∷ [])

abbrev pub baseline_line : List ℤ → List ℕ
baseline_line ns = place_line (codes "baseline") ns
