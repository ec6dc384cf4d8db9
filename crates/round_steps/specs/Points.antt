-- How a point moves by a baseline.
use Rattle.std.specs.Prelude.{ℕ, ◌^◌, ◌*◌, List, [], ◌∷◌, ℤ, pos, ◌+ℤ◌, ◌*ℤ◌, unsigned_abs}
use Rattle.whole_math.specs.Rounding.{nearest_div}
use Rattle.obs_rows.specs.declared.units.TheConstants.{LIGHT_SPEED}
use Rattle.integer_form.specs.FloatPoint.{item}
use Rattle.cert_data.specs.Moves.{parts}

-- a coordinate p in 0.1 mm moved by a number f of a baseline at this scale
abbrev pub moved_coordinate : ℕ → ℤ → ℤ → ℤ
moved_coordinate scale p f = p +ℤ nearest_div (f *ℤ pos (2 ^ scale * unsigned_abs LIGHT_SPEED)) parts

-- the point p in 0.1 mm, moved by the first three of these numbers
abbrev pub moved_point : ℕ → List ℤ → List ℤ → List ℤ
moved_point scale p x =
    moved_coordinate scale (item p 0) (item x 0) ∷ moved_coordinate scale (item p 1) (item x 1) ∷ moved_coordinate scale (item p 2) (item x 2) ∷ []
