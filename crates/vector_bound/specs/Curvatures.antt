-- Forms of three columns, with the own entries a, b, c and the entries f, g, h of the first with the second, the first with the third, the second with the third.
use Rattle.std.specs.Prelude.{◌≡◌, ℤ, pos, ◌+ℤ◌, ◌-ℤ◌, ◌*ℤ◌, ◌≤ℤ◌, unsigned_abs}
use Rattle.std.specs.Int.{int_max}
use Rattle.whole_math.specs.Rounding.{floor_div}

-- the value at x, y, z
abbrev pub three_columns : ℤ → ℤ → ℤ → ℤ → ℤ → ℤ → ℤ → ℤ → ℤ → ℤ
three_columns a b c f g h x y z = a *ℤ (x *ℤ x) +ℤ pos 2 *ℤ (x *ℤ (f *ℤ y +ℤ g *ℤ z)) +ℤ (b *ℤ (y *ℤ y) +ℤ pos 2 *ℤ (y *ℤ (h *ℤ z)) +ℤ c *ℤ (z *ℤ z))

-- of two columns
abbrev pub minor : ℤ → ℤ → ℤ → ℤ
minor a b f = a *ℤ b -ℤ f *ℤ f

-- of all three
abbrev pub determinant : ℤ → ℤ → ℤ → ℤ → ℤ → ℤ → ℤ
determinant a b c f g h = a *ℤ (b *ℤ c -ℤ h *ℤ h) -ℤ f *ℤ (f *ℤ c -ℤ h *ℤ g) +ℤ g *ℤ (f *ℤ h -ℤ b *ℤ g)

-- the determinant over the greatest minor
abbrev pub curvature_of : ℤ → ℤ → ℤ → ℤ → ℤ → ℤ → ℤ
curvature_of a b c f g h = floor_div (determinant a b c f g h) (unsigned_abs (int_max (int_max (minor a b f) (minor a c g)) (minor b c h)))

-- mu is that, and 1 or more, and the minors are positive: mu times the square of each of x, y, z is at most the value
pub record IsCurvatureOf (a b c f g h mu : ℤ) : Type 0 where
  pub first : pos 1 ≤ℤ minor a b f
  pub second : pos 1 ≤ℤ minor a c g
  pub third : pos 1 ≤ℤ minor b c h
  pub value : mu ≡ curvature_of a b c f g h
