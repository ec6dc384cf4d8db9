-- The sums of the squares of the radii, as numbers of four fields.
use Rattle.std.specs.Prelude.{ℕ, ℤ, pos, ◌*ℤ◌, ◌≤ℤ◌}
use Rattle.obs_rows.specs.declared.rows.Row.{Row}
use Rattle.obs_rows.specs.Data.{number_at}
use Rattle.quadratic_form.specs.Rows.{Radii}
use Rattle.normal_sum.specs.declared.radii.RadiusSums.{RadiusSums}

abbrev pub radii_of : RadiusSums → Radii
radii_of s = record { r1 = s.u1; r2 = s.u2; r3 = s.u3; ry = s.y }

-- each from 0 to m
pub record IsAtMost (m : ℕ) (s : RadiusSums) : Type 0 where
  pub u1_from : pos 0 ≤ℤ s.u1
  pub u1_to : s.u1 ≤ℤ pos m
  pub u2_from : pos 0 ≤ℤ s.u2
  pub u2_to : s.u2 ≤ℤ pos m
  pub u3_from : pos 0 ≤ℤ s.u3
  pub u3_to : s.u3 ≤ℤ pos m
  pub y_from : pos 0 ≤ℤ s.y
  pub y_to : s.y ≤ℤ pos m

-- the weighted squares of the radii of one row
abbrev pub squares_of : ℤ → Row → Radii
squares_of w r = record {
  r1 = w *ℤ (number_at r.ru 0 *ℤ number_at r.ru 0);
  r2 = w *ℤ (number_at r.ru 1 *ℤ number_at r.ru 1);
  r3 = w *ℤ (number_at r.ru 2 *ℤ number_at r.ru 2);
  ry =
      w *ℤ (r.ry *ℤ r.ry);
}
