-- The decision whether the least integers of a session's form are fixed.
use Rattle.std.specs.Prelude.{List, take, ℤ, pos, ◌*ℤ◌, ◌<ℤ◌}
use Rattle.obs_rows.specs.declared.sessions.Session.{Session}
use Rattle.obs_rows.specs.Signals.{counted}
use Rattle.normal_sum.specs.declared.normal.Normal.{Normal}
use Rattle.normal_sum.specs.Normals.{IsNormalOf}
use Rattle.integer_form.specs.declared.form.Form.{Form}
use Rattle.integer_form.specs.FloatPoint.{baseline_at}
use Rattle.lower_form.specs.Forms.{IsLowerOf}
use Rattle.int_search.specs.declared.answer.TwoBest.{TwoBest}

-- the form is that of the normal matrix of the session's rows
pub record IsFormOf (s : Session) (f : Form) : Type 0 where
  pub normal : Normal
  pub of_rows : IsNormalOf s.arcs (counted s.signals s.scale) s.pairs normal
  pub lowered : IsLowerOf normal f

-- z1 and z2
abbrev pub first_of : TwoBest → List ℤ
first_of b = take b.size b.first

abbrev pub second_of : TwoBest → List ℤ
second_of b = take b.size b.second

-- the baseline of the integers z, as a move in 2^-5 ι
abbrev pub move_of : Form → List ℤ → List ℤ
move_of f z = baseline_at f.d f.l f.columns z

-- 1000 · P(z2) > 64 · ratio · T(z1), of the second least value and the upper sum of the least
abbrev pub IsSeparated : ℤ → ℤ → ℤ → Type 0
IsSeparated ratio t p2 = (pos 64 *ℤ (ratio *ℤ t)) <ℤ (pos 1000 *ℤ p2)
