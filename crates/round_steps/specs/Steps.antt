-- What one round makes of its session.
use Rattle.std.specs.Prelude.{◌≡◌, ℕ, ◌⊎◌, Bool, true, false, Option, Some, None, List, ℤ}
use Rattle.obs_rows.specs.declared.sessions.Session.{Session}
use Rattle.integer_form.specs.declared.form.Form.{Form}
use Rattle.integer_form.specs.declared.faults.Place.{Place}
use Rattle.integer_form.specs.declared.faults.LowerFault.{LowerFault}
use Rattle.integer_form.specs.FloatPoint.{item, float_point, HasWide}
use Rattle.fix_decide.specs.Decisions.{IsFormOf}
use Rattle.cert_data.specs.declared.tails.Tail.{Tail}
use Rattle.cert_data.specs.declared.tails.Tail.TheVariants.{Fixed, Unseparated, Weak, Overwidth, Unsettled, Spent}
use Rattle.cert_check.specs.Settled.{IsRefused, IsDecision}
use Rattle.cert_check.specs.RowDecisions.{IsSameTail}
use Rattle.round_steps.specs.declared.steps.Step.{Step}
use Rattle.round_steps.specs.declared.steps.Step.TheVariants.{Settled, Moved}
use Rattle.obs_rows.specs.ReceiverPoints.{IsReceiverPoint}
use Rattle.round_steps.specs.Points.{moved_point}
use Rattle.round_steps.specs.Limits.{IsSettled, IsFirstOver}

-- the float point of the session's form, in which no number is 2^46 or more in size
pub record IsFloatOf (s : Session) (x : List ℤ) : Type 0 where
  pub form : Form
  pub of_rows : IsFormOf s form
  pub narrow : HasWide (float_point form) → ⊥
  pub numbers : (j : ℕ) → item x j ≡ item (float_point form) j

-- the round is settled, with this form
pub record IsSettledForm (s : Session) (form : Form) : Type 0 where
  pub of_rows : IsFormOf s form
  pub narrow : HasWide (float_point form) → ⊥
  pub settled : IsSettled s.scale (float_point form)

-- the round isn't settled: this number is the first over its limit
pub record IsUnsettled (s : Session) (x : List ℤ) (entry : ℤ) : Type 0 where
  pub float : IsFloatOf s x
  pub first : IsFirstOver s.scale x entry

-- the round isn't settled, and the point moves by its float point
pub record IsMoved (s : Session) (x : List ℤ) (point : List ℤ) : Type 0 where
  pub entry : ℤ
  pub unsettled : IsUnsettled s x entry
  pub point_is : point ≡ moved_point s.scale s.point x
  pub in_reach : IsReceiverPoint point

-- the round isn't settled, and the point would move to where no receiver is
pub record IsOutOfReach (s : Session) : Type 0 where
  pub numbers : List ℤ
  pub entry : ℤ
  pub unsettled : IsUnsettled s numbers entry
  pub out : IsReceiverPoint (moved_point s.scale s.point numbers) → ⊥

-- The round doesn't end the run: it is settled, or it isn't, is not the last that is allowed, and moves
abbrev pub IsStep : Bool → Session → Step → Type 0
IsStep last s (Settled form) = IsSettledForm s form
IsStep last s (Moved point numbers) = (last ≡ false) × IsMoved s numbers point

-- the same of a coarse round: the point where it moves to, and none where it is settled
abbrev pub IsCoarseStep : Bool → Session → Option (List ℤ) → Type 0
IsCoarseStep last s None = (form : Form) × IsSettledForm s form
IsCoarseStep last s (Some point) = (last ≡ false) × ((numbers : List ℤ) × IsMoved s numbers point)

-- a number of the float point is 2^46 or more in size
pub record IsFloatWide (s : Session) : Type 0 where
  pub form : Form
  pub of_rows : IsFormOf s form
  pub wide : HasWide (float_point form)

-- The round ends the run: its elimination is refused, or its float point is too wide, or it isn't settled and is the
-- last that is allowed or moves out of reach
abbrev pub IsRoundDeclined : Bool → Session → Tail → Type 0
IsRoundDeclined last s (Fixed h moved best top) = ⊥
IsRoundDeclined last s (Unseparated h moved best top) = ⊥
IsRoundDeclined last s (Weak column pivot) = IsRefused s (LowerFault.Weak column pivot)
IsRoundDeclined last s (Overwidth place) =
    IsRefused s (LowerFault.Overwidth place) ⊎ (((place ≡ Place.Float) × IsFloatWide s) ⊎ ((place ≡ Place.Point) × ((last ≡ false) × IsOutOfReach s)))
IsRoundDeclined last s (Unsettled entry) = (last ≡ true) × ((x : List ℤ) × IsUnsettled s x entry)
IsRoundDeclined last s (Spent budget) = ⊥

-- the round is settled, and its form is decided to say this at a ratio and a budget
pub record IsRoundDecided (s : Session) (ratio budget : ℕ) (tail : Tail) : Type 0 where
  pub form : Form
  pub settled : IsSettledForm s form
  pub decision : IsDecision s form ratio budget tail

-- ---- one end
-- A fine round ends the run with this tail: it is declined or decided
abbrev pub IsRoundEnd : Bool → Session → ℕ → ℕ → Tail → Type 0
IsRoundEnd last s ratio budget tail = IsRoundDeclined last s tail ⊎ IsRoundDecided s ratio budget tail

-- A fine round ends the run with this tail and with no other, and doesn't move the point. `last` says
-- that no further round at its scale is allowed.
pub record IsOnlyEnd (last : Bool) (s : Session) (ratio budget : ℕ) (tail : Tail) : Type 0 where
  pub ends : IsRoundEnd last s ratio budget tail
  pub only : (t : Tail) → IsRoundEnd last s ratio budget t → IsSameTail t tail
  pub stays : (point numbers : List ℤ) → IsStep last s (Moved point numbers) → ⊥
