-- What the rows of a fine session are decided to say, and when two decisions are one.
use Rattle.std.specs.Prelude.{◌≡◌, ◌⊎◌, ℕ}
use Rattle.obs_rows.specs.declared.sessions.Session.{Session}
use Rattle.integer_form.specs.declared.form.Form.{Form}
use Rattle.integer_form.specs.declared.faults.LowerFault.{LowerFault}
use Rattle.integer_form.specs.declared.faults.Place.TheVariants.{Search}
use Rattle.fix_decide.specs.Decisions.{IsFormOf}
use Rattle.cert_data.specs.declared.tails.Tail.{Tail}
use Rattle.cert_data.specs.declared.tails.Tail.TheVariants.{Fixed, Unseparated, Weak, Overwidth, Unsettled, Spent}
use Rattle.cert_check.specs.SameTails.{AreSameNumbers}
use Rattle.cert_check.specs.Settled.{IsRefused, IsDecision, tail_of}

-- the elimination is refused, and the tail says the refusal
pub record IsDecidedByFault (s : Session) (tail : Tail) : Type 0 where
  pub fault : LowerFault
  pub refused : IsRefused s fault
  pub tail_is : tail ≡ tail_of fault

-- the form of the rows is decided
pub record IsDecidedByForm (s : Session) (ratio budget : ℕ) (tail : Tail) : Type 0 where
  pub form : Form
  pub of_rows : IsFormOf s form
  pub decision : IsDecision s form ratio budget tail

abbrev pub IsRowDecision : Session → ℕ → ℕ → Tail → Type 0
IsRowDecision s ratio budget tail = IsDecidedByFault s tail ⊎ IsDecidedByForm s ratio budget tail

-- a decision other than that the search ended without an answer: no greater budget changes it
abbrev pub IsFinal : Tail → Type 0
IsFinal (Overwidth place) = place ≡ Search → ⊥
IsFinal (Spent budget) = ⊥
IsFinal _ = Unit {0}

-- ---- one decision
abbrev pub IsSameTail : Tail → Tail → Type 0
IsSameTail (Fixed h moved best top) (Fixed k other other_best over) = AreSameNumbers h k moved other best other_best top over
IsSameTail (Unseparated h moved best top) (Unseparated k other other_best over) = AreSameNumbers h k moved other best other_best top over
IsSameTail (Weak column pivot) (Weak other below) = (column ≡ other) × (pivot ≡ below)
IsSameTail (Overwidth place) (Overwidth other) = place ≡ other
IsSameTail (Unsettled entry) (Unsettled other) = entry ≡ other
IsSameTail (Spent budget) (Spent other) = budget ≡ other
IsSameTail _ _ = ⊥
