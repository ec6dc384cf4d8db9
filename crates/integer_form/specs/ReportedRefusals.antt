-- A refusal of the definition, and the fault that reports it.
use Rattle.std.specs.Prelude.{◌≡◌, Err}
use Rattle.quadratic_form.specs.Elimination.{Refusal, weak, wide_factor, wide_entry, StepsAnswer}
use Rattle.integer_form.specs.declared.faults.Place.TheVariants.{Factor as PlaceOfFactor, Entry as PlaceOfEntry}
use Rattle.integer_form.specs.declared.faults.LowerFault.{LowerFault}
use Rattle.integer_form.specs.declared.faults.LowerFault.TheVariants.{Weak, Overwidth}

abbrev pub fault_of : Refusal → LowerFault
fault_of (weak j a) = Weak j a
fault_of wide_factor = Overwidth PlaceOfFactor
fault_of wide_entry = Overwidth PlaceOfEntry

-- the answer is a refusal, and this fault reports it
abbrev pub IsReportedAs : LowerFault → StepsAnswer → Type 0
IsReportedAs fault answer = (refusal : Refusal) × ((answer ≡ Err refusal) × (fault ≡ fault_of refusal))
