-- What is printed of a verdict.
use Rattle.std.specs.Prelude.{ℕ, List, ◌++◌, codes}
use Rattle.std.specs.Fmt.{decimal, signed_decimal}
use Rattle.cert_data.specs.Places.{name_of_place}
use Rattle.cert_data.specs.declared.verdicts.Verdict.{Verdict}
use Rattle.cert_data.specs.declared.verdicts.Verdict.TheVariants.{Certified, Not}
use Rattle.cert_data.specs.declared.verdicts.Cause.{Cause}
use Rattle.cert_data.specs.declared.verdicts.Cause.TheVariants as cause

abbrev pub cause_text : Cause → List ℕ
cause_text (cause.Weak column pivot) = codes "weak " ++ (decimal column ++ (codes " " ++ signed_decimal pivot))
cause_text (cause.Overwidth place) = codes "overwidth " ++ name_of_place place
cause_text cause.Spent = codes "spent"
cause_text cause.Unseparated = codes "unseparated"
cause_text cause.Tail = codes "tail"

abbrev pub verdict_text : Verdict → List ℕ
verdict_text Certified = codes "certified\n"
verdict_text (Not why) = codes "not certified " ++ (cause_text why ++ codes "\n")
