-- When two searches end alike.
use Rattle.std.specs.Prelude.{◌≡◌, Result, Ok, Err}
use Rattle.int_search.specs.declared.answer.TwoBest.{TwoBest}
use Rattle.int_search.specs.declared.answer.SearchFault.{SearchFault}

-- both with an answer, or both with the same fault
abbrev pub IsSameEnd : Result TwoBest SearchFault → Result TwoBest SearchFault → Type 0
IsSameEnd (Ok b) (Ok c) = Unit {0}
IsSameEnd (Ok b) (Err d) = ⊥
IsSameEnd (Err e) (Ok c) = ⊥
IsSameEnd (Err e) (Err d) = e ≡ d
