use Rattle.std.proofs.Common.{◌^◌, arith}
use Rattle.round_steps.proofs.ShiftLaws.{small_item}
use Rattle.session_examples.proofs.round_steps_tests.grown_by.Goals as goal

pub grown-requires-clause-numbers : goal.grown-requires-clause-numbers
grown-requires-clause-numbers c = λ j. small_item c.args.numbers.now j (2 ^ 46) (c.are_below.ensures.0 c.if-not-are_below.false) (omega arith)
