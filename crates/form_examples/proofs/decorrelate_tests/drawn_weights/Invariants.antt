use Rattle.std.proofs.Common.{◌≡◌, ℕ, ◌+◌, ◌<◌, length}
use Rattle.quadratic_form.specs.declared.sizes.TheConstants.{MOST_FACTORS}
use Rattle.quadratic_form.specs.Tables.{item}
use Rattle.decorrelate.specs.States.{IsWeight}
use Rattle.form_examples.proofs.decorrelate_tests.drawn_weights.Given as goal

abbrev pub invariant-loop-i : goal.invariant-loop-i
invariant-loop-i l = record { full : length l.d ≡ MOST_FACTORS; done : (k : ℕ) → k < l.i → IsWeight (item l.d (3 + k)) }
