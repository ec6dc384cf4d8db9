use Rattle.std.proofs.Common.{◌^◌}
use Rattle.quadratic_form.specs.Matrices.{EntriesBelow}
use Rattle.form_examples.proofs.decorrelate_tests.drawn_factors.Given as goal

abbrev pub invariant-loop-i : goal.invariant-loop-i
invariant-loop-i l = EntriesBelow (2 ^ 52) l.l
