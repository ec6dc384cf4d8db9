use Rattle.std.proofs.Common.{◌^◌}
use Rattle.quadratic_form.specs.Matrices.{EntriesBelow}
use Rattle.form_examples.proofs.decorrelate_tests.draw_row.Given as goal

abbrev pub invariant-loop-m : goal.invariant-loop-m
invariant-loop-m l = EntriesBelow (2 ^ 52) l.l
