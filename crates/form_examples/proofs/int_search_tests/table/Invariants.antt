use Rattle.std.proofs.Common.{◌^◌}
use Rattle.quadratic_form.specs.Tables.{IsZeroOutside}
use Rattle.quadratic_form.specs.Matrices.{IsSymmetric, EntriesBelow}
use Rattle.form_examples.proofs.int_search_tests.table.Given as goal

abbrev pub invariant-loop-r : goal.invariant-loop-r
invariant-loop-r l = record { symmetric : IsSymmetric l.p; entries : EntriesBelow (2 ^ 52) l.p; outside : IsZeroOutside l.n l.n l.p }
