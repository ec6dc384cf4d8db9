use Rattle.std.proofs.Common.{◌≤◌}
use Rattle.int_search.specs.SearchedForm.{search_form}
use Rattle.int_search.specs.SearchStates.{IsWalk, search_image, left_of}
use Rattle.int_search.proofs.search.search.Given as goal

abbrev pub invariant-loop : goal.invariant-loop
invariant-loop l = record { walk : IsWalk (search_form l.form) (search_image l.form l.map) l.walk; visits : l.walk.visits ≤ l.budget }

abbrev pub decreases-loop : goal.decreases-loop
decreases-loop l = left_of l.budget l.walk
