use Rattle.std.proofs.Common.{◌≡◌, ◌≢◌, ◌⊎◌, ℕ, ◌<◌, ◌≤◌, pos}
use Rattle.quadratic_form.specs.Tables.{entry, HasShape}
use Rattle.quadratic_form.specs.declared.sizes.TheConstants.{MOST_INTEGERS}
use Rattle.int_search.proofs.images.identity.Given as goal

abbrev pub invariant-loop-i : goal.invariant-loop-i
invariant-loop-i l = record {
  own : (k : ℕ) → k < l.i → entry l.map k k ≡ pos 1;
  others : (k j : ℕ) → (k ≢ j) ⊎ (l.i ≤ k) → entry l.map k j ≡ pos 0;
  shape : HasShape MOST_INTEGERS MOST_INTEGERS l.map;
}
