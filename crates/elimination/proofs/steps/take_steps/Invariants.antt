use Rattle.std.proofs.Common.{◌≡◌, ◌⊎◌, ℕ, ◌-◌, ◌^◌, ◌<◌, ◌≤◌, length, pos, slice_index_or, unsigned_abs}
use Rattle.quadratic_form.specs.Elimination.{steps}
use Rattle.quadratic_form.specs.Places.{form_from}
use Rattle.quadratic_form.specs.declared.sizes.TheConstants.{MOST_FACTORS}
use Rattle.quadratic_form.specs.Tables.{entry}
use Rattle.integer_form.specs.Factors.{stored}
use Rattle.elimination.specs.Taken.{before}
use Rattle.elimination.proofs.steps.take_steps.Given as goal

abbrev pub invariant-loop-j : goal.invariant-loop-j
invariant-loop-j l = record {
  full : length l.kept ≡ MOST_FACTORS;
  so_far : steps l.fn.from (l.fn.end - l.fn.from) (form_from (entry l.initial.table) l.fn.from (l.fn.columns - l.fn.from))
      ≡ before (stored l.kept l.factors l.fn.columns l.fn.from (l.j - l.fn.from)) (steps l.j (l.fn.end - l.j) (form_from (entry l.table) l.j (l.fn.columns - l.j)));
  factors_outside : (r i : ℕ) → ((i < l.fn.from) ⊎ (l.fn.end ≤ i)) ⊎ ((r ≤ i) ⊎ (l.fn.columns ≤ r)) → entry l.factors r i ≡ entry l.initial.factors r i;
  kept_outside : (i : ℕ) → (i < l.fn.from) ⊎ (l.fn.end ≤ i) → slice_index_or l.kept i (pos 0) ≡ slice_index_or l.initial.kept i (pos 0);
  entries : (r c : ℕ) → l.j ≤ r → r ≤ c → c < l.fn.columns → unsigned_abs (entry l.table r c) ≤ 2 ^ 52;
}
