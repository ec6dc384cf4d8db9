use Rattle.std.proofs.Common.{◌≡◌, ◌⊎◌, ℕ, ◌^◌, ◌<◌, ◌≤◌, pos, unsigned_abs}
use Rattle.quadratic_form.specs.Tables.{entry}
use Rattle.integer_form.proofs.tables.is_form_row.Given as goal

abbrev pub invariant-loop-c : goal.invariant-loop-c
invariant-loop-c l = record {
  symmetric : (k : ℕ) → k < l.c → entry l.p l.r k ≡ entry l.p k l.r;
  small : (k : ℕ) → k < l.c → unsigned_abs (entry l.p l.r k) < 2 ^ 52;
  outside : (k : ℕ) → k < l.c → (l.n ≤ l.r) ⊎ (l.n ≤ k) → entry l.p l.r k ≡ pos 0;
}
