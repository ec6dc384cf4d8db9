use Rattle.std.proofs.Common.{◌≡◌, ◌<◌, ℕ, ℤ, pos, get_or, unsigned_abs, to_z, of_z, ap, ◌∙◌, subst}
use Rattle.std.specs.Int.{w64}
use Rattle.round_steps.proofs.StepLaws.{word}
use Rattle.round_steps.proofs.limits.first_over.Goals as goal

pub returns-then-unsigned_abs-limit : goal.returns-then-unsigned_abs-limit
returns-then-unsigned_abs-limit c =
    let number : ℤ = get_or c.args.numbers.now c.loop-column.column (pos 0) in
    let same_number : to_z w64 (of_z w64 number) ≡ number = word number (c.requires c.loop-column.column) in
    record {
      column = c.loop-column.column;
      over = subst (λ (n : ℕ). n < unsigned_abs number) c.limit.ensures (subst (λ (n : ℕ). c.limit.result < n) (c.unsigned_abs.ensures.value ∙ ap unsigned_abs same_number) c.if-unsigned_abs-limit.true);
      before = c.loop-column.invariant;
      entry_is = same_number;
    }
