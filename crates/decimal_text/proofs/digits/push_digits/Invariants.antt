use Rattle.std.proofs.Common.{◌≡◌, ◌≤◌, ◌++◌}
use Rattle.decimal_text.specs.Write.{last_digits}
use Rattle.decimal_text.proofs.digits.push_digits.Given as goal

abbrev pub invariant-loop-left : goal.invariant-loop-left
invariant-loop-left l = record {
  so_far : l.text.items ++ last_digits l.left l.number ≡ l.fn.text.items ++ last_digits l.count l.number;
  few : l.left ≤ 20;
}

abbrev pub decreases-loop-left : goal.decreases-loop-left
decreases-loop-left l = l.left
