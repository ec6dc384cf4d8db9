use Rattle.std.proofs.Common.{◌≡◌, length}
use Rattle.rinex_head.specs.Head.{trimmed}
use Rattle.rinex_head.proofs.head.trim_end.Given as goal

abbrev pub invariant-loop-front : goal.invariant-loop-front
invariant-loop-front l = trimmed l.fn.text ≡ trimmed l.front

abbrev pub decreases-loop-front : goal.decreases-loop-front
decreases-loop-front l = length l.front
