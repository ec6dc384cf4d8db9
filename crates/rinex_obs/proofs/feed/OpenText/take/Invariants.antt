use Rattle.std.proofs.Common.{◌≡◌, ◌+◌, ◌≤◌, ◌++◌, length, List, ℕ}
use Rattle.rinex_head.specs.declared.system.System.{System}
use Rattle.rinex_obs.specs.Fed.{gives_behind}
use Rattle.rinex_obs.proofs.feed.OpenText.take.Given as goal

abbrev pub invariant-lines : goal.invariant-lines
invariant-lines l = record {
  gives : (system : System) (more : List ℕ) → gives_behind system l.fn.self (l.piece ++ more) ≡ gives_behind system l.self (l.rest ++ more);
  within : l.self.number + length l.self.line + length l.rest ≤ l.fn.self.number + length l.fn.self.line + length l.piece;
}

abbrev pub decreases-lines : goal.decreases-lines
decreases-lines l = length l.rest
