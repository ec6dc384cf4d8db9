use Rattle.std.proofs.Common.{◌↔◌, List, ℕ, IsErr, subst}
use Rattle.fix_decide.specs.Widths.{IsWide}
use Rattle.fix_decide.proofs.pairs.pair_upper.Goals as goal

pub returns-clause-refused : goal.returns-clause-refused
returns-clause-refused c = subst (λ (ss : List ℕ). IsErr c.upper_over.result ↔ IsWide c.args.arcs.now ss c.args.z.now c.args.moved.now c.args.pair.now)
    c.fine_signals.ensures.value c.upper_over.ensures.refused
