-- The pairs of a certificate of version 1.
use Rattle.std.specs.Prelude.{◌<◌, ◌≤◌, List, length, All, AllPairs}
use Rattle.obs_rows.specs.declared.limits.TheConstants.{MOST_PAIRS}
use Rattle.cert_migrate.specs.declared.old_arcs.OldArc.{OldArc}
use Rattle.cert_migrate.specs.declared.old_pairs.OldPair.{OldPair}
use Rattle.cert_migrate.specs.OldArcs.{IsOfOldPair}

-- each row's arc is one of the list and holds the pair
abbrev pub HasOldArcs : List OldArc → OldPair → Type 0
HasOldArcs arcs p = All (IsOfOldPair arcs p.number) p.rows

-- pairs whose numbers rise, not too many, with rows of these arcs
pub record AreOldPairs (arcs : List OldArc) (pairs : List OldPair) : Type 0 where
  pub few : length pairs ≤ MOST_PAIRS
  pub rising : AllPairs (λ p q. p.number < q.number) pairs
  pub rows_have_arcs : All (HasOldArcs arcs) pairs
