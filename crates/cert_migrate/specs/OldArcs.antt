-- The arcs of a certificate of version 1.
use Rattle.std.specs.Prelude.{◌≡◌, ◌^◌, ◌<◌, ◌≤◌, ℕ, Bool, not, List, length, count_by, All, Some, slice_get}
use Rattle.obs_rows.specs.Ranges.{IsBelow}
use Rattle.obs_rows.specs.declared.limits.TheConstants.{MOST_PAIRS, MOST_ARCS}
use Rattle.cert_migrate.specs.declared.old_arcs.OldArc.{OldArc}
use Rattle.cert_migrate.specs.declared.old_rows.OldRow.{OldRow}

-- the arc is no datum, so its integers are unknown
abbrev pub is_old_free : OldArc → Bool
is_old_free a = not a.datum

abbrev pub old_free_count : List OldArc → ℕ
old_free_count arcs = count_by is_old_free arcs

pub record IsOldArcInRange (a : OldArc) : Type 0 where
  pub sat_from : 1 ≤ a.sat
  pub sat_to : a.sat ≤ 32
  pub order : a.first ≤ a.last
  pub last_in : a.last < MOST_PAIRS
  pub shifts_in : All (IsBelow (2 ^ 40)) a.shift

-- 2 to 200 arcs, of which 1 to 20 are free
pub record AreOldArcs (arcs : List OldArc) : Type 0 where
  pub some : 2 ≤ length arcs
  pub few : length arcs ≤ MOST_ARCS
  pub some_free : 1 ≤ old_free_count arcs
  pub few_free : old_free_count arcs ≤ 20
  pub ranges : All IsOldArcInRange arcs

-- the row's arc is one of the list and holds the pair of this number
pub record IsOfOldPair (arcs : List OldArc) (number : ℕ) (r : OldRow) : Type 0 where
  pub arc_in : r.arc < length arcs
  pub from_first : (a : OldArc) → slice_get arcs r.arc ≡ Some a → a.first ≤ number
  pub to_last : (a : OldArc) → slice_get arcs r.arc ≡ Some a → number ≤ a.last
