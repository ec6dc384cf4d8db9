-- The normal matrix of the rows of pairs.
use Rattle.std.specs.Prelude.{◌≡◌, ℕ, ◌+◌, List}
use Rattle.quadratic_form.specs.Rows.{radii}
use Rattle.quadratic_form.specs.MatrixEntries.{matrix_entry}
use Rattle.obs_rows.specs.declared.arcs.Arc.{Arc}
use Rattle.obs_rows.specs.declared.pair_rows.PairRows.{PairRows}
use Rattle.quadratic_form.specs.Tables.{entry}
use Rattle.obs_rows.specs.Integers.{integer_count}
use Rattle.obs_rows.specs.SignalGroups.{signal_groups}
use Rattle.normal_sum.specs.declared.normal.Normal.{Normal}
use Rattle.normal_sum.specs.Matrices.{radius_list}

-- the columns, the entries and the sums of squares of radii are those of the rows, as each signal that counts sees them
pub record IsNormalOf (arcs : List Arc) (ss : List ℕ) (pairs : List PairRows) (n : Normal) : Type 0 where
  pub columns : n.columns ≡ 4 + integer_count arcs ss
  pub entries : (i j : ℕ) → entry n.c i j ≡ matrix_entry (signal_groups arcs ss pairs) i j
  pub radii : n.r ≡ radius_list (radii (signal_groups arcs ss pairs))
