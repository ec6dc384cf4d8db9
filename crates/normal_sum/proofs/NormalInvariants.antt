-- What the type of a normal matrix keeps, of a table that has the entries of rows.
use Rattle.std.proofs.Common.{◌≡◌, ℕ, ◌+◌, ◌^◌, ◌≤◌, List, [], ◌∷◌, ℤ, arith, ap, ◌∙◌, subst}
use Rattle.quadratic_form.specs.Rows.{SignalGroup, columns}
use Rattle.quadratic_form.specs.MatrixEntries.{matrix_entry}
use Rattle.obs_rows.specs.declared.arcs.Arc.{Arc}
use Rattle.obs_rows.specs.declared.pair_rows.PairRows.{PairRows}
use Rattle.obs_rows.specs.declared.units.TheConstants.{MOST_FREE_ARCS}
use Rattle.obs_rows.specs.Arcs.{free_count}
use Rattle.obs_rows.specs.declared.sessions.Session.{Session}
use Rattle.obs_rows.specs.Signals.{counted}
use Rattle.obs_rows.specs.CountedSignals.{AreCounted}
use Rattle.obs_rows.specs.Integers.{integer_count}
use Rattle.obs_rows.specs.SignalGroups.{signal_groups}
use Rattle.obs_rows.proofs.GroupShapes.{groups_of}
use Rattle.quadratic_form.specs.declared.sizes.TheConstants.{MOST_COLUMNS}
use Rattle.quadratic_form.specs.Tables.{entry, IsZeroOutside}
use Rattle.quadratic_form.specs.Matrices.{IsSymmetric}
use Rattle.normal_sum.specs.declared.normal.Normal.{Normal}
use Rattle.normal_sum.specs.Normals.{IsNormalOf}
use Rattle.normal_sum.proofs.PlaceLaws.{count_within}
use Rattle.normal_sum.proofs.NormalLaws.{symmetric_is, outside_is, four_and}

pub record Shaped (columns : ℕ) (t : List (List ℤ)) : Type 0 where
  pub from : 4 ≤ columns
  pub to : columns ≤ MOST_COLUMNS
  pub symmetric : IsSymmetric t
  pub outside : IsZeroOutside columns columns t

columns_are : (m n : ℕ) → m ≡ n → (3 + m) + 1 ≡ columns n
columns_are m n e = omega (arith, four_and n)

pub columns_of_sum : (m n : ℕ) → m ≡ n → (3 + m) + 1 ≡ 4 + n
columns_of_sum m n e = omega (arith, e)

pub shaped : (arcs : List Arc) (ss : List ℕ) (pairs : List PairRows) (integers : ℕ) (t : List (List ℤ)) → AreCounted ss → free_count arcs ≤ MOST_FREE_ARCS → integers ≡ integer_count arcs ss →
    ((i j : ℕ) → entry t i j ≡ matrix_entry (signal_groups arcs ss pairs) i j) → Shaped ((3 + integers) + 1) t
shaped arcs ss pairs integers t counted free e entries = record {
  from = omega arith;
  to = omega (arith, e, count_within arcs ss counted free);
  symmetric = symmetric_is (signal_groups arcs ss pairs) t entries;
  outside = outside_is (integer_count arcs ss) ((3 + integers) + 1) (signal_groups arcs ss pairs) t (columns_are integers (integer_count arcs ss) e) (groups_of arcs ss pairs) entries;
}

-- of a pair's rows, where the pairs are that one
pub of_pair : (arcs : List Arc) (ss now : List ℕ) (p : PairRows) (pairs : List PairRows) (n : Normal) → now ≡ ss → pairs ≡ p ∷ [] → IsNormalOf arcs now pairs n → IsNormalOf arcs ss (p ∷ []) n
of_pair arcs ss now p pairs n e f h = subst (λ (l : List PairRows). IsNormalOf arcs ss l n) f (subst (λ (l : List ℕ). IsNormalOf arcs l pairs n) e h)

-- of a session, where arcs, signals and pairs are its own
pub of_session : (s : Session) (arcs : List Arc) (ss : List ℕ) (pairs : List PairRows) (n : Normal) → arcs ≡ s.arcs → ss ≡ counted s.signals s.scale → pairs ≡ s.pairs → IsNormalOf arcs ss pairs n →
    IsNormalOf s.arcs (counted s.signals s.scale) s.pairs n
of_session s arcs ss pairs n e f g h = subst (λ (l : List PairRows). IsNormalOf s.arcs (counted s.signals s.scale) l n) g
    (subst (λ (l : List ℕ). IsNormalOf s.arcs l pairs n) f (subst (λ (l : List Arc). IsNormalOf l ss pairs n) e h))
