-- Arcs and rows, of which a number is to come, in any form of text.
use Rattle.std.specs.Prelude.{◌≡◌, ◌≤◌, ◌+◌, ◌-◌, ℕ, List, [], ◌∷◌, ◌++◌, Bool, if◌then◌else◌}
use Rattle.obs_rows.specs.declared.arcs.Arc.{Arc}
use Rattle.obs_rows.specs.Arcs.{free_count}
use Rattle.rinex_head.specs.LineRules.{Rules}
use Rattle.cert_lines.specs.declared.version.Version.{Version}
use Rattle.cert_lines.specs.Forms.{arc_in, row_in}
use Rattle.cert_text.specs.LineParts.{TakesLine}

-- how many free arcs an arc is
abbrev pub free_by : Bool → ℕ
free_by datum = if datum then 0 else 1

-- where arcs are still to come after these, the line of one is taken
pub record ArcsAreTaken {S : Type 0} (rules : Rules S (Unit {0})) (version : Version) (signals : List ℕ) (before : ℕ → List Arc → S) : Type 0 where
  pub takes : (left : ℕ) (arcs : List Arc) → 1 ≤ left → TakesLine rules (before left arcs) (arc_in version signals (free_count arcs) left) (λ a. before (left - 1) (arcs ++ a ∷ []))

-- where rows of a pair are to come, with arcs from a least one on, a row is taken, and after the last one
-- something else is expected
pub record RowsAreTaken {S : Type 0} (rules : Rules S (Unit {0})) (signals : List ℕ) (arcs : List Arc) (number : ℕ) (before : ℕ → ℕ → S) (after : S) : Type 0 where
  pub takes : (left least : ℕ) → 1 ≤ left → TakesLine rules (before left least) (row_in signals arcs number least) (λ k. before (left - 1) (k + 1))
  pub ends : (least : ℕ) → before 0 least ≡ after
