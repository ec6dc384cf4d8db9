use Rattle.std.proofs.Common.{◌≡◌}
use Rattle.row_build.specs.Rows.{setting_from}
use Rattle.row_build.specs.SessionRows.{AreSessionRows}
use Rattle.row_build.proofs.session_rows.rows_with.Given as goal

-- the rows of the first pairs
abbrev pub invariant-loop-pair : goal.invariant-loop-pair
invariant-loop-pair l = (l.session.scale ≡ l.initial.session.scale) × (l.session.system ≡ l.initial.session.system) × (l.session.base ≡ l.initial.session.base) ×
    (l.session.point ≡ l.initial.session.point)
    × (l.session.signals ≡ l.initial.session.signals) × (l.session.arcs ≡ l.initial.session.arcs)
    × AreSessionRows (setting_from l.from l.scale) l.pair l.session.pairs
