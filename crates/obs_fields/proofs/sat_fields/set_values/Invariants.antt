-- The values that are set so far.
use Rattle.std.proofs.Common.{◌≡◌, drop}
use Rattle.obs_fields.specs.SatFields.{values_in}
use Rattle.obs_fields.proofs.sat_fields.set_values.Given as goal

abbrev pub invariant-loop-one : goal.invariant-loop-one
invariant-loop-one l = values_in l.layout l.at l.kept l.line l.fn.values ≡ values_in l.layout l.at (drop l.one-index l.kept) l.line l.values
