-- What keeps the head of a session twice keeps it.
use Rattle.std.proofs.Common.{◌∙◌}
use Rattle.obs_rows.specs.declared.session_builder.SessionBuilder.{SessionBuilder}
use Rattle.obs_rows.specs.Heads.{KeepsHead}

pub keeps_on : (first old new : SessionBuilder) → KeepsHead first old → KeepsHead old new → KeepsHead first new
keeps_on first old new before then = record {
  scale = then.scale ∙ before.scale;
  system = then.system ∙ before.system;
  base = then.base ∙ before.base;
  point = then.point ∙ before.point;
  signals = then.signals ∙ before.signals;
  arcs = then.arcs ∙ before.arcs;
}
