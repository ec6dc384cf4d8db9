use Rattle.std.proofs.Common.{append_assoc, refl}
use Rattle.report_text.specs.ArcLines.{arcs_text}
use Rattle.report_text.proofs.arcs.write_arcs.Goals as goal

pub returns : goal.returns
unfolding arcs_text
returns c = rw (c.in_ok-write_short.ensures, c.in_ok-write_kept.ensures, c.as_slice.ensures) (simp append_assoc refl)
