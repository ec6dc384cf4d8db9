use Rattle.std.proofs.Common.{append_assoc}
use Rattle.sim_session.specs.ObservationText.{version_line}
use Rattle.sim_session.proofs.texts.write_version.Goals as goal

pub returns : goal.returns
unfolding version_line
returns c = rw (c.in_ok-extend_from_slice-2.ensures.items, c.in_ok-push.ensures.items, c.letter.ensures, c.in_ok-extend_from_slice.ensures.items) (simp append_assoc)
