use Rattle.std.proofs.Common.{append_assoc}
use Rattle.sim_session.specs.ObservationText.{satellite_line}
use Rattle.sim_session.proofs.texts.write_satellite.Goals as goal

pub returns : goal.returns
unfolding satellite_line
returns c = rw (c.in_ok-extend_from_slice.ensures.items, c.in_ok-write_amounts.ensures, c.in_ok-push_digits.ensures, c.in_ok-push.ensures.items, c.letter.ensures) (simp append_assoc)
