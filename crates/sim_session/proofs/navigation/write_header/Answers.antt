use Rattle.std.proofs.Common.{append_assoc}
use Rattle.sim_session.specs.Navigation.{navigation_header}
use Rattle.sim_session.proofs.navigation.write_header.Goals as goal

pub returns : goal.returns
unfolding navigation_header
returns c = rw (c.in_ok-extend_from_slice-3.ensures.items, c.in_ok-extend_from_slice-2.ensures.items, c.in_ok-push.ensures.items, c.in_ok-extend_from_slice.ensures.items) (simp append_assoc)
