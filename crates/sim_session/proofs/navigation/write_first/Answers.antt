use Rattle.std.proofs.Common.{append_assoc}
use Rattle.sim_session.specs.Navigation.{first_line}
use Rattle.sim_session.proofs.navigation.write_first.Goals as goal

pub returns : goal.returns
unfolding first_line
returns c = rw (
  c.in_ok-extend_from_slice-2.ensures.items,
  c.in_ok-push_number-3.ensures,
  c.in_ok-push_number-2.ensures,
  c.in_ok-push_number.ensures,
  c.in_ok-extend_from_slice.ensures.items,
  c.in_ok-push_digits.ensures,
  c.in_ok-push.ensures.items,
) (simp append_assoc)
