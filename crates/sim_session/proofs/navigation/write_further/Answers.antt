use Rattle.std.proofs.Common.{append_assoc}
use Rattle.sim_session.specs.Navigation.{further_line}
use Rattle.sim_session.proofs.navigation.write_further.Goals as goal

pub returns : goal.returns
unfolding further_line
returns c = rw (
  c.in_ok-extend_from_slice-2.ensures.items,
  c.in_ok-push_number-4.ensures,
  c.in_ok-push_number-3.ensures,
  c.in_ok-push_number-2.ensures,
  c.in_ok-push_number.ensures,
  c.in_ok-extend_from_slice.ensures.items,
) (simp append_assoc)
