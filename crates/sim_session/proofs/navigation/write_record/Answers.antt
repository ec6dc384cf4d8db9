use Rattle.std.proofs.Common.{append_assoc}
use Rattle.sim_session.specs.Navigation.{record_text}
use Rattle.sim_session.proofs.navigation.write_record.Goals as goal

pub returns : goal.returns
unfolding record_text
returns c = rw (
  c.in_ok-write_further-7.ensures,
  c.in_ok-write_further-6.ensures,
  c.in_ok-write_further-5.ensures,
  c.in_ok-write_further-4.ensures,
  c.in_ok-write_further-3.ensures,
  c.in_ok-write_further-2.ensures,
  c.in_ok-write_further.ensures,
  c.in_ok-write_first.ensures,
) (simp append_assoc)
