use Rattle.std.proofs.Common.{append_assoc}
use Rattle.cert_lines.proofs.tails.push_named_line.Goals as goal

pub returns : goal.returns
returns c = rw (c.in_ok-push.ensures.items, c.in_ok-extend_from_slice-2.ensures.items, c.in_ok-extend_from_slice.ensures.items) (simp append_assoc)
