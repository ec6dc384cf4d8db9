use Rattle.std.proofs.Common.{arith}
use Rattle.obs_fields.proofs.types.add_line.Goals as goal

pub returns-clause-room : goal.returns-clause-room
returns-clause-room c = omega (arith, c.in_ok-add_names.ensures.longer, c.min-count.ensures)
