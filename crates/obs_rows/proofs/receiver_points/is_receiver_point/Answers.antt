use Rattle.std.proofs.lemmas.Bool.{false≢true}
use Rattle.obs_rows.proofs.ReceiverPointLaws.{receiver_is_point}
use Rattle.obs_rows.proofs.receiver_points.is_receiver_point.Goals as goal

pub returns-then-not-is_point : goal.returns-then-not-is_point
returns-then-not-is_point c = (λ e. absurd (false≢true e), λ h. c.if-not-is_point.ensures.1 (receiver_is_point c.args.point.now h))
