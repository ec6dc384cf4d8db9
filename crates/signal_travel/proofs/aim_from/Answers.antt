use Rattle.signal_travel.proofs.Handed.{held}
use Rattle.signal_travel.proofs.aim_from.Goals as goal

pub returns-clause-range : goal.returns-clause-range
returns-clause-range c = λ sent seen t h s.
    c.sight_of-sight.ensures.range sent seen t (held c.args.sv.now.place c.sent_box-sent.result.place sent c.sent_box-sent.ensures h) s

pub returns-clause-direction : goal.returns-clause-direction
returns-clause-direction c = λ sent seen move direction t h s m d.
    let inside = c.sight_of-sight.ensures.place sent seen t (held c.args.sv.now.place c.sent_box-sent.result.place sent c.sent_box-sent.ensures h) s in
    let direction_holds = c.direction_of-direction.ensures seen move direction inside m d in
    (direction_holds.0, (direction_holds.1, (direction_holds.2, tt)))
