use Rattle.orbit_model.specs.SeenPlaces.{range_of}
use Rattle.row_boxes.proofs.sights.sight_from.Goals as goal

pub returns-clause-direction : goal.returns-clause-direction
returns-clause-direction c = λ s move direction h m d. c.aim_from-aim.ensures.direction s.sent s.seen move direction s.travel h.sent_in h.seen_is m d

pub returns-clause-pseudorange : goal.returns-clause-pseudorange
returns-clause-pseudorange c = λ s h. c.pseudorange_of-pseudorange.ensures (range_of s.travel) s.clock (c.aim_from-aim.ensures.range s.sent s.seen s.travel h.sent_in h.seen_is) h.clock_in
