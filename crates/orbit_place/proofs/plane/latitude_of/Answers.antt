use Rattle.orbit_place.proofs.plane.latitude_of.Goals as goal

pub returns : goal.returns
returns c = record { holds = c.turn.ensures.holds }
