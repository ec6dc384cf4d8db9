-- One more name, whose number isn't there yet.
use Rattle.rinex2_obs.proofs.NameLists.{names_added}
use Rattle.rinex2_obs.proofs.sat_numbers.SatNames.push.Goals as goal

pub invariant_of-self : goal.invariant_of-self
invariant_of-self c = rw c.push.ensures.items (names_added c.self.inside.items.items c.args.name c.self.invariant (rw c.self.view_is c.requires.fits))
