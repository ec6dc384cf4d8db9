use Rattle.orbit_model.specs.SeenPlaces.{range_of}
use Rattle.row_build.proofs.pseudoranges.base_pseudorange_by_range.Goals as goal

pub returns : goal.returns
returns c = record {
  holds = λ s h. c.pseudorange_of.ensures (range_of s.travel) s.clock (c.requires.range s.sent s.seen s.travel h.sent_in h.seen_is) h.clock_in;
  exists = c.sighting_law.ensures;
}
