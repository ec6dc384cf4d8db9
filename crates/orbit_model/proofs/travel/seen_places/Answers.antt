use Rattle.orbit_model.proofs.Seen.{seen_distance, seen_vector, travel_nn, travel_most}
use Rattle.orbit_model.proofs.travel.seen_places.Goals as goal

pub returns : goal.returns
returns c = record { distance = seen_distance; range = seen_vector; at_least = travel_nn; at_most = travel_most }
