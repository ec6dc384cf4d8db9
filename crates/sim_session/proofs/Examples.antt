-- The first draw of seed 1, by computation.
use Rattle.std.proofs.Common.{◌≡◌, negsuc, refl}
use Rattle.sim_session.specs.Sequence.{state_after, draw, drawn_within}
use Rattle.sim_session.specs.declared.drawn.TheConstants.{MOST_OFFSET}

first_state : state_after 1 1 ≡ 7806831264735756412
first_state = refl

first_draw : draw 1 0 ≡ 908834774
first_draw = refl

-- the rover's offset in x, in mm: -165,680
first_coordinate : drawn_within MOST_OFFSET 1 0 ≡ negsuc 165679
first_coordinate = refl
