use Rattle.std.proofs.Common.{◌*◌, pos, lit≤}
use Rattle.whole_math.specs.Rational.{of_whole}
use Rattle.whole_math.proofs.RationalLaws.{≤ʳ_trans}
use Rattle.orbit_model.specs.SeenPlaces.{square}
use Rattle.orbit_model.proofs.Apart.{whole_le}
use Rattle.orbit_model.proofs.Changes.{range_change}
use Rattle.orbit_model.proofs.travel.range_change.Goals as goal

pub returns : goal.returns
returns c = λ d m u v b h. range_change d m u v b.0 (≤ʳ_trans (square d) (of_whole (pos (47000000 * 47000000))) (of_whole (pos 2251799813685248)) b.1
    (whole_le (47000000 * 47000000) 2251799813685248 (lit≤ tt))) h
