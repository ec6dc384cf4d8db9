use Rattle.std.proofs.Common.{◌≡◌, ◌^◌, [], ◌∷◌, ℤ, pos, sym, subst}
use Rattle.whole_math.specs.Rational.{Rational}
use Rattle.orbit_model.specs.SeenPlaces.{Position, point_of, IsSeenPlace}
use Rattle.signal_travel.proofs.Handed.{same_point, held, all_narrow, all_between}
use Rattle.signal_travel.proofs.seen_by_guess.Goals as goal

seen_there : (c : goal.After-result-6-1) (x y z : ℤ) (sent seen : Position) (t : Rational) → c.args.point.now ≡ x ∷ y ∷ z ∷ []
    → IsSeenPlace sent (point_of x y z) t seen → IsSeenPlace sent (point_of c.point_at.result.x c.point_at.result.y c.point_at.result.z) t seen
seen_there c x y z sent seen t e s = subst (λ (p : Position). IsSeenPlace sent p t seen)
    (sym (same_point c.args.point.now x y z c.point_at.result.x c.point_at.result.y c.point_at.result.z e c.point_at.ensures)) s

pub returns-clause-place : goal.returns-clause-place
returns-clause-place c = λ x y z sent seen t e h s.
    let holds_place = c.sight_of-sight.ensures.place sent seen t (held c.args.sv.now.place c.sent_box.result.place sent c.sent_box.ensures h) (seen_there c x y z sent seen t e s) in
    (holds_place.0, (holds_place.1, (holds_place.2, tt)))

pub returns-clause-range : goal.returns-clause-range
returns-clause-range c = λ x y z sent seen t e h s.
    c.sight_of-sight.ensures.range sent seen t (held c.args.sv.now.place c.sent_box.result.place sent c.sent_box.ensures h) (seen_there c x y z sent seen t e s)

pub returns-clause-time : goal.returns-clause-time
returns-clause-time c = λ x y z sent seen t e h s.
    c.sight_of-sight.ensures.time sent seen t (held c.args.sv.now.place c.sent_box.result.place sent c.sent_box.ensures h) (seen_there c x y z sent seen t e s)

pub invariant_of-result : goal.invariant_of-result
invariant_of-result c =
    let sight = c.sight_of-sight in
    let place = sight.result.place in
    record {
      narrow = all_narrow place.x place.y place.z (pos (2 ^ 19)) sight.ensures.narrow;
      away = λ x y z e. all_between 18900000 38100000 place.x place.y place.z x y z e sight.ensures.away;
      range_narrow = sight.ensures.range_narrow;
      range_far = sight.ensures.far;
      travel_narrow = sight.ensures.time_narrow;
    }
