use Rattle.std.proofs.Common.{◌≡◌, List, [], ◌∷◌, ℤ, pos, length, get_or, arith, refl, sym, ◌∙◌}
use Rattle.whole_math.proofs.Lists.{three_items}
use Rattle.iv_core.specs.declared.Iv.{Iv}
use Rattle.orbit_model.specs.SeenPlaces.{Position, point_of, IsAboveMask, IsBelowMask, place_at}
use Rattle.orbit_model.specs.Places.{HasSeenPlace, HoldsPlace}
use Rattle.screening.specs.Sightings.{Setting, ObservedSat, IsObservedSat, WasSent, setting_with, code_of}
use Rattle.screening.proofs.ChosenOnce.{none_chosen}
use Rattle.screening.proofs.SightLaws.{match_none, match_some, if_some, code_range, from_record, sees_sent, was_sent, base_near, rover_near, left_out_as, sees_near}
use Rattle.screening.proofs.sights.sv_pair_of.Goals as goal

-- each place of a box is seen, as it is from the three coordinates of the point
seen_there : (boxes : List (Iv 36)) (p : List ℤ) → length p ≡ 3 → ((a b c : ℤ) (sent : Position) → p ≡ a ∷ b ∷ c ∷ [] → HoldsPlace boxes sent → HasSeenPlace sent (point_of a b c)) →
    (sent : Position) → HoldsPlace boxes sent → HasSeenPlace sent (place_at p)
seen_there boxes p l all sent h = all (get_or p 0 (pos 0)) (get_or p 1 (pos 0)) (get_or p 2 (pos 0)) sent (three_items p (pos 0) (pos 0) (pos 0) l) h

pub returns-in_err-record : goal.returns-in_err-record
returns-in_err-record c =
    rw c.from_residual-in_err-record.ensures
    (λ g is. absurd (none_chosen c.args.table.now.fit.now c.args.number c.args.base.now.tag.0 g.eph (match_none c.chosen.result _ _ c.in_err-record.was c.chosen.ensures.chosen) is.chosen))

pub returns-then-not-above : goal.returns-then-not-above
returns-then-not-above c =
    let three_coordinates : length c.args.rules.now.point ≡ 3 = omega arith in
    let setting : Setting = setting_with c.args.rules.now c.args.table.now in
    let sighted : ObservedSat = record { base = c.in_ok-at_base.at_base; rover = c.in_ok-at_rover.at_rover; eph = c.in_ok-record.record.now.clock.eph } in
    let seen : IsObservedSat setting c.args.base.now c.args.rover.now c.args.number sighted = record {
      number = c.requires.number;
      at_base = sym c.amounts_at.ensures.value ∙ c.in_ok-at_base.was;
      at_rover = sym c.amounts_at-2.ensures.value ∙ c.in_ok-at_rover.was;
      chosen = match_some c.chosen.result _ _ c.in_ok-record.record c.in_ok-record.was c.chosen.ensures.chosen;
    } in
    let range = code_range c.amounts_at.result sighted.base c.in_ok-at_base.was c.amounts_at.ensures.code_from c.amounts_at.ensures.code_to in
    let clock = c.in_ok-record.record.now.clock in
    let same : clock.world ≡ c.args.table.now.world = if_some c.chosen.result _ c.in_ok-record.record c.in_ok-record.was c.chosen.ensures.world in
    let holds = from_record _ clock.world sighted.eph clock.eph _ (code_of sighted.base) _ range same refl c.sv_from-from_base.ensures in
    left_out_as setting c.args.base.now c.args.rover.now c.args.number sighted seen
    (sees_sent setting sighted.eph c.args.base.now.tag.0 (code_of sighted.base) c.sv_from-from_base.result _ (was_sent setting c.args.table.now.world sighted.eph c.args.base.now.tag.0 (code_of sighted.base) refl (base_near c.args.base.now.tag.0 sighted.eph.toe.0 seen.chosen.candidate.near) range)
    holds (seen_there c.sv_from-from_base.result.place c.args.rules.now.point three_coordinates c.seen_from-seen.ensures.exists) (sees_near c.sv_from-from_base.result c.seen_from-seen.result.place c.args.rules.now.point (λ h p. IsBelowMask c.args.rules.now.mask h p) three_coordinates
    c.seen_from-seen.ensures.place (c.above.ensures.left_out c.if-not-above.true)))

pub returns : goal.returns
returns c =
    let three_coordinates : length c.args.rules.now.point ≡ 3 = omega arith in
    let setting : Setting = setting_with c.args.rules.now c.args.table.now in
    let sighted : ObservedSat = record { base = c.in_ok-at_base.at_base; rover = c.in_ok-at_rover.at_rover; eph = c.in_ok-record.record.now.clock.eph } in
    let seen : IsObservedSat setting c.args.base.now c.args.rover.now c.args.number sighted = record {
      number = c.requires.number;
      at_base = sym c.amounts_at.ensures.value ∙ c.in_ok-at_base.was;
      at_rover = sym c.amounts_at-2.ensures.value ∙ c.in_ok-at_rover.was;
      chosen = match_some c.chosen.result _ _ c.in_ok-record.record c.in_ok-record.was c.chosen.ensures.chosen;
    } in
    let range = code_range c.amounts_at.result sighted.base c.in_ok-at_base.was c.amounts_at.ensures.code_from c.amounts_at.ensures.code_to in
    let range_too = code_range c.amounts_at-2.result sighted.rover c.in_ok-at_rover.was c.amounts_at-2.ensures.code_from c.amounts_at-2.ensures.code_to in
    let clock = c.in_ok-record.record.now.clock in
    let same : clock.world ≡ c.args.table.now.world = if_some c.chosen.result _ c.in_ok-record.record c.in_ok-record.was c.chosen.ensures.world in
    let holds = from_record _ clock.world sighted.eph clock.eph _ (code_of sighted.base) _ range same refl c.sv_from-from_base.ensures in
    let sent : WasSent setting sighted.eph c.args.base.now.tag.0 (code_of sighted.base) =
    was_sent setting c.args.table.now.world sighted.eph c.args.base.now.tag.0 (code_of sighted.base) refl (base_near c.args.base.now.tag.0 sighted.eph.toe.0 seen.chosen.candidate.near) range in
    record {
      pair_is = refl;
      sat_is = refl;
      entry = record {
        sighting = sighted;
        seen = seen;
        kept = sees_sent setting sighted.eph c.args.base.now.tag.0 (code_of sighted.base) c.sv_from-from_base.result _ sent holds (seen_there c.sv_from-from_base.result.place c.args.rules.now.point three_coordinates c.seen_from-seen.ensures.exists) (sees_near c.sv_from-from_base.result c.seen_from-seen.result.place c.args.rules.now.point
            (λ h p. IsAboveMask c.args.rules.now.mask h p) three_coordinates c.seen_from-seen.ensures.place (c.above.ensures.kept c.if-not-above.false));
        tag = refl;
        observed = c.differences.ensures.value;
        base_holds = holds;
        rover_holds = from_record _ clock.world sighted.eph clock.eph _ (code_of sighted.rover) _ range_too same refl c.sv_from.ensures;
        base_sent = sent;
        rover_sent = was_sent setting c.args.table.now.world sighted.eph c.args.rover.now.tag.0 (code_of sighted.rover) refl
            (rover_near c.args.base.now.tag.0 c.args.rover.now.tag.0 sighted.eph.toe.0 seen.chosen.candidate.near c.requires.near) range_too;
        range = λ place at travel h is. c.seen_from-seen.ensures.range _ _ _ place at travel (three_items c.args.rules.now.point (pos 0) (pos 0) (pos 0) three_coordinates) h is;
      };
    }
