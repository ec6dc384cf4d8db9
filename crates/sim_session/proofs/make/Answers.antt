use Rattle.std.proofs.Common.{ℕ, Bool, List, ◌++◌, length, get_or, ℤ, pos, All, sym, subst, ap, ◌∙◌}
use Rattle.eph_store.specs.declared.ephemeris.Eph.{Eph}
use Rattle.sv_orbit.specs.Records.{constants_of}
use Rattle.orbit_model.specs.Elements.{world_of}
use Rattle.sim_session.specs.Sequence.{drawn_within}
use Rattle.sim_session.specs.Values.{base_clock_of, rover_clock_of, base_cycles, rover_cycles, truth_of, first_of, AreSmall}
use Rattle.sim_session.specs.Navigation.{navigation_text}
use Rattle.sim_session.specs.Limits.{IsOnTime}
use Rattle.sim_session.specs.Texts.{base_point, rover_point, has_l5, tracking_of}
use Rattle.sim_session.proofs.SignalSmalls.{small_at, cycles_cast, still_small}
use Rattle.sim_session.proofs.Smalls.{clock_cast, still_clock}
use Rattle.sim_session.proofs.Points.{point_along}
use Rattle.sim_session.proofs.Held.{on_time, length-first_of, text_along}
use Rattle.sim_session.specs.declared.drawn.TheConstants.{MOST_OFFSET}
use Rattle.sim_session.proofs.make.Goals as goal

pub base_receiver-base-requires : goal.base_receiver-base-requires
base_receiver-base-requires c = still_clock c.in_ok-offset.field-0.base_clock c.in_ok-offset.ensures.base_clock_size

pub rover_receiver-rover-requires-clause-x : goal.rover_receiver-rover-requires-clause-x
rover_receiver-rover-requires-clause-x c = let offset : List ℤ = c.in_ok-offset.field-0.offset in still_small (get_or offset 0 (pos 0)) (small_at offset 0 c.in_ok-offset.ensures.offset_size)

pub rover_receiver-rover-requires-clause-y : goal.rover_receiver-rover-requires-clause-y
rover_receiver-rover-requires-clause-y c = let offset : List ℤ = c.in_ok-offset.field-0.offset in still_small (get_or offset 1 (pos 0)) (small_at offset 1 c.in_ok-offset.ensures.offset_size)

pub rover_receiver-rover-requires-clause-z : goal.rover_receiver-rover-requires-clause-z
rover_receiver-rover-requires-clause-z c = let offset : List ℤ = c.in_ok-offset.field-0.offset in still_small (get_or offset 2 (pos 0)) (small_at offset 2 c.in_ok-offset.ensures.offset_size)

pub rover_receiver-rover-requires-clause-clock : goal.rover_receiver-rover-requires-clause-clock
rover_receiver-rover-requires-clause-clock c = still_clock c.in_ok-offset.field-0.rover_clock c.in_ok-offset.ensures.rover_clock_size

pub observation_file-requires-clause-records : goal.observation_file-requires-clause-records
observation_file-requires-clause-records c = subst (λ (es : List Eph). All IsOnTime es) (sym c.deref-2.ensures.value)
    (on_time c.args.system 0 c.in_ok-records.records.items c.in_ok-records.ensures.records)

pub observation_file-requires-clause-as_many : goal.observation_file-requires-clause-as_many
observation_file-requires-clause-as_many c =
    ap (λ (xs : List (List ℤ)). length xs) c.deref-3.ensures.value ∙ ap (λ (xs : List (List ℤ)). length xs) c.in_ok-offset.ensures.base_cycles
    ∙ length-first_of (base_cycles c.args.seed c.args.sats c.has_l5.result) c.args.sats ∙ sym c.in_ok-records.ensures.count ∙ sym (ap (λ (es : List Eph). length es) c.deref-2.ensures.value)

pub observation_file-requires-clause-small : goal.observation_file-requires-clause-small
observation_file-requires-clause-small c = subst (λ (xs : List (List ℤ)). All AreSmall xs) (sym c.deref-3.ensures.value) c.in_ok-offset.ensures.base_cycles_size

pub observation_file-requires-2-clause-records : goal.observation_file-requires-2-clause-records
observation_file-requires-2-clause-records c = subst (λ (es : List Eph). All IsOnTime es) (sym c.deref-4.ensures.value)
    (on_time c.args.system 0 c.in_ok-records.records.items c.in_ok-records.ensures.records)

pub observation_file-requires-2-clause-as_many : goal.observation_file-requires-2-clause-as_many
observation_file-requires-2-clause-as_many c =
    ap (λ (xs : List (List ℤ)). length xs) c.deref-5.ensures.value ∙ ap (λ (xs : List (List ℤ)). length xs) c.in_ok-offset.ensures.rover_cycles
    ∙ length-first_of (rover_cycles c.args.seed c.args.sats c.has_l5.result) c.args.sats ∙ sym c.in_ok-records.ensures.count ∙ sym (ap (λ (es : List Eph). length es) c.deref-4.ensures.value)

pub observation_file-requires-2-clause-small : goal.observation_file-requires-2-clause-small
observation_file-requires-2-clause-small c = subst (λ (xs : List (List ℤ)). All AreSmall xs) (sym c.deref-5.ensures.value) c.in_ok-offset.ensures.rover_cycles_size

pub returns-clause-base : goal.returns-clause-base
returns-clause-base c =
    let own = c.base_receiver-base in
    let drawn = c.in_ok-offset in
    record {
      records = c.in_ok-records.records.items;
      count = c.in_ok-records.ensures.count;
      are = c.in_ok-records.ensures.records;
      has = text_along c.args.epochs c.tracking_of-tracking.result (tracking_of c.args.bands c.args.system) (constants_of c.world_of-world.result)
          (world_of c.args.system) own.result.point base_point own.result.clock (base_clock_of c.args.seed) c.deref-2.result.now c.in_ok-records.records.items
          c.deref-3.result.now (first_of (base_cycles c.args.seed c.args.sats (has_l5 c.args.bands)) c.args.sats) c.in_ok-base.base.items
          c.tracking_of-tracking.ensures c.world_of-world.ensures own.ensures.point
          (own.ensures.clock ∙ clock_cast drawn.field-0.base_clock drawn.ensures.base_clock_size ∙ drawn.ensures.base_clock) c.deref-2.ensures.value
          (c.deref-3.ensures.value ∙ drawn.ensures.base_cycles
          ∙ ap (λ (l5 : Bool). first_of (base_cycles c.args.seed c.args.sats l5) c.args.sats) c.has_l5.ensures) c.in_ok-base.ensures.text;
    }

pub returns-clause-rover : goal.returns-clause-rover
returns-clause-rover c =
    let own = c.rover_receiver-rover in
    let drawn = c.in_ok-offset in
    let offset : List ℤ = drawn.field-0.offset in
    let size = drawn.ensures.offset_size in
    let there = point_along _ _ _ (drawn_within MOST_OFFSET c.args.seed 0) (drawn_within MOST_OFFSET c.args.seed 1) (drawn_within MOST_OFFSET c.args.seed 2)
    (cycles_cast (get_or offset 0 (pos 0)) (small_at offset 0 size) ∙ ap (λ (xs : List ℤ). get_or xs 0 (pos 0)) drawn.ensures.offset)
    (cycles_cast (get_or offset 1 (pos 0)) (small_at offset 1 size) ∙ ap (λ (xs : List ℤ). get_or xs 1 (pos 0)) drawn.ensures.offset)
    (cycles_cast (get_or offset 2 (pos 0)) (small_at offset 2 size) ∙ ap (λ (xs : List ℤ). get_or xs 2 (pos 0)) drawn.ensures.offset) in
    record {
      records = c.in_ok-records.records.items;
      count = c.in_ok-records.ensures.count;
      are = c.in_ok-records.ensures.records;
      has = text_along c.args.epochs c.tracking_of-tracking.result (tracking_of c.args.bands c.args.system) (constants_of c.world_of-world.result)
          (world_of c.args.system) own.result.point (rover_point c.args.seed) own.result.clock (rover_clock_of c.args.seed) c.deref-4.result.now
          c.in_ok-records.records.items c.deref-5.result.now (first_of (rover_cycles c.args.seed c.args.sats (has_l5 c.args.bands)) c.args.sats)
          c.in_ok-rover.rover.items
          c.tracking_of-tracking.ensures c.world_of-world.ensures (own.ensures.point ∙ there)
          (own.ensures.clock ∙ clock_cast drawn.field-0.rover_clock drawn.ensures.rover_clock_size ∙ drawn.ensures.rover_clock) c.deref-4.ensures.value
          (c.deref-5.ensures.value ∙ drawn.ensures.rover_cycles
          ∙ ap (λ (l5 : Bool). first_of (rover_cycles c.args.seed c.args.sats l5) c.args.sats) c.has_l5.ensures) c.in_ok-rover.ensures.text;
    }

pub returns-clause-nav : goal.returns-clause-nav
returns-clause-nav c = record {
  records = c.in_ok-records.records.items;
  count = c.in_ok-records.ensures.count;
  are = c.in_ok-records.ensures.records;
  has = c.in_ok-write_navigation.ensures.written ∙ ap (λ (xs : List ℕ). xs ++ navigation_text c.args.system c.deref.result.now) c.new-nav.ensures.items
      ∙ ap (λ (es : List Eph). navigation_text c.args.system es) c.deref.ensures.value;
}

pub returns-clause-truth : goal.returns-clause-truth
returns-clause-truth c = c.in_ok-offset.ensures.truth ∙ ap (λ (l5 : Bool). first_of (truth_of c.args.seed c.args.sats l5) c.args.sats) c.has_l5.ensures

pub returns-clause-offset : goal.returns-clause-offset
returns-clause-offset c = c.in_ok-offset.ensures.offset
