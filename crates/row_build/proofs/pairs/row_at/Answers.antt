use Rattle.std.proofs.Common.{◌≡◌, ℕ, [], false, Some, List, ℤ, get_or, to_z, of_z, refl, sym, subst}
use Rattle.std.specs.Prelude.{slice_get}
use Rattle.std.proofs.lemmas.Int.{to_z-of_z}
use Rattle.std.specs.Int.{w64}
use Rattle.std.proofs.lemmas.Option.{get_or_from_slice_get, slice_get_within}
use Rattle.obs_rows.specs.declared.arcs.Arc.{Arc}
use Rattle.obs_rows.specs.Signals.{counted}
use Rattle.obs_rows.specs.Unused.{IsZeroOff}
use Rattle.row_boxes.specs.YBoxes.{HoldsYs, HasFarSignal}
use Rattle.row_build.specs.Rows.{seen_by}
use Rattle.row_build.proofs.SightLaws.{both_see}
use Rattle.row_build.proofs.pairs.row_at.Goals as goal

pub bounds-from-number : goal.bounds-from-number
bounds-from-number c = let is_held = c.requires.number in slice_get_within c.args.from.now.arcs.now c.args.number is_held.arc is_held.is

pub row_of-requires-clause-shift : goal.row_of-requires-clause-shift
row_of-requires-clause-shift c =
    let is_held = c.requires.number in
    (c.requires.arcs.ranges c.args.number (record { sat = 0; first = 0; last = 0; datum = false; shift = [] }) (slice_get_within c.args.from.now.arcs.now c.args.number is_held.arc is_held.is)).shifts_in

pub returns-in-Some-clause-row : goal.returns-in-Some-clause-row
returns-in-Some-clause-row c =
    let is_held = c.requires.number in
    let row = c.in-Some.row in
    let entry_seen = c.args.entry.now.sv.now in
    let same_arc = get_or_from_slice_get c.args.from.now.arcs.now c.args.number is_held.arc _ is_held.is in
    record {
      arc = is_held.arc;
      arc_is = subst (λ (k : ℕ). slice_get c.args.from.now.arcs.now k ≡ Some is_held.arc) (sym c.in-Some.ensures.arc) is_held.is;
      entry = entry_seen;
      entry_is = c.requires.entry is_held.arc is_held.is;
      y = subst (λ (a : Arc). HoldsYs (seen_by entry_seen c.args.from.now.base.now c.args.from.now.point.now) (counted c.args.from.now.signals c.args.scale)
          c.args.scale entry_seen.observed c.args.group a.shift row.y row.ry) same_arc
          (subst (λ (g : ℤ). HoldsYs (seen_by entry_seen c.args.from.now.base.now c.args.from.now.point.now) (counted c.args.from.now.signals c.args.scale) c.args.scale entry_seen.observed g
          (get_or c.args.from.now.arcs.now c.args.number (record { sat = 0; first = 0; last = 0; datum = false; shift = [] })).shift row.y row.ry) (to_z-of_z w64 c.args.group c.ranges.group)
          (subst (λ (ss : List ℕ). HoldsYs (seen_by entry_seen c.args.from.now.base.now c.args.from.now.point.now) ss c.args.scale entry_seen.observed (to_z w64 (of_z w64 c.args.group))
          (get_or c.args.from.now.arcs.now c.args.number (record { sat = 0; first = 0; last = 0; datum = false; shift = [] })).shift row.y row.ry) c.counted_signals-signals.ensures.value
          (c.in-Some.ensures.y c.args.from.now.base.now c.args.from.now.point.now c.requires.seen)));
      seen = both_see c.args.entry.now c.args.from.now.base.now c.args.from.now.point.now c.requires.seen;
      radius = c.in-Some.ensures.radius;
      others = subst (λ (ss : List ℕ). IsZeroOff ss row.y) c.counted_signals-signals.ensures.value c.in-Some.ensures.others;
      u = c.in-Some.ensures.u c.args.from.now.base.now c.args.from.now.point.now c.requires.seen;
      narrow = c.in-Some.ensures.narrow;
    }

pub returns-in-None-clause-far : goal.returns-in-None-clause-far
returns-in-None-clause-far c = λ g.
    let is_held = c.requires.number in
    let entry_seen = c.args.entry.now.sv.now in
    let same_arc = get_or_from_slice_get c.args.from.now.arcs.now c.args.number is_held.arc _ is_held.is in
    record {
      group = c.args.group;
      group_is = g;
      number = c.args.number;
      arc = is_held.arc;
      arc_is = is_held.is;
      held = is_held.held;
      entry = entry_seen;
      entry_is = c.requires.entry is_held.arc is_held.is;
      far = subst (λ (a : Arc). HasFarSignal (seen_by entry_seen c.args.from.now.base.now c.args.from.now.point.now)
          (counted c.args.from.now.signals c.args.scale) c.args.scale entry_seen.observed c.args.group a.shift) same_arc
          (subst (λ (i : ℤ). HasFarSignal (seen_by entry_seen c.args.from.now.base.now c.args.from.now.point.now) (counted c.args.from.now.signals c.args.scale) c.args.scale entry_seen.observed i
          (get_or c.args.from.now.arcs.now c.args.number (record { sat = 0; first = 0; last = 0; datum = false; shift = [] })).shift) (to_z-of_z w64 c.args.group c.ranges.group)
          (subst (λ (ss : List ℕ). HasFarSignal (seen_by entry_seen c.args.from.now.base.now c.args.from.now.point.now) ss c.args.scale entry_seen.observed (to_z w64 (of_z w64 c.args.group))
          (get_or c.args.from.now.arcs.now c.args.number (record { sat = 0; first = 0; last = 0; datum = false; shift = [] })).shift) c.counted_signals-signals.ensures.value
          (c.in-None.ensures.far refl c.args.from.now.base.now c.args.from.now.point.now c.requires.seen)));
    }
