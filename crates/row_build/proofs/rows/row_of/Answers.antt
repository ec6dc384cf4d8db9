use Rattle.std.proofs.Common.{◌≡◌, ℤ, length, arith, subst}
use Rattle.std.proofs.lemmas.Int.{to_z-of_z}
use Rattle.std.proofs.lemmas.Option.{IfSome_then}
use Rattle.std.specs.Int.{w64}
use Rattle.row_boxes.specs.YBoxes.{HoldsYs, HasFarSignal}
use Rattle.row_build.specs.Rows.{seen_by}
use Rattle.row_build.proofs.Amounts.{amounts_below}
use Rattle.row_build.proofs.SightLaws.{held_by_both, both_see, in_u}
use Rattle.row_build.proofs.rows.row_of.Goals as goal
use Rattle.obs_rows.specs.declared.units.TheConstants.{SIGNALS}

pub observed_row-requires-clause-amounts : goal.observed_row-requires-clause-amounts
observed_row-requires-clause-amounts c = let observed_length : length c.args.entry.now.sv.now.observed ≡ SIGNALS = omega arith in amounts_below c.args.entry.now.sv.now.observed observed_length c.args.entry.now.sv.now.observed_in

pub returns-clause-y : goal.returns-clause-y
returns-clause-y c = IfSome_then c.observed_row.result c.observed_row.ensures.holds (λ r holds base point known.
    subst (λ (g : ℤ). HoldsYs (seen_by c.args.entry.now.sv.now base point) c.args.ss.now c.args.scale c.args.entry.now.sv.now.observed g c.args.shift.now r.y r.ry)
    (to_z-of_z w64 c.args.group c.ranges.group) (holds (seen_by c.args.entry.now.sv.now base point) (held_by_both c.args.entry.now base point known)))

pub returns-clause-u : goal.returns-clause-u
returns-clause-u c =
    let three_spreads : length c.args.entry.now.rover.direction ≡ 3 = omega arith in
    IfSome_then c.observed_row.result c.observed_row.ensures.direction (λ r are base point known s move direction h d m.
    in_u c.args.entry.now.rover.direction r.u r.ru direction three_spreads are (known.rover.direction s move direction h d m))

pub returns-clause-far : goal.returns-clause-far
returns-clause-far c = λ none base point known.
    subst (λ (g : ℤ). HasFarSignal (seen_by c.args.entry.now.sv.now base point) c.args.ss.now c.args.scale c.args.entry.now.sv.now.observed g c.args.shift.now) (to_z-of_z w64 c.args.group c.ranges.group)
    (c.observed_row.ensures.far none (seen_by c.args.entry.now.sv.now base point) (held_by_both c.args.entry.now base point known) (both_see c.args.entry.now base point known))
