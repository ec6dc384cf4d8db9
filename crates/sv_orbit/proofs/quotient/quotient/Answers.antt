-- The size of the quotient keeps the ends of its box.
use Rattle.std.proofs.Common.{◌≡◌, ◌^◌, ℤ, pos, ◌*ℤ◌, unsigned_abs, lit<, subst, subst₂, sym, ◌≤ℤ◌, to_z, of_z}
use Rattle.std.proofs.lemmas.Int.{to_z-of_z}
use Rattle.std.proofs.lemmas.Result.{IfOk-at_ok}
use Rattle.std.specs.Int.{w128}
use Rattle.whole_math.specs.Rounding.{floor_div, ceil_div}
use Rattle.whole_math.specs.Rational.{Rational}
use Rattle.whole_math.specs.Boxes.{IsRatio}
use Rattle.iv_core.specs.declared.Iv.{Iv}
use Rattle.iv_core.specs.Intervals.{Holds, width_of}
use Rattle.iv_core.proofs.BoxLaws.{ok_of}
use Rattle.sized_box.proofs.Bounds.{same_within}
use Rattle.sv_orbit.proofs.Quotients.{quotient_room, not_past, same_ends}
use Rattle.sv_orbit.proofs.quotient.quotient.Goals as goal

pub ratio-requires : goal.ratio-requires
ratio-requires g c =
    let num = to_z-of_z w128 c.args.num c.ranges.num in
    let den = to_z-of_z w128 c.args.den c.ranges.den in (
      lit< tt,
      (
        c.requires.scale,
        (
          rw den c.requires.positive,
          rw num
              (quotient_room c.args.num c.args.den g.row.K g.row.SIZE c.requires.scale c.requires.limit c.requires.positive c.requires.small c.requires.size),
        ),
      ),
    )

pub unwrap-requires : goal.unwrap-requires
unwrap-requires g c =
    let num = to_z-of_z w128 c.args.num c.ranges.num in
    let den = to_z-of_z w128 c.args.den c.ranges.den in
    ok_of c.ratio.result (λ h. not_past _ _ g.row.SIZE c.requires.limit
    (same_ends c.args.num c.args.den _ _ g.row.K g.row.SIZE num den c.requires.positive c.requires.size) (c.ratio.ensures.refused.0 h))

pub new-requires : goal.new-requires
new-requires g c =
    let n : ℤ = to_z w128 (of_z w128 c.args.num) in
    let d : ℤ = to_z w128 (of_z w128 c.args.den) in
    let num = to_z-of_z w128 c.args.num c.ranges.num in
    let den = to_z-of_z w128 c.args.den c.ranges.den in
    let same_ends_told = same_ends c.args.num c.args.den n d g.row.K g.row.SIZE num den c.requires.positive c.requires.size in
    let ends_are = IfOk-at_ok (λ r. (r.lo ≡ floor_div (n *ℤ pos (2 ^ g.row.K)) (unsigned_abs d)) × (r.hi ≡ ceil_div (n *ℤ pos (2 ^ g.row.K)) (unsigned_abs d))) c.unwrap.ensures c.ratio.ensures.ends in
    let is_narrow = IfOk-at_ok (λ r. width_of r ≤ℤ pos 1) c.unwrap.ensures c.ratio.ensures.width in (
      lit< tt,
      (
        lit< tt,
        (
          same_within c.unwrap.result.lo c.unwrap.result.hi (floor_div (n *ℤ pos (2 ^ g.row.K)) (unsigned_abs d))
              (ceil_div (n *ℤ pos (2 ^ g.row.K)) (unsigned_abs d)) g.row.SIZE ends_are.0 ends_are.1 same_ends_told.0 same_ends_told.1,
          is_narrow,
        ),
      ),
    )

pub returns : goal.returns
returns g c = λ x h.
    let n : ℤ = to_z w128 (of_z w128 c.args.num) in
    let d : ℤ = to_z w128 (of_z w128 c.args.den) in
    let num = to_z-of_z w128 c.args.num c.ranges.num in
    let den = to_z-of_z w128 c.args.den c.ranges.den in
    let all = IfOk-at_ok (λ r. (x : Rational) → IsRatio x n d → Holds r x) c.unwrap.ensures c.ratio.ensures.holds in
    subst (λ (b : Iv g.row.K). Holds b x) (sym c.new.ensures) (all x (subst₂ (λ (m e : ℤ). IsRatio x m e) (sym num) (sym den) h))
