use Rattle.std.proofs.Common.{◌≡◌, ◌*ℤ◌, ◌≤ℤ◌, arith, ◌∙◌, unsigned_abs, to_z, of_z, w64}
use Rattle.std.specs.Int.{w128}
use Rattle.std.proofs.lemmas.Int.{ints, to_z-of_z}
use Rattle.whole_math.specs.Rounding.{floor_div}
use Rattle.int_search.proofs.Quotients.{share_yes, share_no}
use Rattle.int_search.proofs.LevelLaws.{far_off, below_zero}
use Rattle.int_search.proofs.steps.term_within.Goals as goal
use Rattle.int_search.proofs.steps.term_within.Goals.{then-room-lt0-via-then-room-lt0, then-room-lt0-via-else-room-lt0+then-unsigned_abs-2}

pub returns-then-room-lt0 : goal.returns-then-room-lt0
returns-then-room-lt0 c = elim c.then-room-lt0.branch [
  | then-room-lt0-via-then-room-lt0 w ↦ below_zero c.args.room c.args.d c.args.c c.requires.d_from (omega (arith, ints))
  | then-room-lt0-via-else-room-lt0+then-unsigned_abs-2 w ↦ far_off c.args.room c.args.d c.args.c c.requires.d_from c.requires.room (omega (arith, ints))
]

pub scaled-requires-clause-within : goal.scaled-requires-clause-within
scaled-requires-clause-within c =
    let square_is : c.square-square.result ≡ c.args.c *ℤ c.args.c = grind (arith, to_z-of_z) in
    let share_is : c.share.result ≡ floor_div c.args.room (unsigned_abs c.args.d) = grind (arith, to_z-of_z) in
    let weight_kept : to_z w64 (of_z w64 c.args.d) ≡ c.args.d = to_z-of_z w64 c.args.d c.ranges.d in
    let room_kept : to_z w128 (of_z w128 c.args.room) ≡ c.args.room = to_z-of_z w128 c.args.room c.ranges.room in
    let square_small = c.square-square.ensures.size in
    let square_kept : to_z w128 (of_z w128 c.square-square.result) ≡ c.square-square.result = omega (arith, ints) in
    let term_at_most : (c.args.d *ℤ (c.args.c *ℤ c.args.c)) ≤ℤ c.args.room = share_yes c.args.room c.args.d (c.args.c *ℤ c.args.c) c.requires.d_from (rw (← square_is, ← share_is) (omega (arith, ints))) in
    rw (weight_kept, room_kept, square_kept, square_is) term_at_most

pub returns-then-square-share : goal.returns-then-square-share
returns-then-square-share c =
    let square_is : c.square-square.result ≡ c.args.c *ℤ c.args.c = grind (arith, to_z-of_z) in
    let share_is : c.share.result ≡ floor_div c.args.room (unsigned_abs c.args.d) = grind (arith, to_z-of_z) in
    let square_small = c.square-square.ensures.size in
    let term_is : c.scaled.result ≡ c.args.d *ℤ (c.args.c *ℤ c.args.c) = grind (arith, to_z-of_z) in
    let term_small = c.scaled.ensures.size in
    let term_at_most : (c.args.d *ℤ (c.args.c *ℤ c.args.c)) ≤ℤ c.args.room = share_yes c.args.room c.args.d (c.args.c *ℤ c.args.c) c.requires.d_from (rw (← square_is, ← share_is) (omega (arith, ints))) in
    let term_kept : to_z w128 (of_z w128 c.scaled.result) ≡ c.scaled.result = omega (arith, ints) in
    record { is = term_kept ∙ term_is; within = rw (term_kept, term_is) term_at_most; size = rw term_kept term_small; small = omega (arith, ints) }

pub returns-else-square-share : goal.returns-else-square-share
returns-else-square-share c =
    let square_is : c.square-square.result ≡ c.args.c *ℤ c.args.c = grind (arith, to_z-of_z) in
    let share_is : c.share.result ≡ floor_div c.args.room (unsigned_abs c.args.d) = grind (arith, to_z-of_z) in
    let square_small = c.square-square.ensures.size in
    share_no c.args.room c.args.d (c.args.c *ℤ c.args.c) c.requires.d_from (rw (← square_is, ← share_is) (omega (arith, ints)))
