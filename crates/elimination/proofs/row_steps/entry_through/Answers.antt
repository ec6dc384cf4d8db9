use Rattle.std.proofs.Common.{◌≡◌, ◌^◌, ◌≤◌, ℤ, unsigned_abs, sym, subst}
use Rattle.std.proofs.lemmas.Int.{to_z-of_z}
use Rattle.std.specs.Int.{w64}
use Rattle.whole_math.proofs.Words.{as_w64}
use Rattle.elimination.specs.RowSteps.{IsLeft}
use Rattle.elimination.proofs.SmallEntries.{small_entry, small_size}
use Rattle.elimination.proofs.RowWords.{word}
use Rattle.elimination.proofs.row_steps.entry_through.Goals as goal

pub returns-in-Some-clause-left : goal.returns-in-Some-clause-left
returns-in-Some-clause-left c =
    let x : ℤ = c.in-Some.left in
    let kept : word c.args.number ≡ c.args.number = to_z-of_z w64 c.args.number c.ranges.number in
    λ n r h s. subst (λ (z : ℤ). IsLeft c.args.rows.now n r c.args.c c.args.count c.args.number z) (sym (as_w64 x (small_size x c.in-Some.ensures.small))) (rw kept at (c.in-Some.ensures.left n r h s))

pub returns-in-Some-clause-size : goal.returns-in-Some-clause-size
returns-in-Some-clause-size c =
    let x : ℤ = c.in-Some.left in
    subst (λ (z : ℤ). unsigned_abs z ≤ 2 ^ 52) (sym (as_w64 x (small_size x c.in-Some.ensures.small))) (small_entry x c.in-Some.ensures.small)

pub returns-in-None-clause-left : goal.returns-in-None-clause-left
returns-in-None-clause-left c =
    let kept : word c.args.number ≡ c.args.number = to_z-of_z w64 c.args.number c.ranges.number in
    rw kept at c.left_by_steps.ensures.left
