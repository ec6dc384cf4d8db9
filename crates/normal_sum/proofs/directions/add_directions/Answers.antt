use Rattle.std.proofs.Common.{◌≡◌, ℕ, ◌+◌, ◌^◌, ◌≤◌, ◌+ℤ◌, ◌*ℤ◌, ℤ, arith, ap, ◌∙◌, to_z, of_z, below_more, unsigned_abs, sym, subst}
use Rattle.std.specs.Int.{w64}
use Rattle.quadratic_form.specs.Tables.{entry}
use Rattle.normal_sum.specs.Directions.{direction_spread}
use Rattle.normal_sum.proofs.directions.add_directions.Goals as goal

pub loop-axis-preserved : goal.loop-axis-preserved
loop-axis-preserved c =
    let axis : ℕ = c.loop-axis.axis in
    let share : ℤ = to_z w64 (of_z w64 c.args.share) in
    record {
      added = λ i j h from within. below_more
          (λ (i : ℕ). i ≤ j → entry c.add_axis.new.table i j ≡ entry c.args.table.now i j +ℤ (direction_spread c.args.rows.now i j *ℤ share)) axis
          (λ i below from. c.add_axis.ensures.others i j (λ e. omega (arith, e, below)) ∙ c.loop-axis.invariant.added i j below from within)
          (λ from. c.add_axis.ensures.added j from within ∙ ap (λ z. z +ℤ (direction_spread c.args.rows.now axis j *ℤ share)) (c.loop-axis.invariant.later axis j (omega arith))) i h from;
      size = λ i j h from within. below_more
          (λ (i : ℕ). i ≤ j → unsigned_abs (entry c.add_axis.new.table i j) ≤ unsigned_abs (entry c.args.table.now i j) + 2 ^ 95) axis
          (λ i below from. subst (λ (z : ℤ). unsigned_abs z ≤ unsigned_abs (entry c.args.table.now i j) + 2 ^ 95) (sym (c.add_axis.ensures.others i j (λ e. omega (arith, e, below))))
          (c.loop-axis.invariant.size i j below from within))
          (λ from. subst (λ (z : ℤ). unsigned_abs (entry c.add_axis.new.table axis j) ≤ unsigned_abs z + 2 ^ 95) (c.loop-axis.invariant.later axis j (omega arith))
          (c.add_axis.ensures.size j from within)) i h from;
      later = λ i j h. c.add_axis.ensures.others i j (λ e. omega (arith, e, h)) ∙ c.loop-axis.invariant.later i j (omega arith);
      behind = λ i j h. c.add_axis.ensures.behind i j h ∙ c.loop-axis.invariant.behind i j h;
      below = λ i j h. c.add_axis.ensures.below i j h ∙ c.loop-axis.invariant.below i j h;
    }
