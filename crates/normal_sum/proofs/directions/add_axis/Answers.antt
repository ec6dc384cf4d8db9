use Rattle.std.proofs.Common.{◌≡◌, ◌≢◌, inl, inr, ⊎_elim, ℕ, ◌+◌, ◌≤◌, ◌^◌, ◌+ℤ◌, ◌*ℤ◌, ℤ, arith, ap, ◌∙◌, to_z, of_z, below_more, unsigned_abs, sym, subst}
use Rattle.std.proofs.lemmas.Bool.{cases_eq}
use Rattle.std.proofs.lemmas.Int.{to_z-of_z}
use Rattle.std.specs.Int.{w64}
use Rattle.quadratic_form.specs.Tables.{entry}
use Rattle.whole_math.proofs.Order.{abs_mul_le}
use Rattle.whole_math.proofs.Words.{as_w64, size_add}
use Rattle.normal_sum.specs.Directions.{direction_spread}
use Rattle.normal_sum.proofs.directions.add_axis.Goals as goal

-- an entry with a product more
larger : (t old x f v : ℤ) → t ≡ x +ℤ (f *ℤ v) → x ≡ old → unsigned_abs f ≤ 2 ^ 57 → unsigned_abs v ≤ 2 ^ 38 → unsigned_abs t ≤ unsigned_abs old + 2 ^ 95
larger t old x f v sum same factor value =
    let product : unsigned_abs (f *ℤ v) ≤ 2 ^ 95 = abs_mul_le f v (2 ^ 57) (2 ^ 38) factor value in
    subst (λ (z : ℤ). unsigned_abs z ≤ unsigned_abs old + 2 ^ 95) (sym (sum ∙ ap (λ z. z +ℤ (f *ℤ v)) same)) (omega (arith, size_add old (f *ℤ v)))

pub loop-other-preserved : goal.loop-other-preserved
loop-other-preserved c =
    let axis : ℕ = c.args.axis in
    let other : ℕ = c.loop-other.other in
    let share : ℤ = to_z w64 (of_z w64 c.args.share) in
    let spread : to_z w64 (of_z w64 c.direction_spread-spread.result) ≡ direction_spread c.args.rows.now c.args.axis c.loop-other.other =
    as_w64 c.direction_spread-spread.result (omega (arith, c.direction_spread-spread.ensures.size)) ∙ c.direction_spread-spread.ensures.value in
    record {
      added = λ j from within. below_more (λ (j : ℕ). axis ≤ j → entry c.add_short_to_entry.new.table axis j ≡ entry c.args.table.now axis j +ℤ (direction_spread c.args.rows.now axis j *ℤ share)) other
          (λ j below from. c.add_short_to_entry.ensures.others axis j (inr (λ e. omega (arith, e, below))) ∙ c.loop-other.invariant.added j from below)
          (λ from. c.add_short_to_entry.ensures.there ∙ ap (λ z. z +ℤ (to_z w64 (of_z w64 c.direction_spread-spread.result) *ℤ share)) (c.loop-other.invariant.later axis other (omega arith))
          ∙ ap (λ z. entry c.args.table.now axis other +ℤ (z *ℤ share)) spread) j within from;
      size = λ j from within. below_more (λ (j : ℕ). axis ≤ j → unsigned_abs (entry c.add_short_to_entry.new.table axis j) ≤ unsigned_abs (entry c.args.table.now axis j) + 2 ^ 95) other
          (λ j below from. subst (λ (z : ℤ). unsigned_abs z ≤ unsigned_abs (entry c.args.table.now axis j) + 2 ^ 95) (sym (c.add_short_to_entry.ensures.others axis j (inr (λ e. omega (arith, e, below)))))
          (c.loop-other.invariant.size j from below))
          (λ from. larger (entry c.add_short_to_entry.new.table axis other) (entry c.args.table.now axis other) (entry c.loop-other.table axis other) (to_z w64 (of_z w64 c.direction_spread-spread.result)) share
          c.add_short_to_entry.ensures.there (c.loop-other.invariant.later axis other (omega arith))
          (subst (λ (z : ℤ). unsigned_abs z ≤ 2 ^ 57) (sym (as_w64 c.direction_spread-spread.result (omega (arith, c.direction_spread-spread.ensures.size)))) c.direction_spread-spread.ensures.size)
          (subst (λ (z : ℤ). unsigned_abs z ≤ 2 ^ 38) (sym (to_z-of_z w64 c.args.share c.ranges.share)) c.requires.share_size)) j within from;
      later = λ i j h. c.add_short_to_entry.ensures.others i j (inr (λ e. omega (arith, e, h))) ∙ c.loop-other.invariant.later i j (omega arith);
      below = λ i j h. c.add_short_to_entry.ensures.others i j (⊎_elim (λ (e : i ≡ axis). inr (λ f. omega (arith, e, f, h, c.loop-other.auto.other))) (λ (d : i ≢ axis). inl d) (cases_eq i axis))
          ∙ c.loop-other.invariant.below i j h;
      others = λ i j d. c.add_short_to_entry.ensures.others i j (inl d) ∙ c.loop-other.invariant.others i j d;
    }
