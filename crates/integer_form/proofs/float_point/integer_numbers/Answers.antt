use Rattle.std.proofs.Common.{◌≡◌, ℕ, ◌+◌, ◌-◌, ◌^◌, ◌<◌, ℤ, pos, ◌*ℤ◌, unsigned_abs, arith, sym, ap, ◌∙◌, subst}
use Rattle.std.proofs.lemmas.Int.{ints}
use Rattle.quadratic_form.specs.Tables.{item}
use Rattle.integer_form.proofs.FloatLaws.{list_scaled}
use Rattle.integer_form.proofs.float_point.integer_numbers.Goals as goal

larger : (x : ℤ) → unsigned_abs x < 2 ^ 30 → unsigned_abs (pos (2 ^ 16) *ℤ x) < 2 ^ 46
larger x h = omega (arith, ints)

pub returns-clause-list : goal.returns-clause-list
returns-clause-list c = list_scaled (item c.loop-i.numbers) (pos (2 ^ 16)) c.args.z.now 3 (λ i h. c.loop-i.invariant.same i (omega (arith, c.loop-i-test.false)))

pub returns-clause-narrow : goal.returns-clause-narrow
returns-clause-narrow c = λ i h g.
    let k : ℕ = i - 3 in
    let index_is : 3 + k ≡ i = omega arith in
    let number_is : item c.loop-i.numbers i ≡ pos (2 ^ 16) *ℤ item c.args.z.now k = ap (λ (m : ℕ). item c.loop-i.numbers m) (sym index_is) ∙ c.loop-i.invariant.same k (omega (arith, c.loop-i-test.false)) in
    subst (λ (z : ℤ). unsigned_abs z < 2 ^ 46) (sym number_is) (larger (item c.args.z.now k) (c.requires.size k (omega arith)))
