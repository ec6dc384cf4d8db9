use Rattle.std.proofs.Common.{◌≡◌, ◌+◌, ◌^◌, ◌≤◌, ℤ, ◌-ℤ◌, unsigned_abs, arith, ap₂, ◌∙◌, subst}
use Rattle.std.proofs.lemmas.Int.{ints, to_z-of_z}
use Rattle.std.specs.Int.{w64}
use Rattle.elimination.specs.StepEntries.{nearest_quotient, IsSmallOnly}
use Rattle.elimination.proofs.RowWords.{word}
use Rattle.elimination.proofs.quotients.Quotient.less.Goals as goal

loss_word : (x : ℤ) → unsigned_abs x ≤ 2 ^ 60 + 1 → word x ≡ x
loss_word x h = omega (arith, ints)

pub returns-in-Some : goal.returns-in-Some
returns-in-Some c =
    let loss : c.in-Some.loss ≡ nearest_quotient c.args.self.now.p c.args.q c.args.self.now.a = rw (to_z-of_z w64 c.args.q c.ranges.q) at c.in-Some.ensures.value in
    subst (λ (z : ℤ). IsSmallOnly z c.short_less.result) (ap₂ (λ x y. x -ℤ y) (to_z-of_z w64 c.args.entry c.ranges.entry) (loss_word c.in-Some.loss c.in-Some.ensures.size ∙ loss))
    (record { value = c.short_less.ensures.value; small = c.short_less.ensures.small; refused = c.short_less.ensures.refused })

pub returns-in-None : goal.returns-in-None
returns-in-None c = rw (to_z-of_z w64 c.args.q c.ranges.q, to_z-of_z w64 c.args.entry c.ranges.entry) at c.exact_less.ensures
