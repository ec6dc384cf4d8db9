use Rattle.std.proofs.Common.{◌≡◌, ◌^◌, ℕ, ℤ, pos, ◌-ℤ◌, ◌*ℤ◌, ◌<ℤ◌, true, false, unsigned_abs, arith, to_z, of_z, sym, ap, ap₂, ◌∙◌}
use Rattle.std.specs.Int.{w64, w128}
use Rattle.whole_math.specs.Rounding.{ceil_div}
use Rattle.whole_math.proofs.Words.{as_w64, as_w128}
use Rattle.elimination.specs.StepEntries.{is_small}
use Rattle.elimination.specs.RowSteps.{left_own}
use Rattle.elimination.specs.Quotients.{own_by}
use Rattle.elimination.proofs.NewEntries.{positive_is, count_word}
use Rattle.elimination.proofs.SmallEntries.{small_size, small_given, none_given}
use Rattle.elimination.proofs.RowWords.{short, wide, wide_size}
use Rattle.elimination.proofs.quotients.Quotient.own_less.Goals as goal
use Rattle.elimination.proofs.quotients.Quotient.own_less.Goals.{After-is_small}

-- what is left, of the numbers as words: e of the entry, v of the pivot, k of the count, s of the square, l of the loss
own_is : (entry p a loss own e v k s l : ℤ) (m : ℕ) → pos 0 <ℤ a → e ≡ entry → v ≡ a → k ≡ pos m → s ≡ ceil_div (p *ℤ p) (unsigned_abs a) → l ≡ loss → loss ≡ ceil_div (pos m *ℤ v) (2 ^ 42) →
    own ≡ ((e -ℤ s) -ℤ k) -ℤ l → own ≡ left_own (unsigned_abs a) m p entry
own_is entry p a loss own e v k s l m positive ee ev ek es el loss_is is = is ∙ ap₂ (λ x y. ((x -ℤ y) -ℤ k) -ℤ l) ee es
    ∙ ap₂ (λ x y. ((entry -ℤ ceil_div (p *ℤ p) (unsigned_abs a)) -ℤ x) -ℤ y) ek (el ∙ loss_is ∙ ap (λ y. ceil_div (pos m *ℤ y) (2 ^ 42)) (ev ∙ positive_is a positive))

pub less_three-own-requires-clause-entry_size : goal.less_three-own-requires-clause-entry_size
less_three-own-requires-clause-entry_size c = wide_size c.args.entry c.requires.entry_size

left : (c : After-is_small) → c.less_three-own.result ≡ own_by c.args.self.now c.args.later c.args.entry
left c =
    let s = c.args.self.now in
    own_is c.args.entry s.p s.a c.factor_loss-loss.result c.less_three-own.result _ _ _ _ _ c.args.later s.positive (wide c.args.entry c.requires.entry_size) (short s.a s.a_in)
    (count_word c.args.later c.requires.few) (as_w128 c.square.result (omega (arith, c.square.ensures.size)) ∙ c.square.ensures.value)
    (as_w128 c.factor_loss-loss.result (omega (arith, c.factor_loss-loss.ensures.size))) c.factor_loss-loss.ensures.value c.less_three-own.ensures.value

kept : (c : After-is_small) → to_z w128 (of_z w128 c.less_three-own.result) ≡ c.less_three-own.result
kept c = as_w128 c.less_three-own.result (omega (arith, c.less_three-own.ensures.size))

pub returns-then-is_small : goal.returns-then-is_small
returns-then-is_small c =
    let d = (goal.at.returns-then-is_small c).After-is_small in
    let f : ℤ = c.less_three-own.result in
    let small : is_small f ≡ true = ap (λ z. is_small z) (sym (kept d)) ∙ sym c.is_small.ensures ∙ c.if-is_small.true in
    let read : to_z w64 (of_z w64 (to_z w128 (of_z w128 f))) ≡ f = ap (λ z. to_z w64 (of_z w64 z)) (kept d) ∙ as_w64 f (small_size f small) in
    small_given (own_by c.args.self.now c.args.later c.args.entry) (to_z w64 (of_z w64 (to_z w128 (of_z w128 f)))) (read ∙ left d) (ap (λ z. is_small z) read ∙ small)

pub returns-else-is_small : goal.returns-else-is_small
returns-else-is_small c =
    let d = (goal.at.returns-else-is_small c).After-is_small in
    let wide : is_small c.less_three-own.result ≡ false = ap (λ z. is_small z) (sym (kept d)) ∙ sym c.is_small.ensures ∙ c.if-is_small.false in
    none_given (own_by c.args.self.now c.args.later c.args.entry) (ap (λ z. is_small z) (sym (left d)) ∙ wide)
