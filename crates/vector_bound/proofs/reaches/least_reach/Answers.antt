use Rattle.std.proofs.Common.{◌≡◌, ℕ, ◌+◌, ◌-◌, ◌*◌, ◌^◌, ◌<◌, ℤ, pos, ◌+ℤ◌, ◌≤ℤ◌, ap, ◌∙◌, refl, sym, subst, arith, pow_pos}
use Rattle.std.proofs.lemmas.Int.{to_z-of_z}
use Rattle.std.proofs.lemmas.Nat.{pow-add}
use Rattle.std.specs.Int.{w128}
use Rattle.vector_bound.specs.Reaches.{IsFarEnough, IsRange, IsLeastReach}
use Rattle.vector_bound.proofs.Words.{word}
use Rattle.vector_bound.proofs.LeastReach.{short_word, after, range_same, least_of, enough_later}
use Rattle.vector_bound.proofs.reaches.least_reach.Goals as goal

-- half of a width
halved : (a b : ℤ) (i : ℕ) → i < 30 → a ≤ℤ (b +ℤ pos (2 ^ (30 - i))) → a ≤ℤ (b +ℤ pos (2 * 2 ^ (30 - (i + 1))))
halved a b i h = subst (λ (n : ℕ). a ≤ℤ (b +ℤ pos n)) (ap (λ (n : ℕ). 2 ^ n) (next i h) ∙ pow-add 2 (30 - (i + 1)) 1 ∙ twice (2 ^ (30 - (i + 1))))
  where
    next : (i : ℕ) → i < 30 → 30 - i ≡ (30 - (i + 1)) + 1
    next i h = omega arith

    twice : (n : ℕ) → n * 2 ≡ 2 * n
    twice n = omega arith

far_same : (mu l k mu' l' k' x : ℤ) → mu ≡ mu' → l ≡ l' → k ≡ k' → IsFarEnough mu l k x → IsFarEnough mu' l' k' x
far_same mu l k mu' l' k' x d e f is = subst (λ (y : ℤ). IsFarEnough y l' k' x) d (subst (λ (y : ℤ). IsFarEnough mu y k' x) e (subst (λ (y : ℤ). IsFarEnough mu l y x) f is))

pub returns-in_err-range-clause-none : goal.returns-in_err-range-clause-none
returns-in_err-range-clause-none c =
    λ none x least. c.in_err-range.ensures.none refl (far_same c.args.mu c.args.l c.args.k (word c.args.mu) (word c.args.l) (word c.args.k) (pos (2 ^ 30))
    (sym (to_z-of_z w128 c.args.mu c.ranges.mu)) (sym (to_z-of_z w128 c.args.l c.ranges.l)) (sym (to_z-of_z w128 c.args.k c.ranges.k))
    (enough_later c.args.mu c.args.l c.args.k x (pos (2 ^ 30)) c.requires.sizes.mu_from c.requires.sizes.k_from least.some least.to least.enough))

pub loop-turn-preserved : goal.loop-turn-preserved
loop-turn-preserved c =
    record {
      range = c.narrower-range.ensures.range;
      width = c.narrower-range.ensures.half (2 ^ (30 - (c.loop-turn.turn + 1))) (pow_pos (30 - (c.loop-turn.turn + 1)))
          (halved c.loop-turn.range.high c.loop-turn.range.low c.loop-turn.turn (omega arith) c.loop-turn.invariant.width);
    }

pub returns-clause-least : goal.returns-clause-least
returns-clause-least c =
    let inv = c.loop-turn.invariant in
    let is : IsRange c.args.mu c.args.l c.args.k c.loop-turn.range = range_same (word c.args.mu) (word c.args.l) (word c.args.k) c.args.mu c.args.l c.args.k c.loop-turn.range
    (to_z-of_z w128 c.args.mu c.ranges.mu) (to_z-of_z w128 c.args.l c.ranges.l) (to_z-of_z w128 c.args.k c.ranges.k) inv.range in
    let last : c.loop-turn.turn ≡ 30 = omega arith in
    let one : c.loop-turn.range.high ≤ℤ (c.loop-turn.range.low +ℤ pos 1) = subst (λ (n : ℕ). c.loop-turn.range.high ≤ℤ (c.loop-turn.range.low +ℤ pos (2 ^ (30 - n)))) last inv.width in
    subst (λ (x : ℤ). IsLeastReach c.args.mu c.args.l c.args.k x) (sym (short_word c.loop-turn.range.high (after c.loop-turn.range.low c.loop-turn.range.high is.from is.order) is.to))
    (least_of c.args.mu c.args.l c.args.k c.loop-turn.range c.requires.sizes.mu_from c.requires.sizes.k_from is one)
