use Rattle.std.proofs.Common.{◌≡◌, ◌^◌, ℤ, pos, ◌≤ℤ◌, ◌<ℤ◌, refl, arith}
use Rattle.std.proofs.lemmas.Int.{ints}
use Rattle.vector_bound.specs.VectorBounds.{kept_own}
use Rattle.vector_bound.proofs.Words.{word, word_of}
use Rattle.vector_bound.proofs.kept.own_kept.Goals as goal
use Rattle.vector_bound.proofs.kept.own_kept.Goals.{then-own-lt1-via-then-own-lt1, then-own-lt1-via-else-own-lt1+then-own-gt-MOST_KEPT}

too_low : (x w k : ℤ) → w ≡ x → x ≡ k → w <ℤ pos 1 → pos 1 ≤ℤ k → ⊥
too_low x w k d e h from = omega (arith, ints, d, e, h, from)

too_high : (x w k : ℤ) → w ≡ x → x ≡ k → pos (2 ^ 40) <ℤ w → k ≤ℤ pos (2 ^ 40) → ⊥
too_high x w k d e h to = omega (arith, ints, d, e, h, to)

pub returns-in_err-own-clause-none : goal.returns-in_err-own-clause-none
returns-in_err-own-clause-none c = λ none fits from. c.in_err-own.ensures.none refl fits

pub returns-then-own-lt1-clause-none : goal.returns-then-own-lt1-clause-none
returns-then-own-lt1-clause-none c =
    let own_word : word c.in_ok-own.own ≡ c.in_ok-own.own = word_of c.in_ok-own.own (2 ^ 126) (omega arith) c.in_ok-own.ensures.size in
    elim c.then-own-lt1.branch [
      | then-own-lt1-via-then-own-lt1 w ↦
          let low : word c.in_ok-own.own <ℤ pos 1 = omega (arith, ints) in
          λ none fits from. too_low c.in_ok-own.own (word c.in_ok-own.own) (kept_own c.args.normal.now c.args.h c.args.column) own_word c.in_ok-own.ensures.value low from
      | then-own-lt1-via-else-own-lt1+then-own-gt-MOST_KEPT w ↦
          let high : pos (2 ^ 40) <ℤ word c.in_ok-own.own = omega (arith, ints) in
          λ none fits from. too_high c.in_ok-own.own (word c.in_ok-own.own) (kept_own c.args.normal.now c.args.h c.args.column) own_word c.in_ok-own.ensures.value high
          (fits.own c.args.column c.requires.column)
    ]
