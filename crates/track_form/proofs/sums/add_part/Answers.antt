use Rattle.std.proofs.Common.{◌≡◌, ℕ, ◌+◌, ◌*◌, ◌^◌, ◌≤◌, ℤ, ◌+ℤ◌, unsigned_abs, arith, to_z, of_z, sym, ap₂, ◌∙◌, subst}
use Rattle.std.proofs.lemmas.Int.{to_z-of_z}
use Rattle.std.specs.Int.{w128}
use Rattle.quadratic_form.specs.Tables.{entry}
use Rattle.whole_math.proofs.Words.{as_w128}
use Rattle.track_form.proofs.sums.add_part.Goals as goal
use Rattle.obs_rows.specs.declared.limits.TheConstants.{MOST_PAIRS}

-- the sum that is read, as a word
read : (x y : ℤ) → x ≡ y → unsigned_abs y ≤ MOST_PAIRS * 2 ^ 64 → to_z w128 (of_z w128 x) ≡ y
read x y e h = as_w128 x (wider (unsigned_abs x) (subst (λ (z : ℤ). unsigned_abs z ≤ MOST_PAIRS * 2 ^ 64) (sym e) h)) ∙ e
  where
    wider : (a : ℕ) → a ≤ MOST_PAIRS * 2 ^ 64 → a ≤ 2 ^ 126
    wider a h = omega arith

-- and the new sum
sum_word : (x y : ℤ) → unsigned_abs x ≤ unsigned_abs y + 2 ^ 64 → unsigned_abs y ≤ MOST_PAIRS * 2 ^ 64 → to_z w128 (of_z w128 x) ≡ x
sum_word x y h g = as_w128 x (wider (unsigned_abs x) (unsigned_abs y) h g)
  where
    wider : (a b : ℕ) → a ≤ b + 2 ^ 64 → b ≤ MOST_PAIRS * 2 ^ 64 → a ≤ 2 ^ 126
    wider a b h g = omega arith

pub with_part-sum-requires-clause-sum_size : goal.with_part-sum-requires-clause-sum_size
with_part-sum-requires-clause-sum_size c =
    let old : ℤ = entry c.args.table.now (3 + c.args.r) (3 + c.args.c) in
    subst (λ (z : ℤ). unsigned_abs z ≤ MOST_PAIRS * 2 ^ 64) (sym (read c.at-old.result old c.at-old.ensures.value c.requires.size)) c.requires.size

pub returns-clause-there : goal.returns-clause-there
returns-clause-there c =
    let old : ℤ = entry c.args.table.now (3 + c.args.r) (3 + c.args.c) in
    let first : to_z w128 (of_z w128 c.at-old.result) ≡ old = read c.at-old.result old c.at-old.ensures.value c.requires.size in
    let small : unsigned_abs c.with_part-sum.result ≤ unsigned_abs old + 2 ^ 64 = subst (λ (z : ℤ). unsigned_abs c.with_part-sum.result ≤ unsigned_abs z + 2 ^ 64) first c.with_part-sum.ensures.size in
    c.set.ensures.there ∙ sum_word c.with_part-sum.result old small c.requires.size ∙ c.with_part-sum.ensures.value
    ∙ ap₂ (λ x y. x +ℤ y) first (to_z-of_z w128 c.args.part c.ranges.part)

pub returns-clause-size : goal.returns-clause-size
returns-clause-size c =
    let old : ℤ = entry c.args.table.now (3 + c.args.r) (3 + c.args.c) in
    let first : to_z w128 (of_z w128 c.at-old.result) ≡ old = read c.at-old.result old c.at-old.ensures.value c.requires.size in
    let small : unsigned_abs c.with_part-sum.result ≤ unsigned_abs old + 2 ^ 64 = subst (λ (z : ℤ). unsigned_abs c.with_part-sum.result ≤ unsigned_abs z + 2 ^ 64) first c.with_part-sum.ensures.size in
    subst (λ (z : ℤ). unsigned_abs z ≤ unsigned_abs old + 2 ^ 64) (sym (c.set.ensures.there ∙ sum_word c.with_part-sum.result old small c.requires.size)) small
