use Rattle.std.proofs.Common.{◌≡◌, ◌^◌, ◌<◌, ◌≤◌, ℤ, ◌+ℤ◌, ◌*ℤ◌, IfSome, unsigned_abs, to_z, of_z, arith, sym, ap₂, ◌∙◌, subst}
use Rattle.std.specs.Int.{w64, w128}
use Rattle.std.proofs.lemmas.Int.{to_z-of_z}
use Rattle.whole_math.proofs.Words.{as_w64}
use Rattle.quadratic_form.specs.Tables.{entry}
use Rattle.vector_bound.proofs.Words.{word, word_of, nothing_lost}
use Rattle.vector_bound.proofs.slopes.plus_term.Goals as goal

small : (x : ℤ) → unsigned_abs x ≤ 2 ^ 46 → unsigned_abs x ≤ 2 ^ 62
small x h = omega (arith, h)

modest : (x : ℤ) → unsigned_abs x < 2 ^ 120 → unsigned_abs x ≤ 2 ^ 120
modest x h = omega (arith, h)

pub returns-clause-value : goal.returns-clause-value
returns-clause-value c =
    let e : ℤ = entry c.args.normal.now.c c.args.j c.args.k in
    let at_word : word c.at.result ≡ e = word_of c.at.result (2 ^ 120) (omega arith) (subst (λ (x : ℤ). unsigned_abs x ≤ 2 ^ 120) (sym c.at.ensures.value) (modest e (c.args.normal.now.entries_in c.args.j c.args.k))) ∙ c.at.ensures.value in
    let by_word : to_z w64 (of_z w64 c.args.by) ≡ c.args.by = as_w64 c.args.by (small c.args.by c.requires.by_size) in
    let sum_word : word c.args.sum ≡ c.args.sum = to_z-of_z w128 c.args.sum c.ranges.sum in
    subst (λ (x : ℤ). IfSome c.plus_times.result (λ s. s ≡ x)) (ap₂ (λ x y. x +ℤ y) sum_word (ap₂ (λ x y. x *ℤ y) at_word by_word)) c.plus_times.ensures.value

pub returns-clause-none : goal.returns-clause-none
returns-clause-none c =
    let e : ℤ = entry c.args.normal.now.c c.args.j c.args.k in
    let at_word : word c.at.result ≡ e = word_of c.at.result (2 ^ 120) (omega arith) (subst (λ (x : ℤ). unsigned_abs x ≤ 2 ^ 120) (sym c.at.ensures.value) (modest e (c.args.normal.now.entries_in c.args.j c.args.k))) ∙ c.at.ensures.value in
    let by_word : to_z w64 (of_z w64 c.args.by) ≡ c.args.by = as_w64 c.args.by (small c.args.by c.requires.by_size) in
    let sum_word : word c.args.sum ≡ c.args.sum = to_z-of_z w128 c.args.sum c.ranges.sum in
    λ none sum_small term_small. nothing_lost (word c.args.sum) (word c.at.result) (to_z w64 (of_z w64 c.args.by)) c.args.sum e c.args.by sum_word at_word by_word (c.plus_times.ensures.none none) sum_small term_small
