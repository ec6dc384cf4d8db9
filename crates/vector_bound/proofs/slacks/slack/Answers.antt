use Rattle.std.proofs.Common.{◌≡◌, ◌^◌, ◌<◌, ◌≤◌, length, List, get_or, ℤ, pos, ◌+ℤ◌, ◌*ℤ◌, ◌≤ℤ◌, IfSome, unsigned_abs, to_z, of_z, refl, sym, ap, ap₂, ◌∙◌, subst, arith, rules}
use Rattle.std.proofs.lemmas.Int.{ints}
use Rattle.std.specs.Int.{w64, w128}
use Rattle.std.proofs.lemmas.Int.{to_z-of_z}
use Rattle.whole_math.specs.Rounding.{ceil_div}
use Rattle.whole_math.proofs.Words.{as_w64, as_w128}
use Rattle.vector_bound.specs.VectorBounds.{radii_at_move}
use Rattle.vector_bound.proofs.Words.{word, word_of}
use Rattle.vector_bound.proofs.slacks.slack.Goals as goal

small : (x : ℤ) → unsigned_abs x < 2 ^ 46 → to_z w64 (of_z w64 x) ≡ x
small x h = as_w64 x (omega (arith, h))

modest : (x : ℤ) → unsigned_abs x < 2 ^ 46 → unsigned_abs (to_z w64 (of_z w64 x)) ≤ 2 ^ 46
modest x h = subst (λ (y : ℤ). unsigned_abs y ≤ 2 ^ 46) (sym (small x h)) (omega (arith, h))

square : (x : ℤ) → pos 0 ≤ℤ x → x ≤ℤ pos (2 ^ 118) → word x ≡ x
square x h k = as_w128 x (within x h k)
  where
    within : (x : ℤ) → pos 0 ≤ℤ x → x ≤ℤ pos (2 ^ 118) → unsigned_abs x ≤ 2 ^ 126
    within x h k = omega (arith, ints, h, k)

product : (s r m m' : ℤ) → s ≡ r *ℤ (m' *ℤ m') → m' ≡ m → s ≡ r *ℤ (m *ℤ m)
product s r m m' e g = e ∙ ap (λ y. r *ℤ (y *ℤ y)) g

pub radius_square-requires-3-clause-size : goal.radius_square-requires-3-clause-size
radius_square-requires-3-clause-size c =
    let has_third : 2 < length c.args.moved.now = search rules in
    modest (get_or c.args.moved.now 2 (pos 0)) (c.requires.moved_size 2 (pos 0) has_third)

pub returns-clause-value : goal.returns-clause-value
returns-clause-value c =
    let m : List ℤ = c.args.moved.now in
    let r : List ℤ = c.args.normal.now.r in
    let m_first : 0 < length c.args.moved.now = search rules in
    let m_second : 1 < length c.args.moved.now = search rules in
    let m_third : 2 < length c.args.moved.now = search rules in
    let first : c.in_ok-first.first ≡ get_or r 0 (pos 0) *ℤ (get_or m 0 (pos 0) *ℤ get_or m 0 (pos 0)) =
    product c.in_ok-first.first (get_or r 0 (pos 0)) (get_or m 0 (pos 0)) (to_z w64 (of_z w64 (get_or m 0 (pos 0)))) c.in_ok-first.ensures.value (small (get_or m 0 (pos 0)) (c.requires.moved_size 0 (pos 0) m_first)) in
    let second : c.in_ok-second.second ≡ get_or r 1 (pos 0) *ℤ (get_or m 1 (pos 0) *ℤ get_or m 1 (pos 0)) =
    product c.in_ok-second.second (get_or r 1 (pos 0)) (get_or m 1 (pos 0)) (to_z w64 (of_z w64 (get_or m 1 (pos 0)))) c.in_ok-second.ensures.value (small (get_or m 1 (pos 0)) (c.requires.moved_size 1 (pos 0) m_second)) in
    let third : c.in_ok-third.third ≡ get_or r 2 (pos 0) *ℤ (get_or m 2 (pos 0) *ℤ get_or m 2 (pos 0)) =
    product c.in_ok-third.third (get_or r 2 (pos 0)) (get_or m 2 (pos 0)) (to_z w64 (of_z w64 (get_or m 2 (pos 0)))) c.in_ok-third.ensures.value (small (get_or m 2 (pos 0)) (c.requires.moved_size 2 (pos 0) m_third)) in
    let last : c.in_ok-last.last ≡ get_or r 3 (pos 0) *ℤ (pos (2 ^ 16) *ℤ pos (2 ^ 16)) = c.in_ok-last.ensures.value in
    let one : word c.in_ok-first.first ≡ get_or r 0 (pos 0) *ℤ (get_or m 0 (pos 0) *ℤ get_or m 0 (pos 0)) = square c.in_ok-first.first c.in_ok-first.ensures.from c.in_ok-first.ensures.to ∙ first in
    let two : word c.in_ok-second.second ≡ get_or r 1 (pos 0) *ℤ (get_or m 1 (pos 0) *ℤ get_or m 1 (pos 0)) = square c.in_ok-second.second c.in_ok-second.ensures.from c.in_ok-second.ensures.to ∙ second in
    let three : word c.in_ok-third.third ≡ get_or r 2 (pos 0) *ℤ (get_or m 2 (pos 0) *ℤ get_or m 2 (pos 0)) = square c.in_ok-third.third c.in_ok-third.ensures.from c.in_ok-third.ensures.to ∙ third in
    let four : word c.in_ok-last.last ≡ get_or r 3 (pos 0) *ℤ (pos (2 ^ 16) *ℤ pos (2 ^ 16)) = square c.in_ok-last.last c.in_ok-last.ensures.from c.in_ok-last.ensures.to ∙ last in
    let squares : word c.four_times.result ≡ pos 4 *ℤ radii_at_move c.args.normal.now m =
    word_of c.four_times.result (2 ^ 122) (omega arith) c.four_times.ensures.size ∙ c.four_times.ensures.value
    ∙ ap (λ x. pos 4 *ℤ x) (ap₂ (λ x y. x +ℤ y) one (ap₂ (λ x y. x +ℤ y) two (ap₂ (λ x y. x +ℤ y) three four))) in
    subst (λ (x : ℤ). IfSome c.slack_of.result (λ s. s ≡ x)) (ap₂ (λ x y. ceil_div x (2 ^ c.args.h) +ℤ y *ℤ pos 16) squares (to_z-of_z w128 c.args.top c.ranges.top)) c.slack_of.ensures.value

-- a square of the move, as words have it
in_words : (r m m' : ℤ) → m' ≡ m → (r *ℤ (m *ℤ m)) ≤ℤ pos (2 ^ 118) → (r *ℤ (m' *ℤ m')) ≤ℤ pos (2 ^ 118)
in_words r m m' e h = subst (λ (x : ℤ). (r *ℤ (x *ℤ x)) ≤ℤ pos (2 ^ 118)) (sym e) h

pub returns-in_err-first-clause-none : goal.returns-in_err-first-clause-none
returns-in_err-first-clause-none c =
    let has : 0 < length c.args.moved.now = search rules in
    λ none f from. c.in_err-first.ensures.none refl (in_words _ _ _ (small (get_or c.args.moved.now 0 (pos 0)) (c.requires.moved_size 0 (pos 0) has)) (f.squares 0 (omega arith)))

pub returns-in_err-second-clause-none : goal.returns-in_err-second-clause-none
returns-in_err-second-clause-none c =
    let has : 1 < length c.args.moved.now = search rules in
    λ none f from. c.in_err-second.ensures.none refl (in_words _ _ _ (small (get_or c.args.moved.now 1 (pos 0)) (c.requires.moved_size 1 (pos 0) has)) (f.squares 1 (omega arith)))

pub returns-in_err-third-clause-none : goal.returns-in_err-third-clause-none
returns-in_err-third-clause-none c =
    let has : 2 < length c.args.moved.now = search rules in
    λ none f from. c.in_err-third.ensures.none refl (in_words _ _ _ (small (get_or c.args.moved.now 2 (pos 0)) (c.requires.moved_size 2 (pos 0) has)) (f.squares 2 (omega arith)))

pub returns-in_err-last-clause-none : goal.returns-in_err-last-clause-none
returns-in_err-last-clause-none c = λ none f from. c.in_err-last.ensures.none refl f.constant

pub returns-clause-none : goal.returns-clause-none
returns-clause-none c =
    let m : List ℤ = c.args.moved.now in
    let r : List ℤ = c.args.normal.now.r in
    let m_first : 0 < length c.args.moved.now = search rules in
    let m_second : 1 < length c.args.moved.now = search rules in
    let m_third : 2 < length c.args.moved.now = search rules in
    let first : c.in_ok-first.first ≡ get_or r 0 (pos 0) *ℤ (get_or m 0 (pos 0) *ℤ get_or m 0 (pos 0)) =
    product c.in_ok-first.first (get_or r 0 (pos 0)) (get_or m 0 (pos 0)) (to_z w64 (of_z w64 (get_or m 0 (pos 0)))) c.in_ok-first.ensures.value (small (get_or m 0 (pos 0)) (c.requires.moved_size 0 (pos 0) m_first)) in
    let second : c.in_ok-second.second ≡ get_or r 1 (pos 0) *ℤ (get_or m 1 (pos 0) *ℤ get_or m 1 (pos 0)) =
    product c.in_ok-second.second (get_or r 1 (pos 0)) (get_or m 1 (pos 0)) (to_z w64 (of_z w64 (get_or m 1 (pos 0)))) c.in_ok-second.ensures.value (small (get_or m 1 (pos 0)) (c.requires.moved_size 1 (pos 0) m_second)) in
    let third : c.in_ok-third.third ≡ get_or r 2 (pos 0) *ℤ (get_or m 2 (pos 0) *ℤ get_or m 2 (pos 0)) =
    product c.in_ok-third.third (get_or r 2 (pos 0)) (get_or m 2 (pos 0)) (to_z w64 (of_z w64 (get_or m 2 (pos 0)))) c.in_ok-third.ensures.value (small (get_or m 2 (pos 0)) (c.requires.moved_size 2 (pos 0) m_third)) in
    let last : c.in_ok-last.last ≡ get_or r 3 (pos 0) *ℤ (pos (2 ^ 16) *ℤ pos (2 ^ 16)) = c.in_ok-last.ensures.value in
    let one : word c.in_ok-first.first ≡ get_or r 0 (pos 0) *ℤ (get_or m 0 (pos 0) *ℤ get_or m 0 (pos 0)) = square c.in_ok-first.first c.in_ok-first.ensures.from c.in_ok-first.ensures.to ∙ first in
    let two : word c.in_ok-second.second ≡ get_or r 1 (pos 0) *ℤ (get_or m 1 (pos 0) *ℤ get_or m 1 (pos 0)) = square c.in_ok-second.second c.in_ok-second.ensures.from c.in_ok-second.ensures.to ∙ second in
    let three : word c.in_ok-third.third ≡ get_or r 2 (pos 0) *ℤ (get_or m 2 (pos 0) *ℤ get_or m 2 (pos 0)) = square c.in_ok-third.third c.in_ok-third.ensures.from c.in_ok-third.ensures.to ∙ third in
    let four : word c.in_ok-last.last ≡ get_or r 3 (pos 0) *ℤ (pos (2 ^ 16) *ℤ pos (2 ^ 16)) = square c.in_ok-last.last c.in_ok-last.ensures.from c.in_ok-last.ensures.to ∙ last in
    let squares : word c.four_times.result ≡ pos 4 *ℤ radii_at_move c.args.normal.now m =
    word_of c.four_times.result (2 ^ 122) (omega arith) c.four_times.ensures.size ∙ c.four_times.ensures.value
    ∙ ap (λ x. pos 4 *ℤ x) (ap₂ (λ x y. x +ℤ y) one (ap₂ (λ x y. x +ℤ y) two (ap₂ (λ x y. x +ℤ y) three four))) in
    let all = ap₂ (λ x y. ceil_div x (2 ^ c.args.h) +ℤ y *ℤ pos 16) squares (to_z-of_z w128 c.args.top c.ranges.top) in
    λ none f from. c.slack_of.ensures.none none (subst (λ (x : ℤ). pos 0 ≤ℤ x) (sym all) from) (subst (λ (x : ℤ). x ≤ℤ pos (2 ^ 126)) (sym all) f.whole)
