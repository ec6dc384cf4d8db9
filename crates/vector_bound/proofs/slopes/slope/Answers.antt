use Rattle.std.proofs.Common.{◌≡◌, ◌+◌, ◌^◌, ℕ, ◌<◌, ◌≤◌, length, List, get_or, ℤ, pos, ◌+ℤ◌, ◌*ℤ◌, IfSome, unsigned_abs, to_z, of_z, refl, sym, ap₂, ◌∙◌, subst, arith, rules}
use Rattle.std.proofs.lemmas.Option.{IfSome_then}
use Rattle.std.specs.Int.{w64, w128}
use Rattle.std.proofs.lemmas.Int.{to_z-of_z}
use Rattle.whole_math.proofs.Words.{as_w64}
use Rattle.quadratic_form.specs.Tables.{entry}
use Rattle.obs_rows.specs.Data.{number_at}
use Rattle.vector_bound.proofs.Words.{word, sum_size}
use Rattle.vector_bound.proofs.SlopeParts.{slope_is}
use Rattle.vector_bound.proofs.slopes.slope.Goals as goal

small : (x : ℤ) → unsigned_abs x < 2 ^ 46 → to_z w64 (of_z w64 x) ≡ x
small x h = as_w64 x (omega (arith, h))

pub returns-clause-value : goal.returns-clause-value
returns-clause-value c =
    let m : List ℤ = c.args.moved.now in
    let e : ℕ → ℤ = entry c.args.normal.now.c c.args.j in
    let has_first : 0 < length c.args.moved.now = search rules in
    let has_second : 1 < length c.args.moved.now = search rules in
    let has_third : 2 < length c.args.moved.now = search rules in
    let first : to_z w64 (of_z w64 (get_or m 0 (pos 0))) ≡ number_at m 0 = small (get_or m 0 (pos 0)) (c.requires.moved_size 0 (pos 0) has_first) in
    let second : to_z w64 (of_z w64 (get_or m 1 (pos 0))) ≡ number_at m 1 = small (get_or m 1 (pos 0)) (c.requires.moved_size 1 (pos 0) has_second) in
    let third : to_z w64 (of_z w64 (get_or m 2 (pos 0))) ≡ number_at m 2 = small (get_or m 2 (pos 0)) (c.requires.moved_size 2 (pos 0) has_third) in
    let later_word : word c.in_ok-later.later ≡ c.in_ok-later.later = to_z-of_z w128 c.in_ok-later.later c.in_ok-later.ensures.fits in
    let third_word : word c.in_ok-third.third ≡ c.in_ok-third.third = to_z-of_z w128 c.in_ok-third.third c.in_ok-third.ensures.fits in
    let second_word : word c.in_ok-second.second ≡ c.in_ok-second.second = to_z-of_z w128 c.in_ok-second.second c.in_ok-second.ensures.fits in
    subst (λ (x : ℤ). IfSome c.plus_term-3.result (λ s. s ≡ x)) (ap₂ (λ x y. x +ℤ e 0 *ℤ y) second_word first
    ∙ slope_is c.args.normal.now c.args.z.now m c.args.j c.in_ok-later.later c.in_ok-third.third c.in_ok-second.second (c.in_ok-second.second +ℤ e 0 *ℤ number_at m 0) c.requires.columns
    c.in_ok-later.ensures.value (c.in_ok-third.ensures.value ∙ ap₂ (λ x y. x +ℤ e 2 *ℤ y) later_word third) (c.in_ok-second.ensures.value ∙ ap₂ (λ x y. x +ℤ e 1 *ℤ y) third_word second) refl)
    c.plus_term-3.ensures.value

-- a word and a term more
added : (s w a e b m : ℤ) (k : ℕ) → s ≡ w +ℤ e *ℤ b → w ≡ a → b ≡ m → unsigned_abs a ≤ k → unsigned_abs (e *ℤ m) ≤ 2 ^ 118 → unsigned_abs s ≤ k + 2 ^ 118
added s w a e b m k i j l h t = subst (λ (y : ℤ). unsigned_abs y ≤ k + 2 ^ 118) (sym (i ∙ ap₂ (λ x y. x +ℤ e *ℤ y) j l)) (sum_size a (e *ℤ m) k (2 ^ 118) h t)

as_word : (x : ℤ) (k : ℕ) → word x ≡ x → unsigned_abs x ≤ k → k ≤ 2 ^ 120 → unsigned_abs (word x) ≤ 2 ^ 120
as_word x k e h l = subst (λ (y : ℤ). unsigned_abs y ≤ 2 ^ 120) (sym e) (omega (arith, h, l))

by_word : (e b m : ℤ) → b ≡ m → unsigned_abs (e *ℤ m) ≤ 2 ^ 118 → unsigned_abs (e *ℤ b) ≤ 2 ^ 118
by_word e b m f h = subst (λ (y : ℤ). unsigned_abs (e *ℤ y) ≤ 2 ^ 118) (sym f) h

-- the words of the move
moved_word : (m : List ℤ) (k : ℕ) → k < length m → ((k : ℕ) (d : ℤ) → k < length m → unsigned_abs (get_or m k d) < 2 ^ 46) → to_z w64 (of_z w64 (get_or m k (pos 0))) ≡ number_at m k
moved_word m k h all = small (get_or m k (pos 0)) (all k (pos 0) h)

pub returns-in_err-later-clause-none : goal.returns-in_err-later-clause-none
returns-in_err-later-clause-none c = λ none t. c.in_err-later.ensures.none refl c.args.moved.now t

pub returns-in_err-third-clause-none : goal.returns-in_err-third-clause-none
returns-in_err-third-clause-none c =
    let has : 2 < length c.args.moved.now = search rules in
    let later_word : word c.in_ok-later.later ≡ c.in_ok-later.later = to_z-of_z w128 c.in_ok-later.later c.in_ok-later.ensures.fits in
    λ none t. c.in_err-third.ensures.none refl (as_word c.in_ok-later.later (2 ^ 118) later_word (c.in_ok-later.ensures.small c.args.moved.now t) (omega arith))
    (by_word _ _ _ (moved_word c.args.moved.now 2 has c.requires.moved_size) (t.move 2 (omega arith)))

pub returns-in_err-second-clause-none : goal.returns-in_err-second-clause-none
returns-in_err-second-clause-none c =
    let has_second : 1 < length c.args.moved.now = search rules in
    let has_third : 2 < length c.args.moved.now = search rules in
    let later_word : word c.in_ok-later.later ≡ c.in_ok-later.later = to_z-of_z w128 c.in_ok-later.later c.in_ok-later.ensures.fits in
    let third_word : word c.in_ok-third.third ≡ c.in_ok-third.third = to_z-of_z w128 c.in_ok-third.third c.in_ok-third.ensures.fits in
    λ none t. c.in_err-second.ensures.none refl
    (as_word c.in_ok-third.third (2 ^ 118 + 2 ^ 118) third_word (added c.in_ok-third.third _ _ _ _ _ (2 ^ 118) c.in_ok-third.ensures.value later_word (moved_word c.args.moved.now 2 has_third c.requires.moved_size)
    (c.in_ok-later.ensures.small c.args.moved.now t) (t.move 2 (omega arith))) (omega arith))
    (by_word _ _ _ (moved_word c.args.moved.now 1 has_second c.requires.moved_size) (t.move 1 (omega arith)))

pub returns-clause-none : goal.returns-clause-none
returns-clause-none c =
    let has_first : 0 < length c.args.moved.now = search rules in
    let has_second : 1 < length c.args.moved.now = search rules in
    let has_third : 2 < length c.args.moved.now = search rules in
    let later_word : word c.in_ok-later.later ≡ c.in_ok-later.later = to_z-of_z w128 c.in_ok-later.later c.in_ok-later.ensures.fits in
    let third_word : word c.in_ok-third.third ≡ c.in_ok-third.third = to_z-of_z w128 c.in_ok-third.third c.in_ok-third.ensures.fits in
    let second_word : word c.in_ok-second.second ≡ c.in_ok-second.second = to_z-of_z w128 c.in_ok-second.second c.in_ok-second.ensures.fits in
    λ none t. c.plus_term-3.ensures.none none
    (as_word c.in_ok-second.second (2 ^ 118 + 2 ^ 118 + 2 ^ 118) second_word (added c.in_ok-second.second _ _ _ _ _ (2 ^ 118 + 2 ^ 118) c.in_ok-second.ensures.value third_word
    (moved_word c.args.moved.now 1 has_second c.requires.moved_size)
    (added c.in_ok-third.third _ _ _ _ _ (2 ^ 118) c.in_ok-third.ensures.value later_word (moved_word c.args.moved.now 2 has_third c.requires.moved_size)
    (c.in_ok-later.ensures.small c.args.moved.now t) (t.move 2 (omega arith))) (t.move 1 (omega arith))) (omega arith))
    (by_word _ _ _ (moved_word c.args.moved.now 0 has_first c.requires.moved_size) (t.move 0 (omega arith)))

pub returns-clause-small : goal.returns-clause-small
returns-clause-small c =
    let has_first : 0 < length c.args.moved.now = search rules in
    let has_second : 1 < length c.args.moved.now = search rules in
    let has_third : 2 < length c.args.moved.now = search rules in
    let later_word : word c.in_ok-later.later ≡ c.in_ok-later.later = to_z-of_z w128 c.in_ok-later.later c.in_ok-later.ensures.fits in
    let third_word : word c.in_ok-third.third ≡ c.in_ok-third.third = to_z-of_z w128 c.in_ok-third.third c.in_ok-third.ensures.fits in
    let second_word : word c.in_ok-second.second ≡ c.in_ok-second.second = to_z-of_z w128 c.in_ok-second.second c.in_ok-second.ensures.fits in
    λ t. IfSome_then c.plus_term-3.result c.plus_term-3.ensures.value (λ s e. four s (added s _ _ _ _ _ (2 ^ 118 + 2 ^ 118 + 2 ^ 118) e second_word (moved_word c.args.moved.now 0 has_first c.requires.moved_size)
    (added c.in_ok-second.second _ _ _ _ _ (2 ^ 118 + 2 ^ 118) c.in_ok-second.ensures.value third_word (moved_word c.args.moved.now 1 has_second c.requires.moved_size)
    (added c.in_ok-third.third _ _ _ _ _ (2 ^ 118) c.in_ok-third.ensures.value later_word (moved_word c.args.moved.now 2 has_third c.requires.moved_size)
    (c.in_ok-later.ensures.small c.args.moved.now t) (t.move 2 (omega arith))) (t.move 1 (omega arith))) (t.move 0 (omega arith))))
  where
    four : (s : ℤ) → unsigned_abs s ≤ 2 ^ 118 + 2 ^ 118 + 2 ^ 118 + 2 ^ 118 → unsigned_abs s ≤ 2 ^ 120
    four s h = omega (arith, h)
