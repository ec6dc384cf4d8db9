use Rattle.std.proofs.Common.{◌≡◌, ℕ, suc, ◌+◌, ◌-◌, ◌*◌, ◌^◌, ◌<◌, ◌≤◌, List, ◌∷◌, ℤ, pos, ◌+ℤ◌, ◌*ℤ◌, length, get_or, drop, unsigned_abs, to_z, of_z, arith, sym, ap, ap₂, ◌∙◌, refl, subst, [], FitsSigned}
use Rattle.std.specs.Int.{w64, w128}
use Rattle.std.proofs.lemmas.Int.{to_z-of_z}
use Rattle.std.proofs.lemmas.List.{drop_more}
use Rattle.whole_math.specs.Vectors.{dot}
use Rattle.whole_math.proofs.Words.{as_w64}
use Rattle.whole_math.proofs.Ring.{◌⊕◌}
use Rattle.whole_math.proofs.Inequalities.{same_by}
use Rattle.quadratic_form.specs.Places.{list_from}
use Rattle.quadratic_form.specs.Tables.{entry}
use Rattle.vector_bound.proofs.Words.{word, word_of, sum_size, nothing_lost}
use Rattle.vector_bound.proofs.slopes.integer_part.Goals as goal

step_dot : (f : ℕ → ℤ) (z : List ℤ) (i : ℕ) (d : ℤ) → i < length z →
    dot (list_from f (3 + i) (length z - i)) (drop i z) ≡ f (3 + i) *ℤ get_or z i d +ℤ dot (list_from f (3 + (i + 1)) (length z - (i + 1))) (drop (i + 1) z)
step_dot f z i d h = ap₂ (λ (k : ℕ) (l : List ℤ). dot (list_from f (3 + i) k) l) (more (length z) i h) (drop_more z i d h)
    ∙ ap (λ (m : ℕ). f (3 + i) *ℤ get_or z i d +ℤ dot (list_from f m (length z - (i + 1))) (drop (i + 1) z)) (next i)
  where
    more : (n i : ℕ) → i < n → n - i ≡ suc (n - (i + 1))
    more n i h = omega arith

    next : (i : ℕ) → suc (3 + i) ≡ 3 + (i + 1)
    next i = omega arith

regroup : (s t x y r a : ℤ) → t ≡ s +ℤ x → s +ℤ (x +ℤ y) ≡ a → t +ℤ y ≡ a
regroup s t x y r a e f = ap (λ k. k +ℤ y) e ∙ same_by (s ∷ x ∷ y ∷ []) (λ s x y. (s ⊕ x ⊕ y, s ⊕ (x ⊕ y))) refl ∙ f

small : (x : ℤ) → unsigned_abs x < 2 ^ 30 → unsigned_abs x ≤ 2 ^ 62
small x h = omega (arith, h)

modest : (x : ℤ) → unsigned_abs x < 2 ^ 120 → unsigned_abs x ≤ 2 ^ 120
modest x h = omega (arith, h)

-- one term more
one_more : (s x t : ℤ) (i : ℕ) → t ≡ s +ℤ x → unsigned_abs s ≤ i * 2 ^ 96 → unsigned_abs x ≤ 2 ^ 96 → unsigned_abs t ≤ (i + 1) * 2 ^ 96
one_more s x t i e h k = subst (λ (y : ℤ). unsigned_abs y ≤ (i + 1) * 2 ^ 96) (sym e) (both (unsigned_abs (s +ℤ x)) i (sum_size s x (i * 2 ^ 96) (2 ^ 96) h k))
  where
    both : (a i : ℕ) → a ≤ i * 2 ^ 96 + 2 ^ 96 → a ≤ (i + 1) * 2 ^ 96
    both a i h = omega arith

-- of the few integers
few : (a i n k : ℕ) → a ≤ i * 2 ^ 96 → i ≤ k → n ≡ 4 + k → n ≤ 64 → a ≤ 60 * 2 ^ 96
few a i n k h j e f = omega arith

pub returns-in_err-sum-clause-none : goal.returns-in_err-sum-clause-none
returns-in_err-sum-clause-none c =
    let i : ℕ = c.loop-i.i in
    let z : List ℤ = c.args.z.now in
    let f : ℕ → ℤ = entry c.args.normal.now.c c.args.j in
    let inside : i < length z = c.loop-i-test.true in
    let at_word : word c.at.result ≡ f (3 + i) = word_of c.at.result (2 ^ 120) (omega arith) (subst (λ (x : ℤ). unsigned_abs x ≤ 2 ^ 120) (sym c.at.ensures.value) (modest (f (3 + i)) (c.args.normal.now.entries_in c.args.j (3 + i)))) ∙ c.at.ensures.value in
    let z_word : to_z w64 (of_z w64 (get_or z i (pos 0))) ≡ get_or z i (pos 0) = as_w64 (get_or z i (pos 0)) (small (get_or z i (pos 0)) (c.requires.z_size i (pos 0) inside)) in
    let sum_word : to_z w128 c.loop-i.sum-bits ≡ to_z w128 c.loop-i.sum-bits = refl in
    λ none m t. nothing_lost _ _ _ (to_z w128 c.loop-i.sum-bits) (f (3 + i)) (get_or z i (pos 0)) sum_word at_word z_word (c.in_err-sum.ensures.none refl)
    (wide (few _ i c.args.normal.now.columns (length z) (c.loop-i.invariant.small m t) (omega arith) c.requires.columns c.args.normal.now.columns_to)) (one_term (t.integers i inside))
  where
    wide : {a : ℕ} → a ≤ 60 * 2 ^ 96 → a ≤ 2 ^ 120
    wide h = omega (arith, h)

    one_term : {a : ℕ} → a ≤ 2 ^ 96 → a ≤ 2 ^ 118
    one_term h = omega (arith, h)

pub returns-clause-small : goal.returns-clause-small
returns-clause-small c = λ m t. few (unsigned_abs (to_z w128 c.loop-i.sum-bits)) c.loop-i.i c.args.normal.now.columns (length c.args.z.now) (c.loop-i.invariant.small m t) (omega arith) c.requires.columns
    c.args.normal.now.columns_to

pub loop-i-preserved : goal.loop-i-preserved
loop-i-preserved c =
    let i : ℕ = c.loop-i.i in
    let z : List ℤ = c.args.z.now in
    let f : ℕ → ℤ = entry c.args.normal.now.c c.args.j in
    let inside : i < length z = c.loop-i-test.true in
    let sum_word : to_z w128 (of_z w128 c.in_ok-sum.sum) ≡ c.in_ok-sum.sum = to_z-of_z w128 c.in_ok-sum.sum c.in_ok-sum.ensures.fits in
    let at_word : word c.at.result ≡ f (3 + i) = word_of c.at.result (2 ^ 120) (omega arith) (subst (λ (x : ℤ). unsigned_abs x ≤ 2 ^ 120) (sym c.at.ensures.value) (modest (f (3 + i)) (c.args.normal.now.entries_in c.args.j (3 + i)))) ∙ c.at.ensures.value in
    let z_word : to_z w64 (of_z w64 (get_or z i (pos 0))) ≡ get_or z i (pos 0) = as_w64 (get_or z i (pos 0)) (small (get_or z i (pos 0)) (c.requires.z_size i (pos 0) inside)) in
    record {
      value = regroup (to_z w128 c.loop-i.sum-bits) (to_z w128 (of_z w128 c.in_ok-sum.sum)) (f (3 + i) *ℤ get_or z i (pos 0)) (dot (list_from f (3 + (i + 1)) (length z - (i + 1))) (drop (i + 1) z)) (pos 0) (dot (list_from f 3 (length z)) z)
          (sum_word ∙ c.in_ok-sum.ensures.value ∙ ap (λ x. to_z w128 c.loop-i.sum-bits +ℤ x) (ap₂ (λ x y. x *ℤ y) at_word z_word))
          (ap (λ x. to_z w128 c.loop-i.sum-bits +ℤ x) (sym (step_dot f z i (pos 0) inside)) ∙ c.loop-i.invariant.value);
      fits = subst (λ (x : ℤ). FitsSigned w128 x) (sym sum_word) c.in_ok-sum.ensures.fits;
      small = λ m t. one_more (to_z w128 c.loop-i.sum-bits) (f (3 + i) *ℤ get_or z i (pos 0)) (to_z w128 (of_z w128 c.in_ok-sum.sum)) i
          (sum_word ∙ c.in_ok-sum.ensures.value ∙ ap (λ x. to_z w128 c.loop-i.sum-bits +ℤ x) (ap₂ (λ x y. x *ℤ y) at_word z_word)) (c.loop-i.invariant.small m t) (t.integers i inside);
    }
