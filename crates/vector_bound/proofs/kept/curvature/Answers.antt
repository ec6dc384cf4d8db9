use Rattle.std.proofs.Common.{◌≡◌, ◌^◌, ℕ, unsigned_abs, ◌≤◌, ℤ, pos, ◌≤ℤ◌, ◌<ℤ◌, Option, Some, None, IfSome, refl, sym, ◌∙◌, subst, arith}
use Rattle.std.proofs.lemmas.Int.{ints}
use Rattle.std.proofs.lemmas.Option.{IfSome_then}
use Rattle.whole_math.proofs.Inequalities.{le_trans_ℤ}
use Rattle.normal_sum.specs.declared.normal.Normal.{Normal}
use Rattle.vector_bound.specs.Curvatures.{IsCurvatureOf}
use Rattle.vector_bound.specs.VectorBounds.{kept_own, kept_other, IsCurvature}
use Rattle.vector_bound.proofs.Words.{word, word_of}
use Rattle.vector_bound.proofs.Curvatures.{AtLeastSquares, curved_squares, below_first, other_own}
use Rattle.vector_bound.proofs.kept.curvature.Goals as goal

same : (mu a b c f g h a' b' c' f' g' h' : ℤ) → a ≡ a' → b ≡ b' → c ≡ c' → f ≡ f' → g ≡ g' → h ≡ h' → IsCurvatureOf a b c f g h mu → IsCurvatureOf a' b' c' f' g' h' mu
same mu a b c f g h a' b' c' f' g' h' i j k l m n is = subst (λ (x : ℤ). IsCurvatureOf x b' c' f' g' h' mu) i (subst (λ (x : ℤ). IsCurvatureOf a x c' f' g' h' mu) j
    (subst (λ (x : ℤ). IsCurvatureOf a b x f' g' h' mu) k (subst (λ (x : ℤ). IsCurvatureOf a b c x g' h' mu) l (subst (λ (x : ℤ). IsCurvatureOf a b c f x h' mu) m
    (subst (λ (x : ℤ). IsCurvatureOf a b c f g x mu) n is)))))

curved_from : (n : Normal) (e : ℕ) (r : Option ℤ) (a b c f g h : ℤ) → a ≡ kept_own n e 0 → b ≡ kept_own n e 1 → c ≡ kept_own n e 2 → f ≡ kept_other n e 0 1 → g ≡ kept_other n e 0 2 → h ≡ kept_other n e 1 2 →
    unsigned_abs a ≤ 2 ^ 40 → unsigned_abs b ≤ 2 ^ 40 → unsigned_abs c ≤ 2 ^ 40 → unsigned_abs f ≤ 2 ^ 40 → unsigned_abs g ≤ 2 ^ 40 → unsigned_abs h ≤ 2 ^ 40 → pos 1 ≤ℤ a → pos 1 ≤ℤ b →
    IfSome r (λ mu. IsCurvatureOf (word a) (word b) (word c) (word f) (word g) (word h) mu) → IfSome r (λ mu. pos 1 ≤ℤ mu) → IfSome r (λ mu. IsCurvature n e mu)
curved_from n e None a b c f g h i₁ i₂ i₃ i₄ i₅ i₆ j₁ j₂ j₃ j₄ j₅ j₆ k₁ k₂ is some = tt
curved_from n e (Some mu) a b c f g h i₁ i₂ i₃ i₄ i₅ i₆ j₁ j₂ j₃ j₄ j₅ j₆ k₁ k₂ is some = record {
  first = subst (λ (x : ℤ). pos 1 ≤ℤ x) i₁ k₁;
  second = subst (λ (x : ℤ). pos 1 ≤ℤ x) i₂ k₂;
  some = some;
  is = same mu (word a) (word b) (word c) (word f) (word g) (word h) (kept_own n e 0) (kept_own n e 1) (kept_own n e 2) (kept_other n e 0 1) (kept_other n e 0 2) (kept_other n e 1 2)
      (small a j₁ ∙ i₁) (small b j₂ ∙ i₂) (small c j₃ ∙ i₃) (small f j₄ ∙ i₄) (small g j₅ ∙ i₅) (small h j₆ ∙ i₆) is;
}
  where
    small : (x : ℤ) → unsigned_abs x ≤ 2 ^ 40 → word x ≡ x
    small x h = word_of x (2 ^ 40) (omega arith) h

pub returns-clause-curved : goal.returns-clause-curved
returns-clause-curved c =
    let a = c.in_ok-a.ensures in
    let b = c.in_ok-b.ensures in
    let k = c.in_ok-c.ensures in
    let f = c.in_ok-f.ensures in
    let g = c.in_ok-g.ensures in
    let h = c.in_ok-other_kept.ensures in
    curved_from c.args.normal.now c.args.h c.curvature_of.result c.in_ok-a.a c.in_ok-b.b c.in_ok-c.c c.in_ok-f.f c.in_ok-g.g c.in_ok-other_kept.field-0
    a.value b.value k.value f.value g.value h.value a.size b.size k.size f.size g.size h.size a.from b.from c.curvature_of.ensures.curved c.curvature_of.ensures.from

-- at most the first own entry
below_own : (n : Normal) (e : ℕ) (mu : ℤ) → IsCurvature n e mu → mu ≤ℤ kept_own n e 0
below_own n e mu is =
    let squares : AtLeastSquares mu _ (pos 1) (pos 0) (pos 0) =
    curved_squares (kept_own n e 0) (kept_own n e 1) (kept_own n e 2) (kept_other n e 0 1) (kept_other n e 0 2) (kept_other n e 1 2) mu (pos 1) (pos 0) (pos 0) is.first is.second is.some is.is in
    below_first (kept_own n e 0) (kept_own n e 1) (kept_own n e 2) (kept_other n e 0 1) (kept_other n e 0 2) (kept_other n e 1 2) mu squares.x_square

own_to : (a k : ℤ) → a ≡ k → unsigned_abs a ≤ 2 ^ 40 → k ≤ℤ pos (2 ^ 40)
own_to a k e h = omega (arith, ints, e, h)

third_own : (n : Normal) (e : ℕ) (mu : ℤ) → IsCurvature n e mu → pos 1 ≤ℤ kept_own n e 2
third_own n e mu is = other_own (kept_own n e 0) (kept_own n e 2) (kept_other n e 0 2) is.first is.is.second

pub returns-clause-to : goal.returns-clause-to
returns-clause-to c = IfSome_then c.curvature_of.result (returns-clause-curved c)
    (λ mu is. le_trans_ℤ (below_own c.args.normal.now c.args.h mu is) (own_to c.in_ok-a.a (kept_own c.args.normal.now c.args.h 0) c.in_ok-a.ensures.value c.in_ok-a.ensures.size))

pub returns-in_err-a-clause-none : goal.returns-in_err-a-clause-none
returns-in_err-a-clause-none c = λ none fits mu is. c.in_err-a.ensures.none refl fits is.first

pub returns-in_err-b-clause-none : goal.returns-in_err-b-clause-none
returns-in_err-b-clause-none c = λ none fits mu is. c.in_err-b.ensures.none refl fits is.second

pub returns-in_err-c-clause-none : goal.returns-in_err-c-clause-none
returns-in_err-c-clause-none c = λ none fits mu is. c.in_err-c.ensures.none refl fits (third_own c.args.normal.now c.args.h mu is)

pub returns-in_err-f-clause-none : goal.returns-in_err-f-clause-none
returns-in_err-f-clause-none c = λ none fits mu is. c.in_err-f.ensures.none refl (fits.others 0 1 (omega arith) (omega arith))

pub returns-in_err-g-clause-none : goal.returns-in_err-g-clause-none
returns-in_err-g-clause-none c = λ none fits mu is. c.in_err-g.ensures.none refl (fits.others 0 2 (omega arith) (omega arith))

pub returns-in_err-other_kept-clause-none : goal.returns-in_err-other_kept-clause-none
returns-in_err-other_kept-clause-none c = λ none fits mu is. c.in_err-other_kept.ensures.none refl (fits.others 1 2 (omega arith) (omega arith))

pub returns-clause-none : goal.returns-clause-none
returns-clause-none c =
    let a = c.in_ok-a.ensures in
    let b = c.in_ok-b.ensures in
    let k = c.in_ok-c.ensures in
    let f = c.in_ok-f.ensures in
    let g = c.in_ok-g.ensures in
    let h = c.in_ok-other_kept.ensures in
    let n : Normal = c.args.normal.now in
    λ none fits mu is. below_one mu is.some (c.curvature_of.ensures.none none mu
    (same mu (kept_own n c.args.h 0) (kept_own n c.args.h 1) (kept_own n c.args.h 2) (kept_other n c.args.h 0 1) (kept_other n c.args.h 0 2) (kept_other n c.args.h 1 2)
    (word c.in_ok-a.a) (word c.in_ok-b.b) (word c.in_ok-c.c) (word c.in_ok-f.f) (word c.in_ok-g.g) (word c.in_ok-other_kept.field-0)
    (sym (small c.in_ok-a.a a.size ∙ a.value)) (sym (small c.in_ok-b.b b.size ∙ b.value)) (sym (small c.in_ok-c.c k.size ∙ k.value))
    (sym (small c.in_ok-f.f f.size ∙ f.value)) (sym (small c.in_ok-g.g g.size ∙ g.value)) (sym (small c.in_ok-other_kept.field-0 h.size ∙ h.value)) is.is))
  where
    small : (x : ℤ) → unsigned_abs x ≤ 2 ^ 40 → word x ≡ x
    small x h = word_of x (2 ^ 40) (omega arith) h

    below_one : (mu : ℤ) → pos 1 ≤ℤ mu → mu <ℤ pos 1 → ⊥
    below_one mu h k = omega (arith, ints, h, k)
