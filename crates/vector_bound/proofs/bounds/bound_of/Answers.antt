use Rattle.std.proofs.Common.{◌≡◌, ℕ, ℤ, pos, ◌^◌, ◌≤ℤ◌, refl, sym, ◌∙◌, subst, arith}
use Rattle.std.proofs.lemmas.Int.{ints, to_z-of_z}
use Rattle.std.proofs.lemmas.Option.{IfSome_then}
use Rattle.std.specs.Int.{w128}
use Rattle.whole_math.proofs.Words.{as_w128}
use Rattle.normal_sum.specs.declared.normal.Normal.{Normal}
use Rattle.vector_bound.specs.Reaches.{AreInSize, IsLeastReach}
use Rattle.vector_bound.specs.VectorBounds.{IsCurvature, steepness, slack, FitsSlack}
use Rattle.vector_bound.proofs.Words.{word}
use Rattle.vector_bound.proofs.bounds.bound_of.Goals as goal

small : (x : ℤ) → pos 1 ≤ℤ x → x ≤ℤ pos (2 ^ 40) → word x ≡ x
small x h k = as_w128 x (omega (arith, ints, h, k))

modest : (x : ℤ) → pos 0 ≤ℤ x → x ≤ℤ pos (2 ^ 90) → word x ≡ x
modest x h k = as_w128 x (omega (arith, ints, h, k))

large : (x : ℤ) → pos 0 ≤ℤ x → x ≤ℤ pos (2 ^ 126) → word x ≡ x
large x h k = as_w128 x (omega (arith, ints, h, k))

positive : (x : ℤ) → pos 1 ≤ℤ x → pos 0 ≤ℤ x
positive x h = omega (arith, ints, h)

least_same : (mu l k mu' l' k' x : ℤ) → mu ≡ mu' → l ≡ l' → k ≡ k' → IsLeastReach mu l k x → IsLeastReach mu' l' k' x
least_same mu l k mu' l' k' x d e f is = subst (λ (y : ℤ). IsLeastReach y l' k' x) d (subst (λ (y : ℤ). IsLeastReach mu y k' x) e (subst (λ (y : ℤ). IsLeastReach mu l y x) f is))

in_size : (mu l k mu' l' k' : ℤ) → mu' ≡ mu → l' ≡ l → k' ≡ k → AreInSize mu l k → AreInSize mu' l' k'
in_size mu l k mu' l' k' d e f is = subst (λ (y : ℤ). AreInSize y l' k') (sym d) (subst (λ (y : ℤ). AreInSize mu y k') (sym e) (subst (λ (y : ℤ). AreInSize mu l y) (sym f) is))

-- one curvature
same_curvature : (n : Normal) (h : ℕ) (mu nu : ℤ) → IsCurvature n h mu → IsCurvature n h nu → mu ≡ nu
same_curvature n h mu nu a b = a.is.value ∙ sym b.is.value

pub least_reach-requires : goal.least_reach-requires
least_reach-requires c =
    let mu = c.in_ok-mu.ensures in
    let steep = c.in_ok-steep.ensures in
    let more = c.in_ok-more.ensures in
    record {
      sizes = in_size c.in_ok-mu.mu c.in_ok-steep.steep c.in_ok-more.more (word c.in_ok-mu.mu) (word c.in_ok-steep.steep) (word c.in_ok-more.more)
          (small c.in_ok-mu.mu mu.curved.some mu.to) (modest c.in_ok-steep.steep steep.from steep.to) (large c.in_ok-more.more more.from more.to) (record {
            mu_from = positive c.in_ok-mu.mu mu.curved.some;
            mu_to = mu.to;
            l_from = steep.from;
            l_to = steep.to;
            k_from = more.from;
            k_to = more.to;
          });
    }

pub returns-clause-value : goal.returns-clause-value
returns-clause-value c =
    let mu = c.in_ok-mu.ensures in
    let steep = c.in_ok-steep.ensures in
    let more = c.in_ok-more.ensures in
    let top_word : word c.args.top ≡ c.args.top = to_z-of_z w128 c.args.top c.ranges.top in
    let more_is : c.in_ok-more.more ≡ slack c.args.normal.now c.args.h c.args.moved.now c.args.top = subst (λ (t : ℤ). c.in_ok-more.more ≡ slack c.args.normal.now c.args.h c.args.moved.now t) top_word more.value in
    IfSome_then c.least_reach.result c.least_reach.ensures.least (λ x is. record {
      mu = c.in_ok-mu.mu;
      curvature = mu.curved;
      slack_from = subst (λ (y : ℤ). pos 0 ≤ℤ y) more_is more.from;
      reach = least_same (word c.in_ok-mu.mu) (word c.in_ok-steep.steep) (word c.in_ok-more.more) c.in_ok-mu.mu (steepness c.args.normal.now c.args.h c.args.z.now c.args.moved.now)
          (slack c.args.normal.now c.args.h c.args.moved.now c.args.top) x (small c.in_ok-mu.mu mu.curved.some mu.to) (modest c.in_ok-steep.steep steep.from steep.to ∙ steep.value)
          (large c.in_ok-more.more more.from more.to ∙ more_is) is;
    })

pub returns-in_err-mu-clause-none : goal.returns-in_err-mu-clause-none
returns-in_err-mu-clause-none c = λ none fits x is. c.in_err-mu.ensures.none refl fits.matrix is.mu is.curvature

pub returns-in_err-steep-clause-none : goal.returns-in_err-steep-clause-none
returns-in_err-steep-clause-none c = λ none fits x is. c.in_err-steep.ensures.none refl fits.slopes

pub returns-in_err-more-clause-none : goal.returns-in_err-more-clause-none
returns-in_err-more-clause-none c =
    let top_word : word c.args.top ≡ c.args.top = to_z-of_z w128 c.args.top c.ranges.top in
    λ none fits x is. c.in_err-more.ensures.none refl (subst (λ (t : ℤ). FitsSlack c.args.normal.now c.args.h c.args.moved.now t) (sym top_word) fits.slack)
    (subst (λ (t : ℤ). pos 0 ≤ℤ slack c.args.normal.now c.args.h c.args.moved.now t) (sym top_word) is.slack_from)

pub returns-clause-none : goal.returns-clause-none
returns-clause-none c =
    let mu = c.in_ok-mu.ensures in
    let steep = c.in_ok-steep.ensures in
    let more = c.in_ok-more.ensures in
    let top_word : word c.args.top ≡ c.args.top = to_z-of_z w128 c.args.top c.ranges.top in
    let more_is : c.in_ok-more.more ≡ slack c.args.normal.now c.args.h c.args.moved.now c.args.top = subst (λ (t : ℤ). c.in_ok-more.more ≡ slack c.args.normal.now c.args.h c.args.moved.now t) top_word more.value in
    λ none fits x is. c.least_reach.ensures.none none x
    (least_same is.mu (steepness c.args.normal.now c.args.h c.args.z.now c.args.moved.now) (slack c.args.normal.now c.args.h c.args.moved.now c.args.top)
    (word c.in_ok-mu.mu) (word c.in_ok-steep.steep) (word c.in_ok-more.more) x
    (same_curvature c.args.normal.now c.args.h is.mu c.in_ok-mu.mu is.curvature mu.curved ∙ sym (small c.in_ok-mu.mu mu.curved.some mu.to))
    (sym (modest c.in_ok-steep.steep steep.from steep.to ∙ steep.value)) (sym (large c.in_ok-more.more more.from more.to ∙ more_is)) is.reach)
