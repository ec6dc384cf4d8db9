use Rattle.std.proofs.Common.{◌≡◌, inr, ◌*◌, ◌^◌, ℕ, ℤ, pos, ◌+ℤ◌, ◌-ℤ◌, ◌*ℤ◌, ◌≤ℤ◌, ◌<ℤ◌, ◌∙◌, subst, arith}
use Rattle.std.proofs.lemmas.Int.{ints, to_z-of_z}
use Rattle.std.specs.Int.{w128}
use Rattle.vector_bound.proofs.Words.{word}
use Rattle.vector_bound.proofs.LeastReach.{short, short_word, between, after, over_same, in_words, enough_by, not_enough}
use Rattle.vector_bound.proofs.reaches.narrower.Goals as goal

pub returns-then-over-ge0-clause-range : goal.returns-then-over-ge0-clause-range
returns-then-over-ge0-clause-range c =
    let is = c.requires.range in
    let low : ℤ = c.args.range.low in
    let high : ℤ = c.args.range.high in
    let middle : ℤ = c.middle_of-middle.result in
    let low_word : short c.args.range.low ≡ c.args.range.low = short_word c.args.range.low is.from (between c.args.range.low c.args.range.high is.order is.to) in
    let high_word : short c.args.range.high ≡ c.args.range.high = short_word c.args.range.high (after c.args.range.low c.args.range.high is.from is.order) is.to in
    let below : c.args.range.low <ℤ c.middle_of-middle.result = subst (λ (x : ℤ). x <ℤ c.middle_of-middle.result) low_word c.middle_of-middle.ensures.after in
    let above : c.middle_of-middle.result <ℤ c.args.range.high = subst (λ (x : ℤ). c.middle_of-middle.result <ℤ x) high_word c.middle_of-middle.ensures.before in
    let middle_to : c.middle_of-middle.result ≤ℤ pos (2 ^ 30) = between c.middle_of-middle.result c.args.range.high above is.to in
    let middle_word : short c.middle_of-middle.result ≡ c.middle_of-middle.result = short_word c.middle_of-middle.result (after c.args.range.low c.middle_of-middle.result is.from below) middle_to in
    let over_word : word c.margin-over.result ≡ c.margin-over.result = to_z-of_z w128 c.margin-over.result c.margin-over.ensures.fits in
    let over_is : c.margin-over.result ≡ c.args.mu *ℤ (c.middle_of-middle.result *ℤ c.middle_of-middle.result) -ℤ (c.args.k +ℤ c.args.l *ℤ c.middle_of-middle.result) = c.margin-over.ensures.value
    ∙ over_same c.args.mu c.args.l c.args.k c.middle_of-middle.result (word c.args.mu) (word c.args.l) (word c.args.k) (short c.middle_of-middle.result)
    (to_z-of_z w128 c.args.mu c.ranges.mu) (to_z-of_z w128 c.args.l c.ranges.l) (to_z-of_z w128 c.args.k c.ranges.k) middle_word in
    let is_nonnegative : pos 0 ≤ℤ word c.margin-over.result = omega (arith, ints, c.if-over-ge0.true) in
    in_words c.args.mu c.args.l c.args.k c.args.range.low c.middle_of-middle.result (short c.args.range.low) (short c.middle_of-middle.result) low_word middle_word (record {
      from = is.from;
      order = below;
      to = middle_to;
      enough = enough_by c.args.mu c.args.l c.args.k c.middle_of-middle.result c.margin-over.result (word c.margin-over.result) over_word over_is is_nonnegative;
      before = is.before;
    })

pub returns-else-over-ge0-clause-range : goal.returns-else-over-ge0-clause-range
returns-else-over-ge0-clause-range c =
    let is = c.requires.range in
    let low_word : short c.args.range.low ≡ c.args.range.low = short_word c.args.range.low is.from (between c.args.range.low c.args.range.high is.order is.to) in
    let high_word : short c.args.range.high ≡ c.args.range.high = short_word c.args.range.high (after c.args.range.low c.args.range.high is.from is.order) is.to in
    let below : c.args.range.low <ℤ c.middle_of-middle.result = subst (λ (x : ℤ). x <ℤ c.middle_of-middle.result) low_word c.middle_of-middle.ensures.after in
    let above : c.middle_of-middle.result <ℤ c.args.range.high = subst (λ (x : ℤ). c.middle_of-middle.result <ℤ x) high_word c.middle_of-middle.ensures.before in
    let middle_from : pos 0 ≤ℤ c.middle_of-middle.result = after c.args.range.low c.middle_of-middle.result is.from below in
    let middle_word : short c.middle_of-middle.result ≡ c.middle_of-middle.result = short_word c.middle_of-middle.result middle_from (between c.middle_of-middle.result c.args.range.high above is.to) in
    let over_word : word c.margin-over.result ≡ c.margin-over.result = to_z-of_z w128 c.margin-over.result c.margin-over.ensures.fits in
    let over_is : c.margin-over.result ≡ c.args.mu *ℤ (c.middle_of-middle.result *ℤ c.middle_of-middle.result) -ℤ (c.args.k +ℤ c.args.l *ℤ c.middle_of-middle.result) = c.margin-over.ensures.value
    ∙ over_same c.args.mu c.args.l c.args.k c.middle_of-middle.result (word c.args.mu) (word c.args.l) (word c.args.k) (short c.middle_of-middle.result)
    (to_z-of_z w128 c.args.mu c.ranges.mu) (to_z-of_z w128 c.args.l c.ranges.l) (to_z-of_z w128 c.args.k c.ranges.k) middle_word in
    let is_negative : word c.margin-over.result <ℤ pos 0 = omega (arith, ints, c.if-over-ge0.false) in
    in_words c.args.mu c.args.l c.args.k c.middle_of-middle.result c.args.range.high (short c.middle_of-middle.result) (short c.args.range.high) middle_word high_word (record {
      from = middle_from;
      order = above;
      to = is.to;
      enough = is.enough;
      before = inr (not_enough c.args.mu c.args.l c.args.k c.middle_of-middle.result c.margin-over.result (word c.margin-over.result) over_word over_is is_negative);
    })

half_low : (low high middle low' high' middle' : ℤ) (w : ℕ) → low' ≡ low → high' ≡ high → middle' ≡ middle → (high' ≤ℤ (low' +ℤ pos (2 * w)) → middle ≤ℤ (low' +ℤ pos w)) →
    high ≤ℤ (low +ℤ pos (2 * w)) → middle' ≤ℤ (low' +ℤ pos w)
half_low low high middle low' high' middle' w d e f half h =
    let k : middle ≤ℤ (low' +ℤ pos w) = half (omega (arith, ints, d, e, h)) in
    omega (arith, ints, f, k)

half_high : (low high middle low' high' middle' : ℤ) (w : ℕ) → low' ≡ low → high' ≡ high → middle' ≡ middle → (high' ≤ℤ (low' +ℤ pos (2 * w)) → high' ≤ℤ (middle +ℤ pos w)) →
    high ≤ℤ (low +ℤ pos (2 * w)) → high' ≤ℤ (middle' +ℤ pos w)
half_high low high middle low' high' middle' w d e f half h =
    let k : high' ≤ℤ (middle +ℤ pos w) = half (omega (arith, ints, d, e, h)) in
    omega (arith, ints, f, k)

pub returns-then-over-ge0-clause-half : goal.returns-then-over-ge0-clause-half
returns-then-over-ge0-clause-half c =
    let is = c.requires.range in
    let low_word : short c.args.range.low ≡ c.args.range.low = short_word c.args.range.low is.from (between c.args.range.low c.args.range.high is.order is.to) in
    let high_word : short c.args.range.high ≡ c.args.range.high = short_word c.args.range.high (after c.args.range.low c.args.range.high is.from is.order) is.to in
    let below : c.args.range.low <ℤ c.middle_of-middle.result = subst (λ (x : ℤ). x <ℤ c.middle_of-middle.result) low_word c.middle_of-middle.ensures.after in
    let above : c.middle_of-middle.result <ℤ c.args.range.high = subst (λ (x : ℤ). c.middle_of-middle.result <ℤ x) high_word c.middle_of-middle.ensures.before in
    let middle_word : short c.middle_of-middle.result ≡ c.middle_of-middle.result =
    short_word c.middle_of-middle.result (after c.args.range.low c.middle_of-middle.result is.from below) (between c.middle_of-middle.result c.args.range.high above is.to) in
    λ w from wide. half_low c.args.range.low c.args.range.high c.middle_of-middle.result (short c.args.range.low) (short c.args.range.high) (short c.middle_of-middle.result) w low_word high_word middle_word
    (c.middle_of-middle.ensures.half_low w) wide

pub returns-else-over-ge0-clause-half : goal.returns-else-over-ge0-clause-half
returns-else-over-ge0-clause-half c =
    let is = c.requires.range in
    let low_word : short c.args.range.low ≡ c.args.range.low = short_word c.args.range.low is.from (between c.args.range.low c.args.range.high is.order is.to) in
    let high_word : short c.args.range.high ≡ c.args.range.high = short_word c.args.range.high (after c.args.range.low c.args.range.high is.from is.order) is.to in
    let below : c.args.range.low <ℤ c.middle_of-middle.result = subst (λ (x : ℤ). x <ℤ c.middle_of-middle.result) low_word c.middle_of-middle.ensures.after in
    let above : c.middle_of-middle.result <ℤ c.args.range.high = subst (λ (x : ℤ). c.middle_of-middle.result <ℤ x) high_word c.middle_of-middle.ensures.before in
    let middle_word : short c.middle_of-middle.result ≡ c.middle_of-middle.result =
    short_word c.middle_of-middle.result (after c.args.range.low c.middle_of-middle.result is.from below) (between c.middle_of-middle.result c.args.range.high above is.to) in
    λ w from wide. half_high c.args.range.low c.args.range.high c.middle_of-middle.result (short c.args.range.low) (short c.args.range.high) (short c.middle_of-middle.result) w low_word high_word middle_word
    (c.middle_of-middle.ensures.half_high w) wide
