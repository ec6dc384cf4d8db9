use Rattle.std.proofs.Common.{◌≡◌, ◌*◌, ◌^◌, ℤ, pos, ◌+ℤ◌, ◌-ℤ◌, ◌*ℤ◌, ◌≤ℤ◌, neg_ℤ, arith, lit≤}
use Rattle.std.proofs.lemmas.Int.{ints}
use Rattle.whole_math.specs.Rational.{◌*ʳ◌}
use Rattle.iv_core.specs.declared.Iv.{Iv}
use Rattle.sized_box.proofs.Bounds.{reached}
use Rattle.signal_travel.proofs.turns.turned_box.Goals as goal

added : (a b c d : ℤ) → neg_ℤ (pos 2611505042712166400) ≤ℤ a → b ≤ℤ pos 2611505042712166400 → neg_ℤ (pos 164926744166400) ≤ℤ c → d ≤ℤ pos 164926744166400 →
    (neg_ℤ (pos 2618212063641600000) ≤ℤ (a +ℤ c)) × ((b +ℤ d) ≤ℤ pos 2618212063641600000)
added a b c d h k i j = (omega (arith, ints), omega (arith, ints))

taken : (a b c d : ℤ) → neg_ℤ (pos 2611505042712166400) ≤ℤ a → b ≤ℤ pos 2611505042712166400 → neg_ℤ (pos 164926744166400) ≤ℤ c → d ≤ℤ pos 164926744166400 →
    (neg_ℤ (pos 2618212063641600000) ≤ℤ (a -ℤ d)) × ((b -ℤ c) ≤ℤ pos 2618212063641600000)
taken a b c d h k i j = (omega (arith, ints), omega (arith, ints))

pub sum_of-requires : goal.sum_of-requires
sum_of-requires c =
    let cosine_product = c.cosine_times in
    let sine_product = c.sine_times in
    let sum_within = added cosine_product.result.lo cosine_product.result.hi sine_product.result.lo sine_product.result.hi cosine_product.ensures.size.0 cosine_product.ensures.size.1 sine_product.ensures.size.0 sine_product.ensures.size.1 in
    (omega arith, reached _ _ 2618212063641600000 (lit≤ tt) sum_within.0 sum_within.1)

pub difference_of-requires : goal.difference_of-requires
difference_of-requires c =
    let cosine_product = c.cosine_times-2 in
    let sine_product = c.sine_times-2 in
    let difference_within = taken cosine_product.result.lo cosine_product.result.hi sine_product.result.lo sine_product.result.hi cosine_product.ensures.size.0 cosine_product.ensures.size.1 sine_product.ensures.size.0 sine_product.ensures.size.1 in
    (omega arith, reached _ _ 2618212063641600000 (lit≤ tt) difference_within.0 difference_within.1)

pub returns-clause-holds : goal.returns-clause-holds
returns-clause-holds c = λ p pair h k. (
  c.sum_of.ensures.holds (pair.cos *ʳ p.x) (pair.sin *ʳ p.y) (c.cosine_times.ensures.holds pair.cos p.x k.0 h.0) (c.sine_times.ensures.holds pair.sin p.y k.1 h.1),
  c.difference_of.ensures.holds (pair.cos *ʳ p.y) (pair.sin *ʳ p.x) (c.cosine_times-2.ensures.holds pair.cos p.y k.0 h.1) (c.sine_times-2.ensures.holds pair.sin p.x k.1 h.0),
  h.2,
)

loose : (a b : ℤ) → neg_ℤ (pos 2611340115968000000) ≤ℤ a → b ≤ℤ pos 2611340115968000000 → (neg_ℤ (pos 2618212063641600000) ≤ℤ a) × (b ≤ℤ pos 2618212063641600000)
loose a b h k = (omega (arith, ints), omega (arith, ints))

pub returns-clause-size : goal.returns-clause-size
returns-clause-size c =
    let first_cosine_product = c.cosine_times in
    let first_sine_product = c.sine_times in
    let sum_within = added first_cosine_product.result.lo first_cosine_product.result.hi first_sine_product.result.lo first_sine_product.result.hi first_cosine_product.ensures.size.0 first_cosine_product.ensures.size.1 first_sine_product.ensures.size.0 first_sine_product.ensures.size.1 in
    let second_cosine_product = c.cosine_times-2 in
    let second_sine_product = c.sine_times-2 in
    let difference_within = taken second_cosine_product.result.lo second_cosine_product.result.hi second_sine_product.result.lo second_sine_product.result.hi second_cosine_product.ensures.size.0 second_cosine_product.ensures.size.1 second_sine_product.ensures.size.0 second_sine_product.ensures.size.1 in
    let sum_stands = c.sum_of.ensures in
    let difference_stands = c.difference_of.ensures in
    let sent = c.args.sent.now in
    ((rw sum_stands.lo sum_within.0, rw sum_stands.hi sum_within.1), (rw difference_stands.lo difference_within.0, rw difference_stands.hi difference_within.1), loose sent.place.z.lo sent.place.z.hi sent.within.2.0 sent.within.2.1)

wide : (p q s c d w v : ℤ) → (pos (2 ^ 24) *ℤ p) ≤ℤ ((pos 38000000 *ℤ c) +ℤ pos (262162 * 2 ^ 24)) → (pos (2 ^ 24) *ℤ q) ≤ℤ ((pos 38000000 *ℤ d) +ℤ pos (18 * 2 ^ 24)) → s ≡ p +ℤ q → c ≤ℤ w → d ≤ℤ w →
    ((pos 76000000 *ℤ w) +ℤ pos (262180 * 2 ^ 24)) ≤ℤ (pos (2 ^ 24) *ℤ v) → s ≤ℤ v
wide p q s c d w v h k e i j o = omega (arith, ints)

same_wide : (s l h w v : ℤ) → s ≤ℤ pos (2 ^ 18) → l ≤ℤ h → (h -ℤ l) ≤ℤ w → ((pos 76000000 *ℤ w) +ℤ pos (262180 * 2 ^ 24)) ≤ℤ (pos (2 ^ 24) *ℤ v) → s ≤ℤ v
same_wide s l h w v n o k m = omega (arith, ints)

pub returns-clause-width : goal.returns-clause-width
returns-clause-width c = λ w v h k.
    let turn = c.args.turn.now in
    let sent = c.args.sent.now in (
      wide (size c.cosine_times.result) (size c.sine_times.result) (size c.sum_of.result) (turn.cos.hi -ℤ turn.cos.lo) (turn.sin.hi -ℤ turn.sin.lo) w v
          c.cosine_times.ensures.width c.sine_times.ensures.width c.sum_of.ensures.width h.0 h.1 k,
      wide (size c.cosine_times-2.result) (size c.sine_times-2.result) (size c.difference_of.result) (turn.cos.hi -ℤ turn.cos.lo) (turn.sin.hi -ℤ turn.sin.lo) w
          v c.cosine_times-2.ensures.width c.sine_times-2.ensures.width c.difference_of.ensures.width h.0 h.1 k,
      same_wide (sent.place.z.hi -ℤ sent.place.z.lo) turn.cos.lo turn.cos.hi w v sent.narrow.2 turn.cos.ordered h.0 k,
    )
  where
    size : Iv 36 → ℤ
    size b = b.hi -ℤ b.lo
