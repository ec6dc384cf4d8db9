use Rattle.std.proofs.Common.{◌≡◌, ℕ, length, arith, rules, sym, subst}
use Rattle.std.proofs.lemmas.Int.{ints}
use Rattle.std.specs.declared.cmp.Ordering.TheVariants.{Less, Equal, Greater}
use Rattle.quadratic_form.specs.declared.sizes.TheConstants.{MOST_INTEGERS}
use Rattle.int_search.specs.Vectors.{suffix}
use Rattle.int_search.proofs.OrderArrays.{before_at, order_at, order_end}
use Rattle.int_search.proofs.orders.entry_order.Goals as goal

pub returns-then-a-k : goal.returns-then-a-k
returns-then-a-k c =
    let left_full : length c.args.a.now ≡ MOST_INTEGERS = search rules in
    let right_full : length c.args.b.now ≡ MOST_INTEGERS = search rules in
    c.loop-k.invariant Less (before_at c.args.a.now c.args.b.now c.loop-k.k c.args.size (omega arith) (omega arith) (omega arith) (omega (arith, ints)))

pub returns-then-b-k : goal.returns-then-b-k
returns-then-b-k c =
    let left_full : length c.args.a.now ≡ MOST_INTEGERS = search rules in
    let right_full : length c.args.b.now ≡ MOST_INTEGERS = search rules in
    c.loop-k.invariant Greater (before_at c.args.b.now c.args.a.now c.loop-k.k c.args.size (omega arith) (omega arith) (omega arith) (omega (arith, ints)))

pub loop-k-preserved : goal.loop-k-preserved
loop-k-preserved c = λ o h.
    let left_full : length c.args.a.now ≡ MOST_INTEGERS = search rules in
    let right_full : length c.args.b.now ≡ MOST_INTEGERS = search rules in
    c.loop-k.invariant o (order_at c.args.a.now c.args.b.now c.loop-k.k c.args.size o (omega arith) (omega arith) (omega arith) (omega (arith, ints)) h)

pub returns : goal.returns
returns c =
    let all_compared : c.loop-k.k ≡ c.args.size = omega arith in
    c.loop-k.invariant Equal (subst (λ (k : ℕ). suffix c.args.a.now k c.args.size ≡ suffix c.args.b.now k c.args.size) (sym all_compared) (order_end c.args.a.now c.args.b.now c.args.size))
