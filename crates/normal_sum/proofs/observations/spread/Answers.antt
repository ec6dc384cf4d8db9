use Rattle.std.proofs.Common.{◌≡◌, ℕ, ◌+◌, ◌*◌, ◌^◌, ◌≤◌, ℤ, pos, ◌-ℤ◌, ◌*ℤ◌, unsigned_abs, FitsSigned, to_z, of_z, arith, sym, subst}
use Rattle.std.proofs.lemmas.Int.{ints, to_z-of_z}
use Rattle.std.specs.Int.{w64, w128}
use Rattle.whole_math.proofs.Order.{abs_mul_le}
use Rattle.whole_math.proofs.Words.{as_w128}
use Rattle.normal_sum.proofs.RowSums.{spread_fits}
use Rattle.normal_sum.proofs.observations.spread.Goals as goal

fits : (x : ℤ) → unsigned_abs x ≤ 2 ^ 77 → FitsSigned w128 x
fits x small = omega (arith, ints)

rows_word : (n : ℕ) → n ≤ 15 → to_z w128 n ≡ pos n
rows_word n few = omega (arith, ints)

less : (x y : ℤ) → unsigned_abs (x -ℤ y) ≤ unsigned_abs x + unsigned_abs y
less x y = omega (arith, ints)

together : (n a b c : ℕ) → a ≤ n * (n * 2 ^ 68) → b ≤ (n * 2 ^ 34) * (n * 2 ^ 34) → c ≤ a + b → c ≤ (n * n) * 2 ^ 69
together n a b c h g k = grind arith

first_small : (n a : ℕ) → n ≤ 15 → a ≤ n * (n * 2 ^ 68) → a ≤ 2 ^ 77
first_small n a h g = grind arith

second_small : (n a : ℕ) → n ≤ 15 → a ≤ (n * 2 ^ 34) * (n * 2 ^ 34) → a ≤ 2 ^ 77
second_small n a h g = grind arith

record Sizes (n : ℕ) (p a b : ℤ) : Type 0 where
  first : unsigned_abs (pos n *ℤ p) ≤ 2 ^ 77
  second : unsigned_abs (a *ℤ b) ≤ 2 ^ 77
  whole : unsigned_abs ((pos n *ℤ p) -ℤ (a *ℤ b)) ≤ (n * n) * 2 ^ 69

sizes : (n : ℕ) (p a b : ℤ) → n ≤ 15 → unsigned_abs p ≤ n * 2 ^ 68 → unsigned_abs a ≤ n * 2 ^ 34 → unsigned_abs b ≤ n * 2 ^ 34 → Sizes n p a b
sizes n p a b few hp ha hb =
    let first : unsigned_abs (pos n *ℤ p) ≤ n * (n * 2 ^ 68) = abs_mul_le (pos n) p n (n * 2 ^ 68) (omega arith) hp in
    let second : unsigned_abs (a *ℤ b) ≤ (n * 2 ^ 34) * (n * 2 ^ 34) = abs_mul_le a b (n * 2 ^ 34) (n * 2 ^ 34) ha hb in
    record {
      first = first_small n (unsigned_abs (pos n *ℤ p)) few first;
      second = second_small n (unsigned_abs (a *ℤ b)) few second;
      whole = together n (unsigned_abs (pos n *ℤ p)) (unsigned_abs (a *ℤ b)) (unsigned_abs ((pos n *ℤ p) -ℤ (a *ℤ b))) first second (less (pos n *ℤ p) (a *ℤ b));
    }

pub overflow_sub-result : goal.overflow_sub-result
overflow_sub-result c =
    let sizes_hold : Sizes c.args.rows c.args.products c.args.first c.args.second = sizes c.args.rows c.args.products c.args.first c.args.second c.requires.few_rows c.requires.products_size
    c.requires.first_size c.requires.second_size in
    let a_small : unsigned_abs c.args.first ≤ 2 ^ 38 = omega (arith, c.requires.first_size, c.requires.few_rows) in
    let b_small : unsigned_abs c.args.second ≤ 2 ^ 38 = omega (arith, c.requires.second_size, c.requires.few_rows) in
    let whole_small : unsigned_abs ((pos c.args.rows *ℤ c.args.products) -ℤ (c.args.first *ℤ c.args.second)) ≤ 2 ^ 77 =
    spread_fits (unsigned_abs ((pos c.args.rows *ℤ c.args.products) -ℤ (c.args.first *ℤ c.args.second))) c.args.rows c.requires.few_rows sizes_hold.whole in
    rw (
      rows_word c.args.rows c.requires.few_rows,
      to_z-of_z w128 c.args.products c.ranges.products,
      to_z-of_z w64 c.args.first c.ranges.first,
      to_z-of_z w64 c.args.second c.ranges.second,
      as_w128 c.args.first (omega (arith, a_small)),
      as_w128 c.args.second (omega (arith, b_small)),
      as_w128 (pos c.args.rows *ℤ c.args.products) (omega (arith, sizes_hold.first)),
      as_w128 (c.args.first *ℤ c.args.second) (omega (arith, sizes_hold.second)),
    ) (fits ((pos c.args.rows *ℤ c.args.products) -ℤ (c.args.first *ℤ c.args.second)) whole_small)

pub returns-clause-value : goal.returns-clause-value
returns-clause-value c =
    let sizes_hold : Sizes c.args.rows c.args.products c.args.first c.args.second = sizes c.args.rows c.args.products c.args.first c.args.second c.requires.few_rows c.requires.products_size
    c.requires.first_size c.requires.second_size in
    let a_small : unsigned_abs c.args.first ≤ 2 ^ 38 = omega (arith, c.requires.first_size, c.requires.few_rows) in
    let b_small : unsigned_abs c.args.second ≤ 2 ^ 38 = omega (arith, c.requires.second_size, c.requires.few_rows) in
    let whole_small : unsigned_abs ((pos c.args.rows *ℤ c.args.products) -ℤ (c.args.first *ℤ c.args.second)) ≤ 2 ^ 77 =
    spread_fits (unsigned_abs ((pos c.args.rows *ℤ c.args.products) -ℤ (c.args.first *ℤ c.args.second))) c.args.rows c.requires.few_rows sizes_hold.whole in
    rw (
      rows_word c.args.rows c.requires.few_rows,
      to_z-of_z w128 c.args.products c.ranges.products,
      to_z-of_z w64 c.args.first c.ranges.first,
      to_z-of_z w64 c.args.second c.ranges.second,
      as_w128 c.args.first (omega (arith, a_small)),
      as_w128 c.args.second (omega (arith, b_small)),
      as_w128 (pos c.args.rows *ℤ c.args.products) (omega (arith, sizes_hold.first)),
      as_w128 (c.args.first *ℤ c.args.second) (omega (arith, sizes_hold.second)),
      as_w128 ((pos c.args.rows *ℤ c.args.products) -ℤ (c.args.first *ℤ c.args.second)) (omega (arith, whole_small)),
    )

pub returns-clause-size : goal.returns-clause-size
returns-clause-size c =
    let sizes_hold : Sizes c.args.rows c.args.products c.args.first c.args.second = sizes c.args.rows c.args.products c.args.first c.args.second c.requires.few_rows c.requires.products_size
    c.requires.first_size c.requires.second_size in
    subst (λ (x : ℤ). unsigned_abs x ≤ (c.args.rows * c.args.rows) * 2 ^ 69) (sym (returns-clause-value c)) sizes_hold.whole
