use Rattle.std.proofs.Common.{◌≡◌, ◌+◌, ◌-ℤ◌, ◌≤◌, ◌^◌, ℤ, unsigned_abs, arith, to_z, of_z, FitsSigned}
use Rattle.std.proofs.lemmas.Int.{ints, to_z-of_z}
use Rattle.std.specs.Int.{w128}
use Rattle.whole_math.proofs.Words.{as_w128}
use Rattle.elimination.proofs.entries.less_three.Goals as goal

size_sub : (x y : ℤ) → unsigned_abs (x -ℤ y) ≤ unsigned_abs x + unsigned_abs y
size_sub x y = omega (arith, ints)

fits : (x : ℤ) → unsigned_abs x ≤ 2 ^ 126 → FitsSigned w128 x
fits x h = omega (arith, ints)

size_two : (e s n : ℤ) → unsigned_abs e ≤ 2 ^ 52 → unsigned_abs s ≤ 2 ^ 104 → unsigned_abs n ≤ 2 ^ 52 → unsigned_abs ((e -ℤ s) -ℤ n) ≤ 2 ^ 106
size_two e s n h i j = omega (arith, size_sub e s, size_sub (e -ℤ s) n)

size_three : (e s n l : ℤ) → unsigned_abs e ≤ 2 ^ 52 → unsigned_abs s ≤ 2 ^ 104 → unsigned_abs n ≤ 2 ^ 52 → unsigned_abs l ≤ 2 ^ 104 → unsigned_abs (((e -ℤ s) -ℤ n) -ℤ l) ≤ 2 ^ 107
size_three e s n l h i j k = omega (arith, size_sub ((e -ℤ s) -ℤ n) l, size_two e s n h i j)

pub returns-clause-value : goal.returns-clause-value
returns-clause-value c =
    let entry_kept : to_z w128 (of_z w128 c.args.entry) ≡ c.args.entry = to_z-of_z w128 c.args.entry c.ranges.entry in
    let square_kept : to_z w128 (of_z w128 c.args.square) ≡ c.args.square = to_z-of_z w128 c.args.square c.ranges.square in
    let count_kept : to_z w128 (of_z w128 c.args.count) ≡ c.args.count = to_z-of_z w128 c.args.count c.ranges.count in
    let loss_kept : to_z w128 (of_z w128 c.args.loss) ≡ c.args.loss = to_z-of_z w128 c.args.loss c.ranges.loss in
    let less_square_small : unsigned_abs (c.args.entry -ℤ c.args.square) ≤ 2 ^ 106 = omega (arith, size_sub c.args.entry c.args.square, c.requires.entry_size, c.requires.square_size) in
    let less_count_small : unsigned_abs ((c.args.entry -ℤ c.args.square) -ℤ c.args.count) ≤ 2 ^ 106 =
    size_two c.args.entry c.args.square c.args.count c.requires.entry_size c.requires.square_size c.requires.count_size in
    let less_loss_small : unsigned_abs (((c.args.entry -ℤ c.args.square) -ℤ c.args.count) -ℤ c.args.loss) ≤ 2 ^ 107 =
    size_three c.args.entry c.args.square c.args.count c.args.loss c.requires.entry_size c.requires.square_size c.requires.count_size c.requires.loss_size in
    rw (
      entry_kept,
      square_kept,
      count_kept,
      loss_kept,
      as_w128 (c.args.entry -ℤ c.args.square) (omega arith),
      as_w128 ((c.args.entry -ℤ c.args.square) -ℤ c.args.count) (omega arith),
      as_w128 (((c.args.entry -ℤ c.args.square) -ℤ c.args.count) -ℤ c.args.loss) (omega arith),
    )

pub returns-clause-size : goal.returns-clause-size
returns-clause-size c = rw (returns-clause-value c)
    (size_three c.args.entry c.args.square c.args.count c.args.loss c.requires.entry_size c.requires.square_size c.requires.count_size c.requires.loss_size)

pub overflow_sub-result : goal.overflow_sub-result
overflow_sub-result c =
    let entry_kept : to_z w128 (of_z w128 c.args.entry) ≡ c.args.entry = to_z-of_z w128 c.args.entry c.ranges.entry in
    let square_kept : to_z w128 (of_z w128 c.args.square) ≡ c.args.square = to_z-of_z w128 c.args.square c.ranges.square in
    let count_kept : to_z w128 (of_z w128 c.args.count) ≡ c.args.count = to_z-of_z w128 c.args.count c.ranges.count in
    let loss_kept : to_z w128 (of_z w128 c.args.loss) ≡ c.args.loss = to_z-of_z w128 c.args.loss c.ranges.loss in
    let less_square_small : unsigned_abs (c.args.entry -ℤ c.args.square) ≤ 2 ^ 106 = omega (arith, size_sub c.args.entry c.args.square, c.requires.entry_size, c.requires.square_size) in
    let less_count_small : unsigned_abs ((c.args.entry -ℤ c.args.square) -ℤ c.args.count) ≤ 2 ^ 106 =
    size_two c.args.entry c.args.square c.args.count c.requires.entry_size c.requires.square_size c.requires.count_size in
    let less_loss_small : unsigned_abs (((c.args.entry -ℤ c.args.square) -ℤ c.args.count) -ℤ c.args.loss) ≤ 2 ^ 107 =
    size_three c.args.entry c.args.square c.args.count c.args.loss c.requires.entry_size c.requires.square_size c.requires.count_size c.requires.loss_size in
    rw (entry_kept, square_kept, count_kept, loss_kept, as_w128 (c.args.entry -ℤ c.args.square) (omega arith), as_w128 ((c.args.entry -ℤ c.args.square) -ℤ c.args.count) (omega arith))
    (fits (((c.args.entry -ℤ c.args.square) -ℤ c.args.count) -ℤ c.args.loss) (omega arith))
