use Rattle.std.proofs.Common.{◌≡◌, ◌+◌, ◌^◌, ◌≤◌, ℤ, ◌-ℤ◌, unsigned_abs, FitsSigned, arith}
use Rattle.std.proofs.lemmas.Int.{ints}
use Rattle.std.specs.Int.{w64}
use Rattle.elimination.proofs.RowWords.{word}
use Rattle.elimination.proofs.row_steps.less_quotients.Goals as goal

wide : (x : ℤ) → unsigned_abs x ≤ 2 ^ 62 → word x ≡ x
wide x h = omega (arith, ints)

fits : (x : ℤ) → unsigned_abs x ≤ 2 ^ 62 → FitsSigned w64 x
fits x h = omega (arith, ints)

size_one : (n f : ℤ) → unsigned_abs n ≤ 2 ^ 52 → unsigned_abs f ≤ 2 ^ 60 + 1 → unsigned_abs (n -ℤ f) ≤ 2 ^ 60 + 2 ^ 53
size_one n f h g = omega (arith, ints)

size_two : (x s : ℤ) → unsigned_abs x ≤ 2 ^ 60 + 2 ^ 53 → unsigned_abs s ≤ 2 ^ 60 + 1 → unsigned_abs (x -ℤ s) ≤ 2 ^ 61 + 2 ^ 54
size_two x s h g = omega (arith, ints)

size_three : (x t : ℤ) → unsigned_abs x ≤ 2 ^ 61 + 2 ^ 54 → unsigned_abs t ≤ 2 ^ 60 + 1 → unsigned_abs (x -ℤ t) ≤ 2 ^ 62
size_three x t h g = omega (arith, ints)

wider : (x : ℤ) → unsigned_abs x ≤ 2 ^ 60 + 2 ^ 53 → unsigned_abs x ≤ 2 ^ 62
wider x h = omega (arith, h)

widest : (x : ℤ) → unsigned_abs x ≤ 2 ^ 61 + 2 ^ 54 → unsigned_abs x ≤ 2 ^ 62
widest x h = omega (arith, h)

-- the differences as words
record Left (n f s t : ℤ) : Type 0 where
  one : word (word n -ℤ word f) ≡ n -ℤ f
  two : word (word (word n -ℤ word f) -ℤ word s) ≡ (n -ℤ f) -ℤ s
  three : word (word (word (word n -ℤ word f) -ℤ word s) -ℤ word t) ≡ ((n -ℤ f) -ℤ s) -ℤ t
  fits_three : FitsSigned w64 (word (word (word n -ℤ word f) -ℤ word s) -ℤ word t)
  size : unsigned_abs (((n -ℤ f) -ℤ s) -ℤ t) ≤ 2 ^ 62

left : (n f s t : ℤ) → unsigned_abs n ≤ 2 ^ 52 → unsigned_abs f ≤ 2 ^ 60 + 1 → unsigned_abs s ≤ 2 ^ 60 + 1 → unsigned_abs t ≤ 2 ^ 60 + 1 → Left n f s t
left n f s t hn hf hs ht =
    let a : unsigned_abs (n -ℤ f) ≤ 2 ^ 60 + 2 ^ 53 = size_one n f hn hf in
    let b : unsigned_abs ((n -ℤ f) -ℤ s) ≤ 2 ^ 61 + 2 ^ 54 = size_two (n -ℤ f) s a hs in
    let d : unsigned_abs (((n -ℤ f) -ℤ s) -ℤ t) ≤ 2 ^ 62 = size_three ((n -ℤ f) -ℤ s) t b ht in
    let en : word n ≡ n = wide n (omega (arith, hn)) in
    let ef : word f ≡ f = wide f (omega (arith, hf)) in
    let es : word s ≡ s = wide s (omega (arith, hs)) in
    let et : word t ≡ t = wide t (omega (arith, ht)) in
    let one : word (word n -ℤ word f) ≡ n -ℤ f = rw (en, ef) (wide (n -ℤ f) (wider (n -ℤ f) a)) in
    let two : word (word (word n -ℤ word f) -ℤ word s) ≡ (n -ℤ f) -ℤ s = rw (one, es) (wide ((n -ℤ f) -ℤ s) (widest ((n -ℤ f) -ℤ s) b)) in
    record {
      one = one;
      two = two;
      three = rw (two, et) (wide (((n -ℤ f) -ℤ s) -ℤ t) d);
      fits_three = rw (two, et) (fits (((n -ℤ f) -ℤ s) -ℤ t) d);
      size = d;
    }

pub overflow_sub-less_three : goal.overflow_sub-less_three
overflow_sub-less_three c =
    (left c.args.number c.args.first c.args.second c.args.third c.requires.number c.requires.first c.requires.second c.requires.third).fits_three

pub are_short-requires-clause-z_size : goal.are_short-requires-clause-z_size
are_short-requires-clause-z_size c =
    let l = left c.args.number c.args.first c.args.second c.args.third c.requires.number c.requires.first c.requires.second c.requires.third in
    rw l.three l.size

pub returns-then-are_short-clause-value : goal.returns-then-are_short-clause-value
returns-then-are_short-clause-value c =
    (left c.args.number c.args.first c.args.second c.args.third c.requires.number c.requires.first c.requires.second c.requires.third).three

pub returns-then-are_short-clause-small_first : goal.returns-then-are_short-clause-small_first
returns-then-are_short-clause-small_first c =
    let l = left c.args.number c.args.first c.args.second c.args.third c.requires.number c.requires.first c.requires.second c.requires.third in
    rw l.one at (c.are_short.ensures.x c.if-are_short.true)

pub returns-then-are_short-clause-small_second : goal.returns-then-are_short-clause-small_second
returns-then-are_short-clause-small_second c =
    let l = left c.args.number c.args.first c.args.second c.args.third c.requires.number c.requires.first c.requires.second c.requires.third in
    rw l.two at (c.are_short.ensures.y c.if-are_short.true)
