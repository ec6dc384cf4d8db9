-- The steps of the sums over rows.
use Rattle.std.proofs.Common.{◌≡◌, ℕ, ◌+◌, ◌*◌, ◌^◌, ◌≤◌, ℤ, pos, ◌+ℤ◌, ◌≤ℤ◌, arith, to_z, of_z}
use Rattle.std.specs.Int.{w128}
use Rattle.whole_math.proofs.Inequalities.{both_nn}
use Rattle.whole_math.proofs.Order.{lins}
use Rattle.fix_decide.proofs.Words.{sum_word}

-- s is the sum so far, q is added, r is what is left, a is the whole
pub next : (s t q g r a : ℤ) → s +ℤ (g +ℤ r) ≡ a → q ≡ g → t ≡ s +ℤ q → t +ℤ r ≡ a
next s t q g r a h e k = omega (arith, lins)

pub record Step (t s q : ℤ) (i m : ℕ) : Type 0 where
  pub is : t ≡ s +ℤ q
  pub from : pos 0 ≤ℤ t
  pub to : t ≤ℤ pos ((i + 1) * m)

-- a word holds the next sum, where each of the parts is at most m
pub step : (s q : ℤ) (i m : ℕ) → pos 0 ≤ℤ s → s ≤ℤ pos (i * m) → pos 0 ≤ℤ q → q ≤ℤ pos m → (i + 1) * m ≤ 2 ^ 125 → Step (to_z w128 (of_z w128 (s +ℤ to_z w128 (of_z w128 q)))) s q i m
step s q i m h g k l n =
    let same_sum : to_z w128 (of_z w128 (s +ℤ to_z w128 (of_z w128 q))) ≡ s +ℤ q = sum_word s q h (omega (arith, lins)) k (omega (arith, lins)) in
    record {
      is = same_sum;
      from = rw same_sum (both_nn h k);
      to = rw same_sum (omega (arith, lins));
    }

pub times_below : (a n m : ℕ) → a ≤ n → n ≤ 15 → m ≤ 2 ^ 110 → a * m ≤ 2 ^ 125
times_below a n m h g k = grind arith
