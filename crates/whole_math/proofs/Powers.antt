-- Powers, above all those of two.
use Rattle.std.proofs.Common.{◌≡◌, ℕ, suc, ◌+◌, ◌-◌, ◌*◌, ◌≤◌, ◌^◌, pos, ◌*ℤ◌, arith, sym, ap, ◌∙◌}
use Rattle.std.proofs.lemmas.Nat.{pow-add}
use Rattle.std.proofs.Math.Nat.{pow-succ'}

-- b^(n + 1) = b b^n, over ℤ
pub pow_suc : (b n : ℕ) → pos (b ^ suc n) ≡ pos b *ℤ pos (b ^ n)
pow_suc b n = ap pos (pow-succ' b n)

-- 2^k 2^m = 2^(k + m - n) 2^n
pub power_split : (k m n : ℕ) → n ≤ k + m → 2 ^ k * 2 ^ m ≡ 2 ^ (k + m - n) * 2 ^ n
power_split k m n h = let exponents_add_up : k + m ≡ (k + m - n) + n = omega arith in sym (pow-add 2 k m) ∙ ap (λ (i : ℕ). 2 ^ i) exponents_add_up ∙ pow-add 2 (k + m - n) n
