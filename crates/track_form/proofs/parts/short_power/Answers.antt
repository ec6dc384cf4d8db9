use Rattle.std.proofs.Common.{◌≡◌, ℕ, ◌*◌, ◌%◌, ◌^◌, ◌≤◌, ℤ, pos, unsigned_abs, arith, sym, subst, to_z}
use Rattle.std.proofs.Math.Nat.{pow-le-pow_right}
use Rattle.std.proofs.lemmas.Int.{ints}
use Rattle.std.specs.Int.{w64}
use Rattle.track_form.proofs.parts.short_power.Goals as goal

power_word : (x : ℕ) → x ≤ 2 ^ 60 → to_z w64 (1 * x % 18446744073709551616) ≡ pos x
power_word x h = omega (arith, ints)

within : (x : ℕ) → x ≤ 2 ^ 60 → unsigned_abs (pos x) ≤ 2 ^ 60
within x h = omega (arith, ints)

pub returns : goal.returns
returns c =
    let small : 2 ^ c.args.exponent ≤ 2 ^ 60 = pow-le-pow_right {n = 2} (omega arith) {i = c.args.exponent} {j = 60} c.requires.few in
    let value = power_word (2 ^ c.args.exponent) small in
    record {
      value = value;
      size = subst (λ (x : ℤ). unsigned_abs x ≤ 2 ^ 60) (sym value) (within (2 ^ c.args.exponent) small);
    }
