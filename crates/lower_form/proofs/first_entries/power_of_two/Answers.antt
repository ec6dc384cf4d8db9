use Rattle.std.proofs.Common.{◌≡◌, ℕ, ◌*◌, ◌%◌, ◌^◌, ◌≤◌, ℤ, pos, ◌≤ℤ◌, arith, sym, subst, to_z}
use Rattle.std.proofs.Math.Nat.{pow-le-pow_right}
use Rattle.std.proofs.lemmas.Int.{ints}
use Rattle.std.specs.Int.{w128}
use Rattle.whole_math.proofs.Inequalities.{pos_nn}
use Rattle.lower_form.proofs.first_entries.power_of_two.Goals as goal

power_word : (x : ℕ) → x ≤ 2 ^ 90 → to_z w128 (1 * x % 340282366920938463463374607431768211456) ≡ pos x
power_word x h = omega (arith, ints)

within : (x : ℕ) → x ≤ 2 ^ 90 → pos x ≤ℤ pos (2 ^ 90)
within x h = omega (arith, ints)

pub returns : goal.returns
returns c =
    let small : 2 ^ c.args.exponent ≤ 2 ^ 90 = pow-le-pow_right {n = 2} (omega arith) {i = c.args.exponent} {j = 90} c.requires in
    let value = power_word (2 ^ c.args.exponent) small in
    record {
      value = value;
      from = subst (λ (x : ℤ). pos 0 ≤ℤ x) (sym value) (pos_nn (2 ^ c.args.exponent));
      to = subst (λ (x : ℤ). x ≤ℤ pos (2 ^ 90)) (sym value) (within (2 ^ c.args.exponent) small);
    }
