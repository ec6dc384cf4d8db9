use Rattle.std.proofs.Common.{◌≡◌, ℤ, w64, to_z, of_z, arith, ap, ◌∙◌, append_assoc}
use Rattle.std.proofs.lemmas.Int.{ints, to_z-of_z}
use Rattle.decimal_text.specs.Whole.{size_of}
use Rattle.sim_session.specs.Numbers.{sign_or, number_text}
use Rattle.sim_session.proofs.numbers.push_number.Goals as goal

pub returns : goal.returns
unfolding number_text
returns c =
    let mant : to_z w64 (of_z w64 c.args.d.mant) ≡ c.args.d.mant = omega (arith, ints) in
    let exponent = to_z-of_z w64 c.exponent_of-exponent.result (record { sfits = c.exponent_of-exponent.type_inv }) ∙ c.exponent_of-exponent.ensures in
    let first_sign = c.sign_of.ensures ∙ ap (λ (z : ℤ). sign_or 32 z) mant in
    let digits = c.size_of-size.ensures ∙ ap (λ (z : ℤ). size_of z) mant in
    let second_sign = c.sign_of-2.ensures ∙ ap (λ (z : ℤ). sign_or 43 z) exponent in
    let power = c.size_of.ensures ∙ ap (λ (z : ℤ). size_of z) exponent in
    rw (
      c.in_ok-push_digits-3.ensures,
      c.in_ok-push-4.ensures.items,
      c.in_ok-push-3.ensures.items,
      c.in_ok-push_digits-2.ensures,
      c.in_ok-push-2.ensures.items,
      c.in_ok-push_digits.ensures,
      c.in_ok-push.ensures.items,
      first_sign,
      digits,
      second_sign,
      power,
    ) (simp append_assoc)
