-- One digit more.
use Rattle.std.proofs.Common.{◌≡◌, ◌≤◌, ◌-◌, ◌^◌, true, get_or, arith}
use Rattle.std.proofs.lemmas.Bool.Decides.{nat_tests}
use Rattle.decimal_text.specs.Whole.{is_digit}
use Rattle.obs_fields.proofs.AmountLaws.{number_step, are_digits_step, room_step}
use Rattle.obs_fields.proofs.amounts.digits.Goals as goal

pub loop-rest-preserved : goal.loop-rest-preserved
loop-rest-preserved c =
    let text = c.args.text.now in
    let rest = c.loop-rest.rest.now in
    let some = c.in-len1-up.len_at_least in
    let digit : is_digit (get_or rest 0 0) ≡ true = grind (arith, nat_tests, c.if-b-lt48.false, c.if-b-gt57.false) in
    let small : get_or rest 0 0 - 48 ≤ 9 = omega (arith, c.if-b-gt57.false) in
    record {
      value = number_step text rest c.loop-rest.number c.loop-rest.invariant.value some;
      digits = are_digits_step text rest c.loop-rest.invariant.digits some digit;
      room = room_step rest c.loop-rest.number (get_or rest 0 0 - 48) (10 ^ 10) small some c.loop-rest.invariant.room;
    }
