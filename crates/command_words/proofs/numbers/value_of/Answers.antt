use Rattle.std.proofs.Common.{ℕ, ◌+◌, ◌-◌, ◌*◌, ◌<◌, ◌≤◌, ◌^◌, get_or, sym, subst, arith}
use Rattle.decimal_text.specs.Whole.{number_from}
use Rattle.command_words.proofs.NumberLaws.{value_small, one_more_digit}
use Rattle.command_words.proofs.numbers.value_of.Goals as goal

pub overflow_mul-n : goal.overflow_mul-n
overflow_mul-n c =
    let more : 10 * c.loop-rest.n + (get_or c.loop-rest.rest.now 0 0 - 48) ≤ number_from c.loop-rest.n c.loop-rest.rest.now =
    one_more_digit c.loop-rest.n c.loop-rest.rest.now c.in-len1-up.len_at_least in
    let less : number_from c.loop-rest.n c.loop-rest.rest.now < 10 ^ 18 =
    subst (λ (m : ℕ). m < 10 ^ 18) (sym c.loop-rest.invariant.value) (value_small c.args.digits.now c.requires.digits c.requires.few) in
    omega arith

pub overflow_add-n : goal.overflow_add-n
overflow_add-n c =
    let more : 10 * c.loop-rest.n + (get_or c.loop-rest.rest.now 0 0 - 48) ≤ number_from c.loop-rest.n c.loop-rest.rest.now =
    one_more_digit c.loop-rest.n c.loop-rest.rest.now c.in-len1-up.len_at_least in
    let less : number_from c.loop-rest.n c.loop-rest.rest.now < 10 ^ 18 =
    subst (λ (m : ℕ). m < 10 ^ 18) (sym c.loop-rest.invariant.value) (value_small c.args.digits.now c.requires.digits c.requires.few) in
    omega arith
