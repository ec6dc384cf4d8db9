use Rattle.std.proofs.Common.{◌≡◌, ℕ, ◌+◌, ◌^◌, ◌<◌, List, ℤ, pos, ◌+ℤ◌, length, drop, take, get_or, unsigned_abs, arith, ap, ◌∙◌, sym, subst, rules}
use Rattle.quadratic_form.specs.declared.sizes.TheConstants.{BASELINE_COLUMNS, MOST_FACTORS, MOST_INTEGERS}
use Rattle.obs_rows.specs.Arcs.{free_count}
use Rattle.obs_rows.specs.Signals.{phases, band}
use Rattle.obs_rows.specs.Ranges.{IsBelow}
use Rattle.obs_rows.specs.Integers.{integer}
use Rattle.round_steps.specs.Shifts.{growth}
use Rattle.round_steps.proofs.StepLaws.{word}
use Rattle.round_steps.proofs.ShiftLaws.{small_item, integers_are, integers_room, integers_small, few_integers, sum_word, sum_size}
use Rattle.round_steps.proofs.shifts.grown_shift.Goals as goal

pub integer_of-number-requires-clause-entries : goal.integer_of-number-requires-clause-entries
integer_of-number-requires-clause-entries c =
    let numbers : List ℤ = c.args.numbers.now in
    let whole : length numbers ≡ MOST_FACTORS = search rules in
    few_integers (length (phases c.args.signals.now)) (free_count c.args.arcs.now) (length (take MOST_INTEGERS (drop BASELINE_COLUMNS numbers)))
    c.requires.counted.phases_few c.requires.few_free (integers_room numbers whole)

pub growth-requires : goal.growth-requires
growth-requires c =
    let whole : length c.args.numbers.now ≡ MOST_FACTORS = search rules in
    let number : ℤ = c.integer_of-number.result in
    let small : unsigned_abs number < 2 ^ 46 = c.integer_of-number.ensures.size (2 ^ 46) (integers_small c.args.numbers.now (2 ^ 46) whole c.requires.numbers) (omega arith) in
    subst (λ (x : ℤ). unsigned_abs x < 2 ^ 46) (sym (word number small)) small

pub returns-clause-value : goal.returns-clause-value
returns-clause-value c =
    let numbers : List ℤ = c.args.numbers.now in
    let shift : List ℤ = c.args.arc.now.shift in
    let place : ℕ = band c.args.phase in
    let whole : length numbers ≡ MOST_FACTORS = search rules in
    let small : unsigned_abs c.integer_of-number.result < 2 ^ 46 = c.integer_of-number.ensures.size (2 ^ 46) (integers_small numbers (2 ^ 46) whole c.requires.numbers) (omega arith) in
    sum_word (get_or shift place (pos 0)) c.growth.result (small_item shift place (2 ^ 40) c.requires.shifts (omega arith)) c.growth.ensures.size
    ∙ ap (λ (g : ℤ). get_or shift place (pos 0) +ℤ g) (c.growth.ensures.value ∙ ap growth (word c.integer_of-number.result small ∙ c.integer_of-number.ensures.value
    ∙ ap (λ (z : List ℤ). integer c.args.arcs.now c.args.signals.now z c.args.k c.args.phase) (integers_are numbers whole)))

pub returns-clause-below : goal.returns-clause-below
returns-clause-below c = λ m below some.
    let shift : List ℤ = c.args.arc.now.shift in
    let place : ℕ = band c.args.phase in
    subst (IsBelow (m + 2 ^ 30)) (sym (sum_word (get_or shift place (pos 0)) c.growth.result (small_item shift place (2 ^ 40) c.requires.shifts (omega arith)) c.growth.ensures.size))
    (sum_size (get_or shift place (pos 0)) c.growth.result m (small_item shift place m below some) c.growth.ensures.size)
