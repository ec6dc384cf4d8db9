use Rattle.integer_form.proofs.FormLaws.{lower_sums_below, last_entry_below}
use Rattle.integer_form.proofs.laws.lower_sum_law.Goals as goal

pub returns-clause-sums : goal.returns-clause-sums
returns-clause-sums c = lower_sums_below c.args.form.now

pub returns-clause-last : goal.returns-clause-last
returns-clause-last c = last_entry_below c.args.form.now
