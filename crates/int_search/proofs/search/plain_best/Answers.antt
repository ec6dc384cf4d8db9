use Rattle.int_search.proofs.PlainLaws.{answer_found, answer_visits, answer_spent, answer_wide, answer_end}
use Rattle.int_search.proofs.search.plain_best.Goals as goal

pub returns-clause-found : goal.returns-clause-found
returns-clause-found c = answer_found c.args.form.now c.identity.result c.args.budget c.identity.ensures.own c.search.result c.search.ensures

pub returns-clause-visits : goal.returns-clause-visits
returns-clause-visits c = answer_visits c.args.form.now c.identity.result c.args.budget c.search.result c.search.ensures

pub returns-clause-overwidth : goal.returns-clause-overwidth
returns-clause-overwidth c = answer_wide c.args.form.now c.identity.result c.args.budget c.requires c.identity.ensures.own c.search.result c.search.ensures

pub returns-clause-spent : goal.returns-clause-spent
returns-clause-spent c = answer_spent c.args.form.now c.identity.result c.args.budget c.requires c.search.result c.search.ensures

pub returns-clause-end : goal.returns-clause-end
returns-clause-end c = answer_end c.args.form.now c.identity.result c.args.budget c.requires c.identity.ensures.own c.search.result c.search.ensures
