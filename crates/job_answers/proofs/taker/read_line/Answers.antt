use Rattle.std.proofs.Common.{◌∙◌, [], sym, subst}
use Rattle.rinex_head.specs.declared.system.System.{System}
use Rattle.rinex_obs.specs.Feeding.{IsAnswerTo}
use Rattle.job_answers.proofs.TakerLaws.{alone_2, alone_3}
use Rattle.job_answers.proofs.taker.read_line.Goals as goal

pub returns-then-begins_2 : goal.returns-then-begins_2
returns-then-begins_2 c = alone_2 c.args.line.now c.read_obs2.result c.requires.goes_on (sym c.begins_2.ensures ∙ c.if-begins_2.true) c.read_obs2.ensures.exact

pub returns-in-Ok : goal.returns-in-Ok
returns-in-Ok c =
    let answer = c.finish.ensures.answers c.args.line.now (c.in-Ok.ensures.stands [] c.new-feed.ensures.stands) in
    let of_gps = subst (λ (s : System). IsAnswerTo s c.args.line.now c.finish.result) (c.in-Ok.ensures.system ∙ c.new-feed.ensures.system) answer in
    alone_3 c.args.line.now c.finish.result c.requires.goes_on (sym c.begins_2.ensures ∙ c.if-begins_2.false) of_gps
