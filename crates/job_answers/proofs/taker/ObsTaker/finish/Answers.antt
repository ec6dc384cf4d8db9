use Rattle.std.proofs.Common.{◌∙◌, ℕ, List, sym, subst}
use Rattle.line_source.specs.Lines.{lines_of}
use Rattle.obs_store.specs.declared.file.ObsFile.{ObsFile}
use Rattle.rinex_head.specs.declared.system.System.{System}
use Rattle.rinex_head.specs.declared.system.System.TheVariants.{Gps}
use Rattle.rinex_head.specs.LineRules.{Gives}
use Rattle.rinex_obs.specs.Feeding.{IsAnswerTo}
use Rattle.rinex_obs.specs.ObsRules.{obs_of}
use Rattle.rinex2_obs.specs.Obs2Rules.{obs2_of}
use Rattle.job_answers.specs.declared.taker.Source.{Source}
use Rattle.job_answers.specs.Taking.{IsKeptOf, StandsForText}
use Rattle.job_answers.proofs.TakerLaws.{reader_answers}
use Rattle.job_answers.proofs.taker.ObsTaker.finish.Goals as goal

pub returns-in-Three-clause-answers : goal.returns-in-Three-clause-answers
returns-in-Three-clause-answers c = λ text stands.
    let held = subst (λ (s : Source). IsKeptOf s c.args.self.taken) c.in-Three.is c.args.self.kept in
    let fed = subst (λ (s : Source). StandsForText s text) c.in-Three.is stands in
    let answer = subst (λ (s : System). IsAnswerTo s text c.finish.result) held.1 (c.finish.ensures.answers text fed.0) in
    reader_answers (λ lines. obs_of Gps lines) text c.finish.result fed.1 answer.exact

pub returns-in-Two-clause-answers : goal.returns-in-Two-clause-answers
returns-in-Two-clause-answers c = λ text stands.
    let kept = subst (λ (s : Source). StandsForText s text) c.in-Two.is stands in
    let exact = subst (λ (t : List ℕ). Gives (obs2_of (lines_of t)) (λ (file : ObsFile). file) c.read_obs2.result) (c.deref.ensures.value ∙ sym kept.0) c.read_obs2.ensures.exact in
    reader_answers obs2_of text c.read_obs2.result kept.1 exact
