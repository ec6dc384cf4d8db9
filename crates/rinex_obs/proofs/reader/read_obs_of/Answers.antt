-- The feed stays one of the system.
use Rattle.std.proofs.Common.{◌≡◌, [], ◌∙◌, IfOk, subst}
use Rattle.line_source.specs.Lines.{lines_of}
use Rattle.obs_store.specs.declared.file.ObsFile.{ObsFile}
use Rattle.rinex_head.specs.declared.system.System.{System}
use Rattle.rinex_obs.specs.ObsForm.{IsObsFile}
use Rattle.rinex_obs.proofs.reader.read_obs_of.Goals as goal

pub returns-in-Ok-clause-only : goal.returns-in-Ok-clause-only
returns-in-Ok-clause-only c =
    let text = c.args.text.now in
    let answer = c.finish.ensures.answers text (c.in-Ok.ensures.stands [] c.new-feed.ensures.stands) in
    subst (λ (s : System). IfOk c.finish.result (λ file. (other : ObsFile) → IsObsFile s (lines_of text) other → other ≡ file)) (c.in-Ok.ensures.system ∙ c.new-feed.ensures.system) answer.only
