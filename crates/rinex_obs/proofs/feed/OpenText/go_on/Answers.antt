use Rattle.std.proofs.Common.{◌<◌, ◌++◌, Result, Err, length, length-append, sym, ap, ◌∙◌, arith}
use Rattle.obs_store.specs.declared.file.ObsFile.{ObsFile}
use Rattle.rinex_head.specs.declared.place.At.{At}
use Rattle.rinex_obs.specs.Opened.{expected_in}
use Rattle.rinex_obs.proofs.Feeds.{gives_long}
use Rattle.rinex_obs.proofs.feed.OpenText.go_on.Goals as goal

pub returns-in-Err-clause-err : goal.returns-in-Err-clause-err
returns-in-Err-clause-err c = λ system more.
    let line = c.args.self.now.line in
    let long : 4097 < length (line ++ c.args.bytes.now) = omega (arith, c.in-Err.ensures.long, length-append line c.args.bytes.now) in
    let refused : At → Result ObsFile At = λ at. Err at in
    gives_long system c.args.self.now.number (line ++ c.args.bytes.now) (expected_in c.args.self.now.file) more long ∙ ap refused (sym c.long_line.ensures)
