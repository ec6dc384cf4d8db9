use Rattle.std.proofs.Common.{subst}
use Rattle.std.proofs.lemmas.Result.{err_from_is_err_and}
use Rattle.rinex_head.specs.declared.system.System.{System}
use Rattle.job_answers.specs.Answers.{IfEnds}
use Rattle.job_answers.specs.Works.{file_work}
use Rattle.job_answers.specs.SessionFiles.{AreFilesOf, StopsAtFiles}
use Rattle.job_answers.proofs.SessionLaws.{files_done, files_stop}
use Rattle.job_answers.proofs.session_command.answer_session.Goals as goal

pub returns : goal.returns
returns g c =
    let files = c.args.files.now in
    let files_after = c.read_session.new.files in
    let work = file_work g.F.Files files files_after in
    let read = c.in_ok-read.read in
    let base = c.args.base.now in
    let rover = c.args.rover.now in
    let nav = c.args.nav.now in
    files_done work base rover nav g.C.SessionCommand.answers c.args.options.now read.base read.rover read.nav c.end_on_files.result c.in_ok-read.ensures.opened c.in_ok-read.ensures.gives c.in_ok-read.ensures.whole
    (subst (λ (system : System). AreFilesOf system work.text_of base rover nav read.base read.rover read.nav) c.of_letter-system.ensures c.in_ok-read.ensures.read)
    c.end_on_files.ensures

pub returns-in_err-read : goal.returns-in_err-read
returns-in_err-read g c =
    let answered = err_from_is_err_and c.from_residual.result c.from_residual.ensures.1 in
    let files = c.args.files.now in
    let files_after = c.read_session.new.files in
    let work = file_work g.F.Files files files_after in
    let base = c.args.base.now in
    let rover = c.args.rover.now in
    let nav = c.args.nav.now in
    let why = c.in_err-read.field-0.0 in
    let stopped = c.in_err-read.ensures in
    rw (answered.1, answered.2)
    (files_stop work base rover nav g.C.SessionCommand.answers c.args.options.now why stopped.opened stopped.gives
    (subst (λ (system : System). IfEnds why (StopsAtFiles system work.text_of base rover nav)) c.of_letter-system.ensures stopped.stopped)
    stopped.refused stopped.fault stopped.named)
