use Rattle.std.proofs.Common.{List, ℕ, subst}
use Rattle.std.proofs.lemmas.Result.{err_from_is_err_and}
use Rattle.job_answers.specs.Answers.{IfEnded}
use Rattle.job_answers.specs.Works.{file_work}
use Rattle.job_answers.specs.TextJobs.{EndsOnText}
use Rattle.line_source.specs.Givens.{IsKnownFrom}
use Rattle.job_answers.proofs.KnownLaws.{known_from}
use Rattle.job_answers.proofs.WorkLaws.{text_done, stop_done}
use Rattle.job_answers.proofs.text_command.answer_file.Goals as goal

pub returns : goal.returns
returns g c =
    let files = c.args.files.now in
    let files_after = c.load_file.new.files in
    let work = file_work g.F.Files files files_after in
    let read = c.in_ok-text.ensures in
    let job = g.C.TextCommand.job c.args.command.now in
    let known : IsKnownFrom work.text_of (g.F.Files.text_of files) (g.F.Files.given files) (g.F.Files.given files_after) = known_from (g.F.Files.text_of files) (g.F.Files.given files) (g.F.Files.given files_after) in
    text_done work c.args.name.now _ job c.end_on_text.result (read.text work.text_of known) read.reads.whole read.reads.opens read.given
    (subst (λ (text : List ℕ). IfEnded c.end_on_text.result (EndsOnText job c.args.name.now text)) c.deref.ensures.value c.end_on_text.ensures)

pub returns-in_err-text : goal.returns-in_err-text
returns-in_err-text g c =
    let answered = err_from_is_err_and c.from_residual.result c.from_residual.ensures.1 in
    let files = c.args.files.now in
    let files_after = c.load_file.new.files in
    let work = file_work g.F.Files files files_after in
    let stopped = c.in_err-text.ensures in
    let known : IsKnownFrom work.text_of (g.F.Files.text_of files) (g.F.Files.given files) (g.F.Files.given files_after) = known_from (g.F.Files.text_of files) (g.F.Files.given files) (g.F.Files.given files_after) in
    rw (answered.1, answered.2)
    (stop_done work c.args.name.now (g.C.TextCommand.job c.args.command.now) c.in_err-text.field-0.0 stopped.uses.opened stopped.uses.gives (stopped.stopped work.text_of known) stopped.refused stopped.fault stopped.sure)
