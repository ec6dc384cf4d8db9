use Rattle.job_answers.specs.Works.{file_work}
use Rattle.command_words.specs.Words.{texts_of}
use Rattle.baseline_app.specs.Commands.{command_of}
use Rattle.baseline_app.proofs.Files.{run_ends, files_used, run_read}
use Rattle.baseline_app.proofs.top.write_answer.Goals as goal

pub returns-clause-run : goal.returns-clause-run
returns-clause-run g c =
    let work = file_work g.F.Files c.args.files.now c.answer_of-end.new.files in
    run_ends (texts_of c.args.words.now) work c.answer_of-end.result _ _ _ c.answer_of-end.ensures.answer c.write_end.ensures

pub returns-clause-files : goal.returns-clause-files
returns-clause-files g c = λ job asked. files_used _ (command_of job) c.answer_of-end.result _ _ _ (c.answer_of-end.ensures.done job asked) c.write_end.ensures

pub returns-clause-read : goal.returns-clause-read
returns-clause-read g c =
    let work = file_work g.F.Files c.args.files.now c.answer_of-end.new.files in
    run_read (texts_of c.args.words.now) work c.answer_of-end.result _ _ _ c.answer_of-end.ensures.answer c.write_end.ensures
