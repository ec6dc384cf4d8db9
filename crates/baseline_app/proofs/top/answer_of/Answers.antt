use Rattle.std.proofs.Common.{rules, refl, inl, inr, subst}
use Rattle.line_source.proofs.OpeningLaws.{none_first}
use Rattle.job_answers.proofs.KnownLaws.{no_more_given}
use Rattle.job_answers.specs.Works.{file_work, IsDoneOver}
use Rattle.job_answers.proofs.EndingLaws.{ended_weaker}
use Rattle.command_words.specs.declared.jobs.Job.{Job}
use Rattle.command_words.specs.Words.{texts_of, IsJob}
use Rattle.command_words.proofs.OneJob.{one_job}
use Rattle.baseline_app.specs.Commands.{command_of}
use Rattle.baseline_app.proofs.top.answer_of.Goals as goal

pub returns-in-Ok-clause-answer : goal.returns-in-Ok-clause-answer
returns-in-Ok-clause-answer g c =
    ended_weaker c.do_job.result _ _ (λ end over. inl (record { job = c.in-Ok.job; asked = c.in-Ok.ensures.job; ends = over })) c.do_job.ensures.done.ended

pub returns-in-Ok-clause-done : goal.returns-in-Ok-clause-done
returns-in-Ok-clause-done g c = λ job asked.
    let work = file_work g.F.Files c.args.files.now c.do_job.new.files in
    subst (λ (j : Job). IsDoneOver work (command_of j) c.do_job.result) (one_job (texts_of c.args.words.now) c.in-Ok.job job c.in-Ok.ensures.job asked)
    c.do_job.ensures.done

pub returns-in_ok-usage-in-Err-Usage-clause-answer : goal.returns-in_ok-usage-in-Err-Usage-clause-answer
returns-in_ok-usage-in-Err-Usage-clause-answer g c =
    let none : (job : Job) → IsJob (texts_of c.args.words.now) job → ⊥ = c.read_words.ensures.usage (search rules) in
    inr (record { none = none; end_is = search rules })

pub returns-in_ok-usage-in-Err-Usage-clause-done : goal.returns-in_ok-usage-in-Err-Usage-clause-done
returns-in_ok-usage-in-Err-Usage-clause-done g c = λ job asked. absurd (c.read_words.ensures.usage (search rules) job asked)

pub returns-in_err-usage-in-Err-Usage-clause-done : goal.returns-in_err-usage-in-Err-Usage-clause-done
returns-in_err-usage-in-Err-Usage-clause-done g c = λ job asked. absurd (c.read_words.ensures.usage (search rules) job asked)

pub returns-in-Err-NoMemory-clause-done : goal.returns-in-Err-NoMemory-clause-done
returns-in-Err-NoMemory-clause-done g c = λ job asked. record {
  opened = none_first (command_of job).file_words (g.F.Files.openings c.args.files.now) (g.F.Files.openings c.args.files.now) refl;
  given = no_more_given (command_of job).file_words (g.F.Files.given c.args.files.now) (g.F.Files.given c.args.files.now) refl;
  ended = tt;
}
