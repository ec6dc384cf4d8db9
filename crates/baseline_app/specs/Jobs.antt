-- What the words end with: the command of the job that they ask for, or usage.
use Rattle.std.specs.Prelude.{◌≡◌, ◌⊎◌, ℕ, List, [], Result, Ok, Err}
use Rattle.job_answers.specs.declared.status.Status.TheVariants.{Usage, NoMemory}
use Rattle.job_answers.specs.declared.output.JobOutput.{JobOutput}
use Rattle.job_answers.specs.declared.stop.JobStop.{JobStop}
use Rattle.job_answers.specs.declared.stop.JobStop.TheVariants as stop
use Rattle.job_answers.specs.Answers.{ending_of}
use Rattle.job_answers.specs.Texts.{usage_line, no_memory_line}
use Rattle.job_answers.specs.Endings.{Ending, ending}
use Rattle.job_answers.specs.Works.{FileWork, EndsOver}
use Rattle.command_words.specs.declared.jobs.Job.{Job}
use Rattle.command_words.specs.Words.{IsJob}
use Rattle.baseline_app.specs.Commands.{command_of}

-- The words ask for a job, whose command ends so over its files. What a refusal or a read fault names stands in this end's text,
-- whether or not standard error takes it.
pub record AnswersJob (words : List (List ℕ)) (work : FileWork) (end : Ending) : Type 0 where
  pub job : Job
  pub asked : IsJob words job
  pub ends : EndsOver work (command_of job) end

-- the words ask for none
pub record AnswersUsage (words : List (List ℕ)) (end : Ending) : Type 0 where
  pub none : (job : Job) → IsJob words job → ⊥
  pub end_is : end ≡ ending Usage [] usage_line

-- the end of a job, also where memory ran out
abbrev pub stop_end : JobStop → Ending
stop_end (stop.Ended a) = ending_of a
stop_end stop.NoMemory = ending NoMemory [] no_memory_line

abbrev pub end_of : Result JobOutput JobStop → Ending
end_of (Ok a) = ending_of a
end_of (Err s) = stop_end s

-- what the words end with; out of memory may come in the place of either
abbrev pub IsAnswer : List (List ℕ) → FileWork → Ending → Type 0
IsAnswer words work end = AnswersJob words work end ⊎ (AnswersUsage words end ⊎ (end ≡ ending NoMemory [] no_memory_line))
