-- What a run of `sim` with status 0 has written, where it is asked for a file.
use Rattle.std.specs.Prelude.{ℕ, List}
use Rattle.std.specs.Io.KnownBytes.{Appends}
use Rattle.command_words.specs.declared.sims.File.{File}
use Rattle.job_answers.specs.declared.status.Status.{Status}
use Rattle.job_answers.specs.declared.status.Status.TheVariants.{Done, Declined}
use Rattle.job_answers.specs.Delivered.{SinkChange}
use Rattle.sim_session.specs.Texts.{IsMade}
use Rattle.sim_session.specs.declared.Made.{Made}
use Rattle.sim_jobs.specs.Sims.{IsFileOf}

-- out has gained that file of a session of the seed, which has all three
pub record SaysMade (which : File) (seed epochs sats bands system : ℕ) (out : SinkChange) : Type 0 where
  pub session : Made
  pub made : IsMade seed epochs sats bands system session
  pub text : List ℕ
  pub is_file : IsFileOf which session text
  pub printed : Appends out.old out.new text

-- `sim` is never declined
abbrev pub SaysOfSim : File → ℕ → ℕ → ℕ → ℕ → ℕ → Status → SinkChange → Type 0
SaysOfSim which seed epochs sats bands system Done out = SaysMade which seed epochs sats bands system out
SaysOfSim which seed epochs sats bands system Declined out = ⊥
SaysOfSim which seed epochs sats bands system _ out = Unit {0}
