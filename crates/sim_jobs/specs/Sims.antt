-- What the command `sim` ends with, where it is asked for a file.
use Rattle.std.specs.Prelude.{◌≡◌, ℕ, List, []}
use Rattle.sim_session.specs.Texts.{IsMade}
use Rattle.sim_session.specs.declared.Made.{Made}
use Rattle.command_words.specs.declared.sims.File.{File}
use Rattle.command_words.specs.declared.sims.File.TheVariants as file
use Rattle.job_answers.specs.declared.status.Status.TheVariants.{Done}
use Rattle.job_answers.specs.Endings.{Ending, ending}

-- the text is that file of the session
abbrev pub IsFileOf : File → Made → List ℕ → Type 0
IsFileOf file.Base m text = text ≡ m.base.items
IsFileOf file.Rover m text = text ≡ m.rover.items
IsFileOf file.Nav m text = text ≡ m.nav.items

-- a file of one session of the seed, which has all three
pub record SimEnds (which : File) (seed epochs sats bands system : ℕ) (end : Ending) : Type 0 where
  pub session : Made
  pub made : IsMade seed epochs sats bands system session
  pub text : List ℕ
  pub is_file : IsFileOf which session text
  pub end_is : end ≡ ending Done text []
