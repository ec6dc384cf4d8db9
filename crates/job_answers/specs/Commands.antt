-- What is said of a command, whatever it is.
use Rattle.std.specs.Prelude.{ℕ, List}
use Rattle.std.specs.declared.option.Option.{Option}
use Rattle.job_answers.specs.declared.status.Status.{Status}
use Rattle.job_answers.specs.Endings.{Ending}
use Rattle.job_answers.specs.Delivered.{SinkChange}

-- what is known of the text under each name
abbrev pub KnownTexts : Type 0
KnownTexts = List ℕ → Option (List ℕ)

-- a command with its words
pub record Command : Type 1 where
  -- the words that stand for its files
  pub file_words : List (List ℕ)
  -- what it ends with, by what is known of the files
  pub Ends : KnownTexts → Ending → Type 0
  -- a line about all files together
  pub IsLine : List ℕ → Type 0
  -- all files are there and admitted, and they aren't refused together
  pub IsReadable : KnownTexts → Type 0
  -- what a run of it with status 0 or 1 says
  pub Says : KnownTexts → Status → SinkChange → Type 0
