-- What a run's calls gave and took, of which alone there is a report over the system's files and streams.
use Rattle.std.specs.Prelude.{◌≡◌, ◌⊎◌, ◌<◌, ℕ, true, List, [], ◌∷◌, ◌++◌, length}
use Rattle.line_source.specs.Givens.{Given, names_given, given_under}
use Rattle.line_source.specs.declared.transfer.TheConstants.{MAX_FILE}
use Rattle.rinex_head.specs.declared.place.At.{At}
use Rattle.job_answers.specs.declared.status.Status.TheVariants.{Refused}
use Rattle.job_answers.specs.Statuses.{number_of}
use Rattle.job_answers.specs.Texts.{refusal_line, too_large_line}
use Rattle.job_answers.specs.Endings.{Ending, ending}
use Rattle.job_answers.specs.Delivered.{SinkChange, GainsUnlessFault}
use Rattle.job_answers.specs.Commands.{Command}
use Rattle.job_answers.specs.Works.{AllEnded}

-- An answer: the reads gave exactly the files under the command's words, in this order, each to its end; and the writes took exactly
-- the two texts that the command ends with on these bytes, with the status of this number.
pub record AnswersByCalls (command : Command) (number : ℕ) (given given_now : List Given) (out out_now err err_now : List ℕ) : Type 0 where
  pub more : List Given
  pub reads : given_now ≡ given ++ more
  pub words : names_given more ≡ command.file_words
  pub ended : AllEnded more
  pub end : Ending
  pub ends : command.Ends (given_under more) end
  pub status : number ≡ number_of end.status
  pub out_took : out_now ≡ out ++ end.out
  pub err_took : err_now ≡ err ++ end.err

-- the line refuses this file at a place, and its reads gave it to its end
pub record RefusesRead (file : Given) (line : List ℕ) : Type 0 where
  pub at : At
  pub line_is : line ≡ refusal_line file.name at
  pub ended : file.ended ≡ true

-- the line says that this file is too large, and its reads gave more bytes than a file may have
pub record RefusesLarge (file : Given) (line : List ℕ) : Type 0 where
  pub line_is : line ≡ too_large_line file.name
  pub many : MAX_FILE < length file.bytes

-- the line refuses the file that was opened last, after each file before it was read to its end
pub record RefusesLast (more : List Given) (line : List ℕ) : Type 0 where
  pub earlier : List Given
  pub last : Given
  pub more_is : more ≡ earlier ++ last ∷ []
  pub ended : AllEnded earlier
  pub refused : RefusesRead last line ⊎ RefusesLarge last line

-- the line is about all files of the command together, after each was read to its end
pub record RefusesTogether (command : Command) (more : List Given) (line : List ℕ) : Type 0 where
  pub is : command.IsLine line
  pub words : names_given more ≡ command.file_words
  pub ended : AllEnded more

-- A refusal: the reads gave files under a first part of the command's words, in this order, each to its end, but for a last one that is
-- too large. The line refuses the last of them, or all together, and on these bytes the command ends with it. The writes took nothing
-- for out, and for err the line, or a first part of it before a write failed.
pub record RefusesByCalls (command : Command) (given given_now : List Given) (out out_now : List ℕ) (err : SinkChange) : Type 0 where
  pub more : List Given
  pub reads : given_now ≡ given ++ more
  pub later : List (List ℕ)
  pub words : command.file_words ≡ names_given more ++ later
  pub line : List ℕ
  pub refused : RefusesLast more line ⊎ RefusesTogether command more line
  pub ends : command.Ends (given_under more) (ending Refused [] line)
  pub out_took : out_now ≡ out
  pub err_took : GainsUnlessFault err line
