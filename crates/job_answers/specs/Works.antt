-- What a job does with its files, whatever the job.
use Rattle.std.specs.Prelude.{◌≡◌, ◌⊎◌, ◌≤◌, ℕ, true, List, [], ◌∷◌, ◌++◌, None, IfSome, Result}
use Rattle.std.specs.List.{last_or}
use Rattle.std.specs.declared.option.Option.{Option}
use Rattle.line_source.specs.declared.Files.{Ghosts}
use Rattle.line_source.specs.Causes.{Rose}
use Rattle.line_source.specs.Openings.{names_of, Unread, unread, OpensIt, OpensFirst, IsReadToEnd}
use Rattle.line_source.specs.Reports.{Unchanged, StillHolds}
use Rattle.line_source.specs.Givens.{Given, names_given, GivesFirst, known_text, IsKnownFrom}
use Rattle.job_answers.specs.declared.output.JobOutput.{JobOutput}
use Rattle.job_answers.specs.declared.stop.JobStop.{JobStop}
use Rattle.job_answers.specs.declared.status.Status.TheVariants.{Refused, ReadFault}
use Rattle.job_answers.specs.Statuses.{IsVerdictStatus}
use Rattle.job_answers.specs.Answers.{IfEnded}
use Rattle.job_answers.specs.Texts.{read_fault_line}
use Rattle.job_answers.specs.Endings.{Ending, ending, IsRefusedFile}
use Rattle.job_answers.specs.Commands.{Command}

-- what holds whatever is known of the texts by what was told before and by what the calls between two states gave
abbrev pub ForAllKnown : {F : Type 0} → Ghosts F → F → F → ((List ℕ → Option (List ℕ)) → Type 0) → Type 0
ForAllKnown files before after P = (known : List ℕ → Option (List ℕ)) → IsKnownFrom known (files.text_of before) (files.given before) (files.given after) → P known

-- the text under a name: what was told of it before, or else what was given under that name between two states, where all its openings
-- gave the same
abbrev pub known_between : {F : Type 0} → Ghosts F → F → F → List ℕ → Option (List ℕ)
known_between files before after = known_text (files.text_of before) (files.given before) (files.given after)

-- What is known of files by a job: the bytes under each name, by what is told of them before or by what its calls gave; what is
-- told; the names that can't fail; the count of faults, what was opened and what it gave before the job; and after it what was
-- opened, what it gave and what is left of it, and the count.
pub record FileWork : Type 1 where
  pub text_of : List ℕ → Option (List ℕ)
  pub told : List ℕ → Option (List ℕ)
  pub sure : List ℕ → Type 0
  pub openings : List (List ℕ × ℕ)
  pub given : List Given
  pub left : Unread
  pub faults : ℕ
  pub faults_now : ℕ

abbrev pub file_work : {F : Type 0} → Ghosts F → F → F → FileWork
file_work files before after = record {
  text_of = known_between files before after;
  told = files.text_of before;
  sure = files.is_sure_name before;
  openings = files.openings before;
  given = files.given before;
  left = unread (files.openings after) (files.unread after) (files.given after);
  faults = files.faults before;
  faults_now = files.faults after;
}

-- What a call does that has one file: it opens this file alone, once at most, and reads no other; the count of faults doesn't fall, and
-- the texts and the names that can't fail stay.
pub record UsesFile {F : Type 0} (files : Ghosts F) (name : List ℕ) (before after : F) : Type 0 where
  pub gives : GivesFirst (name ∷ []) (files.given before) (files.given after)
  pub opened : OpensFirst (name ∷ []) (files.openings before) (files.openings after)
  pub cause : files.faults before ≤ files.faults after
  pub texts : Unchanged (files.text_of before) (files.text_of after)
  pub sure_names : StillHolds (files.is_sure_name before) (files.is_sure_name after)

-- it opened the file, and read it to its end
pub record ReadsWhole {F : Type 0} (files : Ghosts F) (name : List ℕ) (before after : F) : Type 0 where
  pub opens : OpensIt name (files.openings before) (files.openings after)
  pub whole : IsReadToEnd (files.text_of before) (unread (files.openings after) (files.unread after) (files.given after)) name

-- exactly the files under these names were opened, in this order
abbrev pub AreOpened : List (List ℕ) → List (List ℕ × ℕ) → List (List ℕ × ℕ) → Type 0
AreOpened names before now = names_of now ≡ names_of before ++ names

abbrev pub AllEnded : List Given → Type 0
AllEnded [] = Unit {0}
AllEnded (g ∷ gs) = (g.ended ≡ true) × AllEnded gs

-- The reads between two states gave exactly the files under these names, in this order, each to its end.
pub record AreGivenWhole (names : List (List ℕ)) (before now : List Given) : Type 0 where
  pub more : List Given
  pub now_is : now ≡ before ++ more
  pub names_are : names_given more ≡ names
  pub ended : AllEnded more

-- All of these files were opened, each name once and in this order, and no other; each was read to its end.
pub record AreAllRead (work : FileWork) (names : List (List ℕ)) : Type 0 where
  pub opened : AreOpened names work.openings work.left.openings
  pub last : IfSome (last_or None names) (IsReadToEnd work.told work.left)
  pub whole : AreGivenWhole names work.given work.left.given

-- The line is that of a read fault of one of these files, which isn't one that can't fail. All files before it were opened, and it
-- too unless its opening failed, and no other.
pub record NamesFault (work : FileWork) (names : List (List ℕ)) (line : List ℕ) : Type 0 where
  pub earlier : List (List ℕ)
  pub name : List ℕ
  pub later : List (List ℕ)
  pub among : names ≡ earlier ++ name ∷ later
  pub opened : AreOpened earlier work.openings work.left.openings ⊎ AreOpened (earlier ++ name ∷ []) work.openings work.left.openings
  pub line_is : line ≡ read_fault_line name
  pub unsure : work.sure name → ⊥

abbrev pub IsFaultOf : FileWork → List (List ℕ) → Ending → Type 0
IsFaultOf work names end = end.status ≡ ReadFault → NamesFault work names end.err

-- The job ends with the refusal of one of these files. All files before it were read to their ends, and then it was opened, and no
-- other after it: it too was read to its end, or it gave more bytes than a file may have.
pub record RefusesOne (work : FileWork) (names : List (List ℕ)) (end : Ending) : Type 0 where
  pub earlier : List (List ℕ)
  pub name : List ℕ
  pub later : List (List ℕ)
  pub among : names ≡ earlier ++ name ∷ later
  pub given : List Given
  pub whole : AreGivenWhole earlier work.given given
  pub refused : IsRefusedFile work.told given work.left name end

abbrev pub IsRefusalAmong : FileWork → List (List ℕ) → Ending → Type 0
IsRefusalAmong work names end = end.status ≡ Refused → RefusesOne work names end

-- the command ends with a line about its files together, after each was read to its end
pub record RefusesAll (work : FileWork) (command : Command) (end : Ending) : Type 0 where
  pub line : List ℕ
  pub is : command.IsLine line
  pub end_is : end ≡ ending Refused [] line
  pub read : AreAllRead work command.file_words

-- The command ends so over its files. An answer comes after all files were opened and each was read to its end. A refusal is that of one of these files,
-- each before it read to its end, and it too, or it is too large; or it is about them together, after each was read to its end. A read
-- fault comes only where the count of faults rose, and names a file that isn't sure: the last that was opened, or the one after it.
pub record EndsOver (work : FileWork) (command : Command) (end : Ending) : Type 0 where
  pub ends_so : command.Ends work.text_of end
  pub answered : IsVerdictStatus end.status → AreAllRead work command.file_words
  pub refused : end.status ≡ Refused → RefusesOne work command.file_words end ⊎ RefusesAll work command end
  pub fault : end.status ≡ ReadFault → Rose work.faults work.faults_now
  pub named : IsFaultOf work command.file_words end

-- The files under a first part of the words were opened, each word once, and the command ends so, or ran out of memory.
pub record IsDoneOver (work : FileWork) (command : Command) (result : Result JobOutput JobStop) : Type 0 where
  pub opened : OpensFirst command.file_words work.openings work.left.openings
  pub given : GivesFirst command.file_words work.given work.left.given
  pub ended : IfEnded result (EndsOver work command)
