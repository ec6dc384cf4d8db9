-- What a job may end with: a status and two texts. These parts are those of every command.
use Rattle.std.specs.Prelude.{◌≡◌, ◌⊎◌, ℕ, ◌<◌, ◌≤◌, List, [], length, IfSome, Result, Err, Some}
use Rattle.std.specs.declared.option.Option.{Option}
use Rattle.line_source.specs.Lines.{lines_of}
use Rattle.line_source.specs.Openings.{Unread, IsReadToEnd}
use Rattle.line_source.specs.Givens.{Given, GivesWhole, GivesTooMany}
use Rattle.line_source.specs.declared.transfer.TheConstants.{MAX_FILE}
use Rattle.rinex_head.specs.declared.place.At.{At}
use Rattle.rinex_head.specs.FirstFailing.{IsFirstFailing}
use Rattle.job_answers.specs.declared.status.Status.{Status}
use Rattle.job_answers.specs.declared.status.Status.TheVariants.{Refused, ReadFault}
use Rattle.job_answers.specs.Texts.{refusal_line, too_large_line, read_fault_line}

pub record Ending : Type 0 where
  pub status : Status
  pub out : List ℕ
  pub err : List ℕ

abbrev pub ending : Status → List ℕ → List ℕ → Ending
ending status out err = record { status = status; out = out; err = err }

-- the text of the file, which is what is known of it where something is
pub record IsTextOf (text_of : List ℕ → Option (List ℕ)) (name text : List ℕ) : Type 0 where
  pub told_is : IfSome (text_of name) (λ bytes. text ≡ bytes)
  pub fits : length text ≤ MAX_FILE

abbrev pub HasTooManyBytes : (List ℕ → Option (List ℕ)) → List ℕ → Type 0
HasTooManyBytes text_of name = IfSome (text_of name) (λ bytes. MAX_FILE < length bytes)

-- the file has more bytes than a file may have
pub record IsTooLarge (text_of : List ℕ → Option (List ℕ)) (name : List ℕ) (end : Ending) : Type 0 where
  pub large : HasTooManyBytes text_of name
  pub end_is : end ≡ ending Refused [] (too_large_line name)

abbrev pub IsReadFault : List ℕ → Ending → Type 0
IsReadFault name end = end ≡ ending ReadFault [] (read_fault_line name)

abbrev pub EndsUnloaded : (List ℕ → Option (List ℕ)) → List ℕ → Ending → Type 0
EndsUnloaded text_of name end = IsTooLarge text_of name end ⊎ IsReadFault name end

-- The text is no file of this form. It is refused at the first line at which that shows, at the column and for the
-- reason that the rules of the form give.
pub record IsRefusal {F : Type 0} (gives : List (List ℕ) → Result F At) (IsFile : List (List ℕ) → Type 0) (name text : List ℕ) (end : Ending) : Type 0 where
  pub at : At
  pub none : IsFile (lines_of text) → ⊥
  pub first : IsFirstFailing IsFile (lines_of text) at.line
  pub gives_is : gives (lines_of text) ≡ Err at
  pub end_is : end ≡ ending Refused [] (refusal_line name at)

-- the job ends with what the file's text ends with
pub record EndsByText (text_of : List ℕ → Option (List ℕ)) (name : List ℕ) (ends : List ℕ → Ending → Type 0) (end : Ending) : Type 0 where
  pub text : List ℕ
  pub is : IsTextOf text_of name text
  pub ends_so : ends text end

-- that, or the file can't be had
abbrev pub EndsByFile : (List ℕ → Option (List ℕ)) → List ℕ → (List ℕ → Ending → Type 0) → Ending → Type 0
EndsByFile text_of name ends end = EndsByText text_of name ends end ⊎ EndsUnloaded text_of name end

-- the text of the file is known, and is one of this form
pub record IsAdmitted (text_of : List ℕ → Option (List ℕ)) (name : List ℕ) (IsFile : List (List ℕ) → Type 0) : Type 0 where
  pub text : List ℕ
  pub told_is : text_of name ≡ Some text
  pub fits : length text ≤ MAX_FILE
  pub file : IsFile (lines_of text)

-- The job ends with the file's refusal at a place. The file was opened after these, and read to its end: a read fault would have
-- come before.
pub record IsReadAndRefused (text_of : List ℕ → Option (List ℕ)) (before : List Given) (left : Unread) (name : List ℕ) (end : Ending) : Type 0 where
  pub at : At
  pub end_is : end ≡ ending Refused [] (refusal_line name at)
  pub read : IsReadToEnd text_of left name
  pub text : List ℕ
  pub given : GivesWhole name text before left.given

-- The job ends with that the file is too large, and it is. It was opened after these, and its reads gave more bytes than a file may
-- have.
pub record IsRefusedAsLarge (text_of : List ℕ → Option (List ℕ)) (before : List Given) (left : Unread) (name : List ℕ) (end : Ending) : Type 0 where
  pub large : IsTooLarge text_of name end
  pub given : GivesTooMany name before left.given

abbrev pub IsRefusedFile : (List ℕ → Option (List ℕ)) → List Given → Unread → List ℕ → Ending → Type 0
IsRefusedFile text_of before left name end = IsReadAndRefused text_of before left name end ⊎ IsRefusedAsLarge text_of before left name end

-- a refusal is that of this file
abbrev pub IsRefusalOf : (List ℕ → Option (List ℕ)) → List Given → Unread → List ℕ → Ending → Type 0
IsRefusalOf text_of before left name end = end.status ≡ Refused → IsRefusedFile text_of before left name end
