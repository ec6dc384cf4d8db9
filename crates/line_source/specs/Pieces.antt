-- A file that was handed on in pieces.
use Rattle.std.specs.Prelude.{◌≡◌, ◌≤◌, ℕ, List, length, IfSome}
use Rattle.std.specs.declared.option.Option.{Option}
use Rattle.line_source.specs.Givens.{Given, GivesWhole}
use Rattle.line_source.specs.declared.transfer.TheConstants.{MAX_FILE}

-- All of a text was taken, which is what is reported of the file where something is: this number of bytes, for which the
-- taker stands. It is the text that the reads of the file under this name gave, to its end.
pub record IsTakenWhole (told : Option (List ℕ)) (name : List ℕ) (before now : List Given) (taken : ℕ) (stands_for : List ℕ → Type 0) : Type 0 where
  pub text : List ℕ
  pub told_is : IfSome told (λ bytes. text ≡ bytes)
  pub counted : taken ≡ length text
  pub fits : length text ≤ MAX_FILE
  pub stands : stands_for text
  pub given : GivesWhole name text before now
