-- What is reported of the file that was opened last, whose id is 0.
use Rattle.std.specs.Prelude.{ℕ, zero, suc, List, [], None, Some}
use Rattle.std.specs.declared.option.Option.{Option}
use Rattle.line_source.specs.declared.host.LastFile.{LastFile}
use Rattle.line_source.specs.declared.host.LastFile.TheVariants as last

abbrev pub of_first : ℕ → Option (List ℕ) → Option (List ℕ)
of_first zero told = told
of_first (suc n) told = None

-- what no read has given yet: of an open file what the file reports, and nothing of one that was read to its end
abbrev pub unread_of : {F : Type 0} → (F → Option (List ℕ)) → LastFile F → Option (List ℕ)
unread_of remaining last.None = None
unread_of remaining (last.Open file) = remaining file
unread_of remaining last.Ended = Some []
