use Rattle.std.proofs.Common.{inl}
use Rattle.int_search.proofs.search.search.Goals as goal

pub returns-in_default : goal.returns-in_default
returns-in_default c = inl c.in_default.ensures
