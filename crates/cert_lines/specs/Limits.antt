-- Ranges by their greatest number.
use Rattle.std.specs.Prelude.{ℕ, pos, neg_ℤ}
use Rattle.cert_words.specs.declared.ranges.Range.{Range}

-- at most m in size
abbrev pub up_to : ℕ → Range
up_to m = record { low = neg_ℤ (pos m); high = pos m }

abbrev pub from_0_to : ℕ → Range
from_0_to m = record { low = pos 0; high = pos m }
