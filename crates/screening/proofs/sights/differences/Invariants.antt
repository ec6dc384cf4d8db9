use Rattle.std.proofs.Common.{◌≡◌, ◌<◌, ℕ, length, unsigned_abs}
use Rattle.obs_rows.specs.declared.units.TheConstants.{SIGNALS}
use Rattle.obs_rows.specs.Data.{number_at}
use Rattle.screening.specs.Amounts.{difference}
use Rattle.screening.specs.Observed.{size_of}
use Rattle.screening.proofs.sights.differences.Given as goal

-- the differences of the earlier signals
abbrev pub invariant-loop-signal : goal.invariant-loop-signal
invariant-loop-signal l = record {
  all : length l.differences ≡ SIGNALS;
  done : (s : ℕ) → s < l.signal → number_at l.differences s ≡ difference l.base l.rover s;
  small : (s : ℕ) → s < l.signal → unsigned_abs (number_at l.differences s) < size_of s;
}
