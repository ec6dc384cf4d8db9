use Rattle.std.proofs.Common.{◌≡◌, ◌<◌, ℕ, length}
use Rattle.obs_rows.specs.declared.units.TheConstants.{SIGNALS}
use Rattle.obs_rows.specs.Data.{number_at}
use Rattle.screening.specs.Amounts.{amount_in}
use Rattle.screening.proofs.amounts.amounts_in.Given as goal

-- the amounts of the earlier signals
abbrev pub invariant-loop-signal : goal.invariant-loop-signal
invariant-loop-signal l = record {
  all : length l.amounts ≡ SIGNALS;
  done : (s : ℕ) → s < l.signal → number_at l.amounts s ≡ amount_in l.types l.sat s;
}
