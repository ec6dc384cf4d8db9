-- The loss-of-lock digits of satellites' values.
use Rattle.std.specs.Prelude.{◌≡◌, ◌%◌, ◌==◌, false, List, All, IfSome}
use Rattle.std.specs.declared.option.Option.{Option}
use Rattle.obs_store.specs.declared.values.Value.{Value}
use Rattle.obs_store.specs.declared.values.SatObs.{SatObs}

-- bit 0 of the digit isn't set, or there is no value
abbrev pub IsEvenLock : Option Value → Type 0
IsEvenLock value = IfSome value (λ v. (v.lock % 2 == 1) ≡ false)

-- no value of these satellites says that lock was lost
abbrev pub HaveEvenLocks : List SatObs → Type 0
HaveEvenLocks sats = All (λ s. All IsEvenLock s.values) sats
