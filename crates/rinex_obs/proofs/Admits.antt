-- What one line gives where the state is held open.
use Rattle.std.proofs.Common.{◌≡◌, ◌<◌, ◌-◌, ℕ, zero, suc, Bool, List, [], ◌∷◌, ◌++◌, Option, Result, Ok, Err, OnOk, refl, arith}
use Rattle.gps_time.specs.declared.Tick.{Tick}
use Rattle.obs_store.specs.declared.series.Epoch.{Epoch}
use Rattle.obs_store.specs.Epochs.{epoch_of}
use Rattle.obs_store.specs.declared.values.SatObs.{SatObs}
use Rattle.rinex_head.specs.declared.place.Flaw.{Flaw}
use Rattle.rinex_head.specs.declared.place.TextFault.{TextFault}
use Rattle.rinex_head.specs.declared.place.TextFault.TheVariants.{Refused, NoMemory}
use Rattle.rinex_head.specs.Places.{and_then, place}
use Rattle.obs_fields.specs.Types.{kept_from}
use Rattle.obs_fields.specs.declared.header.Header.{Header}
use Rattle.rinex_obs.specs.SatLines.{satellite_line_of}
use Rattle.rinex_obs.specs.ObsRules.{Expected, Body, Sats, Skip, more_sats, more_lines, with_satellite, sats_with, admit}
use Rattle.rinex_obs.specs.Feeding.{Takes}

pub sats_due : (h : Header) (epochs : List Epoch) (tag : Tick) (power : Bool) (sats : List SatObs) (n : ℕ) → 0 < n → more_sats h epochs tag power sats n ≡ Sats h epochs tag power sats n
sats_due h epochs tag power sats zero some = absurd (omega arith)
sats_due h epochs tag power sats (suc n) some = refl

pub sats_all : (h : Header) (epochs : List Epoch) (tag : Tick) (power : Bool) (sats : List SatObs) (n : ℕ) → n ≡ 0
    → more_sats h epochs tag power sats n ≡ Body h (epochs ++ epoch_of tag power sats ∷ [])
sats_all h epochs tag power sats zero none = refl
sats_all h epochs tag power sats (suc n) none = absurd (omega arith)

-- one more line of an epoch, by what it gives of the satellites
pub sats_taken : (h : Header) (epochs : List Epoch) (tag : Tick) (power : Bool) (sats now : List SatObs) (n : ℕ) (bytes : List ℕ) (number : ℕ) (next : Expected) (r : Result (Unit {0}) TextFault)
    → Takes (sats_with h.system (kept_from h.system 0 h.types) sats bytes) number now r → OnOk r (next ≡ more_sats h epochs tag power now (n - 1))
    → Takes (admit (Sats h epochs tag power sats n) bytes) number next r
sats_taken h epochs tag power sats now n bytes number next r takes is = by_line (satellite_line_of h.system (kept_from h.system 0 h.types) sats bytes) r takes is
  where
    after : Option SatObs → Result Expected Flaw
    after s = Ok (more_sats h epochs tag power (with_satellite sats s) (n - 1))

    by_line : (line : Result (Option SatObs) Flaw) (r : Result (Unit {0}) TextFault) → Takes (and_then line (λ s. Ok (with_satellite sats s))) number now r
        → OnOk r (next ≡ more_sats h epochs tag power now (n - 1)) → Takes (and_then line after) number next r
    by_line (Ok s) (Ok u) takes is = let same : with_satellite sats s ≡ now = cc (takes) in rw (same, is) refl
    by_line (Ok s) (Err (Refused at)) takes is = absurd cc
    by_line (Err flaw) (Ok u) takes is = absurd cc
    by_line (Err flaw) (Err (Refused at)) takes is = let same : place number flaw.column flaw.what ≡ at = cc (takes) in rw same refl
    by_line (Ok s) (Err NoMemory) takes is = tt
    by_line (Err flaw) (Err NoMemory) takes is = tt

pub lines_due : (h : Header) (epochs : List Epoch) (changes : Bool) (n : ℕ) → 0 < n → more_lines h epochs changes n ≡ Skip h epochs changes n
lines_due h epochs changes zero some = absurd (omega arith)
lines_due h epochs changes (suc n) some = refl

pub lines_all : (h : Header) (epochs : List Epoch) (changes : Bool) (n : ℕ) → n ≡ 0 → more_lines h epochs changes n ≡ Body h epochs
lines_all h epochs changes zero none = refl
lines_all h epochs changes (suc n) none = absurd (omega arith)
