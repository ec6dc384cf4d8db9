-- What holds of each state that can be reached: of the types at most 200 are listed and due.
use Rattle.std.proofs.Common.{◌≡◌, ◌-◌, ℕ, zero, suc, Bool, List, [], Ok}
use Rattle.gps_time.specs.declared.Tick.{Tick}
use Rattle.obs_store.specs.declared.series.Epoch.{Epoch}
use Rattle.obs_store.specs.declared.values.SatObs.{SatObs}
use Rattle.rinex_head.specs.declared.system.System.{System}
use Rattle.rinex_head.proofs.Stops.{IsKept}
use Rattle.rinex_head.proofs.TakenLines.{then_holds}
use Rattle.obs_fields.specs.declared.layout.Layout.TheVariants.{Rinex3}
use Rattle.obs_fields.specs.Labels.{event_line_of}
use Rattle.obs_fields.specs.Types.{kept_from}
use Rattle.obs_fields.specs.HeaderRules.{AfterLine, Inside, Whole, admit_header}
use Rattle.obs_fields.proofs.HeaderSteps.{HasFew, HasFewAfter, few_kept}
use Rattle.rinex_obs.specs.EpochLines.{epoch_line_of}
use Rattle.rinex_obs.specs.SatLines.{satellite_line_of}
use Rattle.obs_fields.specs.declared.header.Header.{Header}
use Rattle.rinex_obs.specs.declared.epoch_lines.EpochLine.{EpochLine}
use Rattle.rinex_obs.specs.declared.epoch_lines.EpochLine.TheVariants as line
use Rattle.rinex_obs.specs.ObsRules.{Expected, Head, Body, Sats, Skip, with_satellite, more_sats, more_lines, after_header, after_epoch, admit, obs_rules}

abbrev pub Holds : Expected → Type 0
Holds (Head s) = HasFew s
Holds (Body h epochs) = Unit {0}
Holds (Sats h epochs tag power sats n) = Unit {0}
Holds (Skip h epochs changes n) = Unit {0}

sats_hold : (h : Header) (epochs : List Epoch) (tag : Tick) (power : Bool) (sats : List SatObs) (n : ℕ) → Holds (more_sats h epochs tag power sats n)
sats_hold h epochs tag power sats zero = tt
sats_hold h epochs tag power sats (suc n) = tt

lines_hold : (h : Header) (epochs : List Epoch) (changes : Bool) (n : ℕ) → Holds (more_lines h epochs changes n)
lines_hold h epochs changes zero = tt
lines_hold h epochs changes (suc n) = tt

epoch_holds : (h : Header) (epochs : List Epoch) (l : EpochLine) → Holds (after_epoch h epochs l)
epoch_holds h epochs line.Blank = tt
epoch_holds h epochs (line.Event changes n) = lines_hold h epochs changes n
epoch_holds h epochs (line.Epoch tag power n) = sats_hold h epochs tag power [] n

header_holds : (l : AfterLine) → HasFewAfter l → Holds (after_header l)
header_holds (Inside s) few = few
header_holds (Whole h) few = tt

line_holds : (s next : Expected) (bytes : List ℕ) → Holds s → admit s bytes ≡ Ok next → Holds next
line_holds (Head s) next bytes holds is = then_holds Holds (admit_header Rinex3 s bytes) (λ l. after_header l) next (λ l gives. header_holds l (few_kept Rinex3 s bytes l holds gives)) is
line_holds (Body h epochs) next bytes holds is = then_holds Holds (epoch_line_of epochs bytes) (λ l. after_epoch h epochs l) next (λ l gives. epoch_holds h epochs l) is
line_holds (Sats h epochs tag power sats n) next bytes holds is =
    then_holds Holds (satellite_line_of h.system (kept_from h.system 0 h.types) sats bytes) (λ s. more_sats h epochs tag power (with_satellite sats s) (n - 1)) next
    (λ s gives. sats_hold h epochs tag power (with_satellite sats s) (n - 1)) is
line_holds (Skip h epochs changes n) next bytes holds is =
    then_holds Holds (event_line_of Rinex3 changes bytes) (λ u. more_lines h epochs changes (n - 1)) next (λ u gives. lines_hold h epochs changes (n - 1)) is

pub kept : (system : System) → IsKept (obs_rules system) Holds
kept system = record { starts = tt; keeps = line_holds }
