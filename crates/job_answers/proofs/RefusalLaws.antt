-- Files that a session is made of are not refused.
use Rattle.std.proofs.Common.{◌≡◌, ℕ, ◌+◌, ◌-◌, ◌*◌, ◌<◌, List, Option, Bool, true, false, length, slice_index, sym, subst, arith}
use Rattle.obs_store.specs.declared.file.ObsFile.{ObsFile}
use Rattle.obs_store.specs.Epochs.{tags_of}
use Rattle.eph_store.specs.File.{Records}
use Rattle.epoch_pair.specs.Pairs.{AreApart, IsFirstClose}
use Rattle.epoch_pair.specs.Faults.{IsDense}
use Rattle.obs_rows.specs.declared.options.Options.{Options}
use Rattle.epoch_pair.specs.declared.faults.PairWhat.{PairWhat}
use Rattle.epoch_pair.specs.declared.faults.PairWhat.TheVariants.{NoBasePosition, NoSignal, Dense}
use Rattle.epoch_pair.specs.declared.faults.SessionFault.TheVariants as fault
use Rattle.obs_rows.specs.BandSets.{bands_of}
use Rattle.epoch_pair.specs.Beginnings.{HasPosition, HaveSignals, AreSparse, IsSessionFault}
use Rattle.epoch_pair.proofs.BeginLaws.{no_lack}
use Rattle.rinex_head.specs.Systems.{system_of}
use Rattle.job_answers.specs.Endings.{Ending}
use Rattle.job_answers.specs.SessionFiles.{AreFilesOf}
use Rattle.job_answers.specs.Refusals.{IsPairRefused}
use Rattle.job_answers.specs.SessionJobs.{AreAdmitted}

-- tags that are apart have none that is close
not_close : (gap : ℕ) (tags : List ℕ) (epoch : ℕ) → AreApart gap tags → IsFirstClose gap tags epoch → ⊥
not_close gap tags epoch apart close =
    let before : epoch - 1 + 1 ≡ epoch = let close_behind = close.behind in omega (arith, close_behind) in
    let inside : epoch - 1 + 1 < length tags = subst (λ (m : ℕ). m < length tags) (sym before) close.inside in
    let far : slice_index tags (epoch - 1) + 2 * gap < slice_index tags epoch = subst (λ (m : ℕ). slice_index tags (epoch - 1) + 2 * gap < slice_index tags m) before (apart (epoch - 1) inside) in
    let near = close.close in
    absurd (omega (arith, far, near))

not_dense : (gap : ℕ) (base rover : List ℕ) (in_rover : Bool) (epoch : ℕ) → AreApart gap base → AreApart gap rover → IsDense gap base rover in_rover epoch → ⊥
not_dense gap base rover false epoch b r dense = not_close gap base epoch b dense
not_dense gap base rover true epoch b r dense = not_close gap rover epoch r dense.1

-- two files with a position, signals and sparse epochs aren't refused
not_refused : (b r : ObsFile) (o : Options) (what : PairWhat) → HasPosition b → HaveSignals (bands_of o.bands) b r → AreSparse o.gap b r → IsSessionFault b r o (fault.Refused what) → ⊥
not_refused b r o NoBasePosition position signals sparse why = why position
not_refused b r o NoSignal position signals sparse why = no_lack (bands_of o.bands) b r signals why.1
not_refused b r o (Dense in_rover epoch) position signals sparse why = not_dense o.gap (tags_of b.epochs) (tags_of r.epochs) in_rover epoch sparse.0 sparse.1 why.1.1

pub never_refused : (text_of : List ℕ → Option (List ℕ)) (base rover nav : List ℕ) (o : Options) (b r : ObsFile) (n : Records) (end : Ending)
    → AreAdmitted text_of base rover nav o → AreFilesOf (system_of o.system) text_of base rover nav b r n → IsPairRefused b r o end → ⊥
never_refused text_of base rover nav o b r n end admitted are refused =
    not_refused b r o refused.what (admitted.position b are.base_is) (admitted.signals b r are.base_is are.rover_is) (admitted.sparse b r are.base_is are.rover_is) refused.why
