-- The kept arcs of two files, and that the track of an outcome stands for the files.
use Rattle.std.proofs.Common.{◌≡◌, ◌≤◌, ℕ, pos, [], ◌∷◌, List, length, All, arith, refl, subst}
use Rattle.obs_store.specs.declared.file.ObsFile.{ObsFile}
use Rattle.eph_store.specs.File.{Records}
use Rattle.obs_rows.specs.declared.arcs.Arc.{Arc}
use Rattle.obs_rows.specs.Arcs.{AreArcs}
use Rattle.slip_arcs.specs.Linked.{IsCutOf}
use Rattle.screening.specs.declared.screened.Screened.{Screened}
use Rattle.obs_rows.specs.declared.options.Options.{Options}
use Rattle.session.specs.Origins.{origin_of}
use Rattle.session.proofs.RangeLaws.{able, no_shifts}
use Rattle.track_data.specs.declared.certs.TrackCert.{TrackCert}
use Rattle.track_job.specs.declared.answers.TrackOutcome.{TrackOutcome}
use Rattle.track_job.specs.declared.answers.TrackAnswer.{TrackAnswer}
use Rattle.track_job.specs.declared.answers.TrackAnswer.TheVariants.{Full}
use Rattle.track_rows.proofs.StandsLaws.{track_stands}
use Rattle.track_job.specs.TrackOutcomes.{IsTrackable, IsTrackAnswer, IsTrackOutcome, tracked_with}
use Rattle.track_job.specs.TrackJobs.{TrackCertStandsForFiles}

pub some_length : {X : Type 0} (xs : List X) → (xs ≡ [] → ⊥) → 1 ≤ length xs
some_length [] none = absurd (none refl)
some_length (x ∷ xs) none = omega arith

-- arcs of which pairs are tried are those of a form
pub trackable_arcs : (f : Screened) (kept : List Arc) (taken : ℕ) → IsCutOf f.used kept → All (λ a. a.shift ≡ pos 0 ∷ pos 0 ∷ pos 0 ∷ []) kept → IsTrackable kept taken → AreArcs kept
trackable_arcs f kept taken cut zeros on = able f.used kept taken cut f.few f.numbered (no_shifts kept zeros) on.not_few on.not_many

-- what is known of a track that is decided
abbrev decided_at : (base rover : ObsFile) (nav : Records) (o : Options) (outcome : TrackOutcome) (cert : TrackCert) (is : IsTrackOutcome base rover nav o outcome) → outcome.answer ≡ Full cert
    → IsTrackAnswer is.screened is.kept is.position is.signals o outcome.taken outcome.lost (Full cert)
decided_at base rover nav o outcome cert is full =
    subst (λ (a : TrackAnswer). IsTrackAnswer is.screened is.kept is.position is.signals o outcome.taken outcome.lost a) full is.answer_is

pub track_stands_for : (base rover : ObsFile) (nav : Records) (o : Options) (outcome : TrackOutcome) (cert : TrackCert) → IsTrackOutcome base rover nav o outcome → outcome.answer ≡ Full cert
    → TrackCertStandsForFiles base rover nav o cert
track_stands_for base rover nav o outcome cert is full =
    let decided = decided_at base rover nav o outcome cert is full in
    let arcs = is.arcs_are in
    record {
      ratio_is = decided.1.1.ratio_is;
      budget_is = decided.1.1.budget_is;
      position = is.position;
      position_is = is.position_is;
      signals = is.signals;
      signals_are = is.signals_are;
      taken = is.taken;
      taken_are = is.taken_are;
      stands = track_stands (origin_of base rover nav o is.position is.signals is.taken) is.short is.screened is.kept (tracked_with cert.track outcome.lost)
          arcs.used_are arcs.boxes_are arcs.kept_are arcs.datums decided.1.0;
    }
