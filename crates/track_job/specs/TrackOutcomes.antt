-- The outcome of the files of a base and a moving rover.
use Rattle.std.specs.Prelude.{◌≡◌, ◌⊎◌, ◌↔◌, ℕ, IsTrue, List, [], length, All, ℤ}
use Rattle.obs_rows.specs.declared.arcs.Arc.{Arc}
use Rattle.obs_rows.specs.declared.bands.Signals.{Signals}
use Rattle.obs_rows.specs.Arcs.{free_count}
use Rattle.obs_rows.specs.Signals.{fine_signals}
use Rattle.obs_store.specs.declared.file.ObsFile.{ObsFile}
use Rattle.eph_store.specs.File.{Records}
use Rattle.epoch_pair.specs.declared.pairs.PairOf.{PairOf}
use Rattle.obs_rows.specs.BandSets.{bands_of}
use Rattle.screening.specs.declared.screened.Screened.{Screened}
use Rattle.round_steps.specs.Counts.{AreFew, AreMany}
use Rattle.obs_rows.specs.declared.options.Options.{Options}
use Rattle.epoch_pair.specs.Beginnings.{IsPosition, AreSignals, AreSparse, AreTaken, pairs_of}
use Rattle.session.specs.Answers.{HasDelta}
use Rattle.session.specs.ScreenedArcs.{AreScreenedArcs}
use Rattle.track_data.specs.declared.tracks.Track.{Track}
use Rattle.track_data.specs.declared.tails.TrackTail.{TrackTail}
use Rattle.track_data.specs.declared.certs.TrackCert.{TrackCert}
use Rattle.track_data.specs.declared.lost.Lost.{Lost}
use Rattle.track_data.specs.declared.lost.Tracked.{Tracked}
use Rattle.track_form.specs.PairFronts.{HasFront}
use Rattle.track_form.specs.Decided.{IsTrackDecision, IsSameTail, IsTrackBestWhereFixed}
use Rattle.track_job.specs.declared.answers.TrackOutcome.{TrackOutcome}
use Rattle.track_job.specs.declared.answers.TrackAnswer.{TrackAnswer}
use Rattle.track_job.specs.declared.answers.TrackAnswer.TheVariants.{Few, Arcs, Lost as NoneTracked, Full}
use Rattle.track_rows.specs.Tracks.{IsTrackOf}

-- a pair has four satellites in kept arcs, and the arcs aren't too many
pub record IsTrackable (kept : List Arc) (taken : ℕ) : Type 0 where
  pub not_few : AreFew taken kept → ⊥
  pub not_many : AreMany kept → ⊥

abbrev pub tracked_with : Track → List Lost → Tracked
tracked_with track lost = record { track = track; lost = lost }

-- What is decided of the tracked pairs, whose rows the certificate has: one decision. Each of these pairs
-- has a front, so no tail reports the refusal of one: a form is refused at the finish of the fronts' sum alone.
pub record IsDecidedTrack (options : Options) (cert : TrackCert) : Type 0 where
  pub ratio_is : cert.ratio ≡ options.ratio
  pub budget_is : cert.budget ≡ options.budget
  pub fronts : All (HasFront cert.track.arcs (fine_signals cert.track.signals)) cert.track.pairs
  pub decision : IsTrackDecision cert.track.arcs (fine_signals cert.track.signals) cert.track.pairs cert.ratio cert.budget cert.tail
  pub only : (t : TrackTail) → IsTrackDecision cert.track.arcs (fine_signals cert.track.signals) cert.track.pairs cert.ratio cert.budget t → IsSameTail t cert.tail
  pub by_ratio : IsTrackBestWhereFixed cert.ratio cert.track.arcs (fine_signals cert.track.signals) cert.track.pairs cert.tail

-- no pair is tracked, though some has four satellites in kept arcs
pub record HasNoTracked (screened : Screened) (kept : List Arc) (position : List ℤ) (signals : Signals) (options : Options) (lost : List Lost) : Type 0 where
  pub track : Track
  pub is : IsTrackOf screened kept position signals options.system (tracked_with track lost)
  pub none : track.pairs ≡ []

-- Few exactly where no taken pair has four satellites in kept arcs, else Arcs exactly where the arcs are too many, both before
-- any pair is tried; else each taken pair is tracked or lost: NoneTracked where all are lost, and else what is decided
abbrev pub IsTrackAnswer : Screened → List Arc → List ℤ → Signals → Options → ℕ → List Lost → TrackAnswer → Type 0
IsTrackAnswer screened kept position signals options taken lost (Few pairs) = (pairs ≡ taken) × (AreFew taken kept × (lost ≡ []))
IsTrackAnswer screened kept position signals options taken lost (Arcs free) = (free ≡ free_count kept) × ((AreFew taken kept → ⊥) × (AreMany kept × (lost ≡ [])))
IsTrackAnswer screened kept position signals options taken lost (NoneTracked pairs) = (pairs ≡ taken) × (IsTrackable kept taken × HasNoTracked screened kept position signals options lost)
IsTrackAnswer screened kept position signals options taken lost (Full cert) =
    IsTrackable kept taken × (IsTrackOf screened kept position signals options.system (tracked_with cert.track lost) × IsDecidedTrack options cert)

-- the counts, the pairs that are lost, and the answer over the kept arcs
pub record IsTrackOutcome (base rover : ObsFile) (nav : Records) (options : Options) (out : TrackOutcome) : Type 0 where
  pub position : List ℤ
  pub position_is : IsPosition base position
  pub signals : Signals
  pub signals_are : AreSignals (bands_of options.bands) base rover signals
  pub sparse : AreSparse options.gap base rover
  pub taken : List PairOf
  pub taken_are : AreTaken base rover options taken
  pub screened : Screened
  pub kept : List Arc
  pub short : ℕ
  pub arcs_are : AreScreenedArcs base rover nav options signals taken screened kept short
  pub taken_is : out.taken ≡ length taken
  pub all_is : out.all ≡ length (pairs_of base rover options)
  pub kept_is : out.kept ≡ length kept
  pub delta_is : IsTrue out.delta ↔ (HasDelta base ⊎ HasDelta rover)
  pub answer_is : IsTrackAnswer screened kept position signals options out.taken out.lost out.answer
