-- What is printed of a track: on out its certificate, or why there is none; on err how much of the files went into it,
-- which pairs are lost, and the places and the verdict.
use Rattle.std.specs.Prelude.{ℕ, ℤ, Bool, true, false, List, [], ◌∷◌, ◌++◌, codes}
use Rattle.std.specs.Fmt.{decimal}
use Rattle.obs_rows.specs.declared.pair_rows.PairRows.{PairRows}
use Rattle.report_text.specs.Baselines.{baseline_of, place_line}
use Rattle.report_text.specs.OutcomeText.{counts_text, decline_line, delta_text, verdict_line}
use Rattle.track_data.specs.declared.tracks.Track.{Track}
use Rattle.track_data.specs.declared.tails.TrackTail.{TrackTail}
use Rattle.track_data.specs.declared.tails.TrackTail.TheVariants.{Fixed}
use Rattle.track_data.specs.declared.lost.Lost.{Lost}
use Rattle.track_data.specs.declared.lost.LostCause.{LostCause}
use Rattle.track_data.specs.declared.lost.LostCause.TheVariants.{Rows, Coarse, Unsettled, Y, Weak, Wide}
use Rattle.track_text.specs.Spelling.{track_spelling}
use Rattle.track_text.specs.Lengths.{IsWholeTrackCert}
use Rattle.track_job.specs.declared.answers.TrackOutcome.{TrackOutcome}
use Rattle.track_job.specs.declared.answers.TrackAnswer.{TrackAnswer}
use Rattle.track_job.specs.declared.answers.TrackAnswer.TheVariants as answer

abbrev pub cause_word : LostCause → List ℕ
cause_word Rows = codes "rows"
cause_word Coarse = codes "coarse"
cause_word Unsettled = codes "unsettled"
cause_word Y = codes "y"
cause_word Weak = codes "weak"
cause_word Wide = codes "wide"

-- a pair that isn't tracked, and why
abbrev pub lost_line : Lost → List ℕ
lost_line l = codes "lost " ++ (decimal l.pair ++ (codes " " ++ (cause_word l.cause ++ codes "\n")))

abbrev pub lost_lines : List Lost → List ℕ
lost_lines [] = []
lost_lines (l ∷ lost) = lost_line l ++ lost_lines lost

-- a tracked pair by its number, and how far the rover lies from the base
abbrev pub pair_place_line : ℕ → List ℤ → List ℕ
pair_place_line number from_base = place_line (codes "place " ++ decimal number) from_base

-- the moved point of each pair, less the base
abbrev pub place_lines : List ℤ → List PairRows → List (List ℤ) → List (List ℤ) → List ℕ
place_lines base [] points moves = []
place_lines base (p ∷ pairs) [] moves = []
place_lines base (p ∷ pairs) (point ∷ points) [] = []
place_lines base (p ∷ pairs) (point ∷ points) (m ∷ moves) = pair_place_line p.number (baseline_of point base m) ++ place_lines base pairs points moves

-- the text for out: the certificate, or one line that says why there is none
abbrev pub track_answer_text : TrackAnswer → List ℕ
track_answer_text (answer.Few pairs) = decline_line (codes "few") pairs
track_answer_text (answer.Arcs free) = decline_line (codes "arcs") free
track_answer_text (answer.Lost pairs) = decline_line (codes "lost") pairs
track_answer_text (answer.Full cert) = track_spelling cert

-- the arrays of a certificate that is printed have their lengths, so that its text is no other's
abbrev pub IsWholeTrackAnswer : TrackAnswer → Type 0
IsWholeTrackAnswer (answer.Full cert) = IsWholeTrackCert cert
IsWholeTrackAnswer _ = Unit {0}

-- the places of a fix, and that it is one
abbrev pub tracked_text : Track → List (List ℤ) → List ℕ
tracked_text t moves = place_lines t.base t.pairs t.points moves ++ verdict_line true

-- what was decided on the rows of the tracked pairs
abbrev pub decided_text : Track → TrackTail → List ℕ
decided_text t (Fixed h moves best top) = tracked_text t moves
decided_text t _ = verdict_line false

abbrev pub track_verdict_text : TrackAnswer → List ℕ
track_verdict_text (answer.Full cert) = decided_text cert.track cert.tail
track_verdict_text _ = verdict_line false

-- the text for err
abbrev pub track_outcome_text : TrackOutcome → List ℕ
track_outcome_text outcome = counts_text outcome.taken outcome.all outcome.kept ++ (lost_lines outcome.lost ++ (delta_text outcome.delta ++ track_verdict_text outcome.answer))

-- whether the track is a fix
abbrev pub is_fixed_track : TrackTail → Bool
is_fixed_track (Fixed h moves best top) = true
is_fixed_track _ = false

abbrev pub is_track_fixed : TrackAnswer → Bool
is_track_fixed (answer.Full cert) = is_fixed_track cert.tail
is_track_fixed _ = false
