-- How near the moves of a track's text are to the least-squares baselines of its pairs.
use Rattle.std.specs.Prelude.{◌≡◌, ℕ, List, [], ◌∷◌, length, ℤ}
use Rattle.std.specs.List.{AllZip}
use Rattle.whole_math.specs.Rational.{◌≤ʳ◌}
use Rattle.whole_math.specs.Spread.{Baseline}
use Rattle.obs_rows.specs.declared.arcs.Arc.{Arc}
use Rattle.obs_rows.specs.declared.pair_rows.PairRows.{PairRows}
use Rattle.obs_rows.specs.Signals.{fine_signals}
use Rattle.obs_rows.specs.Data.{Observed}
use Rattle.obs_rows.specs.Best.{moved}
use Rattle.fix_decide.specs.Decisions.{first_of}
use Rattle.track_data.specs.declared.certs.TrackCert.{TrackCert}
use Rattle.track_data.specs.declared.tracks.Track.{Track}
use Rattle.track_data.specs.declared.tails.TrackTail.{TrackTail}
use Rattle.track_data.specs.declared.tails.TrackTail.TheVariants.{Fixed}
use Rattle.track_form.specs.Best.{track_sum}
use Rattle.track_form.specs.SumDecided.{pair_sum, IsPairData}
use Rattle.track_text.specs.Spelling.{track_spelling}
use Rattle.track_text.specs.Lengths.{IsWholeTrackCert}
use Rattle.vector_bound.specs.VectorBounds.{AreNear, IsInHundredths, move_units, hundredths_of_mm}
use Rattle.vector_bound.specs.PairBounds.{KeepsPairNear, IsPairBound}

-- Each number that the definition gives to the pair's rows, the integers z and the pair's move is one: for all data in the boxes of
-- these rows, the pair's least-squares baseline with the integers is within it of the move, in each coordinate
pub record KeepsPairBounds (arcs : List Arc) (signals : List ℕ) (p : PairRows) (z move : List ℤ) : Type 0 where
  pub units : (x : ℤ) → IsPairBound arcs signals p z move x → KeepsPairNear arcs signals p z move (move_units x)
  pub hundredths : (x y : ℤ) → IsPairBound arcs signals p z move x → IsInHundredths x y → KeepsPairNear arcs signals p z move (hundredths_of_mm y)

-- of all lists of baselines, one for each pair, bs has the least sum of squares of the whole track with the integers z, of these data
pub record AreLeastSquares (arcs : List Arc) (signals : List ℕ) (pairs : List PairRows) (z : List ℤ) (observed : List (List Observed)) (bs : List Baseline) : Type 0 where
  pub each : length bs ≡ length pairs
  pub least : (cs : List Baseline) → length cs ≡ length pairs → track_sum (pair_sum arcs signals) pairs observed z bs ≤ʳ track_sum (pair_sum arcs signals) pairs observed z cs

-- each baseline is within each number that the definition gives to its pair of the pair's move
abbrev pub AreWithinBounds : List Arc → List ℕ → List ℤ → List PairRows → List (List ℤ) → List Baseline → Type 0
AreWithinBounds arcs signals z [] [] [] = Unit {0}
AreWithinBounds arcs signals z (p ∷ ps) (move ∷ moves) (baseline ∷ baselines) = ((x : ℤ) → IsPairBound arcs signals p z move x → AreNear (move_units x) baseline (moved move)) × AreWithinBounds arcs signals z ps moves baselines
AreWithinBounds arcs signals z _ _ _ = ⊥

-- Each pair has its bounds, by its own rows. For all data in the boxes the least-squares baselines of the whole track, all pairs taken
-- together with the integers held, are within them too
pub record KeepsTrackBounds (arcs : List Arc) (signals : List ℕ) (pairs : List PairRows) (z : List ℤ) (moves : List (List ℤ)) : Type 0 where
  pub each : AllZip (λ p move. KeepsPairBounds arcs signals p z move) pairs moves
  pub together : (observed : List (List Observed)) → AllZip (IsPairData signals) pairs observed → (bs : List Baseline) → AreLeastSquares arcs signals pairs z observed bs →
      AreWithinBounds arcs signals z pairs moves bs

-- the text says that the rows are fixed, and its moves are so near with its first integers
abbrev pub AreNearLeastSquares : Track → TrackTail → Type 0
AreNearLeastSquares t (Fixed h moves best top) = KeepsTrackBounds t.arcs (fine_signals t.signals) t.pairs (first_of best) moves
AreNearLeastSquares t _ = ⊥

-- the text is the certificate of a track that does
pub record SpellsNearTrack (text : List ℕ) : Type 0 where
  pub cert : TrackCert
  pub whole : IsWholeTrackCert cert
  pub spelled : text ≡ track_spelling cert
  pub near : AreNearLeastSquares cert.track cert.tail
