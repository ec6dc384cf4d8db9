-- What a check says of the rows of a track and the tail of its text.
use Rattle.std.specs.Prelude.{◌≡◌, ℕ, List}
use Rattle.obs_rows.specs.declared.arcs.Arc.{Arc}
use Rattle.obs_rows.specs.declared.pair_rows.PairRows.{PairRows}
use Rattle.fix_decide.specs.Decisions.{first_of}
use Rattle.cert_data.specs.declared.verdicts.Verdict.{Verdict}
use Rattle.cert_data.specs.declared.verdicts.Verdict.TheVariants.{Certified, Not}
use Rattle.cert_data.specs.declared.verdicts.Cause.TheVariants as cause
use Rattle.track_data.specs.declared.tails.TrackTail.{TrackTail}
use Rattle.track_data.specs.declared.tails.TrackTail.TheVariants.{Fixed, Unseparated, Weak, Overwidth, Spent}
use Rattle.track_form.specs.SumDecided.{IsStrictlyBest, IsBestByRatio}
use Rattle.track_form.specs.Decided.{IsTrackDecision, IsSameTail}

-- What is said of rows that are decided to say d, where a text says t: certified where d is fixed and t is the same,
-- and else why not. Where the rows aren't fixed, the text doesn't count
abbrev pub IsSaidOf : TrackTail → TrackTail → Verdict → Type 0
IsSaidOf (Fixed h moves best top) t Certified = IsSameTail t (Fixed h moves best top)
IsSaidOf (Fixed h moves best top) t (Not cause.Tail) = IsSameTail t (Fixed h moves best top) → ⊥
IsSaidOf (Fixed h moves best top) t v = ⊥
IsSaidOf (Unseparated h moves best top) t v = v ≡ Not cause.Unseparated
IsSaidOf (Weak column pivot) t v = v ≡ Not (cause.Weak column pivot)
IsSaidOf (Overwidth place) t v = v ≡ Not (cause.Overwidth place)
IsSaidOf (Spent budget) t v = v ≡ Not cause.Spent

-- The rows are decided from themselves alone, and the text is compared with what they say
pub record IsTrackVerdict (arcs : List Arc) (signals : List ℕ) (pairs : List PairRows) (ratio budget : ℕ) (t : TrackTail) (v : Verdict) : Type 0 where
  pub decided : TrackTail
  pub decision : IsTrackDecision arcs signals pairs ratio budget decided
  pub said : IsSaidOf decided t v

-- the text says that the rows are fixed, and its first integers with its moves are strictly best for the rows
abbrev pub IsTrackBestIn : List Arc → List ℕ → List PairRows → TrackTail → Type 0
IsTrackBestIn arcs signals pairs (Fixed h moves best top) = IsStrictlyBest arcs signals pairs (first_of best) moves
IsTrackBestIn arcs signals pairs _ = ⊥

-- the same, and best by the ratio
abbrev pub IsTrackBestByRatioIn : ℕ → List Arc → List ℕ → List PairRows → TrackTail → Type 0
IsTrackBestByRatioIn ratio arcs signals pairs (Fixed h moves best top) = IsBestByRatio ratio arcs signals pairs (first_of best) moves
IsTrackBestByRatioIn ratio arcs signals pairs _ = ⊥
