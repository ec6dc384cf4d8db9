-- What a run decides as fixed, the rows say again: a check certifies it.
use Rattle.std.proofs.Common.{◌≡◌, ℕ, ℤ, List, refl}
use Rattle.obs_rows.specs.declared.arcs.Arc.{Arc}
use Rattle.obs_rows.specs.declared.pair_rows.PairRows.{PairRows}
use Rattle.int_search.specs.declared.answer.TwoBest.{TwoBest}
use Rattle.cert_data.specs.declared.verdicts.Verdict.{Verdict}
use Rattle.cert_data.specs.declared.verdicts.Verdict.TheVariants.{Certified, Not}
use Rattle.cert_data.specs.declared.verdicts.Cause.TheVariants as cause
use Rattle.cert_check.proofs.SameNumbers.{same_numbers, same_numbers_back}
use Rattle.track_data.specs.declared.tails.TrackTail.{TrackTail}
use Rattle.track_data.specs.declared.tails.TrackTail.TheVariants.{Fixed, Unseparated, Weak, Overwidth, Spent}
use Rattle.track_form.specs.Decided.{IsTrackDecision, IsSameTail}
use Rattle.track_form.specs.Verdicts.{IsSaidOf, IsTrackVerdict}

module _ (arcs : List Arc) (ss : List ℕ) (pairs : List PairRows) (ratio budget : ℕ) (h : ℕ) (moves : List (List ℤ)) (best : TwoBest) (top : ℤ) where
  pub certified_again : IsTrackDecision arcs ss pairs ratio budget (Fixed h moves best top) → IsTrackVerdict arcs ss pairs ratio budget (Fixed h moves best top) Certified
  certified_again decision = record { decided = Fixed h moves best top; decision = decision; said = same_numbers h moves best top }

  said_again : (d : TrackTail) (v : Verdict) → IsSameTail d (Fixed h moves best top) → IsSaidOf d (Fixed h moves best top) v → v ≡ Certified
  said_again (Fixed k others other over) Certified same said = refl
  said_again (Fixed k others other over) (Not cause.Tail) same said = absurd (said (same_numbers_back k h others moves other best over top same))
  said_again (Fixed k others other over) (Not (cause.Weak column pivot)) same said = absurd said
  said_again (Fixed k others other over) (Not (cause.Overwidth place)) same said = absurd said
  said_again (Fixed k others other over) (Not cause.Spent) same said = absurd said
  said_again (Fixed k others other over) (Not cause.Unseparated) same said = absurd said
  said_again (Unseparated k others other over) v same said = absurd same
  said_again (Weak column pivot) v same said = absurd same
  said_again (Overwidth place) v same said = absurd same
  said_again (Spent spent) v same said = absurd same

  -- each verdict on it is that one
  pub no_other : ((t : TrackTail) → IsTrackDecision arcs ss pairs ratio budget t → IsSameTail t (Fixed h moves best top))
      → (v : Verdict) → IsTrackVerdict arcs ss pairs ratio budget (Fixed h moves best top) v → v ≡ Certified
  no_other only v is = said_again is.decided v (only is.decided is.decision) is.said
