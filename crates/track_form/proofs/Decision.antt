-- Where the values are separated by a ratio, the least integers with the moves are best by it, whatever the rivals' baselines are.
use Rattle.std.proofs.Common.{◌≡◌, ◌≢◌, ℕ, ◌≤◌, List, All, ℤ, pos, ◌+ℤ◌, ◌≤ℤ◌, ap, ◌∙◌}
use Rattle.std.specs.List.{AllZip}
use Rattle.whole_math.specs.Vectors.{len}
use Rattle.whole_math.proofs.Vectors.{len_last}
use Rattle.whole_math.specs.Rational.{Rational, ◌<ʳ◌}
use Rattle.whole_math.specs.Spread.{sum_of_rationals}
use Rattle.quadratic_form.specs.Rows.{value}
use Rattle.quadratic_form.specs.TwoLeast.{TwoLeast}
use Rattle.quadratic_form.proofs.Decision.{second_value}
use Rattle.fix_decide.specs.Decisions.{IsSeparated}
use Rattle.obs_rows.specs.Best.{IsLessByRatio}
use Rattle.obs_rows.proofs.RatioLaws.{less_by_1000}
use Rattle.fix_decide.proofs.DecisionLaws.{room, below_by_ratio}
use Rattle.track_form.specs.Fronts.{Front, track_form, track_top, BoundsPair, IsAtMost}
use Rattle.track_form.proofs.Bounds.{bound_of_track, top_at_most}

-- of all the pairs: from the bounds of their forms at the rival w, the bounds of their upper sums at z1, and the two least vectors
pub decided_by_ratio : (n h : ℕ) (fs : List Front) (ratio : ℕ) (us : List ℤ) (z1 z2 w : List ℤ) (ours theirs : List Rational) → All (λ f. f.h ≤ h) fs → pos 1 +ℤ len z1 ≡ pos n →
    TwoLeast (track_form n h fs) (len z1) z1 z2 → IsSeparated (pos ratio) (track_top h us) (value (track_form n h fs) z2) →
    len w ≡ len z1 → w ≢ z1 → AllZip IsAtMost ours us → AllZip (BoundsPair n w) fs theirs → IsLessByRatio ratio (sum_of_rationals ours) (sum_of_rationals theirs)
decided_by_ratio n h fs ratio us z1 z2 w ours theirs all e least separated l other upper lower =
    below_by_ratio (sum_of_rationals ours) (sum_of_rationals theirs) ratio h (track_top h us) (value (track_form n h fs) z2) (value (track_form n h fs) w) separated
    (second_value (track_form n h fs) (len z1) z1 z2 w least l other) (top_at_most h ours us upper) (bound_of_track n h w fs theirs all (len_last w (pos 1) ∙ ap (λ x. pos 1 +ℤ x) l ∙ e) lower)

-- and where the ratio is 1000 or more, strictly
pub track_decided : (n h : ℕ) (fs : List Front) (ratio : ℤ) (us : List ℤ) (z1 z2 w : List ℤ) (ours theirs : List Rational) → All (λ f. f.h ≤ h) fs → pos 1 +ℤ len z1 ≡ pos n →
    TwoLeast (track_form n h fs) (len z1) z1 z2 → pos 1000 ≤ℤ ratio → pos 0 ≤ℤ track_top h us → IsSeparated ratio (track_top h us) (value (track_form n h fs) z2) →
    len w ≡ len z1 → w ≢ z1 → AllZip IsAtMost ours us → AllZip (BoundsPair n w) fs theirs → sum_of_rationals ours <ʳ sum_of_rationals theirs
track_decided n h fs ratio us z1 z2 w ours theirs all e least r k separated l other upper lower =
    less_by_1000 (sum_of_rationals ours) (sum_of_rationals theirs)
    (decided_by_ratio n h fs 1000 us z1 z2 w ours theirs all e least (room (track_top h us) ratio (value (track_form n h fs) z2) r k separated) l other upper lower)
