-- The rows of a track and the tail of a text have one verdict.
use Rattle.std.proofs.Common.{◌≡◌, ◌≤◌, ℕ, ℤ, List, refl, sym, ap₂, ap, ◌∙◌, subst}
use Rattle.obs_rows.specs.declared.arcs.Arc.{Arc}
use Rattle.obs_rows.specs.declared.pair_rows.PairRows.{PairRows}
use Rattle.int_search.specs.declared.answer.TwoBest.{TwoBest}
use Rattle.fix_decide.specs.Decisions.{first_of}
use Rattle.cert_data.specs.declared.verdicts.Verdict.{Verdict}
use Rattle.cert_data.specs.declared.verdicts.Verdict.TheVariants.{Certified, Not}
use Rattle.cert_data.specs.declared.verdicts.Cause.TheVariants as cause
use Rattle.cert_check.specs.SameTails.{AreSameNumbers}
use Rattle.cert_check.proofs.SameNumbers.{same_numbers_on, same_numbers_back}
use Rattle.track_data.specs.declared.tails.TrackTail.{TrackTail}
use Rattle.track_data.specs.declared.tails.TrackTail.TheVariants.{Fixed, Unseparated, Weak, Overwidth, Spent}
use Rattle.track_form.specs.SumDecided.{IsBestByRatio}
use Rattle.track_form.proofs.RatioLaws.{ratio_is_strict}
use Rattle.track_form.specs.Decided.{IsSameTail, IsTrackDecision, IsTrackBestWhereFixed}
use Rattle.track_form.specs.Verdicts.{IsSaidOf, IsTrackVerdict, IsTrackBestIn, IsTrackBestByRatioIn}
use Rattle.track_form.proofs.OneDecision.{one_decision}

-- a text that says the numbers of one says those of the other
says_too : (t : TrackTail) (h k : ℕ) (ms ns : List (List ℤ)) (b c : TwoBest) (x y : ℤ) → AreSameNumbers h k ms ns b c x y → IsSameTail t (Fixed h ms b x) → IsSameTail t (Fixed k ns c y)
says_too (Fixed j os d v) h k ms ns b c x y same said = same_numbers_on j h k os ms ns d b c v x y said same
says_too (Unseparated j os d v) h k ms ns b c x y same said = absurd said
says_too (Weak column pivot) h k ms ns b c x y same said = absurd said
says_too (Overwidth place) h k ms ns b c x y same said = absurd said
says_too (Spent budget) h k ms ns b c x y same said = absurd said

-- ---- what is said of a fix
data SaidOfFix (t : TrackTail) (h : ℕ) (ms : List (List ℤ)) (b : TwoBest) (x : ℤ) (v : Verdict) : Type 0 where
  certified : IsSameTail t (Fixed h ms b x) → v ≡ Certified → SaidOfFix t h ms b x v
  unlike : (IsSameTail t (Fixed h ms b x) → ⊥) → v ≡ Not cause.Tail → SaidOfFix t h ms b x v

said_of_fix : (t : TrackTail) (h : ℕ) (ms : List (List ℤ)) (b : TwoBest) (x : ℤ) (v : Verdict) → IsSaidOf (Fixed h ms b x) t v → SaidOfFix t h ms b x v
said_of_fix t h ms b x Certified is = certified is refl
said_of_fix t h ms b x (Not (cause.Weak column pivot)) is = absurd is
said_of_fix t h ms b x (Not (cause.Overwidth place)) is = absurd is
said_of_fix t h ms b x (Not cause.Spent) is = absurd is
said_of_fix t h ms b x (Not cause.Unseparated) is = absurd is
said_of_fix t h ms b x (Not cause.Tail) is = unlike is refl

one_said : (t : TrackTail) (h k : ℕ) (ms ns : List (List ℤ)) (b c : TwoBest) (x y : ℤ) (v w : Verdict) → AreSameNumbers h k ms ns b c x y → SaidOfFix t h ms b x v → SaidOfFix t k ns c y w → v ≡ w
one_said t h k ms ns b c x y v w same (certified said is) (certified said_too is_too) = is ∙ sym is_too
one_said t h k ms ns b c x y v w same (certified said is) (unlike other is_too) = absurd (other (says_too t h k ms ns b c x y same said))
one_said t h k ms ns b c x y v w same (unlike other is) (certified said is_too) = absurd (other (says_too t k h ns ms c b y x (same_numbers_back h k ms ns b c x y same) said))
one_said t h k ms ns b c x y v w same (unlike other is) (unlike other_too is_too) = is ∙ sym is_too

-- ---- of one decision one verdict
same_said : (d e t : TrackTail) (v w : Verdict) → IsSameTail d e → IsSaidOf d t v → IsSaidOf e t w → v ≡ w
same_said (Fixed h ms b x) (Fixed k ns c y) t v w same a z = one_said t h k ms ns b c x y v w same (said_of_fix t h ms b x v a) (said_of_fix t k ns c y w z)
same_said (Unseparated h ms b x) (Unseparated k ns c y) t v w same a z = a ∙ sym z
same_said (Weak column pivot) (Weak other below) t v w same a z = a ∙ ap₂ (λ (n : ℕ) (p : ℤ). Not (cause.Weak n p)) same.0 same.1 ∙ sym z
same_said (Overwidth place) (Overwidth other) t v w same a z = a ∙ ap (λ p. Not (cause.Overwidth p)) same ∙ sym z
same_said (Spent budget) (Spent other) t v w same a z = a ∙ sym z
same_said _ _ t v w same a z = absurd same

pub one_verdict : (arcs : List Arc) (ss : List ℕ) (pairs : List PairRows) (ratio budget : ℕ) (t : TrackTail) (v w : Verdict) → IsTrackVerdict arcs ss pairs ratio budget t v →
    IsTrackVerdict arcs ss pairs ratio budget t w → v ≡ w
one_verdict arcs ss pairs ratio budget t v w a b = same_said a.decided b.decided t v w (one_decision arcs ss pairs ratio budget a.decided b.decided a.decision b.decision) a.said b.said

-- ---- what is certified
-- what is best by the ratio where the rows are fixed is so in a text that says the same
pub ratio_said : (ratio : ℕ) (arcs : List Arc) (ss : List ℕ) (pairs : List PairRows) (d t : TrackTail) → IsTrackBestWhereFixed ratio arcs ss pairs d → IsSaidOf d t Certified →
    IsTrackBestByRatioIn ratio arcs ss pairs t
ratio_said ratio arcs ss pairs (Fixed h ms b x) (Fixed k ns c y) best said =
    subst (λ (z : List ℤ). IsBestByRatio ratio arcs ss pairs z ns) (sym said.best_is.first_is)
    (subst (λ (moves : List (List ℤ)). IsBestByRatio ratio arcs ss pairs (first_of b) moves) (sym said.moved_is) best)
ratio_said ratio arcs ss pairs (Fixed h ms b x) (Unseparated k ns c y) best said = absurd said
ratio_said ratio arcs ss pairs (Fixed h ms b x) (Weak column pivot) best said = absurd said
ratio_said ratio arcs ss pairs (Fixed h ms b x) (Overwidth place) best said = absurd said
ratio_said ratio arcs ss pairs (Fixed h ms b x) (Spent spent) best said = absurd said
ratio_said ratio arcs ss pairs (Unseparated h ms b x) t best said = absurd cc
ratio_said ratio arcs ss pairs (Weak column pivot) t best said = absurd cc
ratio_said ratio arcs ss pairs (Overwidth place) t best said = absurd cc
ratio_said ratio arcs ss pairs (Spent spent) t best said = absurd cc

-- and so strictly best
pub strictly_in : (ratio : ℕ) (arcs : List Arc) (ss : List ℕ) (pairs : List PairRows) (t : TrackTail) → 1000 ≤ ratio → IsTrackBestByRatioIn ratio arcs ss pairs t → IsTrackBestIn arcs ss pairs t
strictly_in ratio arcs ss pairs (Fixed h moves best top) large is = ratio_is_strict ratio arcs ss pairs (first_of best) moves large is
strictly_in ratio arcs ss pairs (Unseparated h moves best top) large is = absurd is
strictly_in ratio arcs ss pairs (Weak column pivot) large is = absurd is
strictly_in ratio arcs ss pairs (Overwidth place) large is = absurd is
strictly_in ratio arcs ss pairs (Spent spent) large is = absurd is
