-- What a check says of the rows of a session and the tail of its text.
use Rattle.std.specs.Prelude.{◌≡◌, ℕ, List, ℤ}
use Rattle.obs_rows.specs.declared.sessions.Session.{Session}
use Rattle.obs_rows.specs.Best.{IsStrictlyBest, IsBestByRatio}
use Rattle.fix_decide.specs.Decisions.{first_of}
use Rattle.cert_data.specs.declared.tails.Tail.{Tail}
use Rattle.cert_data.specs.declared.tails.Tail.TheVariants.{Fixed, Unseparated, Weak, Overwidth, Unsettled, Spent}
use Rattle.cert_data.specs.declared.verdicts.Verdict.{Verdict}
use Rattle.cert_data.specs.declared.verdicts.Verdict.TheVariants.{Certified, Not}
use Rattle.cert_data.specs.declared.verdicts.Cause.TheVariants as cause
use Rattle.cert_check.specs.RowDecisions.{IsRowDecision}
use Rattle.cert_check.specs.SameTails.{Says}

-- What is said of rows that are decided to say d, where a text says t: certified where d is fixed and t says its numbers,
-- and else why not. Where the rows aren't fixed, the text doesn't count. Rows are never decided to be unsettled.
abbrev pub IsSaidOf : Tail → Tail → Verdict → Type 0
IsSaidOf (Fixed h moved best top) t Certified = Says t (Fixed h moved best top)
IsSaidOf (Fixed h moved best top) t (Not cause.Tail) = Says t (Fixed h moved best top) → ⊥
IsSaidOf (Fixed h moved best top) t v = ⊥
IsSaidOf (Unseparated h moved best top) t v = v ≡ Not cause.Unseparated
IsSaidOf (Weak column pivot) t v = v ≡ Not (cause.Weak column pivot)
IsSaidOf (Overwidth place) t v = v ≡ Not (cause.Overwidth place)
IsSaidOf (Unsettled entry) t v = v ≡ Not cause.Unseparated
IsSaidOf (Spent budget) t v = v ≡ Not cause.Spent

-- The rows are decided from themselves alone, and the text is compared with what they say
pub record IsVerdictOf (s : Session) (ratio budget : ℕ) (t : Tail) (v : Verdict) : Type 0 where
  pub decided : Tail
  pub decision : IsRowDecision s ratio budget decided
  pub said : IsSaidOf decided t v

-- the tail is fixed, and P holds of its first integers and its move
abbrev pub IsFixedWith : (List ℤ → List ℤ → Type 0) → Tail → Type 0
IsFixedWith P (Fixed h moved best top) = P (first_of best) moved
IsFixedWith P _ = ⊥

-- the text says that the rows are fixed, and its first integers with its move are best by the ratio for the rows
abbrev pub IsBestByRatioIn : ℕ → Session → Tail → Type 0
IsBestByRatioIn ratio s = IsFixedWith (IsBestByRatio ratio s)

-- and strictly best
abbrev pub IsBestIn : Session → Tail → Type 0
IsBestIn s = IsFixedWith (IsStrictlyBest s)
