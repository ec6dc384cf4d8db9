-- When a text says what its rows are decided to say.
use Rattle.std.specs.Prelude.{◌≡◌, ℕ, ℤ}
use Rattle.int_search.specs.declared.answer.TwoBest.{TwoBest}
use Rattle.fix_decide.specs.Decisions.{first_of, second_of}
use Rattle.cert_data.specs.declared.tails.Tail.{Tail}
use Rattle.cert_data.specs.declared.tails.Tail.TheVariants.{Fixed}

-- the same integer vectors with the same values; of an array its entries for the integers count
pub record AreSameBest (b c : TwoBest) : Type 0 where
  pub first_is : first_of b ≡ first_of c
  pub second_is : second_of b ≡ second_of c
  pub p1_is : b.p1 ≡ c.p1
  pub p2_is : b.p2 ≡ c.p2

-- the same numbers of two fixes: the unit, 2^h, the move or moves, in 2^-5 ι, the two best vectors and the upper sum of the first
pub record AreSameNumbers {M : Type 0} (h k : ℕ) (moved other : M) (best other_best : TwoBest) (top over : ℤ) : Type 0 where
  pub h_is : h ≡ k
  pub moved_is : moved ≡ other
  pub best_is : AreSameBest best other_best
  pub top_is : top ≡ over

-- both say that the rows are fixed, with the same numbers
abbrev pub Says : Tail → Tail → Type 0
Says (Fixed h moved best top) (Fixed k other other_best over) = AreSameNumbers h k moved other best other_best top over
Says _ _ = ⊥
