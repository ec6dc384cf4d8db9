-- From one draw to the next.
use Rattle.std.proofs.Common.{◌≡◌, ℕ, suc, ◌+◌, List, [], ◌∷◌, ◌++◌, ℤ, refl, ap, ◌∙◌, add-one, arith}
use Rattle.sim_session.specs.Sequence.{next_state, state_after}
use Rattle.sim_session.specs.Values.{first_of}

-- the same state by another count
pub counted : (s seed n m : ℕ) → n ≡ m → s ≡ state_after seed n → s ≡ state_after seed m
counted s seed n m e h = h ∙ ap (λ (i : ℕ). state_after seed i) e

pub same_three : (a b c x y z : ℤ) → a ≡ x → b ≡ y → c ≡ z → a ∷ b ∷ c ∷ [] ≡ x ∷ y ∷ z ∷ []
same_three a b c x y z e f g = rw (e, f, g) refl

-- four draws further on
pub four_on : (s seed m n : ℕ) → n ≡ m + 4 → s ≡ next_state (next_state (next_state (next_state (state_after seed m)))) → s ≡ state_after seed n
four_on s seed m n e h = counted s seed (suc (suc (suc (suc m)))) n (omega (arith, e)) h

-- one satellite more
pub one_more : (f : ℕ → List ℤ) (k : ℕ) (cs : List (List ℤ)) (c : List ℤ) → cs ≡ first_of f k → c ≡ f k → cs ++ c ∷ [] ≡ first_of f (k + 1)
one_more f k cs c e h = rw (add-one, e, h) refl
