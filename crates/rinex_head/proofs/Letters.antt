-- The letters of the systems.
use Rattle.std.proofs.Common.{◌≡◌, ◌⊎◌, inl, inr, ℕ, Bool, true, false, ◌||◌, ◌==◌, IsTrue, refl, sym, subst}
use Rattle.std.proofs.lemmas.Bool.{eqb-true}
use Rattle.rinex_head.specs.Systems.{letter_of, system_of}

-- the letter of a system is one of the two
pub one_letter : (letter : ℕ) → IsTrue ((letter == 71) || (letter == 69)) → (letter ≡ 71) ⊎ (letter ≡ 69)
one_letter letter is = by (letter == 71) refl is
  where
    by : (t : Bool) → (letter == 71) ≡ t → IsTrue (t || (letter == 69)) → (letter ≡ 71) ⊎ (letter ≡ 69)
    by true same one = inl (eqb-true letter 71 same)
    by false same one = inr (eqb-true letter 69 one)

-- the system of a letter has it
pub letter_again : (letter : ℕ) → IsTrue ((letter == 71) || (letter == 69)) → letter_of (system_of letter) ≡ letter
letter_again letter is = again (one_letter letter is)
  where
    again : (letter ≡ 71) ⊎ (letter ≡ 69) → letter_of (system_of letter) ≡ letter
    again (inl same) = subst (λ (l : ℕ). letter_of (system_of l) ≡ l) (sym same) refl
    again (inr same) = subst (λ (l : ℕ). letter_of (system_of l) ≡ l) (sym same) refl
