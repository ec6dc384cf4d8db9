-- Where a text stops being of a form. A form says of a whole text whether it is one.
use Rattle.std.specs.Prelude.{◌≡◌, ℕ, List, [], ◌∷◌, ◌++◌, length}

-- some text of the form begins so
pub record Begins (Is : List ℕ → Type 0) (front : List ℕ) : Type 0 where
  pub further : List ℕ
  pub whole : Is (front ++ further)

-- no spelling that begins so goes on with the next byte or, at the end of the text, ends here
abbrev pub IsStuck : (List ℕ → Type 0) → List ℕ → List ℕ → Type 0
IsStuck Is front [] = Is front → ⊥
IsStuck Is front (b ∷ bs) = Begins Is (front ++ b ∷ []) → ⊥

-- the form fails first at that byte, or at the end of the text where it ends too soon
pub record FailsFirst (Is : List ℕ → Type 0) (text : List ℕ) (at : ℕ) : Type 0 where
  pub front : List ℕ
  pub rest : List ℕ
  pub text_is : text ≡ front ++ rest
  pub at_is : at ≡ length front
  pub begun : Begins Is front
  pub stuck : IsStuck Is front rest
