-- Parts of a number in the usual spelling.
use Rattle.std.specs.Prelude.{ℕ, ◌≡◌, Bool, true, false, List, ◌∷◌}
use Rattle.decimal_text.specs.Whole.{are_digits, number_from}

-- digits alone, which stand for n
pub record AreDigitsOf (text : List ℕ) (n : ℕ) : Type 0 where
  pub digits : are_digits text ≡ true
  pub value : n ≡ number_from 0 text

-- a text with `-` before it, or without
abbrev pub after_sign : Bool → List ℕ → List ℕ
after_sign true whole = 45 ∷ whole
after_sign false whole = whole
