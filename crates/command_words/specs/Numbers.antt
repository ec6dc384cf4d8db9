-- Numbers and satellites as words.
use Rattle.std.specs.Prelude.{◌≡◌, ℕ, ◌+◌, ◌-◌, ◌*◌, ◌≤◌, true, List, [], ◌∷◌, length}
use Rattle.decimal_text.specs.Whole.{is_digit, are_digits, digit_sum}
use Rattle.obs_rows.specs.Ranges.{IsSystem}
use Rattle.rinex_head.specs.Systems.{last_number_of, system_of}

-- the word is 1 to 18 digits, which stand for n
pub record IsNumber (word : List ℕ) (n : ℕ) : Type 0 where
  pub digits : are_digits word ≡ true
  pub some : 1 ≤ length word
  pub few : length word ≤ 18
  pub value : n ≡ digit_sum word

-- a number from the least to the most
pub record IsNumberIn (least most : ℕ) (word : List ℕ) (n : ℕ) : Type 0 where
  pub number : IsNumber word n
  pub from : least ≤ n
  pub to : n ≤ most

-- the word is the letter of a system alone
pub record IsLetter (word : List ℕ) (letter : ℕ) : Type 0 where
  pub word_is : word ≡ letter ∷ []
  pub system : IsSystem letter

-- the word is a system's letter and the two digits of a number of its satellites: `G01` to `G32`, `E01` to `E36`
pub record IsSatellite (word : List ℕ) (letter n : ℕ) : Type 0 where
  pub tens : ℕ
  pub ones : ℕ
  pub word_is : word ≡ letter ∷ tens ∷ ones ∷ []
  pub system : IsSystem letter
  pub tens_digit : is_digit tens ≡ true
  pub ones_digit : is_digit ones ≡ true
  pub value : n ≡ 10 * (tens - 48) + (ones - 48)
  pub least : 1 ≤ n
  pub most : n ≤ last_number_of (system_of letter)
