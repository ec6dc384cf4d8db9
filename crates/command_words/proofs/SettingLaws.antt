-- The names of the settings, and their numbers.
use Rattle.std.proofs.Common.{◌≡◌, ℕ, ◌+◌, ◌-◌, ◌*◌, List, [], ◌∷◌, ◌++◌, drop, Some, refl, sym, ap, subst, ◌∙◌}
use Rattle.std.proofs.lemmas.Option.{same_Some}
use Rattle.command_words.specs.declared.settings.Setting.{Setting}
use Rattle.command_words.specs.declared.settings.Setting.TheVariants.{Ratio, System}
use Rattle.command_words.specs.Numbers.{IsNumber, IsLetter, IsSatellite}
use Rattle.command_words.specs.Settings.{name_of, setting_of, IsValue, IsChosenBy}

-- what begins with a setting's name is of that setting
pub begins_with_name : (s : Setting) (text : List ℕ) → setting_of (name_of s ++ text) ≡ Some s
begins_with_name Ratio text = refl
begins_with_name s text = refl

pub is_name : (s : Setting) → setting_of (name_of s) ≡ Some s
is_name Ratio = refl
is_name s = refl

-- two settings whose names begin one text are one
pub one_name : (text : List ℕ) (s r : Setting) → setting_of text ≡ Some s → setting_of text ≡ Some r → s ≡ r
one_name text s r first second = same_Some s r (sym first ∙ second)

-- no name is another with more after it
pub no_longer_name : (s : Setting) (digits : List ℕ) → name_of s ≡ name_of s ++ 61 ∷ digits → ⊥
no_longer_name Ratio digits h = absurd (cc h)
no_longer_name s digits h = absurd (cc h)

-- only one text stands after a first part
pub same_behind : (front xs ys : List ℕ) → front ++ xs ≡ front ++ ys → xs ≡ ys
same_behind [] xs ys h = h
same_behind (b ∷ front) xs ys h = same_behind front xs ys (ap (λ (t : List ℕ). drop 1 t) h)

pub one_number : (word : List ℕ) (m n : ℕ) → IsNumber word m → IsNumber word n → m ≡ n
one_number word m n first second = first.value ∙ sym second.value

one_letter : (word : List ℕ) (m n : ℕ) → IsLetter word m → IsLetter word n → m ≡ n
one_letter word m n first second = cc (first.word_is, second.word_is)

-- a word sets a setting to one number
pub one_value : (s : Setting) (word : List ℕ) (m n : ℕ) → IsValue s word m → IsValue s word n → m ≡ n
one_value System word m n first second = one_letter word m n first second
one_value s word m n first second = one_number word m n first second

pub one_system : (word : List ℕ) (k l m n : ℕ) → IsSatellite word k m → IsSatellite word l n → k ≡ l
one_system word k l m n first second = cc (first.word_is, second.word_is)

pub one_satellite : (word : List ℕ) (k l m n : ℕ) → IsSatellite word k m → IsSatellite word l n → m ≡ n
one_satellite word k l m n first second =
    let tens : first.tens ≡ second.tens = cc (first.word_is, second.word_is) in
    let ones : first.ones ≡ second.ones = cc (first.word_is, second.word_is) in
    let same : 10 * (first.tens - 48) + (first.ones - 48) ≡ 10 * (second.tens - 48) + (second.ones - 48) = cc (tens, ones) in
    first.value ∙ same ∙ sym second.value

-- a setting is set to one number
pub one_choice : (given : List ℕ) (admits : ℕ → Type 0) (plain m n : ℕ) → IsChosenBy given admits plain m → IsChosenBy given admits plain n → m ≡ n
one_choice [] admits plain m n first second = first ∙ sym second
one_choice (v ∷ []) admits plain m n first second = first.0 ∙ sym second.0
one_choice (v ∷ w ∷ vs) admits plain m n first second = absurd first

-- what is chosen is admitted
pub choice_admitted : (given : List ℕ) (admits : ℕ → Type 0) (plain n : ℕ) → admits plain → IsChosenBy given admits plain n → admits n
choice_admitted [] admits plain n of_plain is = subst admits (sym is) of_plain
choice_admitted (v ∷ []) admits plain n of_plain is = subst admits (sym is.0) is.1
choice_admitted (v ∷ w ∷ vs) admits plain n of_plain is = absurd is
