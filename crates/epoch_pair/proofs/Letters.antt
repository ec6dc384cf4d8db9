-- A letter that is found in a list is one of its letters, and what is found on each band fits together.
use Rattle.std.proofs.Common.{◌≡◌, ◌<◌, ℕ, zero, suc, Bool, true, false, not, ◌&&◌, ◌||◌, List, [], ◌∷◌, Some, IsTrue, arith, refl, ap, sym, ◌∙◌, ⊎_elim, subst}
use Rattle.std.specs.Prelude.{find, ◌==◌}
use Rattle.std.proofs.lemmas.Bool.{not-true, cond-true, cond-false, cases_Bool, eq-eqb, eqb-true, false≢true, or_left, or_right}
use Rattle.std.proofs.lemmas.Option.{none-some, same_Some}
use Rattle.obs_rows.specs.Letters.{is_letter}
use Rattle.obs_rows.specs.declared.units.TheConstants.{PHASES, BANDS_12, BANDS_15, BANDS_125}
use Rattle.obs_rows.specs.declared.bands.Signals.{Signals}
use Rattle.obs_rows.specs.Signals.{used_signals, fine_signals}
use Rattle.obs_rows.specs.CountedSignals.{phase_bands}
use Rattle.obs_rows.specs.declared.bands.TheConstants.{L1_LETTERS, L2_LETTERS, L5_LETTERS}
use Rattle.obs_rows.specs.declared.band_sets.TheConstants.{BANDS_L1_L2, BANDS_L1_L5, BANDS_L1_L2_L5}
use Rattle.obs_rows.specs.BandSets.{IsBandsNumber, bands_of, digit_of}
use Rattle.obs_rows.proofs.BandSetLaws.{each_number}
use Rattle.epoch_pair.specs.Signals.{is_common, letters_on, letter_on, is_among, IsLetterFor, AreLettersOf}

pub is_letter_found : (p : ℕ → Bool) (letters : List ℕ) (letter : ℕ) → find p letters ≡ Some letter → IsTrue (is_letter letters letter)
is_letter_found p [] letter is = absurd (none-some letter is)
is_letter_found p (x ∷ xs) letter is =
    ⊎_elim
    (λ (here : p x ≡ true). let same : x ≡ letter = same_Some x letter (sym (cond-true (p x) (Some x) (find p xs) here) ∙ is) in or_left (x == letter) (is_letter xs letter) (eq-eqb x letter same))
    (λ (later : p x ≡ false). or_right (x == letter) (is_letter xs letter) (is_letter_found p xs letter (sym (cond-false (p x) (Some x) (find p xs) later) ∙ is)))
    (cases_Bool (p x))

-- no letter is 0, so a band that has one is used
not_zero : (letters : List ℕ) (letter : ℕ) → is_letter letters 0 ≡ false → IsTrue (is_letter letters letter) → IsTrue (not (letter == 0))
not_zero letters letter none is =
    ⊎_elim (λ (zero : (letter == 0) ≡ true). absurd (false≢true (sym none ∙ subst (λ (n : ℕ). is_letter letters n ≡ true) (eqb-true letter 0 zero) is)))
    (λ (more : (letter == 0) ≡ false). ap not more)
    (cases_Bool (letter == 0))

some_letter : (letters : List ℕ) (letter : ℕ) → is_letter letters 0 ≡ false → IsTrue (is_letter letters letter) → (letter == 0) ≡ false
some_letter letters letter none is = not-true (letter == 0) (not_zero letters letter none is)

not_both : (a b : Bool) → not a ≡ true → not (a && b) ≡ true
not_both true b h = absurd (false≢true h)
not_both false b h = refl

used_band : (letters : List ℕ) (letter : ℕ) (b : Bool) → is_letter letters 0 ≡ false → IsTrue (is_letter letters letter) → IsTrue (not ((letter == 0) && b))
used_band letters letter b none is = not_both (letter == 0) b (not_zero letters letter none is)

used_band_too : (letters : List ℕ) (letter : ℕ) (b : Bool) → is_letter letters 0 ≡ false → IsTrue (is_letter letters letter) → IsTrue (not (b && (letter == 0)))
used_band_too letters letter false none is = refl
used_band_too letters letter true none is = not_zero letters letter none is

found_letter : (base rover : List Bool) (band letter : ℕ) → letter_on base rover band ≡ Some letter → IsTrue (is_letter (letters_on band) letter)
found_letter base rover band letter is = is_letter_found (is_common base rover (digit_of band)) (letters_on band) letter is

pub letter_or_zero : (base rover : List Bool) (band letter : ℕ) (used : Bool) → IsLetterFor used (letter_on base rover band) letter → IsTrue ((letter == 0) || is_letter (letters_on band) letter)
letter_or_zero base rover band letter true is = or_right (letter == 0) (is_letter (letters_on band) letter) (found_letter base rover band letter is)
letter_or_zero base rover band letter false is = or_left (letter == 0) (is_letter (letters_on band) letter) (eq-eqb letter 0 is)

-- a band of the number has a letter
on_used : (base rover : List Bool) (band letter n : ℕ) → is_among (bands_of n) band ≡ true → IsLetterFor (is_among (bands_of n) band) (letter_on base rover band) letter
    → IsTrue (is_letter (letters_on band) letter)
on_used base rover band letter n used is = found_letter base rover band letter (subst (λ (b : Bool). IsLetterFor b (letter_on base rover band) letter) used is)

-- L1 is a band of each number
pub l1_used : (base rover : List Bool) (n letter : ℕ) → IsBandsNumber n → IsLetterFor (is_among (bands_of n) 0) (letter_on base rover 0) letter → IsTrue (is_letter L1_LETTERS letter)
l1_used base rover n letter number is = on_used base rover 0 letter n (each_number (λ (m : ℕ). is_among (bands_of m) 0 ≡ true) refl refl refl n number) is

-- and so is L2 or L5
pub one_more : (base rover : List Bool) (n l2 l5 : ℕ) → IsBandsNumber n → IsLetterFor (is_among (bands_of n) 1) (letter_on base rover 1) l2
    → IsLetterFor (is_among (bands_of n) 2) (letter_on base rover 2) l5 → IsTrue (not ((l2 == 0) && (l5 == 0)))
one_more base rover n l2 l5 number is also =
    each_number (λ (m : ℕ). IsLetterFor (is_among (bands_of m) 1) (letter_on base rover 1) l2
    → IsLetterFor (is_among (bands_of m) 2) (letter_on base rover 2) l5 → IsTrue (not ((l2 == 0) && (l5 == 0))))
    (λ two five. used_band L2_LETTERS l2 (l5 == 0) refl (on_used base rover 1 l2 BANDS_L1_L2 refl two))
    (λ two five. used_band_too L5_LETTERS l5 (l2 == 0) refl (on_used base rover 2 l5 BANDS_L1_L5 refl five))
    (λ two five. used_band L2_LETTERS l2 (l5 == 0) refl (on_used base rover 1 l2 BANDS_L1_L2_L5 refl two)) n number is also

pub on_each_band : (P : ℕ → Type 0) → P 0 → P 1 → P 2 → (band : ℕ) → band < PHASES → P band
on_each_band P a b c zero inside = a
on_each_band P a b c (suc zero) inside = b
on_each_band P a b c (suc (suc zero)) inside = c
on_each_band P a b c (suc (suc (suc band))) inside = absurd (omega arith)

-- the phases of the letters stand on the bands of the number
pub used_bands : (base rover : List Bool) (n : ℕ) (s : Signals) → IsBandsNumber n → AreLettersOf (bands_of n) base rover s → phase_bands (fine_signals s) ≡ bands_of n
used_bands base rover n s number are =
    each_number (λ (m : ℕ). AreLettersOf (bands_of m) base rover s → phase_bands (fine_signals s) ≡ bands_of m)
    (λ (a : AreLettersOf BANDS_12 base rover s). let l5_unused : s.l5 ≡ 0 = a 2 (omega arith) in ap (λ (n : ℕ). phase_bands (used_signals s.l2 n)) l5_unused)
    (λ (a : AreLettersOf BANDS_15 base rover s).
    let l2_unused : s.l2 ≡ 0 = a 1 (omega arith) in
    let l5_used : (s.l5 == 0) ≡ false = some_letter L5_LETTERS s.l5 refl (found_letter base rover 2 s.l5 (a 2 (omega arith))) in
    rw (l5_used, l2_unused) refl)
    (λ (a : AreLettersOf BANDS_125 base rover s).
    let l2_used : (s.l2 == 0) ≡ false = some_letter L2_LETTERS s.l2 refl (found_letter base rover 1 s.l2 (a 1 (omega arith))) in
    let l5_used : (s.l5 == 0) ≡ false = some_letter L5_LETTERS s.l5 refl (found_letter base rover 2 s.l5 (a 2 (omega arith))) in
    rw (l5_used, l2_used) refl)
    n number are
