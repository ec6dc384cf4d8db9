-- Lists of names, name by name.
use Rattle.std.proofs.Common.{◌≡◌, ◌<◌, ◌≤◌, ◌+◌, ◌-◌, ◌==◌, ◌||◌, ℕ, zero, suc, Bool, true, false, List, [], ◌∷◌, ◌++◌, Ok, Err, Option, Some, None, refl, arith}
use Rattle.std.proofs.lemmas.Bool.Decides.{nat_tests}
use Rattle.obs_store.specs.declared.values.SatObs.{SatObs}
use Rattle.obs_store.specs.Satellites.{has_satellite}
use Rattle.rinex_head.specs.declared.place.Flaw.{Flaw}
use Rattle.rinex2_obs.specs.SatNumbers.{has_number, is_named, AreNames, FitsBehind, AreNew, IsWith}
use Rattle.rinex2_obs.specs.SatNames.{name_in, names_from}

-- one more name
pub names_more : (line : List ℕ) (first n : ℕ) (names : List (Option ℕ)) (name : Option ℕ) → 0 < n → Ok name ≡ name_in line first names
    → names_from line first n names ≡ names_from line (first + 3) (n - 1) (names ++ name ∷ [])
unfolding names_from
names_more line first zero names name some is = absurd (omega arith)
names_more line first (suc n) names name some is =
    let one_less : suc n - 1 ≡ n = omega arith in
    rw (← is, one_less) refl

pub names_stop : (line : List ℕ) (first n : ℕ) (names : List (Option ℕ)) (flaw : Flaw) → 0 < n → Err flaw ≡ name_in line first names → names_from line first n names ≡ Err flaw
unfolding names_from
names_stop line first zero names flaw some is = absurd (omega arith)
names_stop line first (suc n) names flaw some is = rw (← is) refl

-- no name is due
pub names_done : (line : List ℕ) (first n : ℕ) (names : List (Option ℕ)) → n ≤ 0 → names_from line first n names ≡ Ok names
unfolding names_from
names_done line first zero names none = refl
names_done line first (suc n) names none = absurd (omega arith)

-- a number that isn't there, after one more name
not_behind : (m : ℕ) (names : List (Option ℕ)) (name : Option ℕ) → is_named m names ≡ false → has_number m name ≡ false → is_named m (names ++ name ∷ []) ≡ false
not_behind m [] name none other = rw other refl
not_behind m (x ∷ names) name none other = by_first (has_number m x) refl none (λ none. not_behind m names name none other)
  where
    by_first : (t : Bool) → has_number m x ≡ t → (t || is_named m names) ≡ false → (is_named m names ≡ false → is_named m (names ++ name ∷ []) ≡ false) → is_named m ((x ∷ names) ++ name ∷ []) ≡ false
    by_first true is none again = absurd cc
    by_first false is none again = rw is (again none)

-- the first name has another number, and so have the others
not_first : (n m : ℕ) (names : List (Option ℕ)) → is_named n (Some m ∷ names) ≡ false → ((m == n) ≡ false) × (is_named n names ≡ false)
not_first n m names none = by_first (n == m) refl none
  where
    by_first : (t : Bool) → (n == m) ≡ t → (t || is_named n names) ≡ false → ((m == n) ≡ false) × (is_named n names ≡ false)
    by_first true is none = absurd cc
    by_first false is none = (grind (arith, nat_tests), none)

-- such a name stands after the others
pub names_added : (names : List (Option ℕ)) (name : Option ℕ) → AreNames names → FitsBehind names name → AreNames (names ++ name ∷ [])
names_added [] None are fits = tt
names_added [] (Some n) are fits = (fits.0, fits.1, refl, tt)
names_added (None ∷ names) None are fits = names_added names None are tt
names_added (None ∷ names) (Some n) are fits = names_added names (Some n) are fits
names_added (Some m ∷ names) None are fits = (are.0, are.1, not_behind m names None are.2 refl, names_added names None are.3 tt)
names_added (Some m ∷ names) (Some n) are fits =
    let other = not_first n m names fits.2 in
    (are.0, are.1, not_behind m names (Some n) are.2 other.0, names_added names (Some n) are.3 (fits.0, fits.1, other.1))

not_with : (n : ℕ) (sats : List SatObs) (s : SatObs) → has_satellite n sats ≡ false → (n == s.number) ≡ false → has_satellite n (sats ++ s ∷ []) ≡ false
not_with n [] s none other = rw other refl
not_with n (t ∷ sats) s none other = by_first (n == t.number) refl none (λ none. not_with n sats s none other)
  where
    by_first : (b : Bool) → (n == t.number) ≡ b → (b || has_satellite n sats) ≡ false
        → (has_satellite n sats ≡ false → has_satellite n (sats ++ s ∷ []) ≡ false) → has_satellite n ((t ∷ sats) ++ s ∷ []) ≡ false
    by_first true is none again = absurd cc
    by_first false is none again = rw is (again none)

-- the satellite of a name is another one than those of the names after it
pub new_behind : (sats : List SatObs) (s : SatObs) (names : List (Option ℕ)) → AreNew sats names → is_named s.number names ≡ false → AreNew (sats ++ s ∷ []) names
new_behind sats s [] are none = tt
new_behind sats s (None ∷ names) are none = new_behind sats s names are none
new_behind sats s (Some n ∷ names) are none =
    let other = not_first s.number n names none in
    (not_with n sats s are.0 other.0, new_behind sats s names are.1 other.1)

-- no satellite is read yet
pub new_at_first : (names : List (Option ℕ)) → AreNew [] names
new_at_first [] = tt
new_at_first (None ∷ names) = new_at_first names
new_at_first (Some n ∷ names) = (refl, new_at_first names)

-- after the satellite of the first name
pub next_new : (name : Option ℕ) (names : List (Option ℕ)) (before after : List SatObs) → AreNames (name ∷ names) → AreNew before (name ∷ names) → IsWith name before after → AreNew after names
next_new None names before after are new with = rw with new
next_new (Some n) names before after are new with =
    let sat = with.0 in
    let none : is_named sat.number names ≡ false = rw (with.1) are.2 in
    rw (with.2) (new_behind before sat names new.1 none)

pub names_behind : (name : Option ℕ) (names : List (Option ℕ)) → AreNames (name ∷ names) → AreNames names
names_behind None names are = are
names_behind (Some n) names are = are.3
