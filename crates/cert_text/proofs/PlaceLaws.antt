-- A place is read by its name, and its line is short and has no line feed.
use Rattle.std.proofs.Common.{◌≡◌, ◌≤◌, ℕ, Bool, true, false, List, [], ◌∷◌, length, find, cond, Some, refl, sym, ap, ◌∙◌, subst, lit≤, arith, length-append}
use Rattle.std.specs.Str.{bytes_eq}
use Rattle.std.proofs.lemmas.Slice.Eq.{bytes_eq-Decides}
use Rattle.integer_form.specs.declared.faults.Place.{Place}
use Rattle.integer_form.specs.declared.faults.Place.TheVariants.{Y, Factor, Entry, Float, Point, Search, Sum}
use Rattle.cert_words.proofs.TextLaws.{has_no_feed, feed-append}
use Rattle.cert_lines.specs.Lines.{named_line}
use Rattle.cert_data.specs.Places.{name_of_place, place_of_name, places}

-- what was found passes the test
found_passes : {X : Type 0} → (test : X → Bool) (xs : List X) (x : X) → find test xs ≡ Some x → test x ≡ true
found_passes test [] x e = absurd cc
found_passes {X} test (y ∷ ys) x e = by_test (test y) refl e (found_passes test ys x)
  where
    by_test : (t : Bool) → test y ≡ t → cond t (Some y) (find test ys) ≡ Some x → (find test ys ≡ Some x → test x ≡ true) → test x ≡ true
    by_test true is e rest = let same : y ≡ x = cc in subst (λ (z : X). test z ≡ true) same is
    by_test false is e rest = rest e

named : (name : List ℕ) (place : Place) → place_of_name name ≡ Some place → name_of_place place ≡ name
named name place e = (bytes_eq-Decides (name_of_place place) name).0 (found_passes (λ (p : Place). bytes_eq (name_of_place p) name) places place e)

-- a place by its name after the words of its line
pub place_read : (words line name : List ℕ) (place : Place) → line ≡ named_line words name → Some place ≡ place_of_name name → line ≡ named_line words (name_of_place place)
place_read words line name place behind found = behind ∙ ap (named_line words) (sym (named name place (sym found)))

pub place_feed : (words : List ℕ) (p : Place) → has_no_feed words ≡ true → has_no_feed (named_line words (name_of_place p)) ≡ true
place_feed words p h = feed-append words (name_of_place p) h (name_feed p)
  where
    name_feed : (p : Place) → has_no_feed (name_of_place p) ≡ true
    name_feed Y = refl
    name_feed Factor = refl
    name_feed Entry = refl
    name_feed Float = refl
    name_feed Point = refl
    name_feed Search = refl
    name_feed Sum = refl

pub place_length : (words : List ℕ) (p : Place) → length words ≤ 100 → length (named_line words (name_of_place p)) ≤ 4096
place_length words p short =
    let name = name_length p in
    let both = length-append words (name_of_place p) in
    omega (arith, short, name, both)
  where
    name_length : (p : Place) → length (name_of_place p) ≤ 10
    name_length Y = lit≤ tt
    name_length Factor = lit≤ tt
    name_length Entry = lit≤ tt
    name_length Float = lit≤ tt
    name_length Point = lit≤ tt
    name_length Search = lit≤ tt
    name_length Sum = lit≤ tt
