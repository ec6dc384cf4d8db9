-- What reads gave.
use Rattle.std.proofs.Common.{◌≡◌, ◌≢◌, ◌<◌, ◌≤◌, ◌==◌, nat_lt, ℕ, Bool, true, false, if◌then◌else◌, List, [], ◌∷◌, ◌++◌, length, take, refl, sym, ap, ◌∙◌, append-nil, length-take, arith}
use Rattle.std.proofs.lemmas.Bool.Decides.{nat_tests}
use Rattle.line_source.specs.Givens.{Given, given_of, after_read, has_id, after_reading, GivesFirst, WasReadToEnd}

-- ---- the last opening
true_or : (t u : Bool) → u ≡ true → (if t then true else u) ≡ true
true_or true u is = refl
true_or false u is = is

has_last : (id : ℕ) (gs : List Given) (g : Given) → (g.id == id) ≡ true → has_id id (gs ++ g ∷ []) ≡ true
has_last id [] g is = rw is refl
has_last id (h ∷ hs) g is = true_or (h.id == id) (has_id id (hs ++ g ∷ [])) (has_last id hs g is)

more_of_last : (id : ℕ) (bytes : List ℕ) (room : ℕ) (gs : List Given) (g : Given) → (g.id == id) ≡ true
    → after_reading id bytes room (gs ++ g ∷ []) ≡ gs ++ after_read bytes room g ∷ []
unfolding after_reading
more_of_last id bytes room [] g is = rw is refl
more_of_last id bytes room (h ∷ hs) g is = rw (has_last id hs g is) (ap (λ (l : List Given). h ∷ l) (more_of_last id bytes room hs g is))

same_id : (id : ℕ) → (id == id) ≡ true
same_id id = grind (arith, nat_tests)

-- a read of the file that was opened last
pub more_last : (id : ℕ) (bytes : List ℕ) (room : ℕ) (before now later : List Given) (name text : List ℕ) (ended : Bool) → now ≡ before ++ given_of name id text ended ∷ []
    → later ≡ after_reading id bytes room now → later ≡ before ++ after_read bytes room (given_of name id text ended) ∷ []
more_last id bytes room before now later name text ended is more =
    more ∙ ap (λ (l : List Given). after_reading id bytes room l) is ∙ more_of_last id bytes room before (given_of name id text ended) (same_id id)

some_gave : (bytes : List ℕ) (room : ℕ) → 0 < length bytes → (if nat_lt 0 room then length bytes == 0 else false) ≡ false
some_gave bytes room some = grind (arith, nat_tests)

none_gave : (bytes : List ℕ) (room : ℕ) → 0 < room → length bytes ≡ 0 → (if nat_lt 0 room then length bytes == 0 else false) ≡ true
none_gave bytes room some none = grind (arith, nat_tests)

-- it gave some bytes
pub more_bytes : (id n : ℕ) (into : List ℕ) (before now later : List Given) (name text : List ℕ) → now ≡ before ++ given_of name id text false ∷ []
    → later ≡ after_reading id (take n into) (length into) now → n ≢ 0 → n ≤ length into → later ≡ before ++ given_of name id (text ++ take n into) false ∷ []
more_bytes id n into before now later name text is more some within =
    let long : 0 < length (take n into) = omega (arith, length-take n into) in
    more_last id (take n into) (length into) before now later name text false is more
    ∙ ap (λ (b : Bool). before ++ given_of name id (text ++ take n into) b ∷ []) (some_gave (take n into) (length into) long)

-- it gave none, for which there was room
pub more_none : (id n : ℕ) (into : List ℕ) (before now later : List Given) (name text : List ℕ) → now ≡ before ++ given_of name id text false ∷ []
    → later ≡ after_reading id (take n into) (length into) now → n ≡ 0 → 0 < length into → later ≡ before ++ given_of name id text true ∷ []
more_none id n into before now later name text is more none room =
    let nothing : take n into ≡ [] = ap (λ (m : ℕ). take m into) none in
    more_last id (take n into) (length into) before now later name text false is more
    ∙ ap (λ (b : Bool). before ++ given_of name id (text ++ take n into) b ∷ []) (none_gave (take n into) (length into) room (ap (λ (l : List ℕ). length l) nothing))
    ∙ ap (λ (l : List ℕ). before ++ given_of name id (text ++ l) true ∷ []) nothing
    ∙ ap (λ (l : List ℕ). before ++ given_of name id l true ∷ []) (append-nil text)

-- ---- which files were opened
pub gives_none : (names : List (List ℕ)) (before now : List Given) → now ≡ before → GivesFirst names before now
gives_none names before now same = record { more = []; now_is = same ∙ sym (append-nil before); count = 0; names_are = refl }

pub gives_one : (names : List (List ℕ)) (before now : List Given) (name : List ℕ) (id : ℕ) (text : List ℕ) (ended : Bool) → now ≡ before ++ given_of name id text ended ∷ []
    → GivesFirst (name ∷ names) before now
gives_one names before now name id text ended is = record { more = given_of name id text ended ∷ []; now_is = is; count = 1; names_are = refl }

pub met_end : (before now : List Given) (name : List ℕ) (id : ℕ) (text : List ℕ) → now ≡ before ++ given_of name id text true ∷ [] → WasReadToEnd now name
met_end before now name id text is = record { earlier = before; id = id; text = text; last = is }
