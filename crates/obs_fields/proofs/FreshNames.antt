-- Names of types that aren't listed yet: among bytes there is always a first one with which no name of a short list begins.
use Rattle.std.proofs.Common.{◌≡◌, ◌≢◌, ◌<◌, ◌≤◌, ◌+◌, ◌-◌, ◌⊎◌, inl, inr, ◌==◌, ◌&&◌, ◌||◌, ℕ, zero, suc, Bool, true, false, List, [], ◌∷◌, ◌++◌, length, All, nat_le, min, Result, Ok, Err, Option, Some, None, refl, subst, arith, length-append, if◌then◌else◌}
use Rattle.std.proofs.lemmas.Bool.Decides.{nat_tests}
use Rattle.std.specs.Str.{bytes_eq}
use Rattle.std.proofs.lemmas.List.Elements.{All-nil, All-cons, All-head, All-tail}
use Rattle.rinex_head.specs.declared.place.Flaw.{Flaw}
use Rattle.rinex_head.specs.declared.place.What.TheVariants.{Types}
use Rattle.rinex_head.specs.Places.{flawed}
use Rattle.rinex_head.specs.Fields.{whole_of}
use Rattle.rinex_head.proofs.TakenLines.{and_then_took, then_took}
use Rattle.decimal_text.specs.Fixed.{are_blank}
use Rattle.obs_fields.specs.declared.layout.Layout.{Layout}
use Rattle.obs_fields.specs.declared.labels.Label.{Label}
use Rattle.obs_fields.specs.declared.labels.Label.TheVariants as label
use Rattle.obs_fields.specs.declared.types.TypeList.{TypeList}
use Rattle.obs_fields.specs.Labels.{label_in}
use Rattle.obs_fields.specs.Layouts.{first_name_of, name_step_of, names_in_line_of, name_in, types_column_of, types_count_in, further_mark_in}
use Rattle.obs_fields.specs.Types.{is_listed, names_from, type_list, with_line, count_from, first_types_of, further_by, further_types_of}
use Rattle.obs_fields.specs.declared.types.TheConstants.{MOST_TYPES}

-- ---- a number that a list hasn't got

abbrev without : ℕ → List ℕ → List ℕ
without v [] = []
without v (x ∷ xs) = if x == v then without v xs else x ∷ without v xs

no_longer : (v : ℕ) (xs : List ℕ) → length (without v xs) ≤ length xs
no_longer v [] = omega arith
no_longer v (x ∷ xs) = by_test (x == v) (no_longer v xs)
  where
    by_test : (t : Bool) → length (without v xs) ≤ length xs → length (if t then without v xs else x ∷ without v xs) ≤ suc (length xs)
    by_test true le = omega (arith, le)
    by_test false le = omega (arith, le)

-- the number isn't there, or fewer are left without it
is_gone : (v : ℕ) (xs : List ℕ) → All (λ x. x ≢ v) xs ⊎ (length (without v xs) < length xs)
is_gone v [] = inl (All-nil (λ (x : ℕ). x ≢ v))
is_gone v (x ∷ xs) = by_first (x == v) refl (is_gone v xs)
  where
    by_first : (t : Bool) → (x == v) ≡ t → All (λ x. x ≢ v) xs ⊎ (length (without v xs) < length xs)
        → All (λ x. x ≢ v) (x ∷ xs) ⊎ (length (if t then without v xs else x ∷ without v xs) < suc (length xs))
    by_first true test (inl none) = inr (omega (arith, no_longer v xs))
    by_first true test (inr less) = inr (omega (arith, less))
    by_first false test (inl none) = let other : x ≢ v = grind (arith, nat_tests) in inl (All-cons (λ (x : ℕ). x ≢ v) x xs other none)
    by_first false test (inr less) = inr (omega (arith, less))

-- what the others are not, all are not, but for that number
all_back : (v c : ℕ) (xs : List ℕ) → c < v → All (λ x. x ≢ c) (without v xs) → All (λ x. x ≢ c) xs
all_back v c [] less none = All-nil (λ (x : ℕ). x ≢ c)
all_back v c (x ∷ xs) less none = by_first (x == v) refl none (λ none. all_back v c xs less none)
  where
    by_first : (t : Bool) → (x == v) ≡ t → All (λ x. x ≢ c) (if t then without v xs else x ∷ without v xs)
        → (All (λ x. x ≢ c) (without v xs) → All (λ x. x ≢ c) xs) → All (λ x. x ≢ c) (x ∷ xs)
    by_first true test none rest = let other : x ≢ c = grind (arith, nat_tests, less) in All-cons (λ (x : ℕ). x ≢ c) x xs other (rest none)
    by_first false test none rest = All-cons (λ (x : ℕ). x ≢ c) x xs (All-head (λ (x : ℕ). x ≢ c) x (without v xs) none) (rest (All-tail (λ (x : ℕ). x ≢ c) x (without v xs) none))

-- among more numbers from one on than the list has, one isn't in it
pub record IsFree (first count : ℕ) (xs : List ℕ) : Type 0 where
  pub number : ℕ
  pub from : first ≤ number
  pub below : number < first + count
  pub none : All (λ x. x ≢ number) xs

pub a_free_one : (first count : ℕ) (xs : List ℕ) → length xs < count → IsFree first count xs
a_free_one first zero xs few = absurd (omega (arith, few))
a_free_one first (suc count) xs few = by_last (is_gone (first + count) xs) (λ less. a_free_one first count (without (first + count) xs) (omega (arith, few, less)))
  where
    by_last : All (λ x. x ≢ first + count) xs ⊎ (length (without (first + count) xs) < length xs)
        → (length (without (first + count) xs) < length xs → IsFree first count (without (first + count) xs)) → IsFree first (suc count) xs
    by_last (inl none) rest = record { number = first + count; from = omega arith; below = omega arith; none = none }
    by_last (inr less) rest =
        let found = rest less in
        record {
          number = found.number;
          from = found.from;
          below = omega (arith, found.below);
          none = all_back (first + count) found.number xs found.below found.none;
        }

-- ---- names with that first byte

-- the name doesn't begin with c and then a byte from x on
abbrev pub IsApart : ℕ → ℕ → List ℕ → Type 0
IsApart c x [] = Unit {0}
IsApart c x (b ∷ []) = Unit {0}
IsApart c x (b ∷ d ∷ bs) = b ≡ c → d < x

abbrev pub AreApart : ℕ → ℕ → List (List ℕ) → Type 0
AreApart c x [] = Unit {0}
AreApart c x (name ∷ names) = IsApart c x name × AreApart c x names

abbrev pub fresh : ℕ → ℕ → List ℕ
fresh c x = c ∷ x ∷ 32 ∷ []

apart_more : (c x : ℕ) (name : List ℕ) → IsApart c x name → IsApart c (x + 1) name
apart_more c x [] is = tt
apart_more c x (b ∷ []) is = tt
apart_more c x (b ∷ d ∷ bs) is = λ same. omega (arith, is same)

pub below_fresh : (c x : ℕ) (names : List (List ℕ)) → AreApart c x names → AreApart c (x + 1) (names ++ fresh c x ∷ [])
below_fresh c x [] are = (λ same. omega arith, tt)
below_fresh c x (name ∷ names) are = (apart_more c x name are.0, below_fresh c x names are.1)

apart_test : (c x b d : ℕ) (t : Bool) → (b ≡ c → d < x) → ((b == c) && ((d == x) && t)) ≡ false
apart_test c x b d t is = by_first (b == c) refl
  where
    by_first : (s : Bool) → (b == c) ≡ s → (s && ((d == x) && t)) ≡ false
    by_first false test = refl
    by_first true test =
        let same : b ≡ c = grind (arith, nat_tests) in
        let less : d < x = is same in
        let other : (d == x) ≡ false = grind (arith, nat_tests, less) in
        rw other refl

pub not_listed : (c x : ℕ) (names : List (List ℕ)) → AreApart c x names → is_listed names (fresh c x) ≡ false
unfolding is_listed
not_listed c x [] are = refl
not_listed c x ([] ∷ names) are = not_listed c x names are.1
not_listed c x ((b ∷ []) ∷ names) are = by_first (b == c) (not_listed c x names are.1)
  where
    by_first : (t : Bool) → is_listed names (fresh c x) ≡ false → ((t && false) || is_listed names (fresh c x)) ≡ false
    by_first true others = others
    by_first false others = others
not_listed c x ((b ∷ d ∷ bs) ∷ names) are = let other = apart_test c x b d (bytes_eq bs (32 ∷ [])) are.0 in rw other (not_listed c x names are.1)

-- ---- a first byte that no listed name has

abbrev firsts : List (List ℕ) → List ℕ
firsts [] = []
firsts ([] ∷ names) = firsts names
firsts ((b ∷ bs) ∷ names) = b ∷ firsts names

firsts-few : (names : List (List ℕ)) → length (firsts names) ≤ length names
firsts-few [] = omega arith
firsts-few ([] ∷ names) = omega (arith, firsts-few names)
firsts-few ((b ∷ bs) ∷ names) = omega (arith, firsts-few names)

apart_firsts : (c x : ℕ) (names : List (List ℕ)) → All (λ b. b ≢ c) (firsts names) → AreApart c x names
apart_firsts c x [] none = tt
apart_firsts c x ([] ∷ names) none = (tt, apart_firsts c x names none)
apart_firsts c x ((b ∷ []) ∷ names) none = (tt, apart_firsts c x names (All-tail (λ (b : ℕ). b ≢ c) b (firsts names) none))
apart_firsts c x ((b ∷ d ∷ bs) ∷ names) none =
    let other = All-head (λ (b : ℕ). b ≢ c) b (firsts names) none in
    (λ same. absurd (other same), apart_firsts c x names (All-tail (λ (b : ℕ). b ≢ c) b (firsts names) none))

-- a byte from that of the digit 0 on
pub record IsFirstByte (names : List (List ℕ)) : Type 0 where
  pub byte : ℕ
  pub from : 48 ≤ byte
  pub below : byte < 256
  pub apart : AreApart byte 48 names

pub a_first_byte : (names : List (List ℕ)) → length names ≤ MOST_TYPES → IsFirstByte names
a_first_byte names few =
    let free = a_free_one 48 201 (firsts names) (omega (arith, few, firsts-few names)) in
    record { byte = free.number; from = free.from; below = omega (arith, free.below); apart = apart_firsts free.number 48 names free.none }

-- ---- as many names are listed as were due

pub names_counted : (layout : Layout) (line : List ℕ) (first n : ℕ) (names all : List (List ℕ)) → names_from layout line first n names ≡ Ok all → length all ≡ length names + n
unfolding names_from
names_counted layout line first zero names all gives = let same : names ≡ all = cc in subst (λ (l : List (List ℕ)). length l ≡ length names + 0) same (omega arith)
names_counted layout line first (suc n) names all gives =
    by_test (is_listed names (name_in layout line first)) gives (λ rest. names_counted layout line (first + name_step_of layout) n (names ++ name_in layout line first ∷ []) all rest)
  where
    by_test : (t : Bool)
        → (if t then flawed first Types else names_from layout line (first + name_step_of layout) n (names ++ name_in layout line first ∷ [])) ≡ Ok all
        → (names_from layout line (first + name_step_of layout) n (names ++ name_in layout line first ∷ []) ≡ Ok all → length all ≡ length (names ++ name_in layout line first ∷ []) + n)
        → length all ≡ length names + suc n
    by_test true is rest = absurd cc
    by_test false is rest = omega (arith, rest is, length-append names (name_in layout line first ∷ []))

pub list_counted : (layout : Layout) (line : List ℕ) (names : List (List ℕ)) (left : ℕ) (list : TypeList) → with_line layout line names left ≡ Ok list
    → length list.names + list.left ≡ length names + left
list_counted layout line names left list gives =
    let k = names_in_line_of layout in
    let took = then_took (names_from layout line (first_name_of layout) (min k left) names) (λ all. type_list all (left - k)) list gives in
    let counted = names_counted layout line (first_name_of layout) (min k left) names took.0 took.1 in
    let both : length took.0 + (left - k) ≡ length names + left = omega (arith, counted) in
    subst (λ (l : TypeList). length l.names + l.left ≡ length names + left) took.2 both

pub further_counted : (layout : Layout) (line : List ℕ) (names : List (List ℕ)) (left : ℕ) (list : TypeList) → further_types_of layout line names left ≡ Ok list
    → length list.names + list.left ≡ length names + left
further_counted layout line names left list gives = by_label (label_in layout line) gives
  where
    by_mark : (t : Bool) → (if t then with_line layout line names left else flawed 1 Types) ≡ Ok list → length list.names + list.left ≡ length names + left
    by_mark true is = list_counted layout line names left list is
    by_mark false is = absurd cc

    by_label : (l : Label) → further_by layout line names left l ≡ Ok list → length list.names + list.left ≡ length names + left
    by_label label.Comment is = let same : type_list names left ≡ list = cc in subst (λ (l : TypeList). length l.names + l.left ≡ length names + left) same refl
    by_label label.Types is = by_mark (are_blank (further_mark_in layout line)) is
    by_label label.End is = absurd cc
    by_label label.Position is = absurd cc
    by_label label.Delta is = absurd cc
    by_label label.Factor is = absurd cc
    by_label label.FirstObs is = absurd cc
    by_label label.Other is = absurd cc

count-few : (first : ℕ) (r : Result (Option ℕ) Flaw) (n : ℕ) → count_from first r ≡ Ok n → n ≤ MOST_TYPES
count-few first (Ok (Some k)) n gives = by_test (nat_le 1 k && nat_le k MOST_TYPES) refl gives
  where
    by_test : (t : Bool) → (nat_le 1 k && nat_le k MOST_TYPES) ≡ t → (if t then Ok k else flawed first Types) ≡ Ok n → n ≤ MOST_TYPES
    by_test true test is = let same : k ≡ n = cc in subst (λ (m : ℕ). m ≤ MOST_TYPES) same (grind (arith, nat_tests))
    by_test false test is = absurd cc
count-few first (Ok None) n gives = absurd cc
count-few first (Err flaw) n gives = absurd cc

pub first_counted : (layout : Layout) (line : List ℕ) (list : TypeList) → first_types_of layout line ≡ Ok list → length list.names + list.left ≤ MOST_TYPES
first_counted layout line list gives =
    let count = whole_of (types_column_of layout) (types_count_in layout line) in
    let took = and_then_took (count_from (types_column_of layout) count) (λ n. with_line layout line [] n) list gives in
    let few = count-few (types_column_of layout) count took.0 took.1 in
    omega (arith, few, list_counted layout line [] took.0 list took.2)
