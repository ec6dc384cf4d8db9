-- What is known of texts by what was told and by what calls gave.
use Rattle.std.proofs.Common.{◌≡◌, ◌⊎◌, inl, inr, ◌<◌, ℕ, zero, suc, Bool, true, false, if◌then◌else◌, List, [], ◌∷◌, ◌++◌, length, take, drop, IfSome, refl, sym, ap, ◌∙◌, subst, append_assoc, append-nil, arith}
use Rattle.std.specs.Prelude.{None, Some}
use Rattle.std.specs.declared.option.Option.{Option}
use Rattle.std.specs.Str.{bytes_eq}
use Rattle.std.proofs.lemmas.Slice.Eq.{bytes_eq-Decides}
use Rattle.std.proofs.lemmas.List.{map-append}
use Rattle.std.proofs.Math.Seq.{take-nil}
use Rattle.line_source.specs.Reports.{Unchanged}
use Rattle.line_source.specs.Givens.{Given, given_of, names_given, GivesFirst, GivesWhole, GivesTooMany, AllGave, all_gave, given_under, or_else, known_text, IsKnownFrom}
use Rattle.line_source.specs.declared.transfer.TheConstants.{MAX_FILE}
use Rattle.job_answers.specs.Endings.{HasTooManyBytes, IsTextOf}
use Rattle.job_answers.specs.Works.{AllEnded, AreGivenWhole}

-- ---- what was given under a name
gave_cases : (t u rest : Bool) → (if t then (if u then rest else false) else rest) ≡ true → (rest ≡ true) × (t ≡ true → u ≡ true)
gave_cases true true rest is = (is, λ e. refl)
gave_cases true false rest is = absurd (cc (is))
gave_cases false u rest is = (is, λ e. absurd (cc (e)))

all_gave_so : (name bytes : List ℕ) (gs : List Given) → all_gave name bytes gs ≡ true → AllGave name bytes gs
all_gave_so name bytes [] is = tt
all_gave_so name bytes (g ∷ gs) is =
    let parts = gave_cases (bytes_eq g.name name) (bytes_eq g.bytes bytes) (all_gave name bytes gs) is in
    ((λ same. (bytes_eq-Decides g.bytes bytes).0 (parts.1 ((bytes_eq-Decides g.name name).1 same))), all_gave_so name bytes gs parts.0)

under_cases : (t a : Bool) (b bytes : List ℕ) (rest : Option (List ℕ)) → (if t then (if a then Some b else None) else rest) ≡ Some bytes
    → ((a ≡ true) × (b ≡ bytes)) ⊎ ((t ≡ false) × (rest ≡ Some bytes))
under_cases true true b bytes rest is = inl (refl, cc (is))
under_cases true false b bytes rest is = absurd (cc (is))
under_cases false a b bytes rest is = inr (refl, is)

given_all : (name bytes : List ℕ) (gs : List Given) → given_under gs name ≡ Some bytes → AllGave name bytes gs
given_all name bytes [] is = absurd (cc (is))
given_all name bytes (g ∷ gs) is = by_case (under_cases (bytes_eq g.name name) (all_gave name g.bytes gs) g.bytes bytes (given_under gs name) is) (given_all name bytes gs)
  where
    by_case : ((all_gave name g.bytes gs ≡ true) × (g.bytes ≡ bytes)) ⊎ ((bytes_eq g.name name ≡ false) × (given_under gs name ≡ Some bytes))
        → (given_under gs name ≡ Some bytes → AllGave name bytes gs) → AllGave name bytes (g ∷ gs)
    by_case (inl here) later = ((λ same. here.1), subst (λ (b : List ℕ). AllGave name b gs) here.1 (all_gave_so name g.bytes gs here.0))
    by_case (inr other) later = ((λ same. let here = (bytes_eq-Decides g.name name).1 same in absurd (cc (here, other.0))), later other.1)

drop_front : (xs ys : List Given) → drop (length xs) (xs ++ ys) ≡ ys
drop_front [] ys = refl
drop_front (x ∷ xs) ys = drop_front xs ys

known_cases : (told given : Option (List ℕ)) (bytes : List ℕ) → or_else told given ≡ Some bytes → (told ≡ Some bytes) ⊎ (given ≡ Some bytes)
known_cases None given bytes is = inr is
known_cases (Some text) given bytes is = inl is

-- the text that is known is one that is known from these
pub known_from : (told : List ℕ → Option (List ℕ)) (before now : List Given) → IsKnownFrom (known_text told before now) told before now
known_from told before now name bytes is = elim (known_cases (told name) (given_under (drop (length before) now) name) bytes is) [
  | inl told_so ↦ inl told_so
  | inr given_so ↦ inr (λ more at.
      given_all name bytes more (subst (λ (gs : List Given). given_under gs name ≡ Some bytes) (ap (λ (l : List Given). drop (length before) l) at ∙ drop_front before more) given_so))
]

-- ---- of a part of the calls
front_gave : (name bytes : List ℕ) (xs ys : List Given) → AllGave name bytes (xs ++ ys) → AllGave name bytes xs
front_gave name bytes [] ys all = tt
front_gave name bytes (x ∷ xs) ys all = (all.0, front_gave name bytes xs ys all.1)

back_gave : (name bytes : List ℕ) (xs ys : List Given) → AllGave name bytes (xs ++ ys) → AllGave name bytes ys
back_gave name bytes [] ys all = all
back_gave name bytes (x ∷ xs) ys all = back_gave name bytes xs ys all.1

pub from_front : (known told : List ℕ → Option (List ℕ)) (before mid now later : List Given) → now ≡ mid ++ later → IsKnownFrom known told before now
    → IsKnownFrom known told before mid
from_front known told before mid now later grows from name bytes is = elim (from name bytes is) [
  | inl told_so ↦ inl told_so
  | inr all ↦ inr (λ more at. front_gave name bytes more later (all (more ++ later) (grows ∙ ap (λ (l : List Given). l ++ later) at ∙ append_assoc before more later)))
]

pub from_back : (known told later_told : List ℕ → Option (List ℕ)) (before mid now earlier : List Given) → Unchanged told later_told → mid ≡ before ++ earlier
    → IsKnownFrom known told before now → IsKnownFrom known later_told mid now
from_back known told later_told before mid now earlier same grown from name bytes is = elim (from name bytes is) [
  | inl told_so ↦ inl (same name ∙ told_so)
  | inr all ↦ inr (λ more at. back_gave name bytes earlier more (all (earlier ++ more) (at ∙ ap (λ (l : List Given). l ++ more) grown ∙ append_assoc before earlier more)))
]

-- ---- the text of one file
by_option : (o : Option (List ℕ)) (P : List ℕ → Type 0) → ((b : List ℕ) → o ≡ Some b → P b) → IfSome o P
by_option None P so = tt
by_option (Some b) P so = so b refl

pub whole_known : (known told : List ℕ → Option (List ℕ)) (before now : List Given) (name text : List ℕ) → IsKnownFrom known told before now
    → IfSome (told name) (λ bytes. text ≡ bytes) → GivesWhole name text before now → IfSome (known name) (λ bytes. text ≡ bytes)
whole_known known told before now name text from told_is given = by_option (known name) (λ bytes. text ≡ bytes) (λ bytes is. elim (from name bytes is) [
  | inl told_so ↦ subst (λ (o : Option (List ℕ)). IfSome o (λ b. text ≡ b)) told_so told_is
  | inr all ↦ (all (given_of name given.id text true ∷ []) given.now_is).0 refl
])

pub too_many_known : (known told : List ℕ → Option (List ℕ)) (before now : List Given) (name : List ℕ) → IsKnownFrom known told before now
    → HasTooManyBytes told name → GivesTooMany name before now → HasTooManyBytes known name
too_many_known known told before now name from told_many given = by_option (known name) (λ bytes. MAX_FILE < length bytes) (λ bytes is. elim (from name bytes is) [
  | inl told_so ↦ subst (λ (o : Option (List ℕ)). IfSome o (λ b. MAX_FILE < length b)) told_so told_many
  | inr all ↦ subst (λ (b : List ℕ). MAX_FILE < length b) ((all (given_of name given.id given.bytes given.ended ∷ []) given.now_is).0 refl) given.many
])

pub text_is_known : (known told : List ℕ → Option (List ℕ)) (before now : List Given) (name text : List ℕ) → IsKnownFrom known told before now
    → IfSome (told name) (λ bytes. text ≡ bytes) → length text < 67108865 → GivesWhole name text before now → IsTextOf known name text
text_is_known known told before now name text from told_is fits given = record { told_is = whole_known known told before now name text from told_is given; fits = omega arith }

-- ---- which files were given whole
ended_append : (xs ys : List Given) → AllEnded xs → AllEnded ys → AllEnded (xs ++ ys)
ended_append [] ys front back = back
ended_append (x ∷ xs) ys front back = (front.0, ended_append xs ys front.1 back)

pub none_given : (before : List Given) (now : List Given) → now ≡ before ++ [] → AreGivenWhole [] before now
none_given before now same = record { more = []; now_is = same; names_are = refl; ended = tt }

pub one_more_given : (earlier : List (List ℕ)) (name text : List ℕ) (before mid now : List Given) → AreGivenWhole earlier before mid → GivesWhole name text mid now → AreGivenWhole (earlier ++ name ∷ []) before now
one_more_given earlier name text before mid now whole given = record {
  more = whole.more ++ given_of name given.id text true ∷ [];
  now_is = given.now_is ∙ ap (λ (l : List Given). l ++ given_of name given.id text true ∷ []) whole.now_is ∙ append_assoc before whole.more (given_of name given.id text true ∷ []);
  names_are = map-append (λ (g : Given). g.name) whole.more (given_of name given.id text true ∷ []) ∙ ap (λ (l : List (List ℕ)). l ++ name ∷ []) whole.names_are;
  ended = ended_append whole.more (given_of name given.id text true ∷ []) whole.ended (refl, tt);
}

pub one_given : (name text : List ℕ) (before now : List Given) → GivesWhole name text before now → AreGivenWhole (name ∷ []) before now
one_given name text before now given = record { more = given_of name given.id text true ∷ []; now_is = given.now_is; names_are = refl; ended = (refl, tt) }

-- ---- which files were opened
pub one_gives : (name text : List ℕ) (names : List (List ℕ)) (before now : List Given) → GivesWhole name text before now → GivesFirst (name ∷ names) before now
one_gives name text names before now given = record { more = given_of name given.id text true ∷ []; now_is = given.now_is; count = 1; names_are = refl }

pub next_gives : (name text : List ℕ) (names : List (List ℕ)) (before mid now : List Given) → GivesWhole name text before mid → GivesFirst names mid now → GivesFirst (name ∷ names) before now
next_gives name text names before mid now given next = record {
  more = given_of name given.id text true ∷ next.more;
  now_is = next.now_is ∙ ap (λ (l : List Given). l ++ next.more) given.now_is ∙ append_assoc before (given_of name given.id text true ∷ []) next.more;
  count = suc next.count;
  names_are = ap (λ (l : List (List ℕ)). name ∷ l) next.names_are;
}

pub fewer_gives : (name : List ℕ) (names : List (List ℕ)) (before now : List Given) → GivesFirst (name ∷ []) before now → GivesFirst (name ∷ names) before now
fewer_gives name names before now given = by_count given.count given.names_are
  where
    by_count : (n : ℕ) → names_given given.more ≡ take n (name ∷ []) → GivesFirst (name ∷ names) before now
    by_count zero same = record { more = given.more; now_is = given.now_is; count = 0; names_are = same }
    by_count (suc n) same = record { more = given.more; now_is = given.now_is; count = 1; names_are = same ∙ ap (λ (l : List (List ℕ)). name ∷ l) (take-nil n) }

pub no_more_given : (names : List (List ℕ)) (before now : List Given) → now ≡ before → GivesFirst names before now
no_more_given names before now same = record { more = []; now_is = same ∙ sym (append-nil before); count = 0; names_are = refl }
