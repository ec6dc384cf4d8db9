-- Which files were opened.
use Rattle.std.proofs.Common.{◌≡◌, ℕ, zero, suc, List, [], ◌∷◌, ◌++◌, take, refl, ap, sym, ◌∙◌, append-nil, append_assoc}
use Rattle.std.specs.Prelude.{None, Some, IfSome}
use Rattle.std.specs.declared.option.Option.{Option}
use Rattle.std.specs.Io.KnownBytes.{IsAtEnd}
use Rattle.std.proofs.lemmas.List.{map-append}
use Rattle.line_source.specs.Openings.{names_of, OpensIt, OpensFirst, Unread, IsReadToEnd}
use Rattle.line_source.specs.Givens.{WasReadToEnd}
use Rattle.line_source.proofs.Rests.{IsSplit}

pub none_first : (names : List (List ℕ)) (before now : List (List ℕ × ℕ)) → now ≡ before → OpensFirst names before now
none_first names before now same = (0, ap names_of same ∙ sym (append-nil (names_of before)))

one_name : (name : List ℕ) (before now : List (List ℕ × ℕ)) → OpensIt name before now → names_of now ≡ names_of before ++ name ∷ []
one_name name before now opens = ap names_of opens.1 ∙ map-append (λ (opening : List ℕ × ℕ). opening.0) before ((name, opens.0) ∷ [])

pub one_first : (name : List ℕ) (names : List (List ℕ)) (before now : List (List ℕ × ℕ)) → OpensIt name before now → OpensFirst (name ∷ names) before now
one_first name names before now opens = (1, one_name name before now opens)

-- one was opened, and then a first part of the others
pub next_first : (name : List ℕ) (names : List (List ℕ)) (before mid now : List (List ℕ × ℕ)) → OpensIt name before mid → OpensFirst names mid now
    → OpensFirst (name ∷ names) before now
next_first name names before mid now opens then = (
  suc then.0,
  then.1 ∙ ap (λ (front : List (List ℕ)). front ++ take then.0 names) (one_name name before mid opens)
      ∙ append_assoc (names_of before) (name ∷ []) (take then.0 names),
)

abbrev no_names : List (List ℕ)
no_names = []

take-none : (n : ℕ) → take n no_names ≡ []
take-none zero = refl
take-none (suc n) = refl

-- at most one was opened, and none of the others
pub fewer_first : (name : List ℕ) (names : List (List ℕ)) (before now : List (List ℕ × ℕ)) → OpensFirst (name ∷ []) before now → OpensFirst (name ∷ names) before now
fewer_first name names before now (zero, same) = (zero, same)
fewer_first name names before now (suc n, same) = (1, same ∙ ap (λ (rest : List (List ℕ)). names_of before ++ name ∷ rest) (take-none n))

at_end : (text front : List ℕ) (left : Option (List ℕ)) → IsAtEnd left → IsSplit text front left → left ≡ Some []
at_end text front None end split = absurd (cc (split.told))
at_end text front (Some rest) end split = ap (λ (xs : List ℕ). Some xs) end

whole : (told : Option (List ℕ)) (front : List ℕ) (left : Option (List ℕ)) → IsAtEnd left → IfSome told (λ text. IsSplit text front left)
    → IfSome told (λ text. left ≡ Some [])
whole None front left end split = tt
whole (Some text) front left end split = at_end text front left end split

-- the file that was opened last has no byte left, and this part of it was read
pub read_to_end : (told : List ℕ → Option (List ℕ)) (left : Unread) (earlier : List (List ℕ × ℕ)) (name front : List ℕ) (id : ℕ)
    → left.openings ≡ earlier ++ (name, id) ∷ [] → IsAtEnd (left.bytes id) → IfSome (told name) (λ text. IsSplit text front (left.bytes id))
    → WasReadToEnd left.given name → IsReadToEnd told left name
read_to_end told left earlier name front id last end split met =
    record { earlier = earlier; id = id; last = last; at_end = end; whole = whole (told name) front (left.bytes id) end split; met = met }
