-- What is known of lines and parts of lines that are taken.
use Rattle.std.proofs.Common.{◌≡◌, ◌≤◌, ◌+◌, ℕ, List, [], ◌∷◌, ◌++◌, length, All, Result, Ok, Err, refl, subst}
use Rattle.std.proofs.lemmas.List.Elements.{All-nil, All-cons, All-tail}
use Rattle.rinex_head.specs.declared.place.Flaw.{Flaw}
use Rattle.rinex_head.specs.Places.{and_then}
use Rattle.rinex_head.specs.LineRules.{Rules, walk}
use Rattle.rinex_head.proofs.LineRuleLaws.{walk-took}

-- what holds of each element holds of those after some
pub All-behind : {X : Type 0} (P : X → Type 0) (xs ys : List X) → All P (xs ++ ys) → All P ys
All-behind P [] ys all = all
All-behind P (x ∷ xs) ys all = All-behind P xs ys (All-tail P x (xs ++ ys) all)

-- where two parts of a line are read, the first one is
pub and_then_took : {A B : Type 0} (r : Result A Flaw) (f : A → Result B Flaw) (y : B) → and_then r f ≡ Ok y → (x : A) × (r ≡ Ok x) × (f x ≡ Ok y)
and_then_took (Ok x) f y e = (x, refl, e)
and_then_took (Err flaw) f y e = absurd cc

-- the same where the second part only says what is expected after the line
pub then_took : {A S : Type 0} (r : Result A Flaw) (next : A → S) (s : S) → and_then r (λ x. Ok (next x)) ≡ Ok s → (x : A) × (r ≡ Ok x) × (next x ≡ s)
then_took (Ok x) next s e = (x, refl, cc (e))
then_took (Err flaw) next s e = absurd cc

-- so it holds of what is expected, where it holds whatever the first part gave
pub then_holds : {A S : Type 0} (Holds : S → Type 0) (r : Result A Flaw) (next : A → S) (s : S) → ((x : A) → r ≡ Ok x → Holds (next x)) → and_then r (λ x. Ok (next x)) ≡ Ok s → Holds s
then_holds Holds r next s each e = let took = then_took r next s e in subst Holds took.2 (each took.0 took.1)

-- lines that give something are short
pub walk-short : {S F : Type 0} (rules : Rules S F) (lines : List (List ℕ)) (n : ℕ) (s : S) (whole : F) → walk rules lines n s ≡ Ok whole → All (λ line. length line ≤ 4096) lines
walk-short rules [] n s whole gives = All-nil (λ line. length line ≤ 4096)
walk-short rules (line ∷ lines) n s whole gives =
    let first = walk-took rules s line lines n whole gives in
    All-cons (λ l. length l ≤ 4096) line lines first.short (walk-short rules lines (n + 1) first.next whole first.others)
