-- One more line of a text that is read by rules.
use Rattle.std.proofs.Common.{◌≡◌, inl, inr, ℕ, ◌+◌, ◌<◌, ◌≤◌, nat_lt, Bool, true, false, List, [], ◌∷◌, length, Result, Ok, Err, refl, ap, ◌∙◌, subst, arith, if◌then◌else◌}
use Rattle.std.specs.List.{HoldsAt}
use Rattle.std.proofs.lemmas.Bool.Decides.{nat_tests}
use Rattle.line_source.specs.Lines.{Reading, GivesLine, IsTooLong, IsAtEnd}
use Rattle.rinex_head.specs.declared.place.What.{What}
use Rattle.rinex_head.specs.declared.place.What.TheVariants.{LongLine}
use Rattle.rinex_head.specs.declared.place.Flaw.{Flaw}
use Rattle.rinex_head.specs.declared.place.At.{At}
use Rattle.rinex_head.specs.declared.place.TextFault.{TextFault}
use Rattle.rinex_head.specs.declared.place.TextFault.TheVariants.{Refused, NoMemory}
use Rattle.rinex_head.specs.Places.{and_then, flawed, place, at_line}
use Rattle.rinex_head.specs.LineRules.{Rules, admitted, walk, rest_gives, ReadsFree, Gives, HasNoLine, IsLongLine, FailsBy}

pub short_admitted : {S F : Type 0} (rules : Rules S F) (s : S) (line : List ℕ) → length line ≤ 4096 → admitted rules s line ≡ rules.admit s line
short_admitted rules s line short = let not_too_long : nat_lt 4096 (length line) ≡ false = grind (arith, nat_tests) in rw not_too_long refl

-- the line is admitted
pub takes : {S F : Type 0} (rules : Rules S F) (s next : S) (old new : Reading) (number : ℕ) (line : List ℕ) → GivesLine old new number line
    → rules.admit s line ≡ Ok next → rest_gives rules old s ≡ rest_gives rules new next
unfolding walk
takes rules s next old new number line gives is =
    rw (gives.next, gives.counted, gives.numbered, short_admitted rules s line gives.short, is) refl

-- the line is refused
pub refuses : {S F : Type 0} (rules : Rules S F) (s : S) (flaw : Flaw) (old new : Reading) (number : ℕ) (line : List ℕ)
    → GivesLine old new number line → rules.admit s line ≡ Err flaw → rest_gives rules old s ≡ Err (place number flaw.column flaw.what)
unfolding walk
refuses rules s flaw old new number line gives is =
    rw (gives.next, gives.numbered, short_admitted rules s line gives.short, is) refl

-- the line is read by a part, which gives x, and after it next is expected
pub goes_on :
    {S F X : Type 0} (rules : Rules S F) (s next : S) (part : Result X Flaw) (f : X → Result S Flaw) (x : X) (old new : Reading) (number : ℕ) (line : List ℕ)
    → GivesLine old new number line → rules.admit s line ≡ and_then part f → Ok x ≡ part → f x ≡ Ok next → rest_gives rules old s ≡ rest_gives rules new next
goes_on rules s next part f x old new number line gives is answer then_is =
    takes rules s next old new number line gives (is ∙ rw (← answer) then_is)

-- the part gives x, and x has a flaw here
pub stops_after : {S F X : Type 0} (rules : Rules S F) (s : S) (part : Result X Flaw) (f : X
    → Result S Flaw) (x : X) (flaw : Flaw) (old new : Reading) (number : ℕ) (line : List ℕ) → GivesLine old new number line
    → rules.admit s line ≡ and_then part f → Ok x ≡ part → f x ≡ Err flaw → rest_gives rules old s ≡ Err (place number flaw.column flaw.what)
stops_after rules s part f x flaw old new number line gives is answer then_is =
    refuses rules s flaw old new number line gives (is ∙ rw (← answer) then_is)

-- the part finds a flaw
pub stops :
    {S F X : Type 0} (rules : Rules S F) (s : S) (part : Result X Flaw) (f : X → Result S Flaw) (flaw : Flaw) (old new : Reading) (number : ℕ) (line : List ℕ)
    → GivesLine old new number line → rules.admit s line ≡ and_then part f → Err flaw ≡ part → rest_gives rules old s ≡ Err (place number flaw.column flaw.what)
stops rules s part f flaw old new number line gives is answer =
    refuses rules s flaw old new number line gives (is ∙ rw (← answer) refl)

-- the line is the last of a part of the program, which answers with its place
pub reads_line : {S F X : Type 0} (rules : Rules S F) (s : S) (next : X → S) (old new : Reading) (number : ℕ) (line : List ℕ) (part : Result X Flaw) (r : Result X At)
    → GivesLine old new number line → rules.admit s line ≡ and_then part (λ x. Ok (next x)) → r ≡ at_line number part → ReadsFree rules old new s next r
reads_line rules s next old new number line (Ok x) r gives is answer = rw answer (takes rules s (next x) old new number line gives is)
reads_line rules s next old new number line (Err flaw) r gives is answer = rw answer (refuses rules s flaw old new number line gives is)

-- two parts, one after the other
pub reads_then : {S F X : Type 0} (rules : Rules S F) (s middle : S) (next : X → S) (old between new : Reading) (r : Result X At)
    → rest_gives rules old s ≡ rest_gives rules between middle → ReadsFree rules between new middle next r → ReadsFree rules old new s next r
reads_then rules s middle next old between new (Ok x) first second = first ∙ second
reads_then rules s middle next old between new (Err at) first second = first ∙ second

stops_long : {S F : Type 0} (rules : Rules S F) (s : S) (old new : Reading) (number : ℕ) → IsTooLong old new number → rest_gives rules old s ≡ Err (place number 1 LongLine)
unfolding walk
stops_long rules s old new number long = by_left old.left refl
  where
    by_left : (left : List (List ℕ)) → old.left ≡ left → rest_gives rules old s ≡ Err (place number 1 LongLine)
    by_left [] e = let none = subst (λ (l : List (List ℕ)). HoldsAt (λ bytes. 4096 < length bytes) l 0) e long.long in absurd (omega (arith, none []))
    by_left (line ∷ more) e =
        let too : 4096 < length line = subst (λ (l : List (List ℕ)). HoldsAt (λ bytes. 4096 < length bytes) l 0) e long.long [] in
        let test : nat_lt 4096 (length line) ≡ true = grind (arith, nat_tests) in
        rw (e, long.numbered, test) refl

-- the next line is too long
pub has_long : {S F : Type 0} (rules : Rules S F) (s : S) (old new : Reading) (at : At) → IsLongLine old new at → rest_gives rules old s ≡ Err at
has_long rules s old new at long = rw (long.2) (stops_long rules s old new long.0 long.1)

-- there is no line, and one is expected
pub has_none : {S F : Type 0} (rules : Rules S F) (s : S) (old new : Reading) (missing : What) (at : At) → rules.finish s ≡ flawed 1 missing
    → HasNoLine old new missing at → rest_gives rules old s ≡ Err at
unfolding walk
has_none rules s old new missing at is (inl long) = has_long rules s old new at long
has_none rules s old new missing at is (inr ended) = rw (ended.1, ended.0.none, is) refl

-- the text ends where it may not
pub ends_badly : {S F : Type 0} (rules : Rules S F) (s : S) (flaw : Flaw) (old new : Reading) (number : ℕ) → IsAtEnd old new
    → rules.finish s ≡ Err flaw → number ≡ new.given + 1 → rest_gives rules old s ≡ Err (place number flaw.column flaw.what)
unfolding walk
ends_badly rules s flaw old new number ended is numbered =
    let same : new.given ≡ old.given = ap (λ (r : Reading). r.given) ended.same in
    rw (ended.none, is, numbered, same) refl

-- the text ends, where it may
pub ends_well : {S F : Type 0} (rules : Rules S F) (s : S) (old new : Reading) (whole : F) → IsAtEnd old new → rules.finish s ≡ Ok whole → rest_gives rules old s ≡ Ok whole
unfolding walk
ends_well rules s old new whole ended is = rw (ended.none, is) refl

-- a refusal is handed on, and so is running out of memory
pub handed_on : {F : Type 0} (a b : Result F At) (fault : TextFault) → a ≡ b → FailsBy b fault → FailsBy a fault
handed_on a b (Refused at) same given = same ∙ given
handed_on a b NoMemory same given = tt

-- the answer to a rest is the answer to the same rest
pub gives_same : {F X : Type 0} (a b : Result F At) (view : X → F) (r : Result X TextFault) → a ≡ b → Gives b view r → Gives a view r
gives_same a b view (Ok x) same given = same ∙ given
gives_same a b view (Err fault) same given = handed_on a b fault same given

-- a reader that has given a line has fewer left
pub gives_less : (old new : Reading) (number : ℕ) (line : List ℕ) → GivesLine old new number line → length new.left < length old.left
gives_less old new number line gives = let same_length = ap length gives.next in omega (arith, same_length)

-- the same of the lines themselves
pub walk-takes : {S F : Type 0} (rules : Rules S F) (s next : S) (line : List ℕ) (lines : List (List ℕ)) (n : ℕ) → length line ≤ 4096
    → rules.admit s line ≡ Ok next → walk rules (line ∷ lines) n s ≡ walk rules lines (n + 1) next
unfolding walk
walk-takes rules s next line lines n short is = rw (short_admitted rules s line short, is) refl

pub walk-end : {S F : Type 0} (rules : Rules S F) (s : S) (n : ℕ) → walk rules [] n s ≡ at_line (n + 1) (rules.finish s)
unfolding walk
walk-end rules s n = refl

-- lines that give something begin with an admitted line
pub record TookLine {S F : Type 0} (rules : Rules S F) (s : S) (line : List ℕ) (lines : List (List ℕ)) (n : ℕ) (whole : F) : Type 0 where
  pub next : S
  pub short : length line ≤ 4096
  pub admits : rules.admit s line ≡ Ok next
  pub others : walk rules lines (n + 1) next ≡ Ok whole

pub walk-took : {S F : Type 0} (rules : Rules S F) (s : S) (line : List ℕ) (lines : List (List ℕ)) (n : ℕ) (whole : F) → walk rules (line ∷ lines) n s ≡ Ok whole → TookLine rules s line lines n whole
unfolding walk
walk-took {S} {F} rules s line lines n whole e = by_length (nat_lt 4096 (length line)) refl e
  where
    by_admit : (r : Result S Flaw) → rules.admit s line ≡ r → length line ≤ 4096 → and_then (at_line (n + 1) r) (λ next. walk rules lines (n + 1) next) ≡ Ok whole → TookLine rules s line lines n whole
    by_admit (Ok next) is short gives = record { next = next; short = short; admits = is; others = gives }
    by_admit (Err flaw) is short gives = absurd cc

    by_length : (t : Bool) → nat_lt 4096 (length line) ≡ t
        → and_then (at_line (n + 1) (if t then flawed 1 LongLine else rules.admit s line)) (λ next. walk rules lines (n + 1) next) ≡ Ok whole
        → TookLine rules s line lines n whole
    by_length true test gives = absurd cc
    by_length false test gives = by_admit (rules.admit s line) refl (grind (arith, nat_tests)) gives
