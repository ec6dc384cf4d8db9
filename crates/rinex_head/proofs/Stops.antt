-- Where a walk over the lines of a text stops.
use Rattle.std.proofs.Common.{◌≡◌, ◌≢◌, ℕ, ◌+◌, ◌≤◌, ◌<◌, ◌&&◌, ◌==◌, nat_lt, not, Bool, true, false, List, [], ◌∷◌, ◌++◌, length, All, Result, Ok, Err, refl, sym, ap, ◌∙◌, arith, append_assoc, add-zero, if◌then◌else◌}
use Rattle.std.proofs.lemmas.List.{append-nil}
use Rattle.std.proofs.lemmas.List.Elements.{All-nil, All-cons}
use Rattle.std.proofs.lemmas.Bool.Decides.{nat_tests}
use Rattle.rinex_head.specs.declared.place.Flaw.{Flaw}
use Rattle.rinex_head.specs.declared.place.At.{At}
use Rattle.rinex_head.specs.declared.place.What.TheVariants.{LongLine}
use Rattle.rinex_head.specs.Places.{and_then, flawed, place, at_line}
use Rattle.rinex_head.specs.declared.place.TextFault.{TextFault}
use Rattle.rinex_head.specs.declared.place.TextFault.TheVariants.{Refused, NoMemory}
use Rattle.rinex_head.specs.LineRules.{Rules, admitted, walk, text_gives, Gives, OnRefusal, IfRefused}
use Rattle.rinex_head.specs.FirstFailing.{IsLine, IsStuck, IsFirstFailing, IsFileOf}
use Rattle.rinex_head.proofs.LineRuleLaws.{walk-takes}

-- the rest of the text fails at once
abbrev pub FailsHere : {S F : Type 0} → Rules S F → S → ℕ → List (List ℕ) → At → Type 0
FailsHere {S} {F} rules s n [] at = at_line (n + 1) (rules.finish s) ≡ Err at
FailsHere {S} {F} rules s n (line ∷ lines) at = at_line (n + 1) (admitted rules s line) ≡ Err at

-- what holds of each state that can be reached
pub record IsKept {S F : Type 0} (rules : Rules S F) (Holds : S → Type 0) : Type 0 where
  pub starts : Holds rules.start
  pub keeps : (s next : S) (line : List ℕ) → Holds s → rules.admit s line ≡ Ok next → Holds next

-- the lines before the place are admitted, whatever follows them
pub record Stops {S F : Type 0} (rules : Rules S F) (Holds : S → Type 0) (s : S) (n : ℕ) (lines : List (List ℕ)) (at : At) : Type 0 where
  pub front : List (List ℕ)
  pub rest : List (List ℕ)
  pub split : lines ≡ front ++ rest
  pub last : S
  pub holds : Holds last
  pub reach : (more : List (List ℕ)) → walk rules (front ++ more) n s ≡ walk rules more (n + length front) last
  pub fails : FailsHere rules last (n + length front) rest at

pub at_line-number : {A : Type 0} (n : ℕ) (r : Result A Flaw) (at : At) → at_line n r ≡ Err at → at.line ≡ n
at_line-number n (Ok x) at e = absurd cc
at_line-number n (Err flaw) at e = let same : place n flaw.column flaw.what ≡ at = cc in ap (λ (a : At). a.line) (sym same)

FailsHere-number : {S F : Type 0} (rules : Rules S F) (s : S) (n : ℕ) (rest : List (List ℕ)) (at : At) → FailsHere rules s n rest at → at.line ≡ n + 1
FailsHere-number rules s n [] at e = at_line-number (n + 1) (rules.finish s) at e
FailsHere-number rules s n (line ∷ lines) at e = at_line-number (n + 1) (admitted rules s line) at e

pub admitted_short : {S F : Type 0} (rules : Rules S F) (s next : S) (line : List ℕ) → admitted rules s line ≡ Ok next → rules.admit s line ≡ Ok next
admitted_short rules s next line is = by_length (nat_lt 4096 (length line)) is
  where
    by_length : (t : Bool) → (if t then flawed 1 LongLine else rules.admit s line) ≡ Ok next → rules.admit s line ≡ Ok next
    by_length true gives = absurd cc
    by_length false gives = gives

-- a walk that refuses the lines stops at one of them, or after the last
pub walk-stops : {S F : Type 0} (rules : Rules S F) (Holds : S → Type 0) → IsKept rules Holds → (s : S) → Holds s → (n : ℕ) (lines : List (List ℕ)) (at : At)
    → walk rules lines n s ≡ Err at → Stops rules Holds s n lines at
unfolding walk
walk-stops rules Holds kept s holds n [] at e = record { front = []; rest = []; split = refl; last = s; holds = holds; reach = λ more. rw add-zero refl; fails = rw add-zero e }
walk-stops {S} {F} rules Holds kept s holds n (line ∷ lines) at e = by_first (λ next next_holds. walk-stops rules Holds kept next next_holds (n + 1) lines at) (admitted rules s line) refl e
  where
    by_first : ((next : S) → Holds next → walk rules lines (n + 1) next ≡ Err at → Stops rules Holds next (n + 1) lines at) → (r : Result S Flaw) → admitted rules s line ≡ r
        → and_then (at_line (n + 1) r) (λ next. walk rules lines (n + 1) next) ≡ Err at → Stops rules Holds s n (line ∷ lines) at
    by_first again (Err flaw) is gives =
        let same : place (n + 1) flaw.column flaw.what ≡ at = cc (gives) in
        record {
          front = [];
          rest = line ∷ lines;
          split = refl;
          last = s;
          holds = holds;
          reach = λ more. rw add-zero refl;
          fails = rw (add-zero, is) (ap (λ (a : At). Err a) same);
        }
    by_first again (Ok next) is gives =
        let later = again next (kept.keeps s next line holds (admitted_short rules s next line is)) gives in
        let more_by_one : n + length (line ∷ later.front) ≡ n + 1 + length later.front = omega arith in
        record {
          front = line ∷ later.front;
          rest = later.rest;
          split = ap (λ (l : List (List ℕ)). line ∷ l) later.split;
          last = later.last;
          holds = later.holds;
          reach = λ more. rw (is, more_by_one) (later.reach more);
          fails = rw more_by_one later.fails;
        }

-- whether a line is one of a text
abbrev pub is_line_byte : ℕ → Bool
is_line_byte b = nat_lt b 256 && not (b == 10)

abbrev pub is_line : List ℕ → Bool
is_line [] = true
is_line (b ∷ bs) = is_line_byte b && is_line bs

pub is_line-holds : (line : List ℕ) → is_line line ≡ true → IsLine line
is_line-holds [] is = All-nil (λ b. (b < 256) × (b ≢ 10))
is_line-holds (b ∷ bs) is = by_first (is_line_byte b) refl is (λ others. is_line-holds bs others)
  where
    by_first : (t : Bool) → is_line_byte b ≡ t → (t && is_line bs) ≡ true → (is_line bs ≡ true → IsLine bs) → IsLine (b ∷ bs)
    by_first false test others rest = absurd cc
    by_first true test others rest =
        let below : b < 256 = grind (arith, nat_tests) in
        let other : b ≢ 10 = grind (arith, nat_tests) in
        All-cons (λ b. (b < 256) × (b ≢ 10)) b bs (below, other) (rest others)

-- lines that complete a text where s is expected
pub record Completes {S F : Type 0} (rules : Rules S F) (s : S) : Type 0 where
  pub more : List (List ℕ)
  pub are_lines : All IsLine more
  pub whole : F
  pub gives : (n : ℕ) → walk rules more n s ≡ Ok whole

-- one line more
pub with_line : {S F : Type 0} (rules : Rules S F) (s next : S) (line : List ℕ) → is_line line ≡ true → length line ≤ 4096 → rules.admit s line ≡ Ok next → Completes rules next → Completes rules s
with_line rules s next line bytes short admits rest = record {
  more = line ∷ rest.more;
  are_lines = All-cons IsLine line rest.more (is_line-holds line bytes) rest.are_lines;
  whole = rest.whole;
  gives = λ n. walk-takes rules s next line rest.more n short admits ∙ rest.gives (n + 1);
}

-- no line more
pub with_end : {S F : Type 0} (rules : Rules S F) (s : S) (whole : F) → rules.finish s ≡ Ok whole → Completes rules s
unfolding walk
with_end rules s whole is = record { more = []; are_lines = All-nil IsLine; whole = whole; gives = λ n. rw is refl }

stuck_here : {S F : Type 0} (rules : Rules S F) (IsFile : List (List ℕ) → Type 0) → ((lines : List (List ℕ)) → IsFile lines → IsFileOf rules lines)
    → (s : S) (front rest : List (List ℕ)) (at : At)
    → ((more : List (List ℕ)) → walk rules (front ++ more) 0 rules.start ≡ walk rules more (0 + length front) s)
    → FailsHere rules s (0 + length front) rest at → IsStuck IsFile front rest
unfolding walk
stuck_here {S} {F} rules IsFile to s front [] at reach fails = λ is.
    let given = to front is in
    let whole : walk rules front 0 rules.start ≡ Err at = ap (λ (l : List (List ℕ)). walk rules l 0 rules.start) (sym (append-nil front)) ∙ reach [] ∙ fails in
    absurd (cc (given.1, whole))
stuck_here {S} {F} rules IsFile to s front (line ∷ lines) at reach fails = λ begun.
    let given = to ((front ++ line ∷ []) ++ begun.more) begun.file in
    let split : (front ++ line ∷ []) ++ begun.more ≡ front ++ line ∷ begun.more = append_assoc front (line ∷ []) begun.more in
    let whole : walk rules ((front ++ line ∷ []) ++ begun.more) 0 rules.start ≡ Err at = ap (λ (l : List (List ℕ)). walk rules l 0 rules.start) split ∙ reach (line ∷ begun.more) ∙ rw fails refl in
    absurd (cc (given.1, whole))

-- each state that can be reached can be completed
pub record CanEnd {S F : Type 0} (rules : Rules S F) : Type 1 where
  pub Holds : S → Type 0
  pub kept : IsKept rules Holds
  pub completed : (s : S) → Holds s → Completes rules s

-- so it is where each state can be
pub can_end : {S F : Type 0} (rules : Rules S F) → ((s : S) → Completes rules s) → CanEnd rules
can_end rules completed = record { Holds = λ s. Unit {0}; kept = record { starts = tt; keeps = λ s next line holds admits. tt }; completed = λ s holds. completed s }

-- The place of a refusal is the first failing line by the form, where the form and the rules have the same files and
-- each state that can be reached can be completed.
pub first_failing : {S F : Type 0} (rules : Rules S F) (IsFile : List (List ℕ) → Type 0)
    → ((lines : List (List ℕ)) → IsFile lines → IsFileOf rules lines)
    → ((lines : List (List ℕ)) → IsFileOf rules lines → IsFile lines)
    → CanEnd rules
    → (lines : List (List ℕ)) (at : At) → text_gives rules lines ≡ Err at → IsFirstFailing IsFile lines at.line
first_failing rules IsFile to from ends lines at e =
    let stop = walk-stops rules ends.Holds ends.kept rules.start ends.kept.starts 0 lines at e in
    let finish = ends.completed stop.last stop.holds in
    let number = FailsHere-number rules stop.last (0 + length stop.front) stop.rest at stop.fails in
    record {
      front = stop.front;
      rest = stop.rest;
      split = stop.split;
      numbered = omega arith;
      begun = record {
        more = finish.more;
        are_lines = finish.are_lines;
        file = from (stop.front ++ finish.more) (finish.whole, stop.reach finish.more ∙ finish.gives (0 + length stop.front));
      };
      stuck = stuck_here rules IsFile to stop.last stop.front stop.rest at stop.reach stop.fails;
    }

-- What a reader's exact answer says of the form: nothing is a file where the text is refused, and the place is the first
-- failing line.
pub refused_exit : {S F X : Type 0} (rules : Rules S F) (IsFile : List (List ℕ) → Type 0) → ((lines : List (List ℕ)) → IsFile lines → IsFileOf rules lines)
    → (lines : List (List ℕ)) (view : X → F) (r : Result X TextFault) → Gives (text_gives rules lines) view r → OnRefusal r (IsFile lines → ⊥)
refused_exit rules IsFile to lines view (Ok x) given = tt
refused_exit rules IsFile to lines view (Err (Refused at)) given = λ is. let found = to lines is in absurd (cc (found.1, given))
refused_exit rules IsFile to lines view (Err NoMemory) given = tt

pub first_exit : {S F X : Type 0} (rules : Rules S F) (IsFile : List (List ℕ) → Type 0)
    → ((lines : List (List ℕ)) → IsFile lines → IsFileOf rules lines)
    → ((lines : List (List ℕ)) → IsFileOf rules lines → IsFile lines)
    → CanEnd rules
    → (lines : List (List ℕ)) (view : X → F) (r : Result X TextFault) → Gives (text_gives rules lines) view r → IfRefused r (λ at. IsFirstFailing IsFile lines at.line)
first_exit rules IsFile to from ends lines view (Ok x) given = tt
first_exit rules IsFile to from ends lines view (Err (Refused at)) given = first_failing rules IsFile to from ends lines at given
first_exit rules IsFile to from ends lines view (Err NoMemory) given = tt
