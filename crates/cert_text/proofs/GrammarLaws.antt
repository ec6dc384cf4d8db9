-- A line that is read by itself, in any form of text.
use Rattle.std.proofs.Common.{◌≡◌, ℕ, Bool, true, false, not, List, Result, Ok, Err, MatchResult, refl, sym, ap, ◌∙◌}
use Rattle.line_source.specs.Lines.{Reading, GivesLine}
use Rattle.rinex_head.specs.declared.place.Flaw.{Flaw}
use Rattle.rinex_head.specs.declared.place.At.{At}
use Rattle.rinex_head.specs.declared.place.What.TheVariants.{BadLine}
use Rattle.rinex_head.specs.Places.{place, and_then, at_line}
use Rattle.rinex_head.specs.LineRules.{Rules, rest_gives, HasNoLine, ReadsFree, Reads}
use Rattle.rinex_head.proofs.LineRuleLaws.{goes_on, stops, has_none, handed_on}
use Rattle.cert_text.specs.LineParts.{TakesLine}
use Rattle.rinex_head.specs.declared.place.TextFault.{TextFault}

-- it says x
pub line_goes : {S X : Type 0} (rules : Rules S (Unit {0})) (s : S) (form : List ℕ → Result X Flaw) (next : X → S) (x : X) (old new : Reading) (number : ℕ) (line : List ℕ)
    → TakesLine rules s form next → GivesLine old new number line → Ok x ≡ form line
    → rest_gives rules old s ≡ rest_gives rules new (next x)
line_goes rules s form next x old new number line takes gives answer = goes_on rules s (next x) (form line) (λ y. Ok (next y)) x old new number line gives (takes.admits line) answer refl

-- it has a flaw
pub line_stops : {S X : Type 0} (rules : Rules S (Unit {0})) (s : S) (form : List ℕ → Result X Flaw) (next : X → S) (flaw : Flaw) (old new : Reading) (number : ℕ) (line : List ℕ)
    → TakesLine rules s form next → GivesLine old new number line → Err flaw ≡ form line
    → rest_gives rules old s ≡ Err (place number flaw.column flaw.what)
line_stops rules s form next flaw old new number line takes gives answer = stops rules s (form line) (λ y. Ok (next y)) flaw old new number line gives (takes.admits line) answer

-- there is none, or it is too long
pub line_wants : {S X : Type 0} (rules : Rules S (Unit {0})) (s : S) (form : List ℕ → Result X Flaw) (next : X → S) (old new : Reading) (at : At) → TakesLine rules s form next
    → HasNoLine old new BadLine at → rest_gives rules old s ≡ Err at
line_wants rules s form next old new at takes none = has_none rules s old new BadLine at takes.ends none

-- ---- a line that is read elsewhere

pub line_read_by : {S X : Type 0} (rules : Rules S (Unit {0})) (s : S) (part : Result X Flaw) (next : X → S) (view : X → X) (old new : Reading) (number : ℕ) (line : List ℕ) (r : Result X At)
    → GivesLine old new number line
    → rules.admit s line ≡ and_then part (λ x. Ok (next x)) → MatchResult r (λ z. part ≡ Ok (view z)) (λ at. at_line number part ≡ Err at) → ReadsFree rules old new s (λ z. next (view z)) r
line_read_by rules s part next view old new number line (Ok z) gives admits answer = goes_on rules s (next (view z)) part (λ x. Ok (next x)) (view z) old new number line gives admits (sym answer) refl
line_read_by {S} {X} rules s part next view old new number line (Err at) gives admits answer = by_part part refl answer
  where
    by_part : (p : Result X Flaw) → part ≡ p → at_line number p ≡ Err at → rest_gives rules old s ≡ Err at
    by_part (Ok x) is e = absurd cc
    by_part (Err flaw) is e = let same : place number flaw.column flaw.what ≡ at = cc in stops rules s part (λ x. Ok (next x)) flaw old new number line gives admits (sym is) ∙ ap Err same

-- a test that failed
pub differs : (t u : Bool) → u ≡ not t → u ≡ true → t ≡ false
differs true u is holds = absurd (cc (is, holds))
differs false u is holds = refl

pub agrees : (t u : Bool) → u ≡ not t → u ≡ false → t ≡ true
agrees true u is fails = refl
agrees false u is fails = absurd (cc (is, fails))

-- ---- parts of a text

-- a part after another
pub reads_behind : {S F X : Type 0} (rules : Rules S F) (s middle : S) (next : X → S) (old between new : Reading) (r : Result X TextFault)
    → rest_gives rules old s ≡ rest_gives rules between middle → Reads rules between new middle next r → Reads rules old new s next r
reads_behind rules s middle next old between new (Ok x) first second = first ∙ second
reads_behind rules s middle next old between new (Err fault) first second = handed_on _ _ fault first second
