-- A refusal has the flaw of its own line.
use Rattle.std.proofs.Common.{◌≡◌, ℕ, ◌+◌, List, [], ◌∷◌, ◌++◌, length, Result, Ok, Err, refl, ap, ◌∙◌, arith}
use Rattle.rinex_head.specs.declared.place.Flaw.{Flaw}
use Rattle.rinex_head.specs.declared.place.At.{At}
use Rattle.rinex_head.specs.Places.{and_then, at_line}
use Rattle.rinex_head.specs.LineRules.{Rules, admitted, walk, text_gives}
use Rattle.rinex_head.specs.OwnFlaws.{AreAdmitted, HasFlaw, IsOwnFlaw}

abbrev flaw_of : At → Flaw
flaw_of at = record { column = at.column; what = at.what }

flaw_there : {A : Type 0} (n : ℕ) (r : Result A Flaw) (at : At) → at_line n r ≡ Err at → (at.line ≡ n) × (r ≡ Err (flaw_of at))
flaw_there n (Ok x) at e = absurd cc
flaw_there n (Err flaw) at e = (cc, cc)

own_place : {F : Type 0} (n : ℕ) (flaw : Flaw) (at : At) → at_line {A = F} n (Err flaw) ≡ Err at → (at.line ≡ n) × (flaw ≡ flaw_of at)
own_place n flaw at e = (cc, cc)

-- the same where lines stand before
record FlawFrom {S F : Type 0} (rules : Rules S F) (s : S) (n : ℕ) (lines : List (List ℕ)) (at : At) : Type 0 where
  front : List (List ℕ)
  rest : List (List ℕ)
  split : lines ≡ front ++ rest
  numbered : at.line ≡ n + length front + 1
  last : S
  before : AreAdmitted rules s front last
  flaw : HasFlaw rules last rest (flaw_of at)

flaw_from : {S F : Type 0} (rules : Rules S F) (s : S) (n : ℕ) (lines : List (List ℕ)) (at : At) → walk rules lines n s ≡ Err at → FlawFrom rules s n lines at
unfolding walk
flaw_from rules s n [] at e =
    let there = flaw_there (n + 1) (rules.finish s) at e in
    record { front = []; rest = []; split = refl; numbered = omega (arith, there.0); last = s; before = refl; flaw = there.1 }
flaw_from {S} {F} rules s n (line ∷ lines) at e = by_first (λ next. flaw_from rules next (n + 1) lines at) (admitted rules s line) refl e
  where
    by_first : ((next : S) → walk rules lines (n + 1) next ≡ Err at → FlawFrom rules next (n + 1) lines at) → (r : Result S Flaw) → admitted rules s line ≡ r
        → and_then (at_line (n + 1) r) (λ next. walk rules lines (n + 1) next) ≡ Err at → FlawFrom rules s n (line ∷ lines) at
    by_first again (Err flaw) is gives =
        let there = own_place {F = F} (n + 1) flaw at gives in
        record { front = []; rest = line ∷ lines; split = refl; numbered = omega (arith, there.0); last = s; before = refl; flaw = is ∙ ap (λ (f : Flaw). Err f) there.1 }
    by_first again (Ok next) is gives =
        let later = again next gives in
        record {
          front = line ∷ later.front;
          rest = later.rest;
          split = ap (λ (l : List (List ℕ)). line ∷ l) later.split;
          numbered = omega (arith, later.numbered);
          last = later.last;
          before = (next, is, later.before);
          flaw = later.flaw;
        }

pub own_flaw : {S F : Type 0} (rules : Rules S F) (lines : List (List ℕ)) (at : At) → text_gives rules lines ≡ Err at → IsOwnFlaw rules lines at
own_flaw rules lines at gives =
    let found = flaw_from rules rules.start 0 lines at gives in
    record { front = found.front; rest = found.rest; split = found.split; numbered = omega (arith, found.numbered); last = found.last; before = found.before; flaw = found.flaw }
