-- What rules refuse at a line, they refuse in each text with the same lines up to that one.
use Rattle.std.proofs.Common.{◌≡◌, ◌+◌, ◌<◌, ℕ, zero, suc, List, [], ◌∷◌, ◌≤◌, length, take, Result, Ok, Err, sym, ap, ◌∙◌, subst, arith}
use Rattle.rinex_head.specs.declared.place.Flaw.{Flaw}
use Rattle.rinex_head.specs.declared.place.At.{At}
use Rattle.rinex_head.specs.Places.{and_then, place, at_line}
use Rattle.rinex_head.specs.LineRules.{Rules, admitted, walk}
use Rattle.rinex_head.proofs.LineRuleLaws.{walk-takes, walk-took}
use Rattle.rinex_head.proofs.Stops.{at_line-number}

-- the place is after the lines that were read before
behind_read : {S F : Type 0} (rules : Rules S F) (lines : List (List ℕ)) (n : ℕ) (s : S) (at : At) → walk rules lines n s ≡ Err at → n < at.line
unfolding walk
behind_read rules [] n s at e = let number = at_line-number (n + 1) (rules.finish s) at e in omega (arith, number)
behind_read {S} {F} rules (line ∷ lines) n s at e = by_first (λ next. behind_read rules lines (n + 1) next at) (admitted rules s line) e
  where
    by_first : ((next : S) → walk rules lines (n + 1) next ≡ Err at → n + 1 < at.line) → (r : Result S Flaw)
        → and_then (at_line (n + 1) r) (λ next. walk rules lines (n + 1) next) ≡ Err at → n < at.line
    by_first later (Ok next) gives = let behind = later next gives in omega (arith, behind)
    by_first later (Err flaw) gives = let same : place (n + 1) flaw.column flaw.what ≡ at = cc in let number = ap (λ (a : At). a.line) same in omega (arith, number)

-- the lines are the same, up to the place
agree : {S F : Type 0} (rules : Rules S F) (lines others : List (List ℕ)) (n m : ℕ) (s : S) (at : At) (whole : F) → at.line ≡ n + m → walk rules lines n s ≡ Err at → walk rules others n s ≡ Ok whole
    → take m others ≡ take m lines → ⊥
agree rules lines others n zero s at whole number refuses takes same = let behind = behind_read rules lines n s at refuses in absurd (omega (arith, behind, number))
agree rules [] [] n (suc m) s at whole number refuses takes same = absurd (cc (refuses, takes))
agree rules [] (other ∷ others) n (suc m) s at whole number refuses takes same = absurd cc
agree rules (line ∷ lines) [] n (suc m) s at whole number refuses takes same = absurd cc
agree {S} {F} rules (line ∷ lines) (other ∷ others) n (suc m) s at whole number refuses takes same =
    let took = walk-took rules s other others n whole takes in
    let one : other ≡ line = cc (same) in
    let rest : take m others ≡ take m lines = cc (same) in
    let short = subst (λ (l : List ℕ). length l ≤ 4096) one took.short in
    let admits = subst (λ (l : List ℕ). rules.admit s l ≡ Ok took.next) one took.admits in
    let later : walk rules lines (n + 1) took.next ≡ Err at = sym (walk-takes rules s took.next line lines n short admits) ∙ refuses in
    agree rules lines others (n + 1) m took.next at whole (omega (arith, number)) later took.others rest

pub none_agrees : {S F : Type 0} (rules : Rules S F) (lines others : List (List ℕ)) (s : S) (at : At) (whole : F) → walk rules lines 0 s ≡ Err at → walk rules others 0 s ≡ Ok whole
    → take at.line others ≡ take at.line lines → ⊥
none_agrees rules lines others s at whole refuses takes same = agree rules lines others 0 at.line s at whole (omega arith) refuses takes same
