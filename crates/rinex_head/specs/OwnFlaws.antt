-- From where the column and the reason of a refusal come: from the check of the refused line itself.
use Rattle.std.specs.Prelude.{◌≡◌, ℕ, ◌+◌, List, [], ◌∷◌, ◌++◌, length, Ok, Err}
use Rattle.rinex_head.specs.declared.place.At.{At}
use Rattle.rinex_head.specs.declared.place.Flaw.{Flaw}
use Rattle.rinex_head.specs.LineRules.{Rules, admitted}

-- the lines are admitted in turn, and then the last is expected
abbrev pub AreAdmitted : {S F : Type 0} → Rules S F → S → List (List ℕ) → S → Type 0
AreAdmitted rules s [] last = s ≡ last
AreAdmitted {S} rules s (line ∷ lines) last = (next : S) × (admitted rules s line ≡ Ok next) × AreAdmitted rules next lines last

-- the first of these lines has the flaw where s is expected; where there is none, the text may not end
abbrev pub HasFlaw : {S F : Type 0} → Rules S F → S → List (List ℕ) → Flaw → Type 0
HasFlaw rules s [] flaw = rules.finish s ≡ Err flaw
HasFlaw rules s (line ∷ lines) flaw = admitted rules s line ≡ Err flaw

-- The lines before that of the place are admitted in turn, and the check of its own line gives its column and reason.
pub record IsOwnFlaw {S F : Type 0} (rules : Rules S F) (lines : List (List ℕ)) (at : At) : Type 0 where
  pub front : List (List ℕ)
  pub rest : List (List ℕ)
  pub split : lines ≡ front ++ rest
  pub numbered : at.line ≡ length front + 1
  pub last : S
  pub before : AreAdmitted rules rules.start front last
  pub flaw : HasFlaw rules last rest (record { column = at.column; what = at.what })
