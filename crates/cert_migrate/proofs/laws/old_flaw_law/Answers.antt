use Rattle.std.proofs.Common.{◌≡◌, ℕ, ◌+◌, List, [], ◌∷◌, Result, Ok, Err, refl, ◌∙◌}
use Rattle.rinex_head.specs.declared.place.Flaw.{Flaw}
use Rattle.rinex_head.specs.Places.{and_then, at_line}
use Rattle.rinex_head.specs.LineRules.{walk, admitted}
use Rattle.rinex_head.proofs.OwnFlawLaws.{own_flaw}
use Rattle.line_source.specs.EndedLines.{ended_lines}
use Rattle.cert_lines.specs.declared.version.Version.TheVariants.{One}
use Rattle.cert_text.specs.Rules.{Expected, Form, cert_rules}
use Rattle.cert_migrate.specs.OldRules.{old_rules}
use Rattle.cert_migrate.proofs.laws.old_flaw_law.Goals as goal

-- where a text begins is no matter once something is expected
walk_same : (lines : List (List ℕ)) (n : ℕ) (s : Expected) → walk old_rules lines n s ≡ walk cert_rules lines n s
unfolding walk
walk_same [] n s = refl
walk_same (line ∷ lines) n s = by_admitted (λ next. walk_same lines (n + 1) next) (admitted cert_rules s line)
  where
    by_admitted : ((next : Expected) → walk old_rules lines (n + 1) next ≡ walk cert_rules lines (n + 1) next) → (r : Result Expected Flaw)
        → and_then (at_line (n + 1) r) (λ next. walk old_rules lines (n + 1) next) ≡ and_then (at_line (n + 1) r) (λ next. walk cert_rules lines (n + 1) next)
    by_admitted again (Ok next) = again next
    by_admitted again (Err flaw) = refl

pub returns : goal.returns
returns c = λ text at gives. own_flaw old_rules (ended_lines text) at (walk_same (ended_lines text) 0 (Form One) ∙ gives)
