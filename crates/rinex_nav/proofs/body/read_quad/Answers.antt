-- A further line of a record.
use Rattle.std.proofs.Common.{◌++◌, ◌∷◌, [], Ok, refl, length}
use Rattle.rinex_head.specs.declared.place.What.TheVariants.{Truncated}
use Rattle.rinex_head.proofs.LineRuleLaws.{goes_on, stops, has_none}
use Rattle.rinex_nav.specs.RecordLines.{continuation_of}
use Rattle.rinex_nav.specs.NavRules.{Further, behind, nav_rules}
use Rattle.rinex_nav.proofs.Steps.{hands_on}
use Rattle.rinex_nav.proofs.body.read_quad.Goals as goal

pub returns-in_err-line-clause-reads : goal.returns-in_err-line-clause-reads
returns-in_err-line-clause-reads c = λ system raws s quads at. hands_on system (Further raws s quads) (λ q. behind raws s (quads ++ q ∷ [])) _ _
    c.from_residual.result _ c.from_residual.ensures.1 (has_none (nav_rules system) (Further raws s quads) _ _ Truncated _ refl c.in_err-line.ensures)

pub returns-in-Ok-clause-reads : goal.returns-in-Ok-clause-reads
returns-in-Ok-clause-reads c = λ system raws s quads at.
    let bytes = c.in_ok-line.line.bytes.now in
    let quad = c.in-Ok.quad in
    goes_on (nav_rules system) (Further raws s quads) (behind raws s (quads ++ quad ∷ [])) (continuation_of (length quads) bytes)
    (λ p. Ok (behind raws s (quads ++ p ∷ []))) quad _ _ _ bytes c.in_ok-line.ensures refl (rw at c.in-Ok.ensures) refl

pub returns-in-Err-clause-reads : goal.returns-in-Err-clause-reads
returns-in-Err-clause-reads c = λ system raws s quads at.
    let bytes = c.in_ok-line.line.bytes.now in
    rw c.at.ensures (stops (nav_rules system) (Further raws s quads) (continuation_of (length quads) bytes)
    (λ p. Ok (behind raws s (quads ++ p ∷ []))) _ _ _ _ bytes c.in_ok-line.ensures refl (rw at c.in-Err.ensures))
