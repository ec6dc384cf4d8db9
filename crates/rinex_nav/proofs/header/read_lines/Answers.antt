-- The lines of the header up to the last one.
use Rattle.std.proofs.Common.{◌≡◌, Bool, true, false, List, ℕ, Ok, [], refl, sym, ap, ◌∙◌}
use Rattle.rinex_head.proofs.LineRuleLaws.{takes, has_none}
use Rattle.rinex_head.specs.declared.system.System.{System}
use Rattle.rinex_head.specs.declared.place.What.TheVariants.{NoEnd}
use Rattle.rinex_nav.specs.FirstLine.{ends_header}
use Rattle.rinex_nav.specs.NavRules.{Head, Body, admit, after_header, Expected, nav_rules}
use Rattle.rinex_head.specs.declared.place.Flaw.{Flaw}
use Rattle.std.specs.declared.result.Result.{Result}
use Rattle.rinex_nav.proofs.Steps.{hands_on}
use Rattle.rinex_nav.proofs.header.read_lines.Goals as goal

at_end : (system : System) (bytes : List ℕ) (t : Bool) → t ≡ ends_header bytes → admit system Head bytes ≡ Ok (after_header t)
at_end system bytes t is = let found : Expected → Result Expected Flaw = λ e. Ok e in ap (λ (u : Bool). found (after_header u)) (sym is)

pub returns-in_err-line : goal.returns-in_err-line
returns-in_err-line c = λ system. hands_on system Head (λ u. Body [] false) _ _ c.from_residual.result _ c.from_residual.ensures.1
    (c.header.invariant system ∙ has_none (nav_rules system) Head _ _ NoEnd _ refl c.in_err-line.ensures)

pub returns-then-is_last : goal.returns-then-is_last
returns-then-is_last c = λ system.
    c.header.invariant system ∙ takes (nav_rules system) Head (Body [] false) _ _ _ c.in_ok-line.line.bytes.now c.in_ok-line.ensures
    (at_end system c.in_ok-line.line.bytes.now true (sym c.if-is_last.true ∙ c.is_last.ensures))

pub header-preserved : goal.header-preserved
header-preserved c = λ system.
    c.header.invariant system ∙ takes (nav_rules system) Head Head _ _ _ c.in_ok-line.line.bytes.now c.in_ok-line.ensures
    (at_end system c.in_ok-line.line.bytes.now false (sym c.if-is_last.false ∙ c.is_last.ensures))
