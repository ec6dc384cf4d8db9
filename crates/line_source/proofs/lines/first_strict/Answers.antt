use Rattle.std.proofs.Common.{◌≡◌, ◌+◌, ◌-◌, ◌∷◌, ℕ, List, length, take, drop, length-drop, ap, sym, ◌∙◌, arith}
use Rattle.std.proofs.lemmas.List.{take_all}
use Rattle.line_source.specs.EndedLines.{ended_lines}
use Rattle.line_source.proofs.StrictLines.{ended_at, long_first, long_last}
use Rattle.line_source.proofs.lines.first_strict.Goals as goal

pub returns-then-at-gt-MAX_LINE-clause-lines : goal.returns-then-at-gt-MAX_LINE-clause-lines
returns-then-at-gt-MAX_LINE-clause-lines c = long_first c.args.text.now c.in-Some.at c.in-Some.ensures (omega (arith, c.if-at-gt-MAX_LINE.true))

pub returns-then-text-gt-MAX_LINE-clause-lines : goal.returns-then-text-gt-MAX_LINE-clause-lines
returns-then-text-gt-MAX_LINE-clause-lines c = long_last c.args.text.now (omega (arith, c.if-text-gt-MAX_LINE.true)) c.in-None.ensures

pub returns-else-at-gt-MAX_LINE-clause-lines : goal.returns-else-at-gt-MAX_LINE-clause-lines
returns-else-at-gt-MAX_LINE-clause-lines c =
    let text = c.args.text.now in
    let at = c.in-Some.at in
    let tail : take (length text - (at + 1)) (drop (at + 1) text) ≡ drop (at + 1) text = take_all (length text - (at + 1)) (drop (at + 1) text) (omega (arith, length-drop (at + 1) text)) in
    ended_at text at c.in-Some.ensures ∙ ap (λ (l : List ℕ). take at text ∷ ended_lines l) (sym tail)
