use Rattle.std.proofs.Common.{◌≡◌, ◌+◌, ◌-◌, ◌∷◌, suc, List, ℕ, length, take, drop, length-drop, ap, sym, ◌∙◌, arith}
use Rattle.std.specs.Str.Lines.{strip_carriage_return}
use Rattle.std.proofs.lemmas.List.{take_all}
use Rattle.line_source.specs.Lines.{lines_of}
use Rattle.line_source.proofs.LineEnds.{first_ended, none_ended}
use Rattle.line_source.proofs.lines.first_line.Goals as goal

pub returns-in-Some-clause-lines : goal.returns-in-Some-clause-lines
returns-in-Some-clause-lines c =
    let text = c.args.text.now in
    let at = c.in-Some.at in
    let next : suc at ≡ at + 1 = omega arith in
    let tail : take (length text - (at + 1)) (drop (at + 1) text) ≡ drop (suc at) text = take_all (length text - (at + 1)) (drop (at + 1) text) (omega (arith, length-drop (at + 1) text)) ∙ ap (λ (k : ℕ). drop k text) (sym next) in
    first_ended text at c.in-Some.ensures
    ∙ ap (λ (l : List ℕ). strip_carriage_return (take at text) ∷ lines_of l) (sym tail)
    ∙ ap (λ (l : List ℕ). l ∷ lines_of (take (length text - (at + 1)) (drop (at + 1) text))) (sym c.without_return.ensures)

pub returns-in-None-clause-lines : goal.returns-in-None-clause-lines
returns-in-None-clause-lines c = none_ended c.args.text.now c.requires c.in-None.ensures
