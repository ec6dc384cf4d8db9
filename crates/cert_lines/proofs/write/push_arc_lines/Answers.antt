use Rattle.std.proofs.Common.{◌≡◌, ◌+◌, ◌<◌, ◌++◌, ◌∷◌, ◌∙◌, ℕ, List, [], All, length, get_or, drop, sym, ap, subst}
use Rattle.std.proofs.lemmas.List.{drop_more, take_all}
use Rattle.std.proofs.lemmas.List.Elements.{All-more}
use Rattle.obs_rows.specs.declared.arcs.Arc.{Arc}
use Rattle.obs_rows.specs.Signals.{fine_signals}
use Rattle.cert_words.specs.Spelling.{text_of_lines}
use Rattle.cert_lines.specs.Lines.{arc_line, arc_lines}
use Rattle.cert_lines.specs.Lengths.{IsWholeArc}
use Rattle.cert_lines.proofs.Appends.{line_pushed}
use Rattle.cert_lines.proofs.write.push_arc_lines.Goals as goal

-- an arc and those after it
arc_pushed : (ss a b whole : List ℕ) (arcs : List Arc) (i : ℕ) (d : Arc) → i < length arcs → b ≡ a ++ text_of_lines (arc_line ss (get_or arcs i d) ∷ [])
    → a ++ text_of_lines (arc_lines ss (drop i arcs)) ≡ whole → b ++ text_of_lines (arc_lines ss (drop (i + 1) arcs)) ≡ whole
arc_pushed ss a b whole arcs i d inside pushed so_far =
    let split = ap (λ (rest : List Arc). a ++ text_of_lines (arc_lines ss rest)) (sym (drop_more arcs i d inside)) in
    line_pushed a b whole (arc_line ss (get_or arcs i d)) (arc_lines ss (drop (i + 1) arcs)) pushed (split ∙ so_far)

pub loop-arc-preserved : goal.loop-arc-preserved
loop-arc-preserved c =
    let arcs = c.args.arcs.now in
    let i = c.loop-arc.arc-index in
    record {
      text = arc_pushed (fine_signals c.args.signals) c.loop-arc.out.items c.push_arc_line.new.out.items _ arcs i _ c.loop-arc-test.true c.in_ok-push_arc_line.ensures.text c.loop-arc.invariant.text;
      whole = All-more IsWholeArc arcs i _ c.loop-arc-test.true c.loop-arc.invariant.whole c.in_ok-push_arc_line.ensures.whole;
    }

pub returns-clause-whole : goal.returns-clause-whole
returns-clause-whole c = subst (λ (arcs : List Arc). All IsWholeArc arcs) (take_all c.loop-arc.arc-index c.args.arcs.now c.loop-arc-test.false) c.loop-arc.invariant.whole
