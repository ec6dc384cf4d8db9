use Rattle.std.proofs.Common.{[], ◌∷◌, codes, take, SFits, rules}
use Rattle.std.specs.Int.{w128}
use Rattle.std.proofs.lemmas.Int.{to_z-of_z}
use Rattle.cert_lines.specs.Lines.{vector_line, values_line, decision_line}
use Rattle.cert_text.specs.Spelling.{vectors_lines}
use Rattle.cert_text.proofs.Texts.{then_lines, then_written, anyway}
use Rattle.cert_text.proofs.written_tails.push_vectors.Goals as goal

pub returns-clause-text : goal.returns-clause-text
returns-clause-text c =
    let before = c.args.out.now.items in
    let best = c.args.best.now in
    let first_line = vector_line (codes "z1") (take best.size best.first) in
    let second_line = vector_line (codes "z2") (take best.size best.second) in
    let move = vector_line (codes "move") c.args.moved.now in
    let p1_fits : SFits w128 best.p1 = search rules in
    let p2_fits : SFits w128 best.p2 = search rules in
    let top_fits : SFits w128 c.args.top = search rules in
    let values = rw (to_z-of_z w128 best.p1 p1_fits, to_z-of_z w128 best.p2 p2_fits, to_z-of_z w128 c.args.top top_fits) at c.in_ok-push_values_line.ensures in
    let two = then_lines before _ _ (first_line ∷ []) (second_line ∷ []) c.in_ok-push_vector_line.ensures c.in_ok-push_vector_line-2.ensures in
    let three = then_lines before _ _ (first_line ∷ second_line ∷ []) (move ∷ []) two c.in_ok-push_vector_line-3.ensures in
    let four = then_lines before _ _ (first_line ∷ second_line ∷ move ∷ []) (values_line c.args.h best.p1 best.p2 c.args.top ∷ []) three values in
    then_written before _ _ (vectors_lines c.args.h c.args.moved.now best c.args.top) (decision_line c.args.fixed ∷ []) _ four c.push_decision_line.ensures

pub returns-clause-whole : goal.returns-clause-whole
returns-clause-whole c = anyway c.push_decision_line.result (record { move = search rules; first = search rules; second = search rules })
