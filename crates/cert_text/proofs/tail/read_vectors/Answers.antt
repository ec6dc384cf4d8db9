use Rattle.std.proofs.Common.{◌∙◌, rules, arith}
use Rattle.std.proofs.lemmas.Grind.{common_steps}
use Rattle.std.proofs.lemmas.Result.{err_from_is_err_and}
use Rattle.cert_data.specs.Tails.{IsMove}
use Rattle.cert_lines.proofs.TailLaws.{word126}
use Rattle.cert_text.specs.Rules.{Second, Move, Values, Last, End}
use Rattle.cert_text.proofs.LineLaws.{second_taken, move_taken, values_taken, decision_taken}
use Rattle.cert_text.proofs.TailLaws.{vectors_told, vectors_whole, vectors_column}
use Rattle.cert_text.proofs.tail.read_vectors.Goals as goal

pub returns-in_err-second-clause-reads : goal.returns-in_err-second-clause-reads
returns-in_err-second-clause-reads c =
    let count = c.args.count in
    let refusal = err_from_is_err_and c.from_residual.result c.from_residual.ensures.1 in
    rw (refusal.1, refusal.2) (c.in_err-second.ensures.reads (Second count) (λ z. Move) (second_taken count))

pub returns-in_err-moved-clause-reads : goal.returns-in_err-moved-clause-reads
returns-in_err-moved-clause-reads c =
    let count = c.args.count in
    let refusal = err_from_is_err_and c.from_residual-in_err-moved.result c.from_residual-in_err-moved.ensures.1 in
    rw (refusal.1, refusal.2) (c.in_ok-second.ensures.reads (Second count) (λ z. Move) (second_taken count)
    ∙ c.in_err-moved.ensures.reads Move (λ m. Values) move_taken)

pub returns-in_err-values-clause-reads : goal.returns-in_err-values-clause-reads
returns-in_err-values-clause-reads c =
    let count = c.args.count in
    let refusal = err_from_is_err_and c.from_residual-in_err-values.result c.from_residual-in_err-values.ensures.1 in
    rw (refusal.1, refusal.2) (c.in_ok-second.ensures.reads (Second count) (λ z. Move) (second_taken count)
    ∙ c.in_ok-moved.ensures.reads Move (λ m. Values) move_taken
    ∙ c.in_err-values.ensures.reads Values (λ v. Last) values_taken)

pub returns-in_err-fixed-clause-reads : goal.returns-in_err-fixed-clause-reads
returns-in_err-fixed-clause-reads c =
    let count = c.args.count in
    let refusal = err_from_is_err_and c.from_residual-in_err-fixed.result c.from_residual-in_err-fixed.ensures.1 in
    rw (refusal.1, refusal.2) (c.in_ok-second.ensures.reads (Second count) (λ z. Move) (second_taken count)
    ∙ c.in_ok-moved.ensures.reads Move (λ m. Values) move_taken
    ∙ c.in_ok-values.ensures.reads Values (λ v. Last) values_taken
    ∙ c.in_err-fixed.ensures.reads Last (λ f. End) decision_taken)

pub returns-clause-reads : goal.returns-clause-reads
returns-clause-reads c =
    let count = c.args.count in
    c.in_ok-second.ensures.reads (Second count) (λ z. Move) (second_taken count)
    ∙ c.in_ok-moved.ensures.reads Move (λ m. Values) move_taken
    ∙ c.in_ok-values.ensures.reads Values (λ v. Last) values_taken
    ∙ c.in_ok-fixed.ensures.reads Last (λ f. End) decision_taken

pub returns-clause-fits : goal.returns-clause-fits
returns-clause-fits c = λ ss arcs budget is.
    let read_values = c.in_ok-values.values in
    let moved : IsMove c.in_ok-moved.moved = search rules in
    c.of_vectors.ensures.fits ss arcs budget (record {
      moved_in = moved;
      values = record {
        h_to = c.in_ok-values.ensures.h;
        size = is;
        first_in = c.requires.small;
        second_in = c.in_ok-second.ensures.small;
        p1_in = rw (word126 read_values.p1 c.in_ok-values.ensures.p1) c.in_ok-values.ensures.p1;
        p2_in = rw (word126 read_values.p2 c.in_ok-values.ensures.p2) c.in_ok-values.ensures.p2;
        top_in = rw (word126 read_values.top c.in_ok-values.ensures.top) c.in_ok-values.ensures.top;
      };
    })

pub returns-clause-took : goal.returns-clause-took
returns-clause-took c =
    rw (vectors_told c.in_ok-fixed.fixed _ _ _ _ c.of_vectors.result c.of_vectors.ensures.value) (first_of (search rules, grind (arith, common_steps)))

pub returns-clause-whole : goal.returns-clause-whole
returns-clause-whole c = vectors_whole c.in_ok-fixed.fixed _ _ _ _ c.of_vectors.result c.of_vectors.ensures.value (first_of (search rules, grind (arith, common_steps)))

pub returns-clause-column : goal.returns-clause-column
returns-clause-column c = λ version. vectors_column version c.in_ok-fixed.fixed _ _ _ _ c.of_vectors.result c.of_vectors.ensures.value
