use Rattle.std.proofs.Common.{◌∙◌, take, rules, arith}
use Rattle.std.proofs.lemmas.Grind.{common_steps}
use Rattle.std.proofs.lemmas.Result.{err_from_is_err_and}
use Rattle.rinex_head.proofs.LineRuleLaws.{handed_on}
use Rattle.cert_lines.proofs.TailLaws.{word126}
use Rattle.track_text.specs.Rules.{numbers_of, before_moves, Second, Values, Last, End}
use Rattle.track_text.proofs.LineLaws.{second_taken, values_taken, decision_taken}
use Rattle.track_text.proofs.TailLaws.{vectors_told, vectors_whole, vectors_took}
use Rattle.track_text.proofs.tail.read_vectors.Goals as goal

pub returns-in_err-second-clause-reads : goal.returns-in_err-second-clause-reads
returns-in_err-second-clause-reads c =
    let count = c.args.count in
    let numbers = numbers_of c.args.pairs.now in
    let is_error = err_from_is_err_and c.from_residual.result c.from_residual.ensures.1 in
    rw (is_error.1, is_error.2) (c.in_err-second.ensures.reads (Second count numbers) (λ z. before_moves numbers) (second_taken count numbers))

pub returns-in_err-moves-clause-reads : goal.returns-in_err-moves-clause-reads
returns-in_err-moves-clause-reads c =
    let count = c.args.count in
    let numbers = numbers_of c.args.pairs.now in
    let is_error = err_from_is_err_and c.from_residual-in_err-moves.result c.from_residual-in_err-moves.ensures.1 in
    rw (is_error.1, is_error.2) (handed_on _ _ c.in_err-moves.field-0.0 (c.in_ok-second.ensures.reads (Second count numbers) (λ z. before_moves numbers) (second_taken count numbers)) c.in_err-moves.ensures.reads)

pub returns-in_err-values-clause-reads : goal.returns-in_err-values-clause-reads
returns-in_err-values-clause-reads c =
    let count = c.args.count in
    let numbers = numbers_of c.args.pairs.now in
    let is_error = err_from_is_err_and c.from_residual-in_err-values.result c.from_residual-in_err-values.ensures.1 in
    rw (is_error.1, is_error.2) (c.in_ok-second.ensures.reads (Second count numbers) (λ z. before_moves numbers) (second_taken count numbers)
    ∙ c.in_ok-moves.ensures.reads
    ∙ c.in_err-values.ensures.reads Values (λ v. Last) values_taken)

pub returns-in_err-fixed-clause-reads : goal.returns-in_err-fixed-clause-reads
returns-in_err-fixed-clause-reads c =
    let count = c.args.count in
    let numbers = numbers_of c.args.pairs.now in
    let is_error = err_from_is_err_and c.from_residual-in_err-fixed.result c.from_residual-in_err-fixed.ensures.1 in
    rw (is_error.1, is_error.2) (c.in_ok-second.ensures.reads (Second count numbers) (λ z. before_moves numbers) (second_taken count numbers)
    ∙ c.in_ok-moves.ensures.reads
    ∙ c.in_ok-values.ensures.reads Values (λ v. Last) values_taken
    ∙ c.in_err-fixed.ensures.reads Last (λ f. End) decision_taken)

pub returns-clause-reads : goal.returns-clause-reads
returns-clause-reads c =
    let count = c.args.count in
    let numbers = numbers_of c.args.pairs.now in
    c.in_ok-second.ensures.reads (Second count numbers) (λ z. before_moves numbers) (second_taken count numbers)
    ∙ c.in_ok-moves.ensures.reads
    ∙ c.in_ok-values.ensures.reads Values (λ v. Last) values_taken
    ∙ c.in_ok-fixed.ensures.reads Last (λ f. End) decision_taken

pub returns-clause-fits : goal.returns-clause-fits
returns-clause-fits c = λ ss arcs budget is.
    let read_values = c.in_ok-values.values in
    c.of_vectors.ensures.fits ss arcs c.args.pairs.now budget (record {
      move_each = c.in_ok-moves.ensures.each;
      moves_in = c.in_ok-moves.ensures.in_range;
      values = record {
        h_to = c.in_ok-values.ensures.h;
        size = is;
        first_in = c.requires.small;
        second_in = c.in_ok-second.ensures.small;
        p1_in = rw (word126 read_values.p1 c.in_ok-values.ensures.p1) c.in_ok-values.ensures.p1;
        p2_in = rw (word126 read_values.p2 c.in_ok-values.ensures.p2) c.in_ok-values.ensures.p2;
        top_in = rw (word126 read_values.top c.in_ok-values.ensures.top) c.in_ok-values.ensures.top;
      };
    })

pub returns-clause-took : goal.returns-clause-took
returns-clause-took c =
    let read_values = c.in_ok-values.values in
    let same_first = word126 read_values.p1 c.in_ok-values.ensures.p1 in
    let same_second = word126 read_values.p2 c.in_ok-values.ensures.p2 in
    let top = word126 read_values.top c.in_ok-values.ensures.top in
    let count = c.args.count in
    rw (vectors_told c.args.pairs.now c.in_ok-fixed.fixed _ _ _ _ c.of_vectors.result c.of_vectors.ensures.value)
    (rw (same_first, same_second, top) (vectors_took c.args.pairs.now read_values.h c.in_ok-moves.moves (take count c.args.first) (take count c.in_ok-second.second) read_values.p1 read_values.p2 read_values.top c.in_ok-fixed.fixed _ _ _ _ _
    c.in_ok-second.ensures.took c.in_ok-moves.ensures.took c.in_ok-values.ensures.took c.in_ok-fixed.ensures.took))

pub returns-clause-whole : goal.returns-clause-whole
returns-clause-whole c = vectors_whole c.in_ok-fixed.fixed _ _ _ _ c.of_vectors.result c.of_vectors.ensures.value (first_of (search rules, grind (arith, common_steps)))
