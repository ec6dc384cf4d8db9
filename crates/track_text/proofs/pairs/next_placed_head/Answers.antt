use Rattle.std.proofs.Common.{◌-◌, ◌∙◌}
use Rattle.std.proofs.lemmas.Result.{err_from_is_err_and}
use Rattle.track_text.specs.Rules.{frame, before_pairs, before_rows, PairPoint}
use Rattle.track_text.proofs.LineLaws.{pair_taken, point_taken}
use Rattle.track_text.proofs.pairs.next_placed_head.Goals as goal

pub returns-in_err-head-clause-reads : goal.returns-in_err-head-clause-reads
returns-in_err-head-clause-reads c = λ budget ss arcs numbers.
    let p = err_from_is_err_and c.from_residual.result c.from_residual.ensures.1 in
    let f = frame budget ss in
    let left = c.args.left in
    let least = c.args.least in
    rw (p.1, p.2)
    (c.in_err-head.ensures.reads (before_pairs f arcs left least numbers) (λ p. PairPoint f arcs (left - 1) p.number p.count numbers) (pair_taken f arcs left least numbers c.requires))

pub returns-in_err-point-clause-reads : goal.returns-in_err-point-clause-reads
returns-in_err-point-clause-reads c = λ budget ss arcs numbers.
    let p = err_from_is_err_and c.from_residual-in_err-point.result c.from_residual-in_err-point.ensures.1 in
    let f = frame budget ss in
    let left = c.args.left in
    let least = c.args.least in
    let placed_head = c.in_ok-head.head in
    let head = c.in_ok-head.ensures.reads (before_pairs f arcs left least numbers) (λ p. PairPoint f arcs (left - 1) p.number p.count numbers)
    (pair_taken f arcs left least numbers c.requires) in
    rw (p.1, p.2) (head ∙ c.in_err-point.ensures.reads (PairPoint f arcs (left - 1) placed_head.number placed_head.count numbers) (λ p. before_rows f arcs (left - 1) placed_head.number placed_head.count 0 numbers)
    (point_taken f arcs (left - 1) placed_head.number placed_head.count numbers))

pub returns-clause-reads : goal.returns-clause-reads
returns-clause-reads c = λ budget ss arcs numbers.
    let f = frame budget ss in
    let left = c.args.left in
    let least = c.args.least in
    let placed_head = c.in_ok-head.head in
    let head = c.in_ok-head.ensures.reads (before_pairs f arcs left least numbers) (λ p. PairPoint f arcs (left - 1) p.number p.count numbers)
    (pair_taken f arcs left least numbers c.requires) in
    head ∙ c.in_ok-point.ensures.reads (PairPoint f arcs (left - 1) placed_head.number placed_head.count numbers) (λ p. before_rows f arcs (left - 1) placed_head.number placed_head.count 0 numbers)
    (point_taken f arcs (left - 1) placed_head.number placed_head.count numbers)
