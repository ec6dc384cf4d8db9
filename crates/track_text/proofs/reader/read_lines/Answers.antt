use Rattle.std.proofs.Common.{◌∙◌}
use Rattle.std.proofs.lemmas.Result.{err_from_is_err_and}
use Rattle.obs_rows.specs.Signals.{fine_signals}
use Rattle.rinex_head.proofs.LineRuleLaws.{handed_on}
use Rattle.track_text.proofs.reader.read_lines.Goals as goal

pub returns-in_err-arcs-clause-reads : goal.returns-in_err-arcs-clause-reads
returns-in_err-arcs-clause-reads c =
    let is_error = err_from_is_err_and c.from_residual-in_err-arcs.result c.from_residual-in_err-arcs.ensures.1 in
    rw (is_error.1, is_error.2) (handed_on _ _ c.in_err-arcs.field-0.0 c.in_ok-head.ensures.reads (c.in_err-arcs.ensures.reads c.in_ok-head.head.budget))

pub returns-in_err-placed-clause-reads : goal.returns-in_err-placed-clause-reads
returns-in_err-placed-clause-reads c =
    let is_error = err_from_is_err_and c.from_residual-in_err-placed.result c.from_residual-in_err-placed.ensures.1 in
    let budget = c.in_ok-head.head.budget in
    let given = rw c.as_slice-kept.ensures at c.in_err-placed.ensures.reads in
    rw (is_error.1, is_error.2) (handed_on _ _ c.in_err-placed.field-0.0 (c.in_ok-head.ensures.reads ∙ c.in_ok-arcs.ensures.reads budget) (given budget))

pub returns-in_err-tail-clause-reads : goal.returns-in_err-tail-clause-reads
returns-in_err-tail-clause-reads c =
    let is_error = err_from_is_err_and c.from_residual-in_err-tail.result c.from_residual-in_err-tail.ensures.1 in
    let budget = c.in_ok-head.head.budget in
    let fine = fine_signals c.in_ok-head.head.signals in
    let placed = rw c.as_slice-kept.ensures at c.in_ok-placed.ensures.reads in
    let tail = rw c.as_slice-pairs.ensures at c.in_err-tail.ensures.reads in
    let count = rw (c.as_slice-kept.ensures, c.fine_signals-counted.ensures.value) at c.integer_count-integers.ensures in
    rw (is_error.1, is_error.2) (handed_on _ _ c.in_err-tail.field-0.0 (c.in_ok-head.ensures.reads ∙ c.in_ok-arcs.ensures.reads budget ∙ placed budget) (tail fine c.in_ok-arcs.arcs count))

pub returns-in_err-read_end-clause-reads : goal.returns-in_err-read_end-clause-reads
returns-in_err-read_end-clause-reads c =
    let is_error = err_from_is_err_and c.from_residual-in_err-read_end.result c.from_residual-in_err-read_end.ensures.1 in
    let budget = c.in_ok-head.head.budget in
    let fine = fine_signals c.in_ok-head.head.signals in
    let placed = rw c.as_slice-kept.ensures at c.in_ok-placed.ensures.reads in
    let tail = rw c.as_slice-pairs.ensures at c.in_ok-tail.ensures.reads in
    let count = rw (c.as_slice-kept.ensures, c.fine_signals-counted.ensures.value) at c.integer_count-integers.ensures in
    rw (is_error.1, is_error.2) (c.in_ok-head.ensures.reads ∙ c.in_ok-arcs.ensures.reads budget ∙ placed budget ∙ tail fine c.in_ok-arcs.arcs count ∙ c.in_err-read_end.ensures)

pub returns-clause-reads : goal.returns-clause-reads
returns-clause-reads c =
    let budget = c.in_ok-head.head.budget in
    let fine = fine_signals c.in_ok-head.head.signals in
    let placed = rw c.as_slice-kept.ensures at c.in_ok-placed.ensures.reads in
    let tail = rw c.as_slice-pairs.ensures at c.in_ok-tail.ensures.reads in
    let count = rw (c.as_slice-kept.ensures, c.fine_signals-counted.ensures.value) at c.integer_count-integers.ensures in
    c.in_ok-head.ensures.reads ∙ c.in_ok-arcs.ensures.reads budget ∙ placed budget ∙ tail fine c.in_ok-arcs.arcs count ∙ c.in_ok-read_end.ensures.0

pub invariant_of-track-clause-pairs_in : goal.invariant_of-track-clause-pairs_in
invariant_of-track-clause-pairs_in c = rw c.as_slice-kept.ensures at c.in_ok-placed.ensures.are

pub invariant_of-cert-clause-tail_fits : goal.invariant_of-cert-clause-tail_fits
invariant_of-cert-clause-tail_fits c =
    let fine = fine_signals c.in_ok-head.head.signals in
    let fits = rw c.as_slice-pairs.ensures at c.in_ok-tail.ensures.fits in
    let count = rw (c.as_slice-kept.ensures, c.fine_signals-counted.ensures.value) at c.integer_count-integers.ensures in
    fits fine c.in_ok-arcs.arcs count

pub invariant_of-track-clause-base_in : goal.invariant_of-track-clause-base_in
invariant_of-track-clause-base_in c = c.in_ok-head.ensures.base

pub invariant_of-track-clause-shifts_used : goal.invariant_of-track-clause-shifts_used
invariant_of-track-clause-shifts_used c = c.in_ok-arcs.ensures.used
