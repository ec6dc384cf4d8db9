use Rattle.std.proofs.Common.{◌≡◌, sym, ◌∙◌, ap}
use Rattle.file_jobs.specs.ZeroRows.{Rows, rows}
use Rattle.file_jobs.proofs.RowsLaws.{rows_of-form}
use Rattle.file_jobs.proofs.zero_laws.one_rows_law.Goals as goal

pub returns : goal.returns
returns c = λ lines z other ds others are same.
    let both = sym (rows_of-form lines z ds are) ∙ rows_of-form lines other others same in
    let one : rows z ds ≡ rows other others = cc (both) in
    (ap (λ (r : Rows). r.claim) one, ap (λ (r : Rows). r.diffs) one)
