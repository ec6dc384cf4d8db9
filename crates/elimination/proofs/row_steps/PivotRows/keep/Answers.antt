use Rattle.std.proofs.Common.{◌≡◌, ◌^◌, ℤ, pos, int_lt, false, slice_index_or, refl, subst}
use Rattle.quadratic_form.specs.Tables.{item}
use Rattle.elimination.proofs.RowWords.{word, read}
use Rattle.elimination.proofs.row_steps.PivotRows.keep.Goals as goal

pub returns-clause-strong : goal.returns-clause-strong
returns-clause-strong c =
    let ex : word (slice_index_or c.args.row.now c.args.j (pos 0)) ≡ item c.args.row.now c.args.j = read (slice_index_or c.args.row.now c.args.j (pos 0)) (item c.args.row.now c.args.j) refl c.requires.own_size in
    subst (λ (z : ℤ). int_lt z (pos (2 ^ 20)) ≡ false) ex c.if-a-lt-LEAST_PIVOT.false
