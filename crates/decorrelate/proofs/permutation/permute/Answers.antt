use Rattle.std.proofs.Common.{◌≡◌, ℕ, ◌+◌, ◌<◌, sym, to_z, of_z, w64}
use Rattle.std.proofs.lemmas.Int.{to_z-of_z}
use Rattle.quadratic_form.specs.Tables.{entry, item}
use Rattle.decorrelate.specs.Turning.{IsRowTurned}
use Rattle.decorrelate.specs.Permuted.{AreRowsPermuted}
use Rattle.decorrelate.proofs.PermutationLaws.{columns_as, rows_small, later_row, permuted_tables}
use Rattle.decorrelate.proofs.permutation.permute.Goals as goal

pub turn_later_rows-requires-clause-small : goal.turn_later_rows-requires-clause-small
turn_later_rows-requires-clause-small c =
    let q_word : to_z w64 (of_z w64 c.args.q) ≡ c.args.q = to_z-of_z w64 c.args.q c.ranges.q in
    rows_small c.args.j c.args.q (item c.args.left.now) c.args.l.now c.permute_rows.new.l (rw q_word at c.permute_rows.ensures) c.requires.small c.requires.narrow.left c.requires.narrow.between

pub turn_later_rows-requires-clause-narrow : goal.turn_later_rows-requires-clause-narrow
turn_later_rows-requires-clause-narrow c =
    let r_word : to_z w64 (of_z w64 c.args.r) ≡ c.args.r = to_z-of_z w64 c.args.r c.ranges.r in
    let q_word : to_z w64 (of_z w64 c.args.q) ≡ c.args.q = to_z-of_z w64 c.args.q c.ranges.q in
    let rows_permuted : AreRowsPermuted c.args.j c.args.q (item c.args.left.now) c.args.l.now c.permute_rows.new.l = rw q_word at c.permute_rows.ensures in
    rw (r_word, q_word) (λ i h g. columns_as c.args.r c.args.q c.args.j (entry c.args.l.now i) (entry c.permute_rows.new.l i)
    (λ m. sym (later_row c.args.j c.args.q (item c.args.left.now) c.args.l.now c.permute_rows.new.l rows_permuted i h m)) (c.requires.narrow.columns i h g))

pub returns : goal.returns
returns c =
    let r_word : to_z w64 (of_z w64 c.args.r) ≡ c.args.r = to_z-of_z w64 c.args.r c.ranges.r in
    let q_word : to_z w64 (of_z w64 c.args.q) ≡ c.args.q = to_z-of_z w64 c.args.q c.ranges.q in
    let turned : (i : ℕ) → c.args.j + 1 < i → i < c.args.size → IsRowTurned c.args.r c.args.q c.args.j (entry c.permute_rows.new.l i) (entry c.turn_later_rows.new.l i) =
    rw (r_word, q_word) at c.turn_later_rows.ensures.turned in
    permuted_tables c.args.size c.args.j c.args.r c.args.q (item c.args.left.now) c.args.l.now c.permute_rows.new.l c.turn_later_rows.new.l (rw q_word at c.permute_rows.ensures)
    c.requires.narrow c.requires.small turned c.turn_later_rows.ensures.others
