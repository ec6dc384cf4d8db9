use Rattle.std.proofs.Common.{ℕ, arith, refl, below_more, ◌∙◌}
use Rattle.quadratic_form.specs.Tables.{entry, item}
use Rattle.decorrelate.specs.Moving.{IsMoved}
use Rattle.decorrelate.proofs.TurnLaws.{moved_along}
use Rattle.decorrelate.proofs.columns.move_rows.Goals as goal

pub loop-row-preserved : goal.loop-row-preserved
loop-row-preserved c =
    let row : ℕ = c.loop-row.row in
    let old = c.args.map.now in
    let so_far = c.loop-row.map in
    let new = c.move_row.new.map in
    let here : IsMoved (item c.args.ks.now) c.args.j (entry old row) (entry new row) =
    moved_along (item c.args.ks.now) (entry so_far row) (entry old row) (entry new row) (entry new row) c.args.j (λ d. c.loop-row.invariant.rest row d (omega arith)) (λ d. refl) c.move_row.ensures.moved in
    record {
      moved = below_more (λ (i : ℕ). IsMoved (item c.args.ks.now) c.args.j (entry old i) (entry new i)) row
          (λ i h. moved_along (item c.args.ks.now) (entry old i) (entry old i) (entry so_far i) (entry new i) c.args.j (λ d. refl) (λ d. c.move_row.ensures.others i d (omega arith))
          (c.loop-row.invariant.moved i h)) here;
      rest = λ i d h. c.move_row.ensures.others i d (omega arith) ∙ c.loop-row.invariant.rest i d (omega arith);
    }
