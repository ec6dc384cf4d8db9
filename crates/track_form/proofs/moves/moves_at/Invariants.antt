use Rattle.std.proofs.Common.{◌≡◌, map, take, All}
use Rattle.quadratic_form.specs.Tables.{zero_rows}
use Rattle.quadratic_form.specs.declared.sizes.TheConstants.{MOST_FORM_COLUMNS}
use Rattle.integer_form.specs.FloatPoint.{HasWide}
use Rattle.track_form.specs.Factors.{move_by}
use Rattle.track_form.proofs.moves.moves_at.Given as goal

abbrev pub invariant-loop-pair : goal.invariant-loop-pair
invariant-loop-pair l = record {
  moves : l.moves.items ≡ map (move_by l.z) (take l.pair-index l.pairs);
  form : l.front.p ≡ zero_rows MOST_FORM_COLUMNS MOST_FORM_COLUMNS;
  narrow : All (λ m. HasWide m → ⊥) l.moves.items;
}
