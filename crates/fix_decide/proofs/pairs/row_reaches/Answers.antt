use Rattle.std.proofs.Common.{◌≡◌, ◌<◌, ◌++◌, ◌∷◌, [], List, length, get_or, All, sym, ap, ap₂, ◌∙◌, subst, rules}
use Rattle.std.proofs.lemmas.List.{map_more}
use Rattle.std.proofs.lemmas.List.Elements.{All-push}
use Rattle.obs_rows.specs.declared.rows.Row.{Row}
use Rattle.fix_decide.specs.declared.reaches.RowReach.{RowReach}
use Rattle.fix_decide.specs.RowReaches.{IsModest, row_reach}
use Rattle.fix_decide.proofs.pairs.row_reaches.Goals as goal

pub loop-row-preserved : goal.loop-row-preserved
loop-row-preserved c =
    let f : Row → RowReach = row_reach c.args.moved.now in
    let inside : c.loop-row.row-index < length c.args.rows.now = search rules in
    let reach_is : c.row_reach.result ≡ f (get_or c.args.rows.now c.loop-row.row-index c.row-item.result) = c.row_reach.ensures.value ∙ ap f c.row-item.is in
    record {
      value = c.push.ensures.items ∙ ap₂ (λ (a : List RowReach) (b : RowReach). a ++ b ∷ []) c.loop-row.invariant.value reach_is
          ∙ sym (map_more f c.args.rows.now c.loop-row.row-index c.row-item.result inside);
      modest = subst (All IsModest) (sym c.push.ensures.items) (All-push IsModest c.loop-row.moves.items c.row_reach.result c.loop-row.invariant.modest c.row_reach.ensures.modest);
    }
