use Rattle.std.proofs.Common.{◌≡◌, ◌^◌, ◌≤◌, ◌++◌, ◌∷◌, [], List, length, map, get_or, All, pos, ◌≤ℤ◌, arith, sym, ap, ap₂, ◌∙◌, subst, rules}
use Rattle.std.proofs.lemmas.List.{map_more, take_all}
use Rattle.std.proofs.lemmas.List.Elements.{All-push, All-nil}
use Rattle.obs_rows.specs.declared.rows.Row.{Row}
use Rattle.fix_decide.specs.declared.reaches.ResidualBox.{ResidualBox}
use Rattle.fix_decide.specs.declared.reaches.RowReach.{RowReach}
use Rattle.fix_decide.specs.Reaches.{extent, IsNarrow}
use Rattle.fix_decide.specs.UpperSums.{reach_of}
use Rattle.fix_decide.proofs.Wide.{on_err}
use Rattle.fix_decide.proofs.RowReachLaws.{seen_row}
use Rattle.fix_decide.proofs.pairs.put_reaches.Goals as goal

abbrev none : RowReach
none = record { advance = pos 0; rad = pos 0 }

pub loop-k-init : goal.loop-k-init
loop-k-init c = record {
  value = λ arcs ss m seen. c.requires.empty;
  full = ap length c.requires.empty;
  narrow = subst (All IsNarrow) (sym c.requires.empty) (All-nil IsNarrow);
}

pub returns-in_err-reach_at-clause-wide : goal.returns-in_err-reach_at-clause-wide
returns-in_err-reach_at-clause-wide c = λ arcs ss m seen.
    let k = c.loop-k.k in
    let row : Row = c.index-rows-k.result in
    let wide : pos (2 ^ 33) ≤ℤ extent (reach_of arcs ss c.args.z.now m c.args.signal row) = subst (λ (p : ResidualBox). pos (2 ^ 33) ≤ℤ extent p)
    (seen_row arcs ss c.args.z.now m c.args.signal c.args.rows.now c.args.places.now c.args.moves.now seen k row none c.loop-k-test.true c.index-rows-k.is) c.in_err-reach_at.ensures.wide in
    on_err c.from_residual.result (k, row, c.loop-k-test.true, sym c.index-rows-k.is, wide)

pub loop-k-preserved : goal.loop-k-preserved
loop-k-preserved c =
    let k = c.loop-k.k in
    let rows : List Row = c.args.rows.now in
    let row : Row = c.index-rows-k.result in
    let box : ResidualBox = c.in_ok-reach_at.field-0 in
    record {
      value = λ arcs ss m seen.
          let f : Row → ResidualBox = reach_of arcs ss c.args.z.now m c.args.signal in
          let reach_is : c.in_ok-reach_at.field-0 ≡ f (get_or c.args.rows.now c.loop-k.k c.index-rows-k.result) = c.in_ok-reach_at.ensures.value
          ∙ seen_row arcs ss c.args.z.now m c.args.signal rows c.args.places.now c.args.moves.now seen k row none c.loop-k-test.true c.index-rows-k.is ∙ ap f c.index-rows-k.is in
          c.push.ensures.items ∙ ap₂ (λ (a : List ResidualBox) (b : ResidualBox). a ++ b ∷ []) (c.loop-k.invariant.value arcs ss m seen) reach_is ∙ sym (map_more f rows k row c.loop-k-test.true);
      full = search rules;
      narrow = subst (All IsNarrow) (sym c.push.ensures.items) (All-push IsNarrow c.loop-k.reaches.items box c.loop-k.invariant.narrow c.in_ok-reach_at.ensures.narrow);
    }

pub returns-clause-value : goal.returns-clause-value
returns-clause-value c = λ arcs ss m seen.
    let rows : List Row = c.args.rows.now in
    let past : length c.args.rows.now ≤ c.loop-k.k = omega (arith, c.loop-k-test.false) in
    c.loop-k.invariant.value arcs ss m seen ∙ ap (λ (l : List Row). map (reach_of arcs ss c.args.z.now m c.args.signal) l) (take_all c.loop-k.k rows past)
