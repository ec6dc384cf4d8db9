use Rattle.std.proofs.Common.{◌≡◌, ◌<◌, false, [], length, get_or, arith, sym, ◌∙◌, subst, ℕ}
use Rattle.std.proofs.lemmas.Option.{slice_get-get_or}
use Rattle.obs_rows.specs.declared.arcs.Arc.{Arc}
use Rattle.track_rows.proofs.Marks.{more_marked, all_marked}
use Rattle.track_rows.proofs.walks.marked.Goals as goal

pub loop-k-preserved : goal.loop-k-preserved
loop-k-preserved c =
    let k : ℕ = c.loop-k.k in
    let no_arc : Arc = record { sat = 0; first = 0; last = 0; datum = false; shift = [] } in
    let inside : k < length c.args.arcs.now = c.loop-k-test.true in
    let flagged : k < length c.args.begun.now = subst (λ (n : ℕ). k < n) (sym c.requires) inside in
    more_marked k c.args.begun.now c.args.arcs.now c.args.pair c.loop-k.flags.items c.push.new.self.items (get_or c.args.arcs.now k no_arc) (get_or c.args.begun.now k false)
    c.has_begun.result c.loop-k.invariant
    (slice_get-get_or c.args.arcs.now k no_arc inside) (slice_get-get_or c.args.begun.now k false flagged) c.has_begun.ensures c.in_ok-push.ensures.items

pub returns : goal.returns
returns c =
    let all_arcs_done : length c.args.arcs.now ≡ c.loop-k.k = omega arith in
    all_marked c.loop-k.k c.args.begun.now c.args.arcs.now c.args.pair c.loop-k.flags.items c.loop-k.invariant (c.requires ∙ all_arcs_done) all_arcs_done
