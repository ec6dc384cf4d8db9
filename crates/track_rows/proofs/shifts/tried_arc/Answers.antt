use Rattle.std.proofs.Common.{◌<◌, Bool, true, false, List, [], length, Some, get_or, arith, refl, sym, ap, ◌∙◌, subst}
use Rattle.std.proofs.lemmas.Bool.{false≢true}
use Rattle.std.proofs.lemmas.Option.{none-some, slice_get-get_or, get_or_from_slice_get}
use Rattle.obs_rows.specs.declared.arcs.Arc.{Arc}
use Rattle.track_rows.specs.PairRules.{TrackSetting, setting_of}
use Rattle.track_rows.specs.Trials.{IsTriedArc, flagged}
use Rattle.track_rows.proofs.TriedArcs.{begun_arc, other_arc, taken_arc, below_more}
use Rattle.row_build.proofs.BasePseudorangeLaws.{no_sights}
use Rattle.track_rows.proofs.shifts.tried_arc.Goals as goal

pub returns-then-begun-k-clause-tried : goal.returns-then-begun-k-clause-tried
returns-then-begun-k-clause-tried c = λ a is.
    let setting : TrackSetting = setting_of c.args.files.now in
    let no_arc : Arc = record { sat = 0; first = 0; last = 0; datum = false; shift = [] } in
    let arcs : List Arc = c.args.arcs.now in
    let begun : List Bool = c.args.begun.now in
    let inside : c.args.k < length begun = omega arith in
    begun_arc setting (flagged begun c.args.k) c.args.pair c.args.point.now a (get_or arcs c.args.k no_arc) (get_or_from_slice_get arcs c.args.k a no_arc is)
    (slice_get-get_or begun c.args.k false inside ∙ ap (λ (b : Bool). Some b) c.if-begun-k.true)

pub returns-in-None-clause-tried : goal.returns-in-None-clause-tried
returns-in-None-clause-tried c = λ a is.
    let setting : TrackSetting = setting_of c.args.files.now in
    let no_arc : Arc = record { sat = 0; first = 0; last = 0; datum = false; shift = [] } in
    let arcs : List Arc = c.args.arcs.now in
    other_arc setting (flagged c.args.begun.now c.args.k) c.args.pair c.args.point.now arcs c.args.k a (get_or arcs c.args.k no_arc) c.requires.same is (get_or_from_slice_get arcs c.args.k a no_arc is)
    (λ x there. (c.in-None.ensures.none x there).0 refl)

pub returns-in-Some-clause-tried : goal.returns-in-Some-clause-tried
returns-in-Some-clause-tried c = λ a is.
    let setting : TrackSetting = setting_of c.args.files.now in
    let no_arc : Arc = record { sat = 0; first = 0; last = 0; datum = false; shift = [] } in
    let arcs : List Arc = c.args.arcs.now in
    let begun : List Bool = c.args.begun.now in
    subst (λ (x : Arc). IsTriedArc setting (flagged begun c.args.k) c.args.pair c.args.point.now a (record x { shift = c.in-Some.shift })) (sym (get_or_from_slice_get arcs c.args.k a no_arc is))
    (taken_arc setting (flagged begun c.args.k) c.args.pair c.args.point.now arcs c.args.k a c.in-Some.shift c.requires.same is
    (λ flag. absurd (false≢true (sym c.if-begun-k.false ∙ get_or_from_slice_get begun c.args.k true false flag)))
    (λ x there off. none-some c.in-Some.shift (sym ((c.in-Some.ensures.none x there).1 off)))
    (λ x there. c.in-Some.ensures.near x there))

pub returns-in-Some-clause-small : goal.returns-in-Some-clause-small
returns-in-Some-clause-small c = below_more c.in-Some.shift c.in-Some.ensures.size

pub returns-in-Some-clause-used : goal.returns-in-Some-clause-used
returns-in-Some-clause-used c =
    let no_arc : Arc = record { sat = 0; first = 0; last = 0; datum = false; shift = [] } in
    let kept : List Arc = c.args.files.now.kept.now in
    let inside : c.args.k < length kept = omega arith in
    (c.in-Some.ensures.near (get_or kept c.args.k no_arc) (slice_get-get_or kept c.args.k no_arc inside)).unused

pub invariant_of-from : goal.invariant_of-from
invariant_of-from c =
    let ready = c.requires.ready in
    record {
      cut = ∣ ready.cut ∣₁;
      few = ready.arcs.few;
      base_in = ready.position_in;
      point_in = c.requires.point;
      base_pseudoranges_hold = ∣ ready.base_pseudoranges ∣₁;
      sights_hold = no_sights c.args.files.now.screened.now.boxes c.args.point.now;
    }
