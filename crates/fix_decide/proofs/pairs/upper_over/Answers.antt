use Rattle.std.proofs.Common.{◌≡◌, ℕ, ◌+◌, ◌^◌, ◌<◌, ◌∷◌, [], List, length, map, drop, get_or, slice_index_or, Option, None, IfSome, ℤ, pos, ◌+ℤ◌, to_z, of_z, arith, sym, ap, ◌∙◌, subst, rules, below_more}
use Rattle.std.proofs.lemmas.Bool.{false≢true}
use Rattle.std.proofs.lemmas.List.{drop_more, drop_all, get_or_default, length-map}
use Rattle.std.specs.Int.{w128}
use Rattle.whole_math.specs.Vectors.{sum}
use Rattle.whole_math.proofs.Order.{lins}
use Rattle.std.specs.Prelude.{position, ◌==◌}
use Rattle.obs_rows.specs.declared.arcs.Arc.{Arc}
use Rattle.obs_rows.specs.declared.rows.Row.{Row}
use Rattle.obs_rows.specs.declared.pair_rows.PairRows.{PairRows}
use Rattle.obs_rows.specs.declared.units.TheConstants.{PHASES}
use Rattle.obs_rows.specs.Signals.{phases}
use Rattle.obs_rows.specs.Integers.{integer_count}
use Rattle.normal_sum.specs.Places.{ArePlacesFrom, first_place, place_from}
use Rattle.normal_sum.proofs.PlaceLaws.{are_places, are_within, phase_within}
use Rattle.fix_decide.specs.declared.reaches.RowReach.{RowReach}
use Rattle.fix_decide.specs.RowReaches.{row_reach, AreSeen}
use Rattle.fix_decide.specs.UpperSums.{signal_upper}
use Rattle.fix_decide.specs.Bounds.{StaysAtMost}
use Rattle.fix_decide.specs.Widths.{IsWideFor}
use Rattle.fix_decide.proofs.GapSums.{next, Step, step, times_below}
use Rattle.fix_decide.proofs.UpperLaws.{stays_at_most}
use Rattle.fix_decide.proofs.Wide.{none_of}
use Rattle.fix_decide.proofs.pairs.upper_over.Goals as goal

no_more : (s a : ℤ) → s +ℤ pos 0 ≡ a → s ≡ a +ℤ pos 0
no_more s a e = omega (arith, lins)

-- the rows, their places and what the move gives of them, as the loop has them
seen : (arcs : List Arc) (ss : List ℕ) (m : List ℤ) (s : ℕ) (all rows : List Row) (firsts places : List (Option ℕ)) (phase : Option ℕ) (moves given : List RowReach) →
    all ≡ rows → phase ≡ position (λ t. t == s) (phases ss) →
    ((k : ℕ) (d : Row) → k < length all → slice_index_or firsts k None ≡ first_place arcs (length (phases ss)) (slice_index_or all k d).arc) →
    ((k : ℕ) → slice_index_or places k None ≡ place_from (slice_index_or firsts k None) phase) →
    moves ≡ map (row_reach m) all → given ≡ moves → AreSeen arcs ss m s rows places given
seen arcs ss m s all rows firsts places phase moves given e f g h i j = subst (λ (l : List Row). AreSeen arcs ss m s l places given) e
    (record { are_places = λ k d inside. h k ∙ are_places arcs ss s all firsts phase f g k d inside; are_moves = j ∙ i })

pub places_of-places-requires-clause-phase : goal.places_of-places-requires-clause-phase
places_of-places-requires-clause-phase c =
    subst (λ (p : Option ℕ). IfSome p (λ i. i < PHASES)) (sym c.phase_place.ensures) (phase_within c.args.signals.now (get_or c.args.signals.now c.loop-signal.signal-index 0) c.requires.counted)

pub signal_upper-requires-clause-moves : goal.signal_upper-requires-clause-moves
signal_upper-requires-clause-moves c =
    ap length (c.as_slice.ensures.value ∙ c.row_reaches-moves.ensures.value) ∙ length-map c.as_slice-rows.result.now (row_reach c.args.moved.now) ∙ ap length c.as_slice-rows.ensures

pub signal_upper-requires-clause-places : goal.signal_upper-requires-clause-places
signal_upper-requires-clause-places c =
    let ss : List ℕ = c.args.signals.now in
    let signal : ℕ = get_or ss c.loop-signal.signal-index 0 in
    let rows : List Row = c.as_slice-rows.result.now in
    let are : ArePlacesFrom c.args.arcs.now ss signal rows c.first_places-firsts.result c.phase_place.result =
    are_places c.args.arcs.now ss signal rows c.first_places-firsts.result c.phase_place.result c.phase_place.ensures c.first_places-firsts.ensures.value in
    subst (λ (n : ℕ). (k : ℕ) → IfSome (slice_index_or c.places_of-places.result k None) (λ i. i < n)) (sym c.requires.entries)
    (λ k. subst (λ (p : Option ℕ). IfSome p (λ i. i < integer_count c.args.arcs.now ss)) (sym (c.places_of-places.ensures k))
    (are_within c.args.arcs.now ss signal rows c.first_places-firsts.result c.phase_place.result are c.first_places-firsts.ensures.none k))

pub returns-in_err-sum-clause-refused : goal.returns-in_err-sum-clause-refused
returns-in_err-sum-clause-refused c =
    let k : ℕ = c.loop-signal.signal-index in
    let inside : k < length c.args.signals.now = search rules in
    let signal : ℕ = get_or c.args.signals.now k 0 in
    let are_seen : AreSeen c.args.arcs.now c.args.signals.now c.args.moved.now (get_or c.args.signals.now c.loop-signal.signal-index 0) c.args.pair.now.rows
    c.places_of-places.result c.as_slice.result.now =
    seen c.args.arcs.now c.args.signals.now c.args.moved.now (get_or c.args.signals.now c.loop-signal.signal-index 0) c.as_slice-rows.result.now c.args.pair.now.rows
    c.first_places-firsts.result c.places_of-places.result c.phase_place.result c.row_reaches-moves.result.items c.as_slice.result.now c.as_slice-rows.ensures c.phase_place.ensures
    c.first_places-firsts.ensures.value c.places_of-places.ensures c.row_reaches-moves.ensures.value c.as_slice.ensures.value in
    (λ e. (k, signal, inside, get_or_default c.args.signals.now k signal 0 inside, c.in_err-sum.ensures.wide c.args.arcs.now c.args.signals.now c.args.moved.now are_seen), λ w. c.from_residual.ensures.0)

pub loop-signal-preserved : goal.loop-signal-preserved
loop-signal-preserved c =
    let signals : List ℕ = c.args.signals.now in
    let k : ℕ = c.loop-signal.signal-index in
    let f : ℕ → ℤ = signal_upper c.args.arcs.now signals c.args.z.now c.args.moved.now c.args.pair.now in
    let inside : k < length signals = search rules in
    let few = c.requires.counted.few in
    let are_seen : AreSeen c.args.arcs.now c.args.signals.now c.args.moved.now (get_or c.args.signals.now c.loop-signal.signal-index 0) c.args.pair.now.rows
    c.places_of-places.result c.as_slice.result.now =
    seen c.args.arcs.now c.args.signals.now c.args.moved.now (get_or c.args.signals.now c.loop-signal.signal-index 0) c.as_slice-rows.result.now c.args.pair.now.rows
    c.first_places-firsts.result c.places_of-places.result c.phase_place.result c.row_reaches-moves.result.items c.as_slice.result.now c.as_slice-rows.ensures c.phase_place.ensures
    c.first_places-firsts.ensures.value c.places_of-places.ensures c.row_reaches-moves.ensures.value c.as_slice.ensures.value in
    let rest_is : drop k signals ≡ get_or signals k 0 ∷ drop (k + 1) signals = drop_more signals k 0 inside in
    let sum_so_far : ℤ = to_z w128 c.loop-signal.sum-bits in
    let q : ℤ = c.in_ok-sum.field-0 in
    let step_fits : Step (to_z w128 (of_z w128 (sum_so_far +ℤ to_z w128 (of_z w128 q)))) sum_so_far q k (2 ^ 104) =
    step sum_so_far q k (2 ^ 104) c.loop-signal.invariant.from c.loop-signal.invariant.to c.in_ok-sum.ensures.from c.in_ok-sum.ensures.to
    (times_below (k + 1) (length signals) (2 ^ 104) (omega arith) (omega arith) (omega arith)) in
    record {
      value = next sum_so_far _ q (f (get_or signals k 0)) (sum (map f (drop (k + 1) signals))) (sum (map f signals))
          (ap (λ (x : List ℕ). sum_so_far +ℤ sum (map f x)) (sym rest_is) ∙ c.loop-signal.invariant.value) (c.in_ok-sum.ensures.value c.args.arcs.now signals c.args.moved.now are_seen) step_fits.is;
      from = step_fits.from;
      to = step_fits.to;
      narrow = below_more (λ j. IsWideFor c.args.arcs.now signals c.args.z.now c.args.moved.now c.args.pair.now.rows (get_or signals j 0) → ⊥) k
          c.loop-signal.invariant.narrow (c.in_ok-sum.ensures.narrow c.args.arcs.now signals c.args.moved.now are_seen);
    }

pub returns-clause-above : goal.returns-clause-above
returns-clause-above c =
    let signals : List ℕ = c.args.signals.now in
    let k : ℕ = c.loop-signal.signal-index in
    let f : ℕ → ℤ = signal_upper c.args.arcs.now signals c.args.z.now c.args.moved.now c.args.pair.now in
    let sum_so_far : ℤ = to_z w128 c.loop-signal.sum-bits in
    let past : drop k signals ≡ [] = drop_all k signals (omega arith) in
    let all : sum_so_far +ℤ pos 0 ≡ sum (map f signals) = ap (λ (x : List ℕ). sum_so_far +ℤ sum (map f x)) (sym past) ∙ c.loop-signal.invariant.value in
    let one : List PairRows = c.args.pair.now ∷ [] in
    subst (StaysAtMost c.args.arcs.now signals one c.args.z.now c.args.moved.now) (sym (no_more sum_so_far (sum (map f signals)) all))
    (stays_at_most c.args.arcs.now signals one c.args.z.now c.args.moved.now c.requires.entries)

pub returns-clause-refused : goal.returns-clause-refused
returns-clause-refused c =
    let signals : List ℕ = c.args.signals.now in
    let is_wide : ℕ → Type 0 = IsWideFor c.args.arcs.now signals c.args.z.now c.args.moved.now c.args.pair.now.rows in
    (λ e. absurd (false≢true e), λ w. absurd (none_of is_wide signals (λ j h p. c.loop-signal.invariant.narrow j (omega arith) p) w))
