use Rattle.std.proofs.Common.{◌≡◌, inl, inr, ⊎_elim, ℕ, ◌+◌, ◌*◌, ◌/◌, ◌^◌, ◌<◌, ◌≤◌, [], ◌∷◌, List, pos, ◌+ℤ◌, ◌*ℤ◌, to_z, of_z, length, map, drop, get_or, slice_index_or, Option, None, IfSome, arith, sym, ap, ◌∙◌, subst, rules}
use Rattle.std.proofs.lemmas.Bool.{cases_lt}
use Rattle.std.proofs.lemmas.List.{drop_more, drop_all}
use Rattle.std.specs.Int.{w64}
use Rattle.whole_math.specs.Vectors.{sum}
use Rattle.quadratic_form.specs.Rows.{SignalGroup}
use Rattle.quadratic_form.specs.MatrixEntries.{group_entry, matrix_entry}
use Rattle.quadratic_form.specs.declared.sizes.TheConstants.{BASELINE_COLUMNS}
use Rattle.quadratic_form.specs.Tables.{entry}
use Rattle.obs_rows.specs.declared.arcs.Arc.{Arc}
use Rattle.obs_rows.specs.declared.rows.Row.{Row}
use Rattle.obs_rows.specs.declared.units.TheConstants.{PHASES}
use Rattle.obs_rows.specs.Signals.{weight}
use Rattle.obs_rows.specs.SignalGroups.{signal_group}
use Rattle.normal_sum.specs.Places.{place_from, ArePlacesFrom}
use Rattle.normal_sum.specs.Directions.{direction_spread}
use Rattle.normal_sum.proofs.Words.{small_w64}
use Rattle.normal_sum.proofs.RowSums.{next_sum}
use Rattle.normal_sum.proofs.DirectionLaws.{baseline_entries}
use Rattle.normal_sum.proofs.PlaceLaws.{are_places, are_within, phase_within}
use Rattle.normal_sum.proofs.pairs.add_pair.Goals as goal
use Rattle.normal_sum.proofs.NormalLaws.{zero_last}

larger : (a b d i : ℕ) → a ≤ b + 2 ^ 105 → b ≤ d + (i * 2 ^ 105) → a ≤ d + ((i + 1) * 2 ^ 105)
larger a b d i h g = omega arith

pub add_signal-requires-clause-phase : goal.add_signal-requires-clause-phase
add_signal-requires-clause-phase c =
    subst (λ (p : Option ℕ). IfSome p (λ i. i < PHASES)) (sym c.phase_place-phase.ensures) (phase_within c.args.signals.now (get_or c.args.signals.now c.loop-signal.signal-index 0) c.requires.counted)

pub add_signal-requires-clause-places : goal.add_signal-requires-clause-places
add_signal-requires-clause-places c =
    let arcs : List Arc = c.args.arcs.now in
    let signals : List ℕ = c.args.signals.now in
    let signal : ℕ = get_or signals c.loop-signal.signal-index 0 in
    let rows : List Row = c.as_slice.result.now in
    let are : ArePlacesFrom c.args.arcs.now c.args.signals.now (get_or c.args.signals.now c.loop-signal.signal-index 0) c.as_slice.result.now c.first_places-firsts.result c.phase_place-phase.result =
    are_places arcs signals signal rows c.first_places-firsts.result c.phase_place-phase.result c.phase_place-phase.ensures c.first_places-firsts.ensures.value in
    subst (λ (n : ℕ). (k : ℕ) → IfSome (place_from (slice_index_or c.first_places-firsts.result k None) c.phase_place-phase.result) (λ i. i < n)) (sym c.requires.integers)
    (are_within arcs signals signal rows c.first_places-firsts.result c.phase_place-phase.result are c.first_places-firsts.ensures.none)

pub loop-signal-preserved : goal.loop-signal-preserved
loop-signal-preserved c =
    let arcs : List Arc = c.args.arcs.now in
    let signals : List ℕ = c.args.signals.now in
    let k : ℕ = c.loop-signal.signal-index in
    let signal : ℕ = get_or signals k 0 in
    let group : ℕ → SignalGroup = signal_group arcs signals c.args.pair.now in
    let inside : c.loop-signal.signal-index < length c.args.signals.now = search rules in
    let rest_is : drop k signals ≡ signal ∷ drop (k + 1) signals = drop_more signals k 0 inside in
    let are : ArePlacesFrom c.args.arcs.now c.args.signals.now (get_or c.args.signals.now c.loop-signal.signal-index 0) c.args.pair.now.rows c.first_places-firsts.result c.phase_place-phase.result =
    subst (λ (rows : List Row). ArePlacesFrom arcs signals signal rows c.first_places-firsts.result c.phase_place-phase.result) c.as_slice.ensures
    (are_places arcs signals signal c.as_slice.result.now c.first_places-firsts.result c.phase_place-phase.result c.phase_place-phase.ensures c.first_places-firsts.ensures.value) in
    record {
      sums = λ i j hi b hj. next_sum (entry c.loop-signal.table i j) (entry c.add_signal.new.table i j) (group_entry (group signal) i j) (matrix_entry (map group (drop (k + 1) signals)) i j) _
          (ap (λ (l : List ℕ). entry c.loop-signal.table i j +ℤ matrix_entry (map group l) i j) (sym rest_is) ∙ c.loop-signal.invariant.sums i j hi b hj)
          (c.add_signal.ensures.added arcs signals are c.requires.integers i j hi b hj);
      size = λ i j hi b hj. larger _ _ _ k (c.add_signal.ensures.size i j hi b hj) (c.loop-signal.invariant.size i j hi b hj);
      before = λ i j h. c.add_signal.ensures.before i j h ∙ c.loop-signal.invariant.before i j h;
    }

pub returns-clause-added : goal.returns-clause-added
returns-clause-added c =
    let arcs : List Arc = c.args.arcs.now in
    let signals : List ℕ = c.args.signals.now in
    let rows : List Row = c.as_slice-rows.result.now in
    let past : drop c.loop-signal.signal-index signals ≡ [] = drop_all c.loop-signal.signal-index signals (omega arith) in
    let share : to_z w64 (of_z w64 c.total_share.result) ≡ pos (360360 / length c.as_slice-rows.result.now) *ℤ sum (map weight c.args.signals.now) =
    small_w64 c.total_share.result c.total_share.ensures.from c.total_share.ensures.to ∙ c.total_share.ensures.value in
    λ i j h g. ⊎_elim
    (λ (b : j < BASELINE_COLUMNS). c.add_directions.ensures.added i j h b
    ∙ ap (λ z. z +ℤ (direction_spread rows i j *ℤ to_z w64 (of_z w64 c.total_share.result))) (c.loop-signal.invariant.before i j (inr b))
    ∙ ap (λ z. entry c.args.table.now i j +ℤ (direction_spread rows i j *ℤ z)) share
    ∙ ap (λ (l : List Row). entry c.args.table.now i j +ℤ (direction_spread l i j *ℤ (pos (360360 / length l) *ℤ sum (map weight signals)))) c.as_slice-rows.ensures
    ∙ ap (λ z. entry c.args.table.now i j +ℤ z) (sym (baseline_entries arcs signals c.args.pair.now signals i j (omega arith) b)))
    (λ (b : BASELINE_COLUMNS ≤ j). c.add_directions.ensures.behind i j b
    ∙ zero_last _ _ (ap (λ (l : List ℕ). entry c.loop-signal.table i j +ℤ matrix_entry (map (signal_group arcs signals c.args.pair.now) l) i j) (sym past)
    ∙ c.loop-signal.invariant.sums i j h b g))
    (cases_lt j BASELINE_COLUMNS)

pub returns-clause-below : goal.returns-clause-below
returns-clause-below c = λ i j h. c.add_directions.ensures.below i j h ∙ c.loop-signal.invariant.before i j (inl h)
