use Rattle.std.proofs.Common.{rules, ◌≡◌, ◌+◌, ◌^◌, ◌<◌, ◌≤◌, ◌≤ℤ◌, ℕ, ℤ, List, length, get_or, to_z, of_z, unsigned_abs, arith, sym, ap, ◌∙◌, subst, subst₂, lt_of_lt_of_le}
use Rattle.std.specs.Int.{w64}
use Rattle.std.proofs.lemmas.Int.{to_z-of_z}
use Rattle.std.specs.Prelude.{◌==◌}
use Rattle.std.specs.List.{list_any}
use Rattle.std.proofs.lemmas.Bool.{both_ways, eq-eqb}
use Rattle.std.proofs.lemmas.List.{get_or_default}
use Rattle.std.proofs.lemmas.List.Folds.{list_any_at}
use Rattle.std.proofs.lemmas.List.Elements.{All-set}
use Rattle.std.proofs.lemmas.Option.{slice_get-get_or}
use Rattle.std.proofs.Math.Numerals.{lt-add-one}
use Rattle.obs_rows.specs.Ranges.{IsWithin}
use Rattle.obs_rows.specs.Signals.{band}
use Rattle.obs_rows.specs.Data.{number_at}
use Rattle.row_boxes.specs.YBoxes.{HoldsY}
use Rattle.row_boxes.proofs.Ys.{HoldsAt, far_signal, one_more, zero_off}
use Rattle.row_boxes.proofs.terms.observed_row.Goals as goal

pub returns-in_err-centre-clause-far : goal.returns-in_err-centre-clause-far
returns-in_err-centre-clause-far c = λ e p h t.
    let signal_place : ℕ = c.loop-signal.signal-index in
    let signal : ℕ = get_or c.args.ss.now signal_place 0 in
    let box = c.y_of_signal-more in
    let inside : signal_place < length c.args.ss.now = search rules in
    let far : 2 ^ 34 < unsigned_abs box.result.centre = search rules in
    far_signal p c.args.ss.now c.args.scale signal_place signal c.args.amounts.now c.args.shift.now c.args.group box.result.centre box.result.radius (slice_get-get_or c.args.ss.now signal_place 0 inside) box.result.most far
    (subst (λ (g : ℤ). HoldsY p c.args.scale signal (number_at c.args.amounts.now signal) g (number_at c.args.shift.now (band signal)) box.result.centre box.result.radius)
    (to_z-of_z w64 c.args.group c.ranges.group) (box.ensures.holds p h)) t

next : (k i : ℕ) → k < i → k < i + 1
next k i h = omega arith

pub loop-signal-preserved : goal.loop-signal-preserved
loop-signal-preserved c =
    let signal_place : ℕ = c.loop-signal.signal-index in
    let signal : ℕ = get_or c.args.ss.now signal_place 0 in
    let group : ℤ = to_z w64 (of_z w64 c.args.group) in
    let centre : to_z w64 (of_z w64 c.in_ok-centre.centre) ≡ c.y_of_signal-more.result.centre = search rules in
    let size : IsWithin (2 ^ 34) (to_z w64 (of_z w64 c.in_ok-centre.centre)) = search rules in
    let old : to_z w64 c.loop-signal.ry-bits ≤ℤ to_z w64 (of_z w64 c.wider-ry.result) = search rules in
    let new : c.y_of_signal-more.result.radius ≤ℤ to_z w64 (of_z w64 c.wider-ry.result) = search rules in
    let within : signal < length c.loop-signal.y = search rules in
    record {
      holds = λ k hk p h. one_more p c.args.scale c.args.amounts.now group c.args.shift.now c.loop-signal.y c.args.ss.now signal_place _ c.y_of_signal-more.result.radius _ _ within old new
          (subst (λ (x : ℤ). HoldsY p c.args.scale signal (number_at c.args.amounts.now signal) group (number_at c.args.shift.now (band signal)) x c.y_of_signal-more.result.radius) (sym centre)
          (c.y_of_signal-more.ensures.holds p h))
          (λ j hj. c.loop-signal.invariant.holds j hj p h) k hk;
      others = λ t h. zero_off c.loop-signal.y signal t _ (h signal_place (lt-add-one signal_place)) (c.loop-signal.invariant.others t (λ k hk. h k (next k signal_place hk)));
      sizes = All-set (IsWithin (2 ^ 34)) c.loop-signal.y signal _ size c.loop-signal.invariant.sizes;
      six = search rules;
      least = search rules;
      most = search rules;
    }

pub returns-clause-holds : goal.returns-clause-holds
returns-clause-holds c = λ p h k d hk.
    subst₂ (λ (y : List ℤ) (ry : ℤ). HoldsAt p c.args.scale c.args.amounts.now c.args.group c.args.shift.now y ry (get_or c.args.ss.now k d)) (sym c.row_over.ensures.y) (sym c.row_over.ensures.ry)
    (subst (λ (g : ℤ). HoldsAt p c.args.scale c.args.amounts.now g c.args.shift.now c.loop-signal.y (to_z w64 c.loop-signal.ry-bits) (get_or c.args.ss.now k d))
    (to_z-of_z w64 c.args.group c.ranges.group)
    (subst (λ (s : ℕ). HoldsAt p c.args.scale c.args.amounts.now (to_z w64 (of_z w64 c.args.group)) c.args.shift.now c.loop-signal.y (to_z w64 c.loop-signal.ry-bits) s)
    (sym (get_or_default c.args.ss.now k d 0 hk))
    (c.loop-signal.invariant.holds k (lt_of_lt_of_le hk c.loop-signal-test.false) p h)))

pub returns-clause-others : goal.returns-clause-others
returns-clause-others c = λ t none.
    let within : c.loop-signal.signal-index ≤ length c.args.ss.now = search rules in
    ap (λ (y : List ℤ). number_at y t) c.row_over.ensures.y ∙ c.loop-signal.invariant.others t (λ k hk e. both_ways (list_any (λ (s : ℕ). s == t) c.args.ss.now) none
    (list_any_at (λ (s : ℕ). s == t) c.args.ss.now k 0 (lt_of_lt_of_le hk within) (eq-eqb (get_or c.args.ss.now k 0) t e)))
