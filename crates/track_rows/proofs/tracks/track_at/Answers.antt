use Rattle.std.proofs.Common.{◌≡◌, ℕ, ℤ, List, All, length, map, sym, ap, ◌∙◌, subst}
use Rattle.row_boxes.specs.declared.pseudoranges.Pseudorange.{Pseudorange}
use Rattle.obs_rows.specs.declared.arcs.Arc.{Arc}
use Rattle.obs_rows.specs.declared.pair_rows.PairRows.{PairRows}
use Rattle.obs_rows.specs.Arcs.{AreArcs}
use Rattle.obs_rows.specs.Pairs.{ArePairs}
use Rattle.obs_rows.specs.Ranges.{IsPoint}
use Rattle.obs_rows.specs.Signals.{fine_signals}
use Rattle.obs_rows.specs.Unused.{HasUsedRows, HasUsedShifts}
use Rattle.row_build.specs.BasePseudoranges.{AreBasePseudoranges}
use Rattle.obs_rows.proofs.ReceiverPointLaws.{receiver_is_point}
use Rattle.track_rows.specs.Tracks.{unshifted}
use Rattle.track_rows.proofs.Ends.{kept_unshifted, kept_cut, kept_arcs, walked_pairs, track_same}
use Rattle.track_rows.proofs.tracks.track_at.Goals as goal

pub walked-requires : goal.walked-requires
walked-requires c =
    let screened = c.args.screened.now in
    let kept_are : c.as_slice.result.now ≡ map unshifted c.args.arcs.now = c.as_slice.ensures.value ∙ c.in_ok-kept.ensures in
    record {
      cut = kept_cut screened.used c.args.arcs.now c.as_slice.result.now kept_are c.requires.cut;
      arcs = kept_arcs c.args.arcs.now c.as_slice.result.now kept_are c.requires.arcs;
      unshifted = kept_unshifted c.args.arcs.now c.as_slice.result.now kept_are;
      position_in = c.requires.base;
      base_pseudoranges = subst (λ (base_pseudoranges : List Pseudorange). AreBasePseudoranges screened.boxes c.args.base.now base_pseudoranges) (sym c.as_slice-2.ensures.value) c.in_ok-base_pseudoranges.ensures.base_pseudoranges;
      system_is = c.requires.system;
    }

pub invariant_of-track : goal.invariant_of-track
invariant_of-track c =
    let walk = c.in_ok-walk.walk in
    let walk_stands = c.in_ok-walk.ensures in
    let signals : List ℕ = fine_signals c.args.signals in
    record {
      system_is = c.requires.system;
      base_in = receiver_is_point c.args.base.now c.requires.base;
      arcs_in = subst AreArcs (sym c.new.ensures) walk_stands.fit.arcs_in;
      points_in = subst (All IsPoint) (sym c.new-2.ensures) walk_stands.fit.points_in;
      point_each = ap (λ (xs : List (List ℤ)). length xs) c.new-2.ensures ∙ walk_stands.is_track.point_each ∙ sym (ap (λ (xs : List PairRows). length xs) c.new-3.ensures);
      pairs_in = subst (λ (xs : List Arc). ArePairs xs c.new-3.result) (sym c.new.ensures) (subst (ArePairs walk.arcs.items) (sym c.new-3.ensures)
          (walked_pairs _ (length c.args.screened.now.used) walk.arcs.items walk.begun.items walk.points.items walk.pairs.items walk.lost.items walk_stands c.args.screened.now.few));
      rows_used = subst (All (HasUsedRows signals)) (sym c.new-3.ensures) walk_stands.fit.rows_used;
      shifts_used = subst (All (HasUsedShifts signals)) (sym c.new.ensures) walk_stands.fit.shifts_used;
    }

pub returns-clause-arcs : goal.returns-clause-arcs
returns-clause-arcs c =
    track_same c.args.arcs.now c.as_slice.result.now c.in_ok-walk.walk.arcs.items c.new.result (c.as_slice.ensures.value ∙ c.in_ok-kept.ensures) c.in_ok-walk.ensures.is_track.same c.new.ensures
