use Rattle.std.proofs.Common.{◌≤◌, List, length, refl, sym, ap, ◌∙◌, subst}
use Rattle.std.proofs.lemmas.Bool.{false≢true}
use Rattle.obs_rows.specs.declared.arcs.Arc.{Arc}
use Rattle.obs_rows.specs.Arcs.{AreArcs, free_count}
use Rattle.obs_rows.specs.declared.limits.TheConstants.{MOST_KEPT_ARCS}
use Rattle.round_steps.specs.Counts.{AreFew, AreMany}
use Rattle.session.proofs.FewArcs.{kept_few}
use Rattle.track_rows.specs.Tracks.{IsTrackOf}
use Rattle.track_job.specs.TrackOutcomes.{IsTrackable}
use Rattle.track_job.proofs.StandsLaws.{trackable_arcs}
use Rattle.track_job.proofs.outcomes.answer_of_track.Goals as goal

pub free_count-requires : goal.free_count-requires
free_count-requires c =
    let files = c.args.files.now in
    subst (λ (l : List Arc). length l ≤ MOST_KEPT_ARCS) (sym c.as_slice-kept.ensures) (kept_few files.screened.used files.arcs.kept c.requires.cut files.screened.ranges files.screened.numbered files.screened.few)

pub track_at-requires-clause-arcs : goal.track_at-requires-clause-arcs
track_at-requires-clause-arcs c =
    let files = c.args.files.now in
    let of_slice = c.as_slice-kept.ensures in
    let is_trackable : IsTrackable files.arcs.kept c.args.taken = record {
      not_few = λ few. false≢true (c.if-are_few.ensures.1 (subst (AreFew c.args.taken) (sym of_slice) few));
      not_many = λ many. false≢true (c.if-are_many.ensures.1 (subst AreMany (sym of_slice) many));
    } in
    subst AreArcs (sym of_slice) (trackable_arcs files.screened files.arcs.kept c.args.taken c.requires.cut c.requires.shifts is_trackable)

pub returns-then-are_few : goal.returns-then-are_few
returns-then-are_few c = (refl, (subst (AreFew c.args.taken) c.as_slice-kept.ensures (c.if-are_few.ensures.0 refl), c.none_lost.ensures))

pub returns-then-are_many : goal.returns-then-are_many
returns-then-are_many c =
    let of_slice = c.as_slice-kept.ensures in (
      c.free_count.ensures ∙ ap free_count of_slice,
      (
        λ few. false≢true (c.if-are_few.ensures.1 (subst (AreFew c.args.taken) (sym of_slice) few)),
        (subst AreMany of_slice (c.if-are_many.ensures.0 refl), c.none_lost-then-are_many.ensures),
      ),
    )

pub returns : goal.returns
returns c =
    let files = c.args.files.now in
    let begun = c.args.begun.now in
    let of_slice = c.as_slice-kept.ensures in
    let is_trackable : IsTrackable files.arcs.kept c.args.taken = record {
      not_few = λ few. false≢true (c.if-are_few.ensures.1 (subst (AreFew c.args.taken) (sym of_slice) few));
      not_many = λ many. false≢true (c.if-are_many.ensures.1 (subst AreMany (sym of_slice) many));
    } in
    c.decided.ensures files.screened files.arcs.kept begun.position begun.signals is_trackable
    (subst (λ (l : List Arc). IsTrackOf files.screened l begun.position begun.signals c.args.options.now.system c.in_ok-tracked.tracked) of_slice c.in_ok-tracked.ensures.track)
