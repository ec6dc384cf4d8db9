-- The front of a pair's rows doesn't depend on the shifts of the arcs, so each pair of a track has one over the track's own arcs.
use Rattle.std.proofs.Common.{◌≡◌, ℕ, zero, suc, ◌+◌, ◌*◌, ◌<◌, ◌++◌, Bool, cond, List, [], ◌∷◌, length, map, take, get_or, All, ℤ, sym, ap, ap₂, ◌∙◌, refl, subst}
use Rattle.std.specs.Prelude.{◌==◌, if◌then◌else◌, None, neg_ℤ, position, slice_get}
use Rattle.std.specs.Option.{option_map}
use Rattle.std.proofs.lemmas.List.Sums.{sum_by-cons}
use Rattle.std.proofs.lemmas.Option.{slice_get-get_or}
use Rattle.quadratic_form.specs.Rows.{SignalGroup, radii}
use Rattle.quadratic_form.specs.MatrixEntries.{matrix_entry}
use Rattle.obs_rows.specs.declared.arcs.Arc.{Arc}
use Rattle.obs_rows.specs.declared.bands.Signals.{Signals}
use Rattle.obs_rows.specs.declared.rows.Row.{Row}
use Rattle.obs_rows.specs.declared.pair_rows.PairRows.{PairRows}
use Rattle.obs_rows.specs.Arcs.{is_free, free_before}
use Rattle.obs_rows.specs.Data.{number_at}
use Rattle.obs_rows.specs.Signals.{phases, fine_signals, weight, cycle}
use Rattle.obs_rows.specs.Integers.{integer_count, integer_place, is_some_free}
use Rattle.obs_rows.specs.SignalGroups.{only_at, signal_groups}
use Rattle.normal_sum.specs.declared.normal.Normal.{Normal}
use Rattle.normal_sum.specs.Matrices.{radius_list}
use Rattle.normal_sum.specs.Normals.{IsNormalOf}
use Rattle.screening.specs.declared.screened.Screened.{Screened}
use Rattle.round_steps.specs.Shifts.{AreSameArcs, without_shifts}
use Rattle.round_steps.proofs.ShiftLaws.{free_same}
use Rattle.track_data.specs.declared.lost.Tracked.{Tracked}
use Rattle.track_form.specs.PairFronts.{HasFront}
use Rattle.track_rows.specs.Tracks.{unshifted, IsTrackOf}

-- ---- the integers of the same arcs
free_without : (arcs : List Arc) (k : ℕ) → is_some_free (slice_get (map without_shifts arcs) k) ≡ is_some_free (slice_get arcs k)
free_without [] k = refl
free_without (a ∷ arcs) zero = refl
free_without (a ∷ arcs) (suc k) = free_without arcs k

before_without : (arcs : List Arc) (k : ℕ) → free_before (map without_shifts arcs) k ≡ free_before arcs k
before_without [] k = refl
before_without (a ∷ arcs) zero = refl
before_without (a ∷ arcs) (suc k) =
    let one : Arc → ℕ = λ x. cond (is_free x) 1 0 in
    sum_by-cons one (without_shifts a) (take k (map without_shifts arcs)) ∙ ap (λ (n : ℕ). cond (is_free a) 1 0 + n) (before_without arcs k) ∙ sym (sum_by-cons one a (take k arcs))

place_without : (arcs : List Arc) (ss : List ℕ) (k s : ℕ) → integer_place (map without_shifts arcs) ss k s ≡ integer_place arcs ss k s
place_without arcs ss k s =
    ap₂ (λ (free : Bool) (before : ℕ). if free then option_map (λ (j : ℕ). (length (phases ss) * before) + j) (position (λ (t : ℕ). t == s) (phases ss)) else None) (free_without arcs k)
    (before_without arcs k)

place_same : (arcs after : List Arc) (ss : List ℕ) (k s : ℕ) → AreSameArcs arcs after → integer_place after ss k s ≡ integer_place arcs ss k s
place_same arcs after ss k s same = sym (place_without after ss k s) ∙ ap (λ (l : List Arc). integer_place l ss k s) same ∙ place_without arcs ss k s

count_same : (arcs after : List Arc) (ss : List ℕ) → AreSameArcs arcs after → integer_count after ss ≡ integer_count arcs ss
count_same arcs after ss same = ap (λ (n : ℕ). length (phases ss) * n) (free_same arcs after same)

-- ---- so the rows are seen alike
groups_same : (arcs after : List Arc) (ss : List ℕ) (p : PairRows) → AreSameArcs arcs after → signal_groups after ss (p ∷ []) ≡ signal_groups arcs ss (p ∷ [])
groups_same arcs after ss p same = λ t.
    map (λ (s : ℕ). record {
      weight = weight s;
      rows = map (λ (r : Row). record {
        u1 = number_at r.u 0;
        u2 = number_at r.u 1;
        u3 = number_at r.u 2;
        ru1 = number_at r.ru 0;
        ru2 = number_at r.ru 1;
        ru3 = number_at r.ru 2;
        cycles = only_at (count_same arcs after ss same t) (place_same arcs after ss r.arc s same t) (neg_ℤ (cycle s));
        y = number_at r.y s;
        ry = r.ry;
      }) p.rows;
    }) ss ++ []

normal_same : (arcs after : List Arc) (ss : List ℕ) (p : PairRows) (n : Normal) → AreSameArcs arcs after → IsNormalOf arcs ss (p ∷ []) n → IsNormalOf after ss (p ∷ []) n
normal_same arcs after ss p n same is =
    let groups : signal_groups arcs ss (p ∷ []) ≡ signal_groups after ss (p ∷ []) = sym (groups_same arcs after ss p same) in
    record {
      columns = is.columns ∙ ap (λ (count : ℕ). 4 + count) (sym (count_same arcs after ss same));
      entries = λ i j. is.entries i j ∙ ap (λ (g : List SignalGroup). matrix_entry g i j) groups;
      radii = is.radii ∙ ap (λ (g : List SignalGroup). radius_list (radii g)) groups;
    }

front_same : (arcs after : List Arc) (ss : List ℕ) (p : PairRows) → AreSameArcs arcs after → HasFront arcs ss p → HasFront after ss p
front_same arcs after ss p same has =
    (has.0, record { normal = has.1.normal; of_rows = normal_same arcs after ss p has.1.normal same has.1.of_rows; front = has.1.front })

-- ---- the pairs of a track
pub tracked_fronts : (screened : Screened) (kept : List Arc) (position : List ℤ) (signals : Signals) (system : ℕ) (t : Tracked) →
    IsTrackOf screened kept position signals system t → All (HasFront t.track.arcs (fine_signals t.track.signals)) t.track.pairs
tracked_fronts screened kept position signals system t is = λ k d inside.
    let pair : PairRows = get_or t.track.pairs k d in
    let within : k < length t.track.points = subst (λ (n : ℕ). k < n) (sym is.is_track.point_each) inside in
    let is_tracked = is.is_track.are_tracked k (get_or t.track.points k []) pair (slice_get-get_or t.track.points k [] within) (slice_get-get_or t.track.pairs k d inside) in
    subst (λ (s : Signals). HasFront t.track.arcs (fine_signals s) pair) (sym is.signals_are)
    (front_same (map unshifted kept) t.track.arcs (fine_signals signals) pair is.is_track.same is_tracked.front)
