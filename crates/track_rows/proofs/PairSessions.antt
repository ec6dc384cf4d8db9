-- A session of the rows of one pair.
use Rattle.std.proofs.Common.{◌≡◌, ℕ, List, [], ◌∷◌, ℤ, Option, Some, None, IsSome, sym, subst, refl}
use Rattle.obs_rows.specs.declared.arcs.Arc.{Arc}
use Rattle.obs_rows.specs.declared.pair_rows.PairRows.{PairRows}
use Rattle.obs_rows.specs.declared.sessions.Session.{Session}
use Rattle.row_build.specs.PairRows.{ArePairRows}
use Rattle.round_steps.specs.Shifts.{AreSameArcs}
use Rattle.round_steps.specs.Runs.{IsSessionOf, round_at}
use Rattle.obs_rows.specs.Rounds.{Round, round_of}
use Rattle.track_rows.specs.PairRules.{TrackSetting, rows_setting, rules_of_pair}

-- there are rows where none is refuted
pub is_there : (found : Option PairRows) → (found ≡ None → ⊥) → IsSome found
is_there None h = absurd (h refl)
is_there (Some rows) h = refl

same_round : (scale other : ℕ) (point moved : List ℤ) (arcs after : List Arc) → scale ≡ other → point ≡ moved → arcs ≡ after → round_at scale point arcs ≡ round_at other moved after
same_round scale other point moved arcs after e f g = cc

pub made_session : (t : TrackSetting) (pair scale : ℕ) (point : List ℤ) (arcs : List Arc) (rows : PairRows) (s : Session) →
    s.scale ≡ scale → s.system ≡ t.system → s.base ≡ t.position → s.point ≡ point → s.signals ≡ t.signals →
    s.arcs ≡ arcs → s.pairs ≡ rows ∷ [] → AreSameArcs t.kept arcs → ArePairRows (rows_setting t arcs point scale) pair rows →
    IsSessionOf (rules_of_pair t pair) (round_at scale point arcs) s
made_session t pair scale point arcs rows s scale_is system_is base_is point_is signals_are arcs_are pairs_are same rows_are =
    let round_is : round_of s ≡ round_at scale point arcs = same_round s.scale scale s.point point s.arcs arcs scale_is point_is arcs_are in
    record {
      stands = record {
        system_is = system_is;
        base_is = base_is;
        signals_are = signals_are;
        arcs_are = subst (λ (l : List Arc). AreSameArcs t.kept l) (sym arcs_are) same;
        rows = rows;
        alone = pairs_are;
        rows_are = subst (λ (r : Round). ArePairRows (rows_setting t r.arcs r.point r.scale) pair rows) (sym round_is) rows_are;
      };
      signals_are = signals_are;
      round_is = round_is;
    }
