use Rattle.std.proofs.Common.{◌≡◌, ℕ, ◌+◌, ◌^◌, List, length, ℤ, pos, ◌*ℤ◌, Option, Some, None, IfSome, sym, ap, ◌∙◌, subst}
use Rattle.std.proofs.lemmas.Int.{to_z-of_z}
use Rattle.std.specs.Int.{w128}
use Rattle.obs_rows.specs.declared.arcs.Arc.{Arc}
use Rattle.obs_rows.specs.declared.pair_rows.PairRows.{PairRows}
use Rattle.obs_rows.specs.declared.sessions.Session.{Session}
use Rattle.obs_rows.specs.Signals.{fine_signals, counted}
use Rattle.obs_rows.specs.Integers.{integer_count}
use Rattle.normal_sum.specs.declared.normal.Normal.{Normal}
use Rattle.normal_sum.specs.Normals.{IsNormalOf}
use Rattle.fix_decide.specs.Bounds.{StaysAtMost}
use Rattle.vector_bound.specs.VectorBounds.{KeepsNear, IsVectorBound, IsBoundOf, FitsWords, move_units}
use Rattle.vector_bound.proofs.Sessions.{near_for_rows}
use Rattle.vector_bound.proofs.bounds.move_bound.Goals as goal

-- the signals that count in a fine session
fine_normal : (s : Session) (n : Normal) → s.scale ≡ 0 → IsNormalOf s.arcs (counted s.signals s.scale) s.pairs n → IsNormalOf s.arcs (fine_signals s.signals) s.pairs n
fine_normal s n e is = subst (λ (k : ℕ). IsNormalOf s.arcs (counted s.signals k) s.pairs n) e is

all_near : (arcs : List Arc) (ss : List ℕ) (pairs : List PairRows) (n : Normal) (h : ℕ) (z m : List ℤ) (t : ℤ) (r : Option ℤ) → length z ≡ integer_count arcs ss → IsNormalOf arcs ss pairs n →
    StaysAtMost arcs ss pairs z m (pos (2 ^ h) *ℤ t) → IfSome r (λ x. IsVectorBound n h z m t x) → IfSome r (λ x. KeepsNear arcs ss pairs z m (move_units x))
all_near arcs ss pairs n h z m t None entries normal above bound = tt
all_near arcs ss pairs n h z m t (Some x) entries normal above bound = near_for_rows arcs ss pairs n h z m t x entries normal above bound

with_normal : (arcs : List Arc) (ss : List ℕ) (pairs : List PairRows) (n : Normal) (h : ℕ) (z m : List ℤ) (t : ℤ) (r : Option ℤ) → IsNormalOf arcs ss pairs n →
    IfSome r (λ x. IsVectorBound n h z m t x) → IfSome r (λ x. IsBoundOf arcs ss pairs h z m t x)
with_normal arcs ss pairs n h z m t None normal bound = tt
with_normal arcs ss pairs n h z m t (Some x) normal bound = record { normal = n; of_rows = normal; bound = bound }

pub bound_of-requires-clause-columns : goal.bound_of-requires-clause-columns
bound_of-requires-clause-columns c =
    let s : Session = c.args.session.now in
    (fine_normal c.args.session.now c.sum-normal.result c.requires.fine c.sum-normal.ensures.normal).columns ∙ ap (λ (k : ℕ). 4 + k) (sym c.requires.entries)

pub returns-clause-near : goal.returns-clause-near
returns-clause-near c =
    let s : Session = c.args.session.now in
    λ above. all_near s.arcs (fine_signals s.signals) s.pairs c.sum-normal.result c.args.h c.args.z.now c.args.moved.now c.args.top c.bound_of.result c.requires.entries
    (fine_normal c.args.session.now c.sum-normal.result c.requires.fine c.sum-normal.ensures.normal) above
    (subst (λ (t : ℤ). IfSome c.bound_of.result (λ x. IsVectorBound c.sum-normal.result c.args.h c.args.z.now c.args.moved.now t x)) (to_z-of_z w128 c.args.top c.ranges.top) c.bound_of.ensures.value)

pub returns-clause-value : goal.returns-clause-value
returns-clause-value c =
    let s : Session = c.args.session.now in
    with_normal s.arcs (fine_signals s.signals) s.pairs c.sum-normal.result c.args.h c.args.z.now c.args.moved.now c.args.top c.bound_of.result
    (fine_normal c.args.session.now c.sum-normal.result c.requires.fine c.sum-normal.ensures.normal)
    (subst (λ (t : ℤ). IfSome c.bound_of.result (λ x. IsVectorBound c.sum-normal.result c.args.h c.args.z.now c.args.moved.now t x)) (to_z-of_z w128 c.args.top c.ranges.top) c.bound_of.ensures.value)

pub returns-clause-none : goal.returns-clause-none
returns-clause-none c =
    let top_word = to_z-of_z w128 c.args.top c.ranges.top in
    λ none. record {
      normal = c.sum-normal.result;
      of_rows = fine_normal c.args.session.now c.sum-normal.result c.requires.fine c.sum-normal.ensures.normal;
      none = λ fits x is. c.bound_of.ensures.none none (subst (λ (t : ℤ). FitsWords c.sum-normal.result c.args.h c.args.z.now c.args.moved.now t) (sym top_word) fits)
          x (subst (λ (t : ℤ). IsVectorBound c.sum-normal.result c.args.h c.args.z.now c.args.moved.now t x) (sym top_word) is);
    }
