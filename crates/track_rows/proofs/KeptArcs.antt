-- What shifts don't matter to, and arcs without shifts.
use Rattle.std.proofs.Common.{◌≡◌, ℕ, ◌+◌, ◌<◌, ◌≤◌, ◌^◌, Bool, true, false, cond, List, [], ◌∷◌, map, get_or, All, pos, arith, sym, ap, ◌∙◌, refl, subst}
use Rattle.obs_rows.specs.declared.arcs.Arc.{Arc}
use Rattle.obs_rows.specs.declared.rows.Row.{Row}
use Rattle.obs_rows.specs.declared.pair_rows.PairRows.{PairRows}
use Rattle.obs_rows.specs.Arcs.{AreArcs, IsOfPair}
use Rattle.obs_rows.specs.Pairs.{HasItsArcs}
use Rattle.obs_rows.specs.Ranges.{IsBelow}
use Rattle.row_build.specs.HeldArcs.{holds_pair, arcs_from, arcs_at}
use Rattle.row_build.proofs.ArcLaws.{cons_nil}
use Rattle.round_steps.specs.Counts.{holds, held}
use Rattle.round_steps.specs.Shifts.{AreSameArcs, AreShiftsBelow, without_shifts}
use Rattle.round_steps.proofs.ShiftLaws.{length_same, three_below}
use Rattle.session.proofs.CutLaws.{Like, like}
use Rattle.session.proofs.RangeLaws.{with_first}
use Rattle.track_rows.specs.PairRules.{AreUnshifted}

-- ---- how many arcs hold a pair
held_without : (arcs : List Arc) (pair : ℕ) → held (map without_shifts arcs) pair ≡ held arcs pair
held_without [] pair = refl
held_without (a ∷ arcs) pair =
    with_first (without_shifts a) (map without_shifts arcs) pair ∙ ap (λ (n : ℕ). cond (holds pair a) 1 0 + n) (held_without arcs pair) ∙ sym (with_first a arcs pair)

pub held_same : (xs ys : List Arc) (pair : ℕ) → AreSameArcs xs ys → held ys pair ≡ held xs pair
held_same xs ys pair e = sym (held_without ys pair) ∙ ap (λ (arcs : List Arc). held arcs pair) e ∙ held_without xs pair

none_held : (arcs : List Arc) (n pair : ℕ) → arcs_from n arcs pair ≡ [] → held arcs pair ≡ 0
none_held [] n pair e = refl
none_held (a ∷ arcs) n pair e = by_test (holds_pair a pair) refl (none_held arcs (n + 1) pair)
  where
    zero_sum : (n m : ℕ) → n ≡ 0 + m → m ≡ 0 → n ≡ 0
    zero_sum n m e f = omega arith

    at : (b : Bool) → holds_pair a pair ≡ b → cond b (n ∷ arcs_from (n + 1) arcs pair) (arcs_from (n + 1) arcs pair) ≡ []
    at b t = subst (λ (c : Bool). cond c (n ∷ arcs_from (n + 1) arcs pair) (arcs_from (n + 1) arcs pair) ≡ []) t e

    by_test : (b : Bool) → holds_pair a pair ≡ b → (arcs_from (n + 1) arcs pair ≡ [] → held arcs pair ≡ 0) → held (a ∷ arcs) pair ≡ 0
    by_test true t later = absurd (cons_nil n (arcs_from (n + 1) arcs pair) (at true t))
    by_test false t later = zero_sum (held (a ∷ arcs) pair) (held arcs pair) (with_first a arcs pair ∙ ap (λ (c : Bool). cond c 1 0 + held arcs pair) t) (later (at false t))

-- some arc holds a pair that four hold
pub some_held : (kept arcs : List Arc) (pair : ℕ) → AreSameArcs kept arcs → 4 ≤ held kept pair → arcs_at arcs pair ≡ [] → ⊥
some_held kept arcs pair same enough none = four (held kept pair) enough (sym (held_same kept arcs pair same) ∙ none_held arcs 0 pair none)
  where
    four : (n : ℕ) → 4 ≤ n → n ≡ 0 → ⊥
    four n h e = omega arith

-- ---- the arcs of rows
of_kept : (kept arcs : List Arc) (pair : ℕ) (r : Row) → AreSameArcs kept arcs → IsOfPair arcs pair r → IsOfPair kept pair r
of_kept kept arcs pair r same o = record {
  arc_in = subst (λ (n : ℕ). r.arc < n) (length_same kept arcs same) o.arc_in;
  from_first = λ a is.
      let like_first : Like arcs r.arc a = like kept arcs same r.arc a is in
      subst (λ (n : ℕ). n ≤ pair) (ap (λ (x : Arc). x.first) like_first.same) (o.from_first like_first.arc like_first.arc_is);
  to_last = λ a is.
      let like_last : Like arcs r.arc a = like kept arcs same r.arc a is in
      subst (λ (n : ℕ). pair ≤ n) (ap (λ (x : Arc). x.last) like_last.same) (o.to_last like_last.arc like_last.arc_is);
}

pub has_kept : (kept arcs : List Arc) (p : PairRows) → AreSameArcs kept arcs → HasItsArcs arcs p → HasItsArcs kept p
has_kept kept arcs p same h = λ k d inside. of_kept kept arcs p.number (get_or p.rows k d) same (h k d inside)

-- ---- the size of shifts
pub shifts_in_range : (arcs : List Arc) → AreArcs arcs → AreShiftsBelow (2 ^ 40) arcs
shifts_in_range arcs h = λ k d inside. (h.ranges k d inside).shifts_in

pub unshifted_below : (kept : List Arc) → AreUnshifted kept → AreShiftsBelow (2 ^ 39) kept
unshifted_below kept h k d inside = subst (All (IsBelow (2 ^ 39))) (sym (h k d inside)) (three_below (pos 0) (pos 0) (pos 0) (2 ^ 39) (omega arith) (omega arith) (omega arith))
