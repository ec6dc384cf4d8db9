-- The arcs with their first shifts, one by one.
use Rattle.std.proofs.Common.{◌≡◌, ℕ, ◌+◌, ⊎_elim, List, [], ◌∷◌, ◌++◌, length, Some, ℤ, sym, ap, ◌∙◌, subst}
use Rattle.std.specs.Prelude.{slice_get}
use Rattle.obs_rows.specs.declared.arcs.Arc.{Arc}
use Rattle.obs_rows.specs.declared.bands.Signals.{Signals}
use Rattle.screening.specs.declared.sv_pair.SvPair.{SvPair}
use Rattle.row_build.specs.Rows.{setting}
use Rattle.row_build.specs.Shifts.{AreFirstShifts}
use Rattle.round_steps.specs.Shifts.{AreSameArcs, without_shifts}
use Rattle.session.specs.FileRules.{HaveFirstShifts}
use Rattle.std.proofs.lemmas.List.{length_push}
use Rattle.whole_math.proofs.Lists.{push_get}
use Rattle.round_steps.proofs.ShiftLaws.{same_lists}

-- arc a with first shifts
pub record IsFirst (boxes : List SvPair) (kept : List Arc) (position point : List ℤ) (signals : Signals) (a b : Arc) : Type 0 where
  pub same : without_shifts b ≡ without_shifts a
  pub near : AreFirstShifts (setting boxes kept position point signals 0) a.first a.sat b.shift

-- the first n arcs
pub record AreFirstTo (boxes : List SvPair) (kept : List Arc) (position point : List ℤ) (signals : Signals) (n : ℕ) (arcs : List Arc) : Type 0 where
  pub as_many : length arcs ≡ n
  pub each : (k : ℕ) (a b : Arc) → slice_get kept k ≡ Some a → slice_get arcs k ≡ Some b → IsFirst boxes kept position point signals a b

pub more_first : (boxes : List SvPair) (kept : List Arc) (position point : List ℤ) (signals : Signals) (n : ℕ) (arcs after : List Arc) (x : Arc) → AreFirstTo boxes kept position point signals n arcs →
    ((a : Arc) → slice_get kept n ≡ Some a → IsFirst boxes kept position point signals a x) → after ≡ arcs ++ x ∷ [] → AreFirstTo boxes kept position point signals (n + 1) after
more_first boxes kept position point signals n arcs after x so_far first pushed = record {
  as_many = ap length pushed ∙ length_push arcs x ∙ ap (λ m. m + 1) so_far.as_many;
  each = λ k a b at there. ⊎_elim
      (λ (old : slice_get arcs k ≡ Some b). so_far.each k a b at old)
      (λ (new : (k ≡ length arcs) × (x ≡ b)).
      subst (IsFirst boxes kept position point signals a) new.1 (first a (ap (slice_get kept) (sym (new.0 ∙ so_far.as_many)) ∙ at)))
      (push_get arcs x b k (ap (λ l. slice_get l k) (sym pushed) ∙ there));
}

pub same_first : (boxes : List SvPair) (kept : List Arc) (position point : List ℤ) (signals : Signals) (n : ℕ) (arcs : List Arc)
    → AreFirstTo boxes kept position point signals n arcs → n ≡ length kept → AreSameArcs kept arcs
same_first boxes kept position point signals n arcs so_far all = same_lists kept arcs (so_far.as_many ∙ all) (λ k a b at there. (so_far.each k a b at there).same)

pub begins : (boxes : List SvPair) (kept : List Arc) (position point : List ℤ) (signals : Signals) (n : ℕ) (arcs : List Arc)
    → AreFirstTo boxes kept position point signals n arcs → n ≡ length kept → HaveFirstShifts boxes kept position point signals arcs
begins boxes kept position point signals n arcs so_far all = record {
  same = same_first boxes kept position point signals n arcs so_far all;
  near = λ k a b at there. (so_far.each k a b at there).near;
}
