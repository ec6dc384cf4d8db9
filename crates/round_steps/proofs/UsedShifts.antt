-- Shifts of bands that don't count stay 0 where shifts grow.
use Rattle.std.proofs.Common.{◌≡◌, ℕ, zero, suc, ◌+◌, ◌*◌, ◌<◌, Bool, true, false, Option, Some, None, List, [], ◌∷◌, length, map, get_or, All, cond, ℤ, pos, ◌+ℤ◌, arith, sym, ap, ap₂, ◌∙◌, refl, subst}
use Rattle.std.specs.Prelude.{slice_get, position, ◌==◌}
use Rattle.std.specs.List.{list_any}
use Rattle.std.specs.Option.{option_map}
use Rattle.std.proofs.lemmas.Bool.{false≢true, eqb-true, eq-eqb}
use Rattle.std.proofs.lemmas.List.{length-map}
use Rattle.std.proofs.lemmas.List.Folds.{list_any-from_Any}
use Rattle.std.proofs.lemmas.List.Quantifiers.{position-Some}
use Rattle.std.proofs.lemmas.Option.{slice_get-get_or}
use Rattle.std.proofs.Math.ListN.{get_or-map}
use Rattle.obs_rows.specs.declared.arcs.Arc.{Arc}
use Rattle.obs_rows.specs.Signals.{phases, band}
use Rattle.obs_rows.specs.CountedSignals.{phase_bands}
use Rattle.obs_rows.specs.Integers.{integer, is_some_free, entry_at}
use Rattle.obs_rows.specs.Arcs.{free_before}
use Rattle.obs_rows.specs.Unused.{HasUsedShifts}
use Rattle.integer_form.specs.FloatPoint.{item}
use Rattle.round_steps.specs.Shifts.{growth, integers, grown_shift, grown_arc, AreGrown}

-- a phase whose band isn't among the bands of these phases isn't among them
no_place : (ps : List ℕ) (s : ℕ) → list_any (λ b. b == band s) (map band ps) ≡ false → position (λ t. t == s) ps ≡ None
no_place ps s off = by_place (position (λ t. t == s) ps) refl
  where
    by_place : (o : Option ℕ) → position (λ t. t == s) ps ≡ o → o ≡ None
    by_place None e = refl
    by_place (Some j) e =
        let place_of_signal = position-Some (λ t. t == s) ps j 0 e in
        let same : get_or ps j 0 ≡ s = eqb-true (get_or ps j 0) s place_of_signal.1 in
        let same_band : get_or (map band ps) j (band 0) ≡ band s = get_or-map band ps j 0 ∙ ap band same in
        let inside : j < length (map band ps) = subst (λ (n : ℕ). j < n) (sym (length-map ps band)) place_of_signal.0 in
        let found : list_any (λ b. b == band s) (map band ps) ≡ true =
        list_any-from_Any (λ b. b == band s) (map band ps) (j, band s, inside, there (map band ps) j (band 0) (band s) inside same_band, eq-eqb (band s) (band s) refl) in
        absurd (false≢true (sym off ∙ found))
      where
        there : (xs : List ℕ) (j d x : ℕ) → j < length xs → get_or xs j d ≡ x → get_or xs j x ≡ x
        there [] j d x h e = absurd (omega arith)
        there (y ∷ xs) zero d x h e = e
        there (y ∷ xs) (suc j) d x h e = there xs j d x (omega arith) e

-- it has no integer
no_integer : (arcs : List Arc) (ss : List ℕ) (z : List ℤ) (k s : ℕ) → list_any (λ b. b == band s) (phase_bands ss) ≡ false → integer arcs ss z k s ≡ pos 0
no_integer arcs ss z k s off =
    let free : Bool = is_some_free (slice_get arcs k) in
    let place : ℕ → ℕ = λ j. (length (phases ss) * free_before arcs k) + j in
    ap (λ (o : Option ℕ). entry_at z (cond free (option_map place o) None)) (no_place (phases ss) s off) ∙ none z place free
  where
    none : (z : List ℤ) (f : ℕ → ℕ) (b : Bool) → entry_at z (cond b (option_map f None) None) ≡ pos 0
    none z f true = refl
    none z f false = refl

-- so its shift stays
same_shift : (arcs : List Arc) (ss : List ℕ) (x : List ℤ) (k : ℕ) (a : Arc) (s : ℕ) → list_any (λ b. b == band s) (phase_bands ss) ≡ false
    → item a.shift (band s) ≡ pos 0 → grown_shift arcs ss x k a s ≡ pos 0
same_shift arcs ss x k a s off zero_there = ap₂ (λ (m n : ℤ). m +ℤ growth n) zero_there (no_integer arcs ss (integers x) k s off)

arc_used : (arcs : List Arc) (ss : List ℕ) (x : List ℤ) (k : ℕ) (a : Arc) → HasUsedShifts ss a → HasUsedShifts ss (grown_arc arcs ss x k a)
arc_used arcs ss x k a used zero off = same_shift arcs ss x k a 0 off (used 0 off)
arc_used arcs ss x k a used (suc zero) off = same_shift arcs ss x k a 1 off (used 1 off)
arc_used arcs ss x k a used (suc (suc zero)) off = same_shift arcs ss x k a 4 off (used 2 off)
arc_used arcs ss x k a used (suc (suc (suc b))) off = refl

pub grown_used : (arcs : List Arc) (ss : List ℕ) (x : List ℤ) (after : List Arc) → AreGrown arcs ss x after → All (HasUsedShifts ss) arcs → All (HasUsedShifts ss) after
grown_used arcs ss x after grown used k d inside =
    let within : k < length arcs = subst (λ (n : ℕ). k < n) grown.as_many inside in
    let arc : Arc = get_or arcs k d in
    let arc_grown : slice_get after k ≡ Some (grown_arc arcs ss x k arc) = grown.each k arc (slice_get-get_or arcs k d within) in
    subst (HasUsedShifts ss) (sym (some_same (get_or after k d) (grown_arc arcs ss x k arc) (sym (slice_get-get_or after k d inside) ∙ arc_grown))) (arc_used arcs ss x k arc (used k d within))
  where
    some_same : (b c : Arc) → Some b ≡ Some c → b ≡ c
    some_same b c e = cc
