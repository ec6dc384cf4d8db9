-- One more arc of a certificate.
use Rattle.std.proofs.Common.{◌≡◌, ◌+◌, ◌-◌, ◌≤◌, ◌⊎◌, inl, inr, ℕ, Bool, true, false, not, ◌||◌, nat_lt, cond, IsTrue, List, [], ◌∷◌, ◌++◌, refl, ap, ◌∙◌, zero-add, arith}
use Rattle.std.proofs.lemmas.Bool.Decides.{nat_tests}
use Rattle.std.proofs.lemmas.List.Sums.{sum_by-append}
use Rattle.obs_rows.specs.declared.arcs.Arc.{Arc}
use Rattle.obs_rows.specs.declared.units.TheConstants.{MOST_FREE_ARCS}
use Rattle.obs_rows.specs.Arcs.{is_free, free_count}
use Rattle.cert_lines.specs.Lines.{arc_line, arc_lines}
use Rattle.cert_lines.specs.Forms.{may_stand}
use Rattle.cert_text.specs.Parts.{free_by}

pub arcs_took : (ss : List ℕ) (arcs : List Arc) (a : Arc) (rest : List (List ℕ)) → arc_lines ss arcs ++ arc_line ss a ∷ rest ≡ arc_lines ss (arcs ++ a ∷ []) ++ rest
arcs_took ss [] a rest = refl
arcs_took ss (b ∷ arcs) a rest = ap (λ (l : List (List ℕ)). arc_line ss b ∷ l) (arcs_took ss arcs a rest)

pub free_push : (arcs : List Arc) (a : Arc) → free_count (arcs ++ a ∷ []) ≡ free_count arcs + free_by a.datum
free_push arcs a = sum_by-append (λ (x : Arc). cond (is_free x) 1 0) arcs (a ∷ []) ∙ ap (λ (n : ℕ). free_count arcs + n) (zero-add (cond (is_free a) 1 0) ∙ one a.datum)
  where
    one : (d : Bool) → cond (not d) 1 0 ≡ free_by d
    one true = refl
    one false = refl

pub few_stand : (free left : ℕ) (datum : Bool) → IsTrue (may_stand free left datum) → free ≤ MOST_FREE_ARCS → free + free_by datum ≤ MOST_FREE_ARCS
few_stand free left true stands few = omega arith
few_stand free left false stands few = grind (arith, nat_tests)

pub some_stand : (free left : ℕ) (datum : Bool) → 1 ≤ left → IsTrue (may_stand free left datum) → (1 ≤ left - 1) ⊎ (1 ≤ free + free_by datum)
some_stand free left true some stands = by_tests (nat_lt 1 left) refl stands
  where
    by_tests : (t : Bool) → nat_lt 1 left ≡ t → IsTrue (t || nat_lt 0 free) → (1 ≤ left - 1) ⊎ (1 ≤ free + 0)
    by_tests true is h = inl (grind (arith, nat_tests))
    by_tests false is h = inr (grind (arith, nat_tests))
some_stand free left false some stands = inr (omega arith)
