-- Where the values are separated by a ratio, the least integers are best by it for all data, and so strictly best.
use Rattle.std.proofs.Common.{◌≡◌, ◌≢◌, ℕ, ◌^◌, ◌≤◌, List, [], ◌∷◌, ℤ, pos, ◌*ℤ◌, ◌≤ℤ◌, ◌<ℤ◌, arith, sym, ap, ◌∙◌, refl, subst, pow_pos}
use Rattle.whole_math.specs.Vectors.{len}
use Rattle.whole_math.proofs.Vectors.{len_is}
use Rattle.whole_math.proofs.Order.{mul_lt_cancel}
use Rattle.whole_math.proofs.Ring.{◌⊕◌, ◌⊖◌, ◌⊗◌}
use Rattle.whole_math.proofs.Inequalities.{le_by, both_nn, prod_nn, less_nn, pos_nn, pos_one, one_nn, later, strict, nat}
use Rattle.whole_math.specs.Rational.{Rational, of_whole, ◌*ʳ◌, ◌≤ʳ◌}
use Rattle.quadratic_form.specs.Forms.{Column}
use Rattle.quadratic_form.specs.Rows.{value}
use Rattle.whole_math.specs.Spread.{Baseline}
use Rattle.quadratic_form.specs.TwoLeast.{TwoLeast}
use Rattle.quadratic_form.proofs.Decision.{second_value}
use Rattle.obs_rows.specs.declared.sessions.Session.{Session}
use Rattle.obs_rows.specs.Signals.{fine_signals, counted}
use Rattle.obs_rows.specs.Data.{Observed, AreData}
use Rattle.obs_rows.specs.Best.{moved, sum_at, IsVectorOf, IsStrictlyBest, IsLessByRatio, IsBestByRatio}
use Rattle.obs_rows.proofs.RatioLaws.{ratio_is_strict}
use Rattle.integer_form.specs.declared.form.Form.{Form}
use Rattle.integer_form.specs.Forms.{columns_of}
use Rattle.lower_form.specs.Fronts.{BoundsAllData}
use Rattle.int_search.specs.declared.answer.TwoBest.{TwoBest}
use Rattle.int_search.specs.Answers.{IsTwoBest}
use Rattle.fix_decide.specs.UpperSums.{top}
use Rattle.fix_decide.specs.Bounds.{StaysAtMost}
use Rattle.fix_decide.specs.Decisions.{IsFormOf, IsSeparated, first_of, second_of}
use Rattle.fix_decide.proofs.UpperLaws.{top_stays_at_most}
use Rattle.fix_decide.proofs.SessionForms.{bounds_of, integers_are, first_length, least_of}

-- what is separated by a ratio of 1000 or more is so by 1000
pub room : (t r q : ℤ) → pos 1000 ≤ℤ r → pos 0 ≤ℤ t → IsSeparated r t q → IsSeparated (pos 1000) t q
room t r q h g k =
    strict (pos_one 1 (omega arith)) (le_by (t ∷ r ∷ q ∷ []) (λ t r q. (nat 64 ⊗ (nat 1000 ⊗ t) ⊕ nat 1, nat 1000 ⊗ q, (nat 1000 ⊗ q ⊖ (nat 64 ⊗ (r ⊗ t) ⊕ nat 1)) ⊕ nat 64 ⊗ ((r ⊖ nat 1000) ⊗ t))) refl
    (both_nn (less_nn (later k)) (prod_nn (pos_nn 64) (prod_nn (less_nn h) g))))

-- what is at most h t, times r, is less than 1000 times what 64 times is at least h v, where 64 r t < 1000 q and q ≤ v
between : (n d m e h t q v r : ℤ) → pos 1 ≤ℤ d → pos 1 ≤ℤ e → pos 1 ≤ℤ h → pos 0 ≤ℤ r → IsSeparated r t q → q ≤ℤ v →
    (n *ℤ pos 1) ≤ℤ (h *ℤ t *ℤ d) → (h *ℤ v *ℤ (pos 1 *ℤ e)) ≤ℤ (pos 64 *ℤ m *ℤ pos 1) → (r *ℤ n *ℤ e) <ℤ (pos 1000 *ℤ m *ℤ d)
between n d m e h t q v r h₁ h₂ h₃ h₄ h₅ h₆ h₇ h₈ = mul_lt_cancel (r *ℤ n *ℤ e) (pos 1000 *ℤ m *ℤ d) 64 (omega arith)
    (strict (ones e d h₂ h₁) (le_by (n ∷ e ∷ d ∷ m ∷ h ∷ v ∷ q ∷ t ∷ r ∷ []) (λ n e d m h v q t r. (
      r ⊗ n ⊗ e ⊗ nat 64 ⊕ e ⊗ d,
      nat 1000 ⊗ m ⊗ d ⊗ nat 64,
      (nat 1000 ⊗ ((nat 64 ⊗ m ⊗ nat 1 ⊖ h ⊗ v ⊗ (nat 1 ⊗ e)) ⊗ d) ⊕ nat 1000 ⊗ (h ⊗ (v ⊖ q) ⊗ (e ⊗ d)))
          ⊕ (h ⊗ (e ⊗ d) ⊗ (nat 1000 ⊗ q ⊖ (nat 64 ⊗ (r ⊗ t) ⊕ nat 1)) ⊕ ((h ⊖ nat 1) ⊗ (e ⊗ d) ⊕ nat 64 ⊗ (r ⊗ (e ⊗ (h ⊗ t ⊗ d ⊖ n ⊗ nat 1))))),
    )) refl
    (both_nn (both_nn (prod_nn (pos_nn 1000) (prod_nn (less_nn h₈) (one_nn h₁))) (prod_nn (pos_nn 1000) (prod_nn (prod_nn (one_nn h₃) (less_nn h₆)) (prod_nn (one_nn h₂) (one_nn h₁)))))
    (both_nn (prod_nn (prod_nn (one_nn h₃) (prod_nn (one_nn h₂) (one_nn h₁))) (less_nn (later h₅)))
    (both_nn (prod_nn (less_nn h₃) (prod_nn (one_nn h₂) (one_nn h₁))) (prod_nn (pos_nn 64) (prod_nn h₄ (prod_nn (one_nn h₂) (less_nn h₇)))))))))
  where
    ones : (a b : ℤ) → pos 1 ≤ℤ a → pos 1 ≤ℤ b → pos 1 ≤ℤ (a *ℤ b)
    ones a b h k = le_by (a ∷ b ∷ []) (λ a b. (nat 1, a ⊗ b, (a ⊖ nat 1) ⊗ (b ⊖ nat 1) ⊕ (a ⊖ nat 1 ⊕ (b ⊖ nat 1)))) refl (both_nn (prod_nn (less_nn h) (less_nn k)) (both_nn (less_nn h) (less_nn k)))

-- what stays at most h t is less by the ratio than what 64 times is at least h v
pub below_by_ratio : (f g : Rational) (ratio h : ℕ) (t q v : ℤ) → IsSeparated (pos ratio) t q → q ≤ℤ v → f ≤ʳ of_whole (pos (2 ^ h) *ℤ t) → of_whole (pos (2 ^ h) *ℤ v) ≤ʳ of_whole (pos 64) *ʳ g →
    IsLessByRatio ratio f g
below_by_ratio f g ratio h t q v k l upper lower =
    between f.num (pos f.den) g.num (pos g.den) (pos (2 ^ h)) t q v (pos ratio) (pos_one f.den f.positive) (pos_one g.den g.positive) (pos_one (2 ^ h) (pow_pos h)) (pos_nn ratio) k l upper lower

-- from the bound of the form, the two least vectors, and the upper sum of the first
pub best_from_bounds : (s : Session) (h : ℕ) (p : List Column) (ratio : ℕ) (t : ℤ) (z1 z2 m : List ℤ) → s.scale ≡ 0 → IsVectorOf s z1 →
    BoundsAllData s.arcs (fine_signals s.signals) s.pairs h p → TwoLeast p (len z1) z1 z2 →
    StaysAtMost s.arcs (fine_signals s.signals) s.pairs z1 m (pos (2 ^ h) *ℤ t) → IsSeparated (pos ratio) t (value p z2) → IsBestByRatio ratio s z1 m
best_from_bounds s h p ratio t z1 z2 m fine entries bounds least upper separated = record {
  fine = fine;
  entries = entries;
  best = λ (observed : List (List Observed)) (f : AreData (fine_signals s.signals) s.pairs observed) (w : List ℤ) (e : IsVectorOf s w) (n : w ≢ z1) (b : Baseline).
      below_by_ratio (sum_at s z1 (moved m) observed) (sum_at s w b observed) ratio h t (value p z2) (value p w) separated
      (second_value p (len z1) z1 z2 w least (len_is w ∙ ap pos (e ∙ sym entries) ∙ sym (len_is z1)) n) (upper.above observed f) (bounds.below w b observed e f);
}

-- from the form of the rows, its two least vectors, and the upper sum of the first
pub best_by_ratio : (s : Session) (f : Form) (b : TwoBest) (ratio : ℕ) (t : ℤ) (m : List ℤ) → s.scale ≡ 0 → IsFormOf s f → IsTwoBest f b →
    t ≡ top f.h s.arcs (fine_signals s.signals) s.pairs (first_of b) m → IsSeparated (pos ratio) t b.p2 → IsBestByRatio ratio s (first_of b) m
best_by_ratio s f b ratio t m fine of_rows two top_is separated =
    best_from_bounds s f.h (columns_of f) ratio t (first_of b) (second_of b) m fine entries bounds (least_of f b two) above
    (subst (λ (x : ℤ). IsSeparated (pos ratio) t x) two.p2 separated)
  where
    entries : IsVectorOf s (first_of b)
    entries = first_length f b two ∙ two.size ∙ integers_are s f of_rows fine

    bounds : BoundsAllData s.arcs (fine_signals s.signals) s.pairs f.h (columns_of f)
    bounds = subst (λ (scale : ℕ). BoundsAllData s.arcs (counted s.signals scale) s.pairs f.h (columns_of f)) fine (bounds_of s f of_rows)

    above : StaysAtMost s.arcs (fine_signals s.signals) s.pairs (first_of b) m (pos (2 ^ f.h) *ℤ t)
    above = subst (λ (x : ℤ). StaysAtMost s.arcs (fine_signals s.signals) s.pairs (first_of b) m (pos (2 ^ f.h) *ℤ x)) (sym top_is)
        (top_stays_at_most f.h s.arcs (fine_signals s.signals) s.pairs (first_of b) m entries)

-- and where the ratio is 1000 or more
pub strictly_best : (s : Session) (f : Form) (b : TwoBest) (ratio : ℕ) (t : ℤ) (m : List ℤ) → s.scale ≡ 0 → IsFormOf s f → IsTwoBest f b →
    t ≡ top f.h s.arcs (fine_signals s.signals) s.pairs (first_of b) m → 1000 ≤ ratio → IsSeparated (pos ratio) t b.p2 → IsStrictlyBest s (first_of b) m
strictly_best s f b ratio t m fine of_rows two top_is large separated =
    ratio_is_strict ratio s (first_of b) m large (best_by_ratio s f b ratio t m fine of_rows two top_is separated)
