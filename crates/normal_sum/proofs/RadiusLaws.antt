-- Sums of squares of radii.
use Rattle.std.proofs.Common.{◌≡◌, ℕ, ◌+◌, ◌^◌, ◌≤◌, List, ◌∷◌, [], map, ℤ, pos, ◌+ℤ◌, ◌*ℤ◌, ◌≤ℤ◌, to_z, of_z, arith, sym, ap, ◌∙◌, refl, subst}
use Rattle.std.specs.Int.{w64, w128}
use Rattle.std.proofs.Math.IntN.{+ℤ_assoc}
use Rattle.whole_math.specs.Vectors.{sum}
use Rattle.whole_math.proofs.Ring.{◌⊕◌, ◌⊗◌}
use Rattle.whole_math.proofs.Order.{lins}
use Rattle.whole_math.proofs.Inequalities.{same_by, nat}
use Rattle.quadratic_form.specs.Rows.{Radii, no_radii, add_radii, row_radii, radii}
use Rattle.obs_rows.specs.declared.arcs.Arc.{Arc}
use Rattle.obs_rows.specs.declared.pair_rows.PairRows.{PairRows}
use Rattle.obs_rows.specs.declared.rows.Row.{Row}
use Rattle.obs_rows.specs.Data.{number_at}
use Rattle.obs_rows.specs.Signals.{weight}
use Rattle.obs_rows.specs.SignalGroups.{signal_row, signal_group}
use Rattle.normal_sum.specs.declared.radii.RadiusSums.{RadiusSums}
use Rattle.normal_sum.specs.RadiusSums.{IsAtMost}
use Rattle.normal_sum.proofs.Words.{small_w64, small_w128}

pub radii_same : (a b c d a' b' c' d' : ℤ) → a ≡ a' → b ≡ b' → c ≡ c' → d ≡ d' →
    let first_radii : Radii = record { r1 = a; r2 = b; r3 = c; ry = d } in let second_radii : Radii = record { r1 = a'; r2 = b'; r3 = c'; ry = d' } in first_radii ≡ second_radii
radii_same a b c d a' b' c' d' e f g h =
    ap (λ (z : ℤ). let changed_radii : Radii = record { r1 = z; r2 = b; r3 = c; ry = d } in changed_radii) e ∙ ap (λ (z : ℤ). let changed_radii : Radii = record { r1 = a'; r2 = z; r3 = c; ry = d } in changed_radii) f
    ∙ ap (λ (z : ℤ). let changed_radii : Radii = record { r1 = a'; r2 = b'; r3 = z; ry = d } in changed_radii) g ∙ ap (λ (z : ℤ). let changed_radii : Radii = record { r1 = a'; r2 = b'; r3 = c'; ry = z } in changed_radii) h

pub radii_assoc : (p q r : Radii) → add_radii (add_radii p q) r ≡ add_radii p (add_radii q r)
radii_assoc p q r = radii_same _ _ _ _ _ _ _ _ (+ℤ_assoc p.r1 q.r1 r.r1) (+ℤ_assoc p.r2 q.r2 r.r2) (+ℤ_assoc p.r3 q.r3 r.r3) (+ℤ_assoc p.ry q.ry r.ry)

pub up_to : (a b : ℤ) (m : ℕ) → a ≤ℤ (b +ℤ pos (2 ^ 75)) → b ≤ℤ pos m → a ≤ℤ pos (m + 2 ^ 75)
up_to a b m h g = omega (arith, lins)

weaker : (m n : ℕ) (a : ℤ) → m ≤ n → a ≤ℤ pos m → a ≤ℤ pos n
weaker m n a h g = omega (arith, lins)

pub at_most_wider : (m n : ℕ) (s : RadiusSums) → m ≤ n → IsAtMost m s → IsAtMost n s
at_most_wider m n s h k = record {
  u1_from = k.u1_from;
  u1_to = weaker m n s.u1 h k.u1_to;
  u2_from = k.u2_from;
  u2_to = weaker m n s.u2 h k.u2_to;
  u3_from = k.u3_from;
  u3_to = weaker m n s.u3 h k.u3_to;
  y_from = k.y_from;
  y_to = weaker m n s.y h k.y_to;
}

-- ---- what a sum with one square more is, where each number stands as a word
pub record Added (x s w r : ℤ) : Type 0 where
  pub value : to_z w128 (of_z w128 x) ≡ s +ℤ (w *ℤ (r *ℤ r))
  pub from : pos 0 ≤ℤ to_z w128 (of_z w128 x)
  pub to : to_z w128 (of_z w128 x) ≤ℤ (s +ℤ pos (2 ^ 75))

pub added_is : (x s w r : ℤ) → pos 0 ≤ℤ s → s ≤ℤ pos (2 ^ 110) → pos 0 ≤ℤ w → w ≤ℤ pos (2 ^ 35) → pos 0 ≤ℤ r → r ≤ℤ pos (2 ^ 20) →
    x ≡ to_z w128 (of_z w128 s) +ℤ (to_z w64 (of_z w64 w) *ℤ (to_z w64 (of_z w64 r) *ℤ to_z w64 (of_z w64 r))) → pos 0 ≤ℤ x → x ≤ℤ (to_z w128 (of_z w128 s) +ℤ pos (2 ^ 75)) → Added x s w r
added_is x s w r s0 s1 w0 w1 r0 r1 e x0 x1 =
    let sum_kept : to_z w128 (of_z w128 s) ≡ s = small_w128 s s0 (widen s s1) in
    let weight_kept : to_z w64 (of_z w64 w) ≡ w = small_w64 w w0 w1 in
    let radius_kept : to_z w64 (of_z w64 r) ≡ r = small_w64 r r0 (radius r r1) in
    let not_beyond_sum : x ≤ℤ (s +ℤ pos (2 ^ 75)) = subst (λ (z : ℤ). x ≤ℤ (z +ℤ pos (2 ^ 75))) sum_kept x1 in
    let value_kept : to_z w128 (of_z w128 x) ≡ x = small_w128 x x0 (both x s not_beyond_sum s1) in
    record {
      value = value_kept ∙ e ∙ ap (λ z. z +ℤ (to_z w64 (of_z w64 w) *ℤ (to_z w64 (of_z w64 r) *ℤ to_z w64 (of_z w64 r)))) sum_kept ∙ ap (λ z. s +ℤ (z *ℤ (to_z w64 (of_z w64 r) *ℤ to_z w64 (of_z w64 r)))) weight_kept
          ∙ ap (λ z. s +ℤ (w *ℤ (z *ℤ z))) radius_kept;
      from = subst (λ (z : ℤ). pos 0 ≤ℤ z) (sym value_kept) x0;
      to = subst (λ (z : ℤ). z ≤ℤ (s +ℤ pos (2 ^ 75))) (sym value_kept) not_beyond_sum;
    }
  where
    widen : (s : ℤ) → s ≤ℤ pos (2 ^ 110) → s ≤ℤ pos (2 ^ 111)
    widen s h = omega (arith, lins)

    radius : (r : ℤ) → r ≤ℤ pos (2 ^ 20) → r ≤ℤ pos (2 ^ 35)
    radius r h = omega (arith, lins)

    both : (x s : ℤ) → x ≤ℤ (s +ℤ pos (2 ^ 75)) → s ≤ℤ pos (2 ^ 110) → x ≤ℤ pos (2 ^ 111)
    both x s h g = omega (arith, lins)

-- ---- rows at the weights of several signals together
part : (w v x a b c : ℤ) → a ≡ b +ℤ c →
    ((pos 360360 *ℤ (w +ℤ v)) *ℤ (x *ℤ x)) +ℤ a ≡ (((pos 360360 *ℤ w) *ℤ (x *ℤ x)) +ℤ b) +ℤ (((pos 360360 *ℤ v) *ℤ (x *ℤ x)) +ℤ c)
part w v x a b c rest = ap (λ z. ((pos 360360 *ℤ (w +ℤ v)) *ℤ (x *ℤ x)) +ℤ z) rest
    ∙ same_by (w ∷ v ∷ x ∷ b ∷ c ∷ [])
    (λ w v x b c. ((nat 360360 ⊗ (w ⊕ v)) ⊗ (x ⊗ x) ⊕ (b ⊕ c), ((nat 360360 ⊗ w) ⊗ (x ⊗ x) ⊕ b) ⊕ ((nat 360360 ⊗ v) ⊗ (x ⊗ x) ⊕ c))) refl

nothing : (x a : ℤ) → a ≡ pos 0 → ((pos 360360 *ℤ pos 0) *ℤ (x *ℤ x)) +ℤ a ≡ pos 0
nothing x a rest = ap (λ z. ((pos 360360 *ℤ pos 0) *ℤ (x *ℤ x)) +ℤ z) rest ∙ same_by (x ∷ []) (λ x. ((nat 360360 ⊗ nat 0) ⊗ (x ⊗ x) ⊕ nat 0, nat 0)) refl

-- at the sum of two weights, whichever signal sees them
together : (arcs : List Arc) (ss : List ℕ) (s : ℕ) (w v : ℤ) (rows : List Row) →
    row_radii (w +ℤ v) (map (signal_row arcs ss 0) rows) ≡ add_radii (row_radii w (map (signal_row arcs ss s) rows)) (row_radii v (map (signal_row arcs ss 0) rows))
together arcs ss s w v [] = refl
together arcs ss s w v (r ∷ rows) =
    let rest : row_radii (w +ℤ v) (map (signal_row arcs ss 0) rows) ≡ add_radii (row_radii w (map (signal_row arcs ss s) rows)) (row_radii v (map (signal_row arcs ss 0) rows)) =
    together arcs ss s w v rows in
    radii_same _ _ _ _ _ _ _ _ (part w v (number_at r.ru 0) _ _ _ (ap (λ (p : Radii). p.r1) rest)) (part w v (number_at r.ru 1) _ _ _ (ap (λ (p : Radii). p.r2) rest))
    (part w v (number_at r.ru 2) _ _ _ (ap (λ (p : Radii). p.r3) rest)) (part w v r.ry _ _ _ (ap (λ (p : Radii). p.ry) rest))

weightless : (arcs : List Arc) (ss : List ℕ) (rows : List Row) → row_radii (pos 0) (map (signal_row arcs ss 0) rows) ≡ no_radii
weightless arcs ss [] = refl
weightless arcs ss (r ∷ rows) =
    let rest : row_radii (pos 0) (map (signal_row arcs ss 0) rows) ≡ no_radii = weightless arcs ss rows in
    radii_same _ _ _ _ _ _ _ _ (nothing (number_at r.ru 0) _ (ap (λ (p : Radii). p.r1) rest)) (nothing (number_at r.ru 1) _ (ap (λ (p : Radii). p.r2) rest))
    (nothing (number_at r.ru 2) _ (ap (λ (p : Radii). p.r3) rest)) (nothing r.ry _ (ap (λ (p : Radii). p.ry) rest))

pub radii_together : (arcs : List Arc) (ss : List ℕ) (p : PairRows) (signals : List ℕ) →
    row_radii (sum (map weight signals)) (map (signal_row arcs ss 0) p.rows) ≡ radii (map (signal_group arcs ss p) signals)
radii_together arcs ss p [] = weightless arcs ss p.rows
radii_together arcs ss p (s ∷ signals) = together arcs ss s (weight s) (sum (map weight signals)) p.rows
    ∙ ap (add_radii (row_radii (weight s) (map (signal_row arcs ss s) p.rows))) (radii_together arcs ss p signals)
