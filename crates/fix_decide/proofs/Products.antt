-- The weighted sums of the gaps of a pair's rows, by their size.
use Rattle.std.proofs.Common.{◌≡◌, ℕ, ◌*◌, ◌^◌, ◌≤◌, [], ◌∷◌, ℤ, pos, ◌*ℤ◌, ◌≤ℤ◌, arith, sym, ap, ap₂, ◌∙◌, refl, subst, to_z, of_z, FitsSigned}
use Rattle.std.proofs.lemmas.Int.{ints}
use Rattle.std.specs.Int.{w64, w128}
use Rattle.whole_math.proofs.Ring.{◌⊕◌, ◌⊖◌, ◌⊗◌}
use Rattle.whole_math.proofs.Inequalities.{le_by, both_nn, prod_nn, less_nn, pos_one, nat, pos_nn}
use Rattle.fix_decide.proofs.Words.{small_w64, small_w128}

-- a share k of n rows, and a sum g of gaps
pub record Weighted (k g : ℤ) : Type 0 where
  pub is : to_z w128 (of_z w128 (to_z w64 (of_z w64 k))) *ℤ to_z w128 (of_z w128 g) ≡ k *ℤ g
  pub from : pos 0 ≤ℤ (k *ℤ g)
  pub to : (k *ℤ g) ≤ℤ pos (2 ^ 104)

one_share : (k n : ℤ) → pos 0 ≤ℤ k → pos 1 ≤ℤ n → (k *ℤ n) ≤ℤ pos (2 ^ 32) → k ≤ℤ pos (2 ^ 32)
one_share k n h g l = le_by (k ∷ n ∷ []) (λ k n. (k, nat (2 ^ 32), (nat (2 ^ 32) ⊖ k ⊗ n) ⊕ k ⊗ (n ⊖ nat 1))) refl (both_nn (less_nn l) (prod_nn h (less_nn g)))

-- k g ≤ k n 2^72 ≤ 2^104
product_below : (k g n : ℤ) → pos 0 ≤ℤ k → (k *ℤ n) ≤ℤ pos (2 ^ 32) → g ≤ℤ (n *ℤ pos (2 ^ 72)) → (k *ℤ g) ≤ℤ pos (2 ^ 104)
product_below k g n h l m = le_by (k ∷ g ∷ n ∷ []) (λ k g n. (k ⊗ g, nat (2 ^ 104), k ⊗ (n ⊗ nat (2 ^ 72) ⊖ g) ⊕ (nat (2 ^ 32) ⊖ k ⊗ n) ⊗ nat (2 ^ 72))) refl
    (both_nn (prod_nn h (less_nn m)) (prod_nn (less_nn l) (pos_nn (2 ^ 72))))

pub weighted : (k g : ℤ) (n : ℕ) → 1 ≤ n → n ≤ 15 → pos 0 ≤ℤ k → (k *ℤ pos n) ≤ℤ pos (2 ^ 32) → pos 0 ≤ℤ g → g ≤ℤ pos (n * 2 ^ 72) → Weighted k g
weighted k g n some few from share_to g_from g_to =
    let k_to : k ≤ℤ pos (2 ^ 32) = one_share k (pos n) from (pos_one n (omega arith)) share_to in
    let k_is : to_z w64 (of_z w64 k) ≡ k = small_w64 k from (omega (arith, ints)) in
    let k_wide : to_z w128 (of_z w128 k) ≡ k = small_w128 k from (omega (arith, ints)) in
    let g_is : to_z w128 (of_z w128 g) ≡ g = small_w128 g g_from (omega (arith, ints)) in
    record {
      is = ap₂ (λ a b. to_z w128 (of_z w128 a) *ℤ b) k_is g_is ∙ ap (λ a. a *ℤ g) k_wide;
      from = prod_nn from g_from;
      to = product_below k g (pos n) from share_to g_to;
    }

pub fits_product : (k g : ℤ) → Weighted k g → FitsSigned w128 (to_z w128 (of_z w128 (to_z w64 (of_z w64 k))) *ℤ to_z w128 (of_z w128 g))
fits_product k g w = subst (FitsSigned w128) (sym w.is) (fits (k *ℤ g) w.from w.to)
  where
    fits : (x : ℤ) → pos 0 ≤ℤ x → x ≤ℤ pos (2 ^ 104) → FitsSigned w128 x
    fits x h g = omega (arith, ints)

pub product_word : (k g : ℤ) → Weighted k g → to_z w128 (of_z w128 (to_z w128 (of_z w128 (to_z w64 (of_z w64 k))) *ℤ to_z w128 (of_z w128 g))) ≡ k *ℤ g
product_word k g w = ap (λ a. to_z w128 (of_z w128 a)) w.is ∙ small_w128 (k *ℤ g) w.from (weaker (k *ℤ g) w.to)
  where
    weaker : (x : ℤ) → x ≤ℤ pos (2 ^ 104) → x ≤ℤ pos (2 ^ 126)
    weaker x h = omega (arith, ints)
