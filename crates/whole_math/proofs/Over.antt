-- Rationals over one denominator: sums, products, orders and boxes are those of the numerators.
use Rattle.std.proofs.Common.{◌≡◌, List, subst, lit<, ℕ, ◌*◌, ◌<◌, [], ◌∷◌, ℤ, pos, ◌+ℤ◌, ◌-ℤ◌, ◌*ℤ◌, neg_ℤ, ◌≤ℤ◌, ◌<ℤ◌, mul-pos, sym, ap, ap₂, ◌∙◌, refl}
use Rattle.whole_math.proofs.Ring.{◌⊕◌, ◌⊖◌, ◌⊗◌, ng}
use Rattle.whole_math.proofs.Order.{mul_le_cancel, mul_lt_cancel}
use Rattle.whole_math.proofs.Inequalities.{le_by, both_nn, prod_nn, less_nn, pos_nn, le_eq, pos_one, one_nn, later, strict, same_by, nat}
use Rattle.whole_math.specs.Rational.{Rational, ◌≤ʳ◌, ◌<ʳ◌, of_whole, Near, ◌+ʳ◌, ◌-ʳ◌, ◌*ʳ◌}
use Rattle.whole_math.specs.Bounds.{Within}
use Rattle.whole_math.specs.Vectors.{scaled}
use Rattle.whole_math.proofs.IntLaws.{mul_comm_ℤ}
use Rattle.whole_math.specs.Over.{AreOver, HasCommonDenominator}
pub use Rattle.whole_math.specs.Over.{Over}

pub over_whole : (k n : ℤ) → Over k (k *ℤ n) (of_whole n)
over_whole k n = same_by (n ∷ k ∷ []) (λ n k. (n ⊗ k, k ⊗ n ⊗ nat 1)) refl

pub over_zero : (k : ℤ) → Over k (pos 0) (of_whole (pos 0))
over_zero k = same_by (k ∷ []) (λ k. (nat 0 ⊗ k, nat 0 ⊗ nat 1)) refl

pub over_add : (k m n : ℤ) (p q : Rational) → Over k m p → Over k n q → Over k (m +ℤ n) (p +ʳ q)
over_add k m n p q e f = open_it k p.num (pos p.den) q.num (pos q.den) ∙ ap₂ (λ s t. (pos q.den *ℤ s) +ℤ (pos p.den *ℤ t)) e f ∙ close_it m n (pos p.den) (pos q.den)
  where
    open_it : (k a b c d : ℤ) → (a *ℤ d +ℤ c *ℤ b) *ℤ k ≡ d *ℤ (a *ℤ k) +ℤ b *ℤ (c *ℤ k)
    open_it k a b c d = same_by (a ∷ d ∷ c ∷ b ∷ k ∷ []) (λ a d c b k. ((a ⊗ d ⊕ c ⊗ b) ⊗ k, d ⊗ (a ⊗ k) ⊕ b ⊗ (c ⊗ k))) refl

    close_it : (m n b d : ℤ) → d *ℤ (m *ℤ b) +ℤ b *ℤ (n *ℤ d) ≡ (m +ℤ n) *ℤ (b *ℤ d)
    close_it m n b d = same_by (d ∷ m ∷ b ∷ n ∷ []) (λ d m b n. (d ⊗ (m ⊗ b) ⊕ b ⊗ (n ⊗ d), (m ⊕ n) ⊗ (b ⊗ d))) refl

pub over_sub : (k m n : ℤ) (p q : Rational) → Over k m p → Over k n q → Over k (m -ℤ n) (p -ʳ q)
over_sub k m n p q e f = open_it k p.num (pos p.den) q.num (pos q.den) ∙ ap₂ (λ s t. (pos q.den *ℤ s) -ℤ (pos p.den *ℤ t)) e f ∙ close_it m n (pos p.den) (pos q.den)
  where
    open_it : (k a b c d : ℤ) → (a *ℤ d -ℤ c *ℤ b) *ℤ k ≡ d *ℤ (a *ℤ k) -ℤ b *ℤ (c *ℤ k)
    open_it k a b c d = same_by (a ∷ d ∷ c ∷ b ∷ k ∷ []) (λ a d c b k. ((a ⊗ d ⊖ c ⊗ b) ⊗ k, d ⊗ (a ⊗ k) ⊖ b ⊗ (c ⊗ k))) refl

    close_it : (m n b d : ℤ) → d *ℤ (m *ℤ b) -ℤ b *ℤ (n *ℤ d) ≡ (m -ℤ n) *ℤ (b *ℤ d)
    close_it m n b d = same_by (d ∷ m ∷ b ∷ n ∷ []) (λ d m b n. (d ⊗ (m ⊗ b) ⊖ b ⊗ (n ⊗ d), (m ⊖ n) ⊗ (b ⊗ d))) refl

pub over_mul : (j k m n : ℤ) (p q : Rational) → Over j m p → Over k n q → Over (j *ℤ k) (m *ℤ n) (p *ʳ q)
over_mul j k m n p q e f = open_it j k p.num q.num ∙ ap₂ (λ s t. s *ℤ t) e f ∙ close_it m n (pos p.den) (pos q.den)
  where
    open_it : (j k a c : ℤ) → a *ℤ c *ℤ (j *ℤ k) ≡ a *ℤ j *ℤ (c *ℤ k)
    open_it j k a c = same_by (a ∷ c ∷ j ∷ k ∷ []) (λ a c j k. (a ⊗ c ⊗ (j ⊗ k), a ⊗ j ⊗ (c ⊗ k))) refl

    close_it : (m n b d : ℤ) → m *ℤ b *ℤ (n *ℤ d) ≡ m *ℤ n *ℤ (b *ℤ d)
    close_it m n b d = same_by (m ∷ b ∷ n ∷ d ∷ []) (λ m b n d. (m ⊗ b ⊗ (n ⊗ d), m ⊗ n ⊗ (b ⊗ d))) refl

pub over_times : (k c n : ℤ) (q : Rational) → Over k n q → Over k (c *ℤ n) (of_whole c *ʳ q)
over_times k c n q e = open_it k c q.num ∙ ap (λ s. c *ℤ s) e ∙ close_it c n (pos q.den)
  where
    open_it : (k c a : ℤ) → c *ℤ a *ℤ k ≡ c *ℤ (a *ℤ k)
    open_it k c a = same_by (c ∷ a ∷ k ∷ []) (λ c a k. (c ⊗ a ⊗ k, c ⊗ (a ⊗ k))) refl

    close_it : (c n d : ℤ) → c *ℤ (n *ℤ d) ≡ c *ℤ n *ℤ (pos 1 *ℤ d)
    close_it c n d = same_by (c ∷ n ∷ d ∷ []) (λ c n d. (c ⊗ (n ⊗ d), c ⊗ n ⊗ (nat 1 ⊗ d))) refl

pub over_wide : (j k n : ℤ) (q : Rational) → Over j n q → Over (j *ℤ k) (n *ℤ k) q
over_wide j k n q e = open_it j k q.num ∙ ap (λ s. s *ℤ k) e ∙ close_it k n (pos q.den)
  where
    open_it : (j k a : ℤ) → a *ℤ (j *ℤ k) ≡ a *ℤ j *ℤ k
    open_it j k a = same_by (a ∷ j ∷ k ∷ []) (λ a j k. (a ⊗ (j ⊗ k), a ⊗ j ⊗ k)) refl

    close_it : (k n d : ℤ) → n *ℤ d *ℤ k ≡ n *ℤ k *ℤ d
    close_it k n d = same_by (n ∷ d ∷ k ∷ []) (λ n d k. (n ⊗ d ⊗ k, n ⊗ k ⊗ d)) refl

-- orders, over two denominators
pub over_le : (j k : ℕ) (m n : ℤ) (p q : Rational) → 0 < j → 0 < k → Over (pos j) m p → Over (pos k) n q → (m *ℤ pos k) ≤ℤ (n *ℤ pos j) → p ≤ʳ q
over_le j k m n p q h i e f o = mul_le_cancel (p.num *ℤ pos q.den) (q.num *ℤ pos p.den) (j * k) (mul-pos h i)
    (step (pos j) (pos k) m n p.num (pos p.den) q.num (pos q.den) (pos_nn (p.den * q.den)) e f o)
  where
    step : (j k m n a b c d : ℤ) → pos 0 ≤ℤ (b *ℤ d) → a *ℤ j ≡ m *ℤ b → c *ℤ k ≡ n *ℤ d → (m *ℤ k) ≤ℤ (n *ℤ j) → (a *ℤ d *ℤ (j *ℤ k)) ≤ℤ (c *ℤ b *ℤ (j *ℤ k))
    step j k m n a b c d h e f o = rw (left, right) (le_by (m ∷ b ∷ d ∷ k ∷ n ∷ j ∷ []) (λ m b d k n j. (m ⊗ b ⊗ (d ⊗ k), n ⊗ d ⊗ (b ⊗ j), b ⊗ d ⊗ (n ⊗ j ⊖ m ⊗ k))) refl (prod_nn h (less_nn o)))
      where
        left : a *ℤ d *ℤ (j *ℤ k) ≡ m *ℤ b *ℤ (d *ℤ k)
        left = same_by (a ∷ d ∷ j ∷ k ∷ []) (λ a d j k. (a ⊗ d ⊗ (j ⊗ k), a ⊗ j ⊗ (d ⊗ k))) refl ∙ ap (λ z. z *ℤ (d *ℤ k)) e

        right : c *ℤ b *ℤ (j *ℤ k) ≡ n *ℤ d *ℤ (b *ℤ j)
        right = same_by (c ∷ b ∷ j ∷ k ∷ []) (λ c b j k. (c ⊗ b ⊗ (j ⊗ k), c ⊗ k ⊗ (b ⊗ j))) refl ∙ ap (λ z. z *ℤ (b *ℤ j)) f

pub over_lt : (j k : ℕ) (m n : ℤ) (p q : Rational) → 0 < j → 0 < k → Over (pos j) m p → Over (pos k) n q → (m *ℤ pos k) <ℤ (n *ℤ pos j) → p <ʳ q
over_lt j k m n p q h i e f o = mul_lt_cancel (p.num *ℤ pos q.den) (q.num *ℤ pos p.den) (j * k) (mul-pos h i)
    (step (pos j) (pos k) m n p.num (pos p.den) q.num (pos q.den) (pos_one (p.den * q.den) (mul-pos p.positive q.positive)) e f o)
  where
    step : (j k m n a b c d : ℤ) → pos 1 ≤ℤ (b *ℤ d) → a *ℤ j ≡ m *ℤ b → c *ℤ k ≡ n *ℤ d → (m *ℤ k) <ℤ (n *ℤ j) → (a *ℤ d *ℤ (j *ℤ k)) <ℤ (c *ℤ b *ℤ (j *ℤ k))
    step j k m n a b c d h e f o = rw (left, right)
        (strict h (le_by (m ∷ b ∷ d ∷ k ∷ n ∷ j ∷ []) (λ m b d k n j. (m ⊗ b ⊗ (d ⊗ k) ⊕ b ⊗ d, n ⊗ d ⊗ (b ⊗ j), b ⊗ d ⊗ (n ⊗ j ⊖ (m ⊗ k ⊕ nat 1)))) refl (prod_nn (one_nn h) (less_nn (later o)))))
      where
        left : a *ℤ d *ℤ (j *ℤ k) ≡ m *ℤ b *ℤ (d *ℤ k)
        left = same_by (a ∷ d ∷ j ∷ k ∷ []) (λ a d j k. (a ⊗ d ⊗ (j ⊗ k), a ⊗ j ⊗ (d ⊗ k))) refl ∙ ap (λ z. z *ℤ (d *ℤ k)) e

        right : c *ℤ b *ℤ (j *ℤ k) ≡ n *ℤ d *ℤ (b *ℤ j)
        right = same_by (c ∷ b ∷ j ∷ k ∷ []) (λ c b j k. (c ⊗ b ⊗ (j ⊗ k), c ⊗ k ⊗ (b ⊗ j))) refl ∙ ap (λ z. z *ℤ (b *ℤ j)) f

-- a box
pub over_box : (k : ℤ) (n c r : ℤ) (q : Rational) → pos 0 ≤ℤ k → Over k n q → Near c r q → Within (k *ℤ r) (n -ℤ (k *ℤ c))
over_box k n c r q h e i = step k n c r q.num q.den q.positive h e i.0 i.1
  where
    step : (k n c r a : ℤ) (d : ℕ) → 0 < d → pos 0 ≤ℤ k → a *ℤ k ≡ n *ℤ pos d → ((c -ℤ r) *ℤ pos d) ≤ℤ (a *ℤ pos 1) → (a *ℤ pos 1) ≤ℤ ((c +ℤ r) *ℤ pos d) → Within (k *ℤ r) (n -ℤ (k *ℤ c))
    step k n c r a d h₀ h e i j = (
      mul_le_cancel (neg_ℤ (k *ℤ r)) (n -ℤ (k *ℤ c)) d h₀ (le_by (k ∷ r ∷ pos d ∷ n ∷ c ∷ a ∷ []) (λ k r d n c a.
          (ng (k ⊗ r) ⊗ d, (n ⊖ k ⊗ c) ⊗ d, n ⊗ d ⊖ a ⊗ k ⊕ k ⊗ (a ⊗ nat 1 ⊖ (c ⊖ r) ⊗ d))) refl (both_nn (less_nn (le_eq e)) (prod_nn h (less_nn i)))),
      mul_le_cancel (n -ℤ (k *ℤ c)) (k *ℤ r) d h₀
          (le_by (n ∷ k ∷ c ∷ pos d ∷ r ∷ a ∷ []) (λ n k c d r a. ((n ⊖ k ⊗ c) ⊗ d, k ⊗ r ⊗ d, a ⊗ k ⊖ n ⊗ d ⊕ k ⊗ ((c ⊕ r) ⊗ d ⊖ a ⊗ nat 1))) refl
          (both_nn (less_nn (le_eq (sym e))) (prod_nn h (less_nn j)))),
    )

-- ---- one denominator for a list: the product of all
all_wide : (j k : ℤ) (ns : List ℤ) (qs : List Rational) → AreOver j ns qs → AreOver (j *ℤ k) (scaled k ns) qs
all_wide j k [] [] h = tt
all_wide j k [] (q ∷ qs) h = absurd h
all_wide j k (n ∷ ns) [] h = absurd h
all_wide j k (n ∷ ns) (q ∷ qs) h = (subst (λ (m : ℤ). Over (j *ℤ k) m q) (mul_comm_ℤ n k) (over_wide j k n q h.0), all_wide j k ns qs h.1)

pub common : (qs : List Rational) → HasCommonDenominator qs
common [] = record { denominator = 1; positive = lit< tt; numerators = []; are = tt }
common (q ∷ qs) =
    let rest_common : HasCommonDenominator qs = common qs in
    record {
      denominator = rest_common.denominator * q.den;
      positive = mul-pos rest_common.positive q.positive;
      numerators = (pos rest_common.denominator *ℤ q.num) ∷ scaled (pos q.den) rest_common.numerators;
      are = (first q.num (pos rest_common.denominator) (pos q.den), all_wide (pos rest_common.denominator) (pos q.den) rest_common.numerators qs rest_common.are);
    }
  where
    first : (a d e : ℤ) → a *ℤ (d *ℤ e) ≡ d *ℤ a *ℤ e
    first a d e = same_by (a ∷ d ∷ e ∷ []) (λ a d e. (a ⊗ (d ⊗ e), d ⊗ a ⊗ e)) refl
