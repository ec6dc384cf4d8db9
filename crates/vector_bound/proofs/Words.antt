-- Products and sums as words of 128 bits.
use Rattle.std.proofs.Common.{◌≡◌, ℕ, ◌*◌, ◌+◌, ◌^◌, ◌≤◌, ℤ, ◌+ℤ◌, ◌-ℤ◌, ◌*ℤ◌, unsigned_abs, to_z, of_z, FitsSigned, arith, sym, ap₂, ◌∙◌, subst}
use Rattle.std.proofs.lemmas.Int.{ints}
use Rattle.std.specs.Int.{w128}
use Rattle.whole_math.proofs.Order.{abs_mul_le}
use Rattle.whole_math.proofs.Words.{as_w128}

abbrev pub word : ℤ → ℤ
word x = to_z w128 (of_z w128 x)

pub word_of : (x : ℤ) (m : ℕ) → m ≤ 2 ^ 126 → unsigned_abs x ≤ m → word x ≡ x
word_of x m h k = as_w128 x (omega (arith, h, k))

pub fits : (x : ℤ) → unsigned_abs x ≤ 2 ^ 126 → FitsSigned w128 x
fits x h = omega (arith, ints, h)

pub difference_size : (x y : ℤ) (m n : ℕ) → unsigned_abs x ≤ m → unsigned_abs y ≤ n → unsigned_abs (x -ℤ y) ≤ m + n
difference_size x y m n h k = omega (arith, ints, h, k)

pub sum_size : (x y : ℤ) (m n : ℕ) → unsigned_abs x ≤ m → unsigned_abs y ≤ n → unsigned_abs (x +ℤ y) ≤ m + n
sum_size x y m n h k = omega (arith, ints, h, k)

-- a product
pub product_word : (a b : ℤ) (m n : ℕ) → m ≤ 2 ^ 126 → n ≤ 2 ^ 126 → m * n ≤ 2 ^ 126 → unsigned_abs a ≤ m → unsigned_abs b ≤ n → word (word a *ℤ word b) ≡ a *ℤ b
product_word a b m n i j k h l = ap₂ (λ x y. word (x *ℤ y)) (word_of a m i h) (word_of b n j l) ∙ word_of (a *ℤ b) (m * n) k (abs_mul_le a b m n h l)

-- a difference of two products of small numbers
pub cross_word : (p q r s : ℤ) → unsigned_abs p ≤ 2 ^ 40 → unsigned_abs q ≤ 2 ^ 40 → unsigned_abs r ≤ 2 ^ 40 → unsigned_abs s ≤ 2 ^ 40 →
    word (word p *ℤ word q) -ℤ word (word r *ℤ word s) ≡ p *ℤ q -ℤ r *ℤ s
cross_word p q r s i j k l = ap₂ (λ x y. x -ℤ y) (product_word p q (2 ^ 40) (2 ^ 40) (omega arith) (omega arith) (omega arith) i j) (product_word r s (2 ^ 40) (2 ^ 40) (omega arith) (omega arith) (omega arith) k l)

pub cross_size : (p q r s : ℤ) → unsigned_abs p ≤ 2 ^ 40 → unsigned_abs q ≤ 2 ^ 40 → unsigned_abs r ≤ 2 ^ 40 → unsigned_abs s ≤ 2 ^ 40 → unsigned_abs (p *ℤ q -ℤ r *ℤ s) ≤ 2 ^ 81
cross_size p q r s i j k l = difference_size (p *ℤ q) (r *ℤ s) (2 ^ 40 * 2 ^ 40) (2 ^ 40 * 2 ^ 40) (abs_mul_le p q (2 ^ 40) (2 ^ 40) i j) (abs_mul_le r s (2 ^ 40) (2 ^ 40) k l)

-- the same from words
pub cross_of : (x p q r s : ℤ) → unsigned_abs p ≤ 2 ^ 40 → unsigned_abs q ≤ 2 ^ 40 → unsigned_abs r ≤ 2 ^ 40 → unsigned_abs s ≤ 2 ^ 40 →
    x ≡ word p *ℤ word q -ℤ word r *ℤ word s → x ≡ p *ℤ q -ℤ r *ℤ s
cross_of x p q r s i j k l e = e ∙ ap₂ (λ x y. x -ℤ y) (ap₂ (λ x y. x *ℤ y) (small p i) (small q j)) (ap₂ (λ x y. x *ℤ y) (small r k) (small s l))
  where
    small : (x : ℤ) → unsigned_abs x ≤ 2 ^ 40 → word x ≡ x
    small x h = word_of x (2 ^ 40) (omega arith) h

-- a number times a difference
pub times_of : (x a m k : ℤ) → unsigned_abs a ≤ 2 ^ 40 → unsigned_abs m ≤ 2 ^ 81 → m ≡ k → x ≡ word a *ℤ word m → x ≡ a *ℤ k
times_of x a m k i j e f = f ∙ ap₂ (λ x y. x *ℤ y) (word_of a (2 ^ 40) (omega arith) i) (word_of m (2 ^ 81) (omega arith) j ∙ e)

-- three terms
pub three_fit : (x y z : ℤ) → unsigned_abs x ≤ 2 ^ 121 → unsigned_abs y ≤ 2 ^ 121 → unsigned_abs z ≤ 2 ^ 121 → word (word (word x -ℤ word y) +ℤ word z) ≡ x -ℤ y +ℤ z
three_fit x y z h i j = ap₂ (λ a b. word (a +ℤ b)) (ap₂ (λ a b. word (a -ℤ b)) (large x h) (large y i) ∙ word_of (x -ℤ y) (2 ^ 121 + 2 ^ 121) (omega arith) (difference_size x y (2 ^ 121) (2 ^ 121) h i)) (large z j)
    ∙ word_of (x -ℤ y +ℤ z) (2 ^ 121 + 2 ^ 121 + 2 ^ 121) (omega arith) (three_size x y z h i j)
  where
    large : (x : ℤ) → unsigned_abs x ≤ 2 ^ 121 → word x ≡ x
    large x h = word_of x (2 ^ 121) (omega arith) h

    three_size : (x y z : ℤ) → unsigned_abs x ≤ 2 ^ 121 → unsigned_abs y ≤ 2 ^ 121 → unsigned_abs z ≤ 2 ^ 121 → unsigned_abs (x -ℤ y +ℤ z) ≤ 2 ^ 121 + 2 ^ 121 + 2 ^ 121
    three_size x y z h i j = sum_size (x -ℤ y) z (2 ^ 121 + 2 ^ 121) (2 ^ 121) (difference_size x y (2 ^ 121) (2 ^ 121) h i) j

-- a sum
pub sum_word : (x y : ℤ) (m n : ℕ) → m ≤ 2 ^ 126 → m + n ≤ 2 ^ 126 → unsigned_abs x ≤ m → unsigned_abs y ≤ n → (z : ℤ) → z ≡ y → word (word x +ℤ z) ≡ x +ℤ y
sum_word x y m n i j h k z e = ap₂ (λ a b. word (a +ℤ b)) (word_of x m i h) e ∙ word_of (x +ℤ y) (m + n) j (sum_size x y m n h k)

-- no sum of a product is lost, of numbers that are small
pub nothing_lost : (a b c a' b' c' : ℤ) → a ≡ a' → b ≡ b' → c ≡ c' → (FitsSigned w128 (b *ℤ c) → FitsSigned w128 (a +ℤ b *ℤ c) → ⊥) → unsigned_abs a' ≤ 2 ^ 120 → unsigned_abs (b' *ℤ c') ≤ 2 ^ 118 → ⊥
nothing_lost a b c a' b' c' d e f none h k = none (subst (λ (x : ℤ). FitsSigned w128 x) (sym product) (fits (b' *ℤ c') (modest (b' *ℤ c') k)))
    (subst (λ (x : ℤ). FitsSigned w128 x) (sym (ap₂ (λ x y. x +ℤ y) d product)) (fits (a' +ℤ b' *ℤ c') (both (a' +ℤ b' *ℤ c') (sum_size a' (b' *ℤ c') (2 ^ 120) (2 ^ 118) h k))))
  where
    product : b *ℤ c ≡ b' *ℤ c'
    product = ap₂ (λ x y. x *ℤ y) e f

    modest : (x : ℤ) → unsigned_abs x ≤ 2 ^ 118 → unsigned_abs x ≤ 2 ^ 126
    modest x h = omega (arith, h)

    both : (x : ℤ) → unsigned_abs x ≤ 2 ^ 120 + 2 ^ 118 → unsigned_abs x ≤ 2 ^ 126
    both x h = omega (arith, h)
