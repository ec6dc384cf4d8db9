-- A number has one form with 13 digits.
use Rattle.std.proofs.Common.{◌≡◌, ℕ, ℤ, pos, negsuc, suc, ◌+◌, ◌-◌, ◌*◌, ◌^◌, ◌≤◌, ◌<◌, ◌*ℤ◌, ◌⊎◌, inl, inr, unsigned_abs, Bool, true, false, nat_lt, lit<, refl, sym, ap, subst, ◌∙◌, arith}
use Rattle.std.proofs.lemmas.Int.{unsigned_abs-mul}
use Rattle.std.proofs.lemmas.Nat.{pow-add}
use Rattle.std.proofs.lemmas.Bool.Decides.{nat_tests}
use Rattle.std.proofs.Math.Nat.{one-le-pow, pow-le-pow_right, mul-le-mul_right, le-mul_of_pos_right, mul_comm}
use Rattle.whole_math.proofs.Order.{mul_eq_cancel}
use Rattle.whole_math.specs.Rational.{Rational, ◌≈◌}
use Rattle.whole_math.proofs.RationalLaws.{≈_sym, ≈_trans}
use Rattle.eph_store.specs.Decimals.{with_exponent, value_of}
use Rattle.decimal_text.specs.Whole.{size_of}
use Rattle.decimal_text.specs.declared.exponent.Dec.{Dec}
use Rattle.decimal_text.proofs.Numbers.{size_is}
use Rattle.sim_session.specs.Numbers.{IsNormal}

pub ten : (k : ℕ) → 1 ≤ 10 ^ k
ten k = one-le-pow k 10 (lit< tt)

pub at_least : (a b : ℕ) → 1 ≤ b → a ≤ a * b
at_least a b some = le-mul_of_pos_right a (omega (arith, some))

-- ---- which power of ten a number of 13 digits is multiplied by
power : (i k : ℕ) → 10 ^ (i + suc k) ≡ 10 ^ i * 10 ^ k * 10
power i k =
    let same : i + suc k ≡ i + k + 1 = omega arith in
    ap (λ (n : ℕ). 10 ^ n) same ∙ pow-add 10 (i + k) 1 ∙ ap (λ (n : ℕ). n * 10) (pow-add 10 i k)

less_wide : (a b p r : ℕ) → a < 10 ^ 13 → 10 ^ 12 ≤ b → 1 ≤ p → p ≤ r → a * p ≡ b * (r * 10) → ⊥
less_wide a b p r below from some wider same =
    let most : a ≤ 9_999_999_999_999 = omega (arith, below) in
    let left : a * p ≤ 9_999_999_999_999 * p = mul-le-mul_right p most in
    let right : 10 ^ 12 * (r * 10) ≤ b * (r * 10) = mul-le-mul_right (r * 10) from in
    omega (arith, left, right, same, some, wider)

too_large : (a b i k : ℕ) → a < 10 ^ 13 → 10 ^ 12 ≤ b → a * 10 ^ i ≡ b * 10 ^ (i + suc k) → ⊥
too_large a b i k below from same =
    less_wide a b (10 ^ i) (10 ^ i * 10 ^ k) below from (ten i) (at_least (10 ^ i) (10 ^ k) (ten k)) (same ∙ ap (λ (n : ℕ). b * n) (power i k))

not_less : (a b i j : ℕ) → a < 10 ^ 13 → 10 ^ 12 ≤ b → a * 10 ^ i ≡ b * 10 ^ j → j ≤ i
not_less a b i j below from same = by (nat_lt i j) refl
  where
    farther : (k : ℕ) → j ≡ i + suc k → ⊥
    farther k is = too_large a b i k below from (same ∙ ap (λ (n : ℕ). b * 10 ^ n) is)

    by : (t : Bool) → nat_lt i j ≡ t → j ≤ i
    by true is = let less : i < j = grind (arith, nat_tests) in absurd (farther (j - suc i) (omega (arith, less)))
    by false is = grind (arith, nat_tests)

-- 13 digits, the first of which isn't 0
record IsFull (m : ℤ) : Type 0 where
  from : 10 ^ 12 ≤ unsigned_abs m
  below : unsigned_abs m < 10 ^ 13

full : (m : ℤ) → 10 ^ 12 ≤ size_of m → size_of m < 10 ^ 13 → IsFull m
full m from below = record { from = subst (λ (n : ℕ). 10 ^ 12 ≤ n) (size_is m) from; below = subst (λ (n : ℕ). n < 10 ^ 13) (size_is m) below }

sizes : (m n : ℤ) (p q : ℕ) → m *ℤ pos p ≡ n *ℤ pos q → unsigned_abs m * p ≡ unsigned_abs n * q
sizes m n p q same = sym (unsigned_abs-mul m (pos p)) ∙ ap unsigned_abs same ∙ unsigned_abs-mul n (pos q)

one_power : (m n : ℤ) (i j : ℕ) → IsFull m → IsFull n → m *ℤ pos (10 ^ i) ≡ n *ℤ pos (10 ^ j) → i ≡ j
one_power m n i j a b same =
    let size = sizes m n (10 ^ i) (10 ^ j) same in
    let one = not_less (unsigned_abs m) (unsigned_abs n) i j a.below b.from size in
    let other = not_less (unsigned_abs n) (unsigned_abs m) j i b.below a.from (sym size) in
    omega (arith, one, other)

one_mant : (m n : ℤ) (i j : ℕ) → IsFull m → IsFull n → m *ℤ pos (10 ^ i) ≡ n *ℤ pos (10 ^ j) → m ≡ n
one_mant m n i j a b same =
    let power : j ≡ i = sym (one_power m n i j a b same) in
    mul_eq_cancel m n (10 ^ i) (ten i) (subst (λ (k : ℕ). m *ℤ pos (10 ^ i) ≡ n *ℤ pos (10 ^ k)) power same)

-- ---- the two forms of one number
-- a number that isn't a fraction has more digits than a fraction
no_fraction : (m n : ℤ) (i j : ℕ) → IsFull m → IsFull n → (m *ℤ pos (10 ^ i)) *ℤ pos (10 ^ suc j) ≡ n *ℤ pos 1 → ⊥
no_fraction m n i j a b same =
    let size : unsigned_abs (m *ℤ pos (10 ^ i)) * 10 ^ suc j ≡ unsigned_abs n * 1 = sizes (m *ℤ pos (10 ^ i)) n (10 ^ suc j) 1 same in
    let whole : unsigned_abs (m *ℤ pos (10 ^ i)) ≡ unsigned_abs m * 10 ^ i = unsigned_abs-mul m (pos (10 ^ i)) in
    let digits : unsigned_abs m ≤ unsigned_abs m * 10 ^ i = at_least (unsigned_abs m) (10 ^ i) (ten i) in
    let some : 1 ≤ suc j = omega arith in
    let tens : 10 ^ 1 ≤ 10 ^ suc j = pow-le-pow_right (lit< tt) some in
    let more : 10 ^ 1 * unsigned_abs (m *ℤ pos (10 ^ i)) ≤ 10 ^ suc j * unsigned_abs (m *ℤ pos (10 ^ i)) = mul-le-mul_right (unsigned_abs (m *ℤ pos (10 ^ i))) tens in
    omega (arith, size, whole, digits, more, mul_comm (10 ^ suc j) (unsigned_abs (m *ℤ pos (10 ^ i))), a.from, b.below)

-- the same digits and the same exponent
record IsSame (m e n f : ℤ) : Type 0 where
  mant : m ≡ n
  exp : e ≡ f

one_form : (m e n f : ℤ) → IsFull m → IsFull n → with_exponent m e ≈ with_exponent n f → IsSame m e n f
one_form m (pos i) n (pos j) a b same =
    let whole : m *ℤ pos (10 ^ i) ≡ n *ℤ pos (10 ^ j) = mul_eq_cancel (m *ℤ pos (10 ^ i)) (n *ℤ pos (10 ^ j)) 1 (lit< tt) same in
    record { mant = one_mant m n i j a b whole; exp = ap pos (one_power m n i j a b whole) }
one_form m (negsuc i) n (negsuc j) a b same =
    let power : suc j ≡ suc i = one_power m n (suc j) (suc i) a b same in
    let places : i ≡ j = omega (arith, power) in
    record { mant = one_mant m n (suc j) (suc i) a b same; exp = ap negsuc places }
one_form m (pos i) n (negsuc j) a b same = absurd (no_fraction m n i j a b same)
one_form m (negsuc i) n (pos j) a b same = absurd (no_fraction n m j i b a (sym same))

-- 0 is no number of 13 digits
no_zero : (n f : ℤ) → IsFull n → with_exponent (pos 0) (negsuc 11) ≈ with_exponent n f → ⊥
no_zero n (pos j) b same =
    let size : 0 * 1 ≡ unsigned_abs (n *ℤ pos (10 ^ j)) * 10 ^ 12 = sizes (pos 0) (n *ℤ pos (10 ^ j)) 1 (10 ^ 12) same in
    let whole : unsigned_abs (n *ℤ pos (10 ^ j)) ≡ unsigned_abs n * 10 ^ j = unsigned_abs-mul n (pos (10 ^ j)) in
    let digits : unsigned_abs n ≤ unsigned_abs n * 10 ^ j = at_least (unsigned_abs n) (10 ^ j) (ten j) in
    omega (arith, size, whole, digits, b.from)
no_zero n (negsuc j) b same =
    let size : 0 * 10 ^ suc j ≡ unsigned_abs n * 10 ^ 12 = sizes (pos 0) n (10 ^ suc j) (10 ^ 12) same in
    omega (arith, size, b.from)

abbrev Normal : ℤ → ℤ → Type 0
Normal m e = ((10 ^ 12 ≤ size_of m) × (size_of m < 10 ^ 13)) ⊎ ((m ≡ pos 0) × (e ≡ negsuc 11))

one_normal : (m e n f : ℤ) → Normal m e → Normal n f → with_exponent m e ≈ with_exponent n f → IsSame m e n f
one_normal m e n f (inl a) (inl b) same = one_form m e n f (full m a.0 a.1) (full n b.0 b.1) same
one_normal m e n f (inr (none, least)) (inl b) same = absurd (no_zero n f (full n b.0 b.1) (subst (λ (k : ℤ). with_exponent (pos 0) k ≈ with_exponent n f) least (subst (λ (k : ℤ). with_exponent k e ≈ with_exponent n f) none same)))
one_normal m e n f (inl a) (inr (none, least)) same = absurd (no_zero m e (full m a.0 a.1) (sym (subst (λ (k : ℤ). with_exponent m e ≈ with_exponent (pos 0) k) least (subst (λ (k : ℤ). with_exponent m e ≈ with_exponent k f) none same))))
one_normal m e n f (inr a) (inr b) same = record { mant = a.0 ∙ sym b.0; exp = a.1 ∙ sym b.1 }

-- two numbers of one value
pub one_number : (d e : Dec) (q : Rational) → IsNormal d → IsNormal e → value_of d ≈ q → value_of e ≈ q → d ≡ e
one_number d e q one other is also =
    let same = one_normal d.mant d.exp e.mant e.exp one other (≈_trans (value_of d) q (value_of e) is (≈_sym (value_of e) q also)) in
    as_dec d.mant e.mant d.exp e.exp same.mant same.exp
  where
    as_dec : (m n x y : ℤ) → m ≡ n → x ≡ y → ◌≡◌ {A = Dec} (record { mant = m; exp = x }) (record { mant = n; exp = y })
    as_dec m n x y p q = cc (p, q)
