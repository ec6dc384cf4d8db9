-- Identities between rationals by the solver for whole numbers: over one denominator k an expression of degree d is a
-- polynomial of the numerators, over k^d.
use Rattle.std.proofs.Common.{◌≡◌, ℕ, zero, suc, ◌+◌, ◌-◌, ◌*◌, ◌^◌, ◌<◌, List, [], ◌∷◌, ℤ, pos, ◌*ℤ◌, neg_ℤ, arith, sym, ap, ◌∙◌, refl, subst, subst₂}
use Rattle.std.proofs.lemmas.Nat.{pow-add}
use Rattle.std.proofs.Math.Nat.{pow-succ', pow-zero, one-le-pow}
use Rattle.whole_math.proofs.Ring.{Ex, va, ko, ◌⊕◌, ◌⊖◌, ◌⊗◌, ng, look, ev, norm, ring}
use Rattle.whole_math.proofs.Order.{mul_eq_cancel}
use Rattle.whole_math.proofs.Inequalities.{same_by}
use Rattle.whole_math.proofs.IntLaws.{neg_mul_ℤ}
use Rattle.whole_math.specs.Rational.{Rational, ◌≈◌, of_whole, ◌+ʳ◌, neg_r, ◌-ʳ◌, ◌*ʳ◌}
use Rattle.whole_math.specs.Over.{Over, AreOver, HasCommonDenominator}
use Rattle.whole_math.proofs.Over.{over_add, over_sub, over_mul, over_wide, common}

-- past the end of the list a variable is 1
abbrev pub look_r : List Rational → ℕ → Rational
look_r [] i = of_whole (pos 1)
look_r (q ∷ qs) zero = q
look_r (q ∷ qs) (suc i) = look_r qs i

-- the value of an expression at rationals
abbrev pub ev_r : List Rational → Ex → Rational
ev_r r (va i) = look_r r i
ev_r r (ko c) = of_whole c
ev_r r (a ⊕ b) = ev_r r a +ʳ ev_r r b
ev_r r (a ⊖ b) = ev_r r a -ʳ ev_r r b
ev_r r (a ⊗ b) = ev_r r a *ʳ ev_r r b
ev_r r (ng a) = neg_r (ev_r r a)

-- ---- over one denominator, which is the first variable
-- its n-th power
abbrev pub raise : ℕ → Ex
raise zero = ko (pos 1)
raise (suc n) = va 0 ⊗ raise n

abbrev pub degree : Ex → ℕ
degree (va i) = 1
degree (ko c) = 0
degree (a ⊕ b) = degree a + (degree b - degree a)
degree (a ⊖ b) = degree a + (degree b - degree a)
degree (a ⊗ b) = degree a + degree b
degree (ng a) = degree a

-- the numerators, as variables from the j-th on
abbrev pub variables : ℕ → List Rational → List Ex
variables j [] = []
variables j (q ∷ qs) = va j ∷ variables (suc j) qs

-- past the end a rational is 1, so its numerator is the denominator
abbrev pub look_e : List Ex → ℕ → Ex
look_e [] i = va 0
look_e (x ∷ xs) zero = x
look_e (x ∷ xs) (suc i) = look_e xs i

-- what stands over the power of the degree
abbrev pub numerator : List Ex → Ex → Ex
numerator xs (va i) = look_e xs i
numerator xs (ko c) = ko c
numerator xs (a ⊕ b) = (numerator xs a ⊗ raise (degree b - degree a)) ⊕ (numerator xs b ⊗ raise (degree a - degree b))
numerator xs (a ⊖ b) = (numerator xs a ⊗ raise (degree b - degree a)) ⊖ (numerator xs b ⊗ raise (degree a - degree b))
numerator xs (a ⊗ b) = numerator xs a ⊗ numerator xs b
numerator xs (ng a) = ng (numerator xs a)

raise_is : (k : ℕ) (ns : List ℤ) (n : ℕ) → ev (pos k ∷ ns) (raise n) ≡ pos (k ^ n)
raise_is k ns zero = ap pos (sym (pow-zero k))
raise_is k ns (suc n) = ap (λ z. pos k *ℤ z) (raise_is k ns n) ∙ ap pos (sym (pow-succ' k n))

lifted : (k d m e : ℕ) (n x : ℤ) (q : Rational) → d + m ≡ e → x ≡ pos (k ^ m) → Over (pos (k ^ d)) n q → Over (pos (k ^ e)) (n *ℤ x) q
lifted k d m e n x q s f h = subst₂ (λ (y z : ℤ). Over y (n *ℤ z) q) (ap pos (sym (pow-add k d m) ∙ ap (λ (i : ℕ). k ^ i) s)) (sym f) (over_wide (pos (k ^ d)) (pos (k ^ m)) n q h)

variable_is : (k : ℕ) (ms ns : List ℤ) (qs : List Rational) (j i : ℕ) → ((m : ℕ) → look (pos k ∷ ms) (j + m) ≡ look ns m) → AreOver (pos k) ns qs →
    Over (pos k) (ev (pos k ∷ ms) (look_e (variables j qs) i)) (look_r qs i)
variable_is k ms [] [] j i f h = same_by (pos k ∷ []) (λ k. (ko (pos 1) ⊗ k, k ⊗ ko (pos 1))) refl
variable_is k ms (n ∷ ns) [] j i f h = absurd h
variable_is k ms [] (q ∷ qs) j i f h = absurd h
variable_is k ms (n ∷ ns) (q ∷ qs) j zero f h =
    let plus_zero_is : j + 0 ≡ j = omega arith in
    let looked_up_is : look (pos k ∷ ms) j ≡ n = subst (λ (i : ℕ). look (pos k ∷ ms) i ≡ n) plus_zero_is (f 0) in
    subst (λ (z : ℤ). Over (pos k) z q) (sym looked_up_is) h.0
variable_is k ms (n ∷ ns) (q ∷ qs) j (suc i) f h =
    variable_is k ms ns qs (suc j) i
    (λ m. let same_index : j + suc m ≡ suc j + m = omega arith in subst (λ (i : ℕ). look (pos k ∷ ms) i ≡ look ns m) same_index (f (suc m))) h.1

over_neg : (k n : ℤ) (q : Rational) → Over k n q → Over k (neg_ℤ n) (neg_r q)
over_neg k n q h = neg_mul_ℤ q.num k ∙ ap neg_ℤ h ∙ last n (pos q.den)
  where
    last : (n d : ℤ) → neg_ℤ (n *ℤ d) ≡ neg_ℤ n *ℤ d
    last n d = same_by (n ∷ d ∷ []) (λ n d. (ng (n ⊗ d), ng n ⊗ d)) refl

meets : (d e : ℕ) → e + (d - e) ≡ d + (e - d)
meets d e = omega arith

to_one : (k : ℕ) → k ^ 1 ≡ k
to_one k = let power_one_is : k ^ 1 ≡ k * k ^ 0 = pow-succ' k 0 in let times_one_is : k * k ^ 0 ≡ k * 1 = ap (λ (n : ℕ). k * n) (pow-zero k) in omega (arith, power_one_is, times_one_is)

pub numerator_is : (k : ℕ) (ns : List ℤ) (qs : List Rational) → AreOver (pos k) ns qs → (e : Ex) →
    Over (pos (k ^ degree e)) (ev (pos k ∷ ns) (numerator (variables 1 qs) e)) (ev_r qs e)
numerator_is k ns qs h (va i) =
    let looked_up_is : (m : ℕ) → look (pos k ∷ ns) (1 + m) ≡ look ns m = λ m. let next_is : suc m ≡ 1 + m = omega arith in subst (λ (i : ℕ). look (pos k ∷ ns) i ≡ look ns m) next_is refl in
    subst (λ (d : ℕ). Over (pos d) (ev (pos k ∷ ns) (look_e (variables 1 qs) i)) (look_r qs i)) (sym (to_one k)) (variable_is k ns ns qs 1 i looked_up_is h)
numerator_is k ns qs h (ko c) = ap (λ (d : ℕ). c *ℤ pos d) (pow-zero k)
numerator_is k ns qs h (a ⊕ b) =
    let m : ℕ = degree b - degree a in
    let n : ℕ = degree a - degree b in
    let x : ℤ = ev (pos k ∷ ns) (numerator (variables 1 qs) a) in
    let y : ℤ = ev (pos k ∷ ns) (numerator (variables 1 qs) b) in
    let u : ℤ = ev (pos k ∷ ns) (raise m) in
    let v : ℤ = ev (pos k ∷ ns) (raise n) in
    over_add (pos (k ^ (degree a + m))) (x *ℤ u) (y *ℤ v) (ev_r qs a) (ev_r qs b)
    (lifted k (degree a) m (degree a + m) x u (ev_r qs a) refl (raise_is k ns m) (numerator_is k ns qs h a))
    (lifted k (degree b) n (degree a + m) y v (ev_r qs b) (meets (degree a) (degree b)) (raise_is k ns n) (numerator_is k ns qs h b))
numerator_is k ns qs h (a ⊖ b) =
    let m : ℕ = degree b - degree a in
    let n : ℕ = degree a - degree b in
    let x : ℤ = ev (pos k ∷ ns) (numerator (variables 1 qs) a) in
    let y : ℤ = ev (pos k ∷ ns) (numerator (variables 1 qs) b) in
    let u : ℤ = ev (pos k ∷ ns) (raise m) in
    let v : ℤ = ev (pos k ∷ ns) (raise n) in
    over_sub (pos (k ^ (degree a + m))) (x *ℤ u) (y *ℤ v) (ev_r qs a) (ev_r qs b)
    (lifted k (degree a) m (degree a + m) x u (ev_r qs a) refl (raise_is k ns m) (numerator_is k ns qs h a))
    (lifted k (degree b) n (degree a + m) y v (ev_r qs b) (meets (degree a) (degree b)) (raise_is k ns n) (numerator_is k ns qs h b))
numerator_is k ns qs h (a ⊗ b) =
    let x : ℤ = ev (pos k ∷ ns) (numerator (variables 1 qs) a) in
    let y : ℤ = ev (pos k ∷ ns) (numerator (variables 1 qs) b) in
    subst (λ (d : ℕ). Over (pos d) (x *ℤ y) (ev_r qs a *ʳ ev_r qs b)) (sym (pow-add k (degree a) (degree b)))
    (over_mul (pos (k ^ degree a)) (pos (k ^ degree b)) x y (ev_r qs a) (ev_r qs b) (numerator_is k ns qs h a) (numerator_is k ns qs h b))
numerator_is k ns qs h (ng a) = over_neg (pos (k ^ degree a)) (ev (pos k ∷ ns) (numerator (variables 1 qs) a)) (ev_r qs a) (numerator_is k ns qs h a)

over_same : (k : ℕ) (n : ℤ) (p q : Rational) → 0 < k → Over (pos k) n p → Over (pos k) n q → p ≈ q
over_same k n p q h e f = mul_eq_cancel (p.num *ℤ pos q.den) (q.num *ℤ pos p.den) k h (first (pos k) p.num (pos q.den) ∙ ap (λ z. z *ℤ pos q.den) e
    ∙ turned n (pos p.den) (pos q.den) ∙ ap (λ z. z *ℤ pos p.den) (sym f) ∙ sym (first (pos k) q.num (pos p.den)))
  where
    first : (k a d : ℤ) → a *ℤ d *ℤ k ≡ a *ℤ k *ℤ d
    first k a d = same_by (k ∷ a ∷ d ∷ []) (λ k a d. (a ⊗ d ⊗ k, a ⊗ k ⊗ d)) refl

    turned : (n d e : ℤ) → n *ℤ d *ℤ e ≡ n *ℤ e *ℤ d
    turned n d e = same_by (n ∷ d ∷ e ∷ []) (λ n d e. (n ⊗ d ⊗ e, n ⊗ e ⊗ d)) refl

-- two expressions whose numerators over one power have one normal form are equal rationals
abbrev pub balanced : List Rational → Ex → Ex → Ex
balanced r a b = numerator (variables 1 r) a ⊗ raise (degree b - degree a)

pub ring_r : (r : List Rational) (a b : Ex) → norm (balanced r a b) ≡ norm (balanced r b a) → ev_r r a ≈ ev_r r b
ring_r r a b e =
    let has_common : HasCommonDenominator r = common r in
    let k : ℕ = has_common.denominator in
    let ns : List ℤ = has_common.numerators in
    let m : ℕ = degree b - degree a in
    let n : ℕ = degree a - degree b in
    let x : ℤ = ev (pos k ∷ ns) (numerator (variables 1 r) a) in
    let y : ℤ = ev (pos k ∷ ns) (numerator (variables 1 r) b) in
    let u : ℤ = ev (pos k ∷ ns) (raise m) in
    let v : ℤ = ev (pos k ∷ ns) (raise n) in
    let left_over : Over (pos (k ^ (degree a + m))) (x *ℤ u) (ev_r r a) = lifted k (degree a) m (degree a + m) x u (ev_r r a) refl (raise_is k ns m) (numerator_is k ns r has_common.are a) in
    let right_over : Over (pos (k ^ (degree a + m))) (y *ℤ v) (ev_r r b) = lifted k (degree b) n (degree a + m) y v (ev_r r b) (meets (degree a) (degree b)) (raise_is k ns n) (numerator_is k ns r has_common.are b) in
    over_same (k ^ (degree a + m)) (x *ℤ u) (ev_r r a) (ev_r r b) (one-le-pow (degree a + m) k has_common.positive) left_over
    (subst (λ (z : ℤ). Over (pos (k ^ (degree a + m))) z (ev_r r b)) (sym (ring (pos k ∷ ns) (balanced r a b) (balanced r b a) e)) right_over)

-- ---- as a function of the names of the rationals: a pair (left, right)
abbrev pub Pair_r : List Rational → Type 0
Pair_r [] = Ex × Ex
Pair_r (q ∷ qs) = Ex → Pair_r qs

abbrev pub pair_at_r : (r : List Rational) → ℕ → Pair_r r → Ex × Ex
pair_at_r [] i f = f
pair_at_r (q ∷ qs) i f = pair_at_r qs (suc i) (f (va i))

pub same_r : (r : List Rational) (f : Pair_r r) → norm (balanced r (pair_at_r r 0 f).0 (pair_at_r r 0 f).1) ≡ norm (balanced r (pair_at_r r 0 f).1 (pair_at_r r 0 f).0) →
    ev_r r (pair_at_r r 0 f).0 ≈ ev_r r (pair_at_r r 0 f).1
same_r r f e = ring_r r (pair_at_r r 0 f).0 (pair_at_r r 0 f).1 e
