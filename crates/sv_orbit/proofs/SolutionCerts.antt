-- Equations and inequalities of a solution, each by a certificate. The terms are made: over each lemma stands, after
-- `by`, of what, h0, h1, .. the hypotheses and e0, e1, .. the equations in the order in which they stand. The check proves what is written.
use Rattle.std.proofs.Common.{[], ◌∷◌, pos, arith, refl}
use Rattle.std.proofs.lemmas.Int.{ints}
use Rattle.whole_math.proofs.Ring.{va, ko, ◌⊕◌, ◌⊖◌, ◌⊗◌, ng}
use Rattle.whole_math.proofs.Certificates.{◌≼◌, hy, nm, sq, ◌⊞◌, ◌⊠◌}
use Rattle.whole_math.specs.Rational.{Rational, ◌≈◌, ◌≤ʳ◌, of_whole, ◌+ʳ◌, ◌-ʳ◌, ◌*ʳ◌, neg_r}
use Rattle.whole_math.proofs.RationalOrders.{◌≐◌, order_r, cancel_r, equal_r}

-- by h0 + 1152921504606846977*h1 + 1613513645697281944311500000000
pub root_square : (r m : Rational) → (of_whole (pos 1152921504606846976) *ʳ (r *ʳ r -ʳ m) ≤ʳ m) → (m ≤ʳ of_whole (pos 398600500000000)) → r *ʳ r ≤ʳ of_whole (pos 20000000) *ʳ of_whole (pos 20000000)
root_square r m h0 h1 =
    cancel_r (of_whole (pos 1152921504606846976)) (r *ʳ r) (of_whole (pos 20000000) *ʳ of_whole (pos 20000000)) (omega (arith, ints)) (order_r (r ∷ m ∷ []) ((((ko (pos 1152921504606846976)) ⊗ (((va 0) ⊗ (va 0)) ⊖ (va 1))) ≼ (va 1)) ∷ ((va 1) ≼ (ko (pos 398600500000000))) ∷ []) ([]) ((ko (pos 1152921504606846976)) ⊗ ((va 0) ⊗ (va 0))) ((ko (pos 1152921504606846976)) ⊗ ((ko (pos 20000000)) ⊗ (ko (pos 20000000)))) (((hy 0) ⊞ ((nm 1152921504606846977) ⊠ (hy 1))) ⊞ (nm 1613513645697281944311500000000)) ([]) refl (h0, (h1, tt)) tt)

-- by h0 + 1152921504606846977*sq(e) + 3458764513820540927
pub rest_square : (r e : Rational) → (of_whole (pos 1152921504606846976) *ʳ (r *ʳ r -ʳ (of_whole (pos 1) -ʳ e *ʳ e)) ≤ʳ of_whole (pos 1) -ʳ e *ʳ e) → r *ʳ r ≤ʳ of_whole (pos 2) *ʳ of_whole (pos 2)
rest_square r e h0 =
    cancel_r (of_whole (pos 1152921504606846976)) (r *ʳ r) (of_whole (pos 2) *ʳ of_whole (pos 2)) (omega (arith, ints)) (order_r (r ∷ e ∷ []) ((((ko (pos 1152921504606846976)) ⊗ (((va 0) ⊗ (va 0)) ⊖ ((ko (pos 1)) ⊖ ((va 1) ⊗ (va 1))))) ≼ ((ko (pos 1)) ⊖ ((va 1) ⊗ (va 1)))) ∷ []) ([]) ((ko (pos 1152921504606846976)) ⊗ ((va 0) ⊗ (va 0))) ((ko (pos 1152921504606846976)) ⊗ ((ko (pos 2)) ⊗ (ko (pos 2)))) (((hy 0) ⊞ ((nm 1152921504606846977) ⊠ (sq (va 1)))) ⊞ (nm 3458764513820540927)) ([]) refl (h0, tt) tt)

-- by 32*(h0*h1) + h1 + 511
pub rest_least : (e : Rational) → (of_whole (pos 0) ≤ʳ e) → (of_whole (pos 32) *ʳ e ≤ʳ of_whole (pos 1)) → of_whole (pos 1) ≤ʳ of_whole (pos 2) *ʳ (of_whole (pos 1) -ʳ e *ʳ e)
rest_least e h0 h1 =
    cancel_r (of_whole (pos 512)) (of_whole (pos 1)) (of_whole (pos 2) *ʳ (of_whole (pos 1) -ʳ e *ʳ e)) (omega (arith, ints)) (order_r (e ∷ []) (((ko (pos 0)) ≼ (va 0)) ∷ (((ko (pos 32)) ⊗ (va 0)) ≼ (ko (pos 1))) ∷ []) ([]) ((ko (pos 512)) ⊗ (ko (pos 1))) ((ko (pos 512)) ⊗ ((ko (pos 2)) ⊗ ((ko (pos 1)) ⊖ ((va 0) ⊗ (va 0))))) ((((nm 32) ⊠ ((hy 0) ⊠ (hy 1))) ⊞ (hy 1)) ⊞ (nm 511)) ([]) refl (h0, (h1, tt)) tt)

-- by 32*h0 + h1
pub ecc_32 : (e b : Rational) → (e ≤ʳ b) → (of_whole (pos 32) *ʳ b ≤ʳ of_whole (pos 1)) → of_whole (pos 32) *ʳ e ≤ʳ of_whole (pos 1)
ecc_32 e b h0 h1 =
    order_r (e ∷ b ∷ []) (((va 0) ≼ (va 1)) ∷ (((ko (pos 32)) ⊗ (va 1)) ≼ (ko (pos 1))) ∷ []) ([]) ((ko (pos 32)) ⊗ (va 0)) (ko (pos 1)) (((nm 32) ⊠ (hy 0)) ⊞ (hy 1)) ([]) refl (h0, (h1, tt)) tt

-- by h0 + h1
pub minus_nn : (x b : Rational) → (of_whole (pos 0) ≤ʳ x) → (of_whole (pos 0) ≤ʳ b) → neg_r (x) ≤ʳ b
minus_nn x b h0 h1 =
    order_r (x ∷ b ∷ []) (((ko (pos 0)) ≼ (va 0)) ∷ ((ko (pos 0)) ≼ (va 1)) ∷ []) ([]) (ng (va 0)) (va 1) ((hy 0) ⊞ (hy 1)) ([]) refl (h0, (h1, tt)) tt

-- by h0
pub one_plus : (x c : Rational) → (neg_r (x) ≤ʳ c) → of_whole (pos 1) -ʳ c ≤ʳ of_whole (pos 1) +ʳ x
one_plus x c h0 =
    order_r (x ∷ c ∷ []) (((ng (va 0)) ≼ (va 1)) ∷ []) ([]) ((ko (pos 1)) ⊖ (va 1)) ((ko (pos 1)) ⊕ (va 0)) (hy 0) ([]) refl (h0, tt) tt

-- by h0
pub one_minus : (x c : Rational) → (x ≤ʳ c) → of_whole (pos 1) -ʳ c ≤ʳ of_whole (pos 1) -ʳ x
one_minus x c h0 =
    order_r (x ∷ c ∷ []) (((va 0) ≼ (va 1)) ∷ []) ([]) ((ko (pos 1)) ⊖ (va 1)) ((ko (pos 1)) ⊖ (va 0)) (hy 0) ([]) refl (h0, tt) tt

-- by h0*h0*h0 + 13500*(h0*h0) + 60750000*h0
pub product_least : (a x : Rational) → (of_whole (pos 4500) ≤ʳ a) → of_whole (pos 91125000000) ≤ʳ a *ʳ a *ʳ a
product_least a x h0 =
    order_r (a ∷ x ∷ []) (((ko (pos 4500)) ≼ (va 0)) ∷ []) ([]) (ko (pos 91125000000)) (((va 0) ⊗ (va 0)) ⊗ (va 0)) (((((hy 0) ⊠ (hy 0)) ⊠ (hy 0)) ⊞ ((nm 13500) ⊠ ((hy 0) ⊠ (hy 0)))) ⊞ ((nm 60750000) ⊠ (hy 0))) ([]) refl (h0, tt) tt

pub kepler_line : (m n S T P K I e E s : Rational) → (E ≈ m +ʳ n *ʳ (S -ʳ T -ʳ P *ʳ I) +ʳ (e -ʳ n *ʳ K *ʳ I) *ʳ s) → m +ʳ n *ʳ (S -ʳ (P +ʳ K *ʳ s) *ʳ I -ʳ T) ≈ E -ʳ e *ʳ s
kepler_line m n S T P K I e E s e0 =
    equal_r (m ∷ n ∷ S ∷ T ∷ P ∷ K ∷ I ∷ e ∷ E ∷ s ∷ []) (((va 8) ≐ (((va 0) ⊕ ((va 1) ⊗ (((va 2) ⊖ (va 3)) ⊖ ((va 4) ⊗ (va 6))))) ⊕ (((va 7) ⊖ (((va 1) ⊗ (va 5)) ⊗ (va 6))) ⊗ (va 9)))) ∷ []) (((ko (pos 0)) ⊖ (ko (pos 1))) ∷ []) ((va 0) ⊕ ((va 1) ⊗ (((va 2) ⊖ (((va 4) ⊕ ((va 5) ⊗ (va 9))) ⊗ (va 6))) ⊖ (va 3)))) ((va 8) ⊖ ((va 7) ⊗ (va 9))) refl (e0, tt)

pub linear_line : (a b S C K I s : Rational) → (I *ʳ (of_whole (pos 1) +ʳ b) ≈ of_whole (pos 1)) → (a +ʳ b *ʳ (S -ʳ C) +ʳ K *ʳ s) *ʳ I ≈ a +ʳ b *ʳ (S -ʳ (a +ʳ b *ʳ (S -ʳ C) +ʳ K *ʳ s) *ʳ I -ʳ C) +ʳ K *ʳ s
linear_line a b S C K I s e0 =
    equal_r (a ∷ b ∷ S ∷ C ∷ K ∷ I ∷ s ∷ []) ((((va 5) ⊗ ((ko (pos 1)) ⊕ (va 1))) ≐ (ko (pos 1))) ∷ []) ((((va 0) ⊕ ((va 1) ⊗ ((va 2) ⊖ (va 3)))) ⊕ ((va 4) ⊗ (va 6))) ∷ []) ((((va 0) ⊕ ((va 1) ⊗ ((va 2) ⊖ (va 3)))) ⊕ ((va 4) ⊗ (va 6))) ⊗ (va 5)) (((va 0) ⊕ ((va 1) ⊗ (((va 2) ⊖ ((((va 0) ⊕ ((va 1) ⊗ ((va 2) ⊖ (va 3)))) ⊕ ((va 4) ⊗ (va 6))) ⊗ (va 5))) ⊖ (va 3)))) ⊕ ((va 4) ⊗ (va 6))) refl (e0, tt)

pub turned_time : (S k T : Rational) → S -ʳ T -ʳ k ≈ S -ʳ k -ʳ T
turned_time S k T =
    equal_r (S ∷ k ∷ T ∷ []) ([]) ([]) (((va 0) ⊖ (va 2)) ⊖ (va 1)) (((va 0) ⊖ (va 1)) ⊖ (va 2)) refl tt

pub tangent : (a b f S C k c E : Rational) → (k ≈ a -ʳ f *ʳ ((S -ʳ C -ʳ c) *ʳ (S -ʳ C -ʳ c)) +ʳ (b +ʳ of_whole (pos 2) *ʳ (f *ʳ (S -ʳ C -ʳ c))) *ʳ (S -ʳ k -ʳ C) +ʳ E) → k ≈ a +ʳ f *ʳ neg_r ((k -ʳ c) *ʳ (k -ʳ c)) +ʳ b *ʳ (S -ʳ k -ʳ C) +ʳ f *ʳ ((S -ʳ k -ʳ C) *ʳ (S -ʳ k -ʳ C)) +ʳ E
tangent a b f S C k c E e0 =
    equal_r (a ∷ b ∷ f ∷ S ∷ C ∷ k ∷ c ∷ E ∷ []) (((va 5) ≐ ((((va 0) ⊖ ((va 2) ⊗ ((((va 3) ⊖ (va 4)) ⊖ (va 6)) ⊗ (((va 3) ⊖ (va 4)) ⊖ (va 6))))) ⊕ (((va 1) ⊕ ((ko (pos 2)) ⊗ ((va 2) ⊗ (((va 3) ⊖ (va 4)) ⊖ (va 6))))) ⊗ (((va 3) ⊖ (va 5)) ⊖ (va 4)))) ⊕ (va 7))) ∷ []) ((ko (pos 1)) ∷ []) (va 5) (((((va 0) ⊕ ((va 2) ⊗ (ng (((va 5) ⊖ (va 6)) ⊗ ((va 5) ⊖ (va 6)))))) ⊕ ((va 1) ⊗ (((va 3) ⊖ (va 5)) ⊖ (va 4)))) ⊕ ((va 2) ⊗ ((((va 3) ⊖ (va 5)) ⊖ (va 4)) ⊗ (((va 3) ⊖ (va 5)) ⊖ (va 4))))) ⊕ (va 7)) refl (e0, tt)

pub no_share : (a b f h x k E : Rational) → (k ≈ a +ʳ f *ʳ h +ʳ b *ʳ x +ʳ f *ʳ (x *ʳ x) +ʳ E) → (f ≈ of_whole (pos 0)) → k ≈ a +ʳ b *ʳ x +ʳ f *ʳ (x *ʳ x) +ʳ E
no_share a b f h x k E e0 e1 =
    equal_r (a ∷ b ∷ f ∷ h ∷ x ∷ k ∷ E ∷ []) (((va 5) ≐ (((((va 0) ⊕ ((va 2) ⊗ (va 3))) ⊕ ((va 1) ⊗ (va 4))) ⊕ ((va 2) ⊗ ((va 4) ⊗ (va 4)))) ⊕ (va 6))) ∷ ((va 2) ≐ (ko (pos 0))) ∷ []) ((ko (pos 1)) ∷ (va 3) ∷ []) (va 5) ((((va 0) ⊕ ((va 1) ⊗ (va 4))) ⊕ ((va 2) ⊗ ((va 4) ⊗ (va 4)))) ⊕ (va 6)) refl (e0, (e1, tt))

pub zero_share : (a b f x k E : Rational) → (k ≈ a +ʳ b *ʳ x +ʳ f *ʳ (x *ʳ x) +ʳ E) → k ≈ a +ʳ f *ʳ of_whole (pos 0) +ʳ b *ʳ x +ʳ f *ʳ (x *ʳ x) +ʳ E
zero_share a b f x k E e0 =
    equal_r (a ∷ b ∷ f ∷ x ∷ k ∷ E ∷ []) (((va 4) ≐ ((((va 0) ⊕ ((va 1) ⊗ (va 3))) ⊕ ((va 2) ⊗ ((va 3) ⊗ (va 3)))) ⊕ (va 5))) ∷ []) ((ko (pos 1)) ∷ []) (va 4) (((((va 0) ⊕ ((va 2) ⊗ (ko (pos 0)))) ⊕ ((va 1) ⊗ (va 3))) ⊕ ((va 2) ⊗ ((va 3) ⊗ (va 3)))) ⊕ (va 5)) refl (e0, tt)

pub first_error : (a b f S C k c E : Rational) → (k ≈ a -ʳ f *ʳ ((S -ʳ C -ʳ c) *ʳ (S -ʳ C -ʳ c)) +ʳ (b +ʳ of_whole (pos 2) *ʳ (f *ʳ (S -ʳ C -ʳ c))) *ʳ (S -ʳ k -ʳ C) +ʳ E) → (c ≈ a +ʳ b *ʳ (S -ʳ C) +ʳ f *ʳ ((S -ʳ C) *ʳ (S -ʳ C))) → E -ʳ b *ʳ k -ʳ (f *ʳ (k *ʳ (of_whole (pos 2) *ʳ (S -ʳ C) -ʳ k)) +ʳ f *ʳ ((k -ʳ c) *ʳ (k -ʳ c))) ≈ k -ʳ c
first_error a b f S C k c E e0 e1 =
    equal_r (a ∷ b ∷ f ∷ S ∷ C ∷ k ∷ c ∷ E ∷ []) (((va 5) ≐ ((((va 0) ⊖ ((va 2) ⊗ ((((va 3) ⊖ (va 4)) ⊖ (va 6)) ⊗ (((va 3) ⊖ (va 4)) ⊖ (va 6))))) ⊕ (((va 1) ⊕ ((ko (pos 2)) ⊗ ((va 2) ⊗ (((va 3) ⊖ (va 4)) ⊖ (va 6))))) ⊗ (((va 3) ⊖ (va 5)) ⊖ (va 4)))) ⊕ (va 7))) ∷ ((va 6) ≐ (((va 0) ⊕ ((va 1) ⊗ ((va 3) ⊖ (va 4)))) ⊕ ((va 2) ⊗ (((va 3) ⊖ (va 4)) ⊗ ((va 3) ⊖ (va 4)))))) ∷ []) (((ko (pos 0)) ⊖ (ko (pos 1))) ∷ (ko (pos 1)) ∷ []) (((va 7) ⊖ ((va 1) ⊗ (va 5))) ⊖ (((va 2) ⊗ ((va 5) ⊗ (((ko (pos 2)) ⊗ ((va 3) ⊖ (va 4))) ⊖ (va 5)))) ⊕ ((va 2) ⊗ (((va 5) ⊖ (va 6)) ⊗ ((va 5) ⊖ (va 6)))))) ((va 5) ⊖ (va 6)) refl (e0, (e1, tt))
