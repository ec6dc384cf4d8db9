-- Inequalities of the sizes of the parts of a pair, each by a certificate.
-- The terms are made: tools/inequality_certificate.py writes a lemma from its claim and the products of its hypotheses,
-- h0, h1, .. in the order in which they stand: they are over each lemma, after `by`. Who changes a claim writes its term anew there;
-- the check proves what is written.
use Rattle.std.proofs.Common.{[], ◌∷◌, ℤ, pos, ◌+ℤ◌, ◌-ℤ◌, ◌*ℤ◌, ◌≤ℤ◌, ◌<ℤ◌, refl}
use Rattle.std.proofs.Common.{lit<}
use Rattle.whole_math.proofs.Ring.{va, ko, ◌⊕◌, ◌⊖◌, ◌⊗◌}
use Rattle.whole_math.proofs.Certificates.{cert, cancel, mul_positive, weak, ◌≼◌, hy, nm, sq, ◌⊞◌, ◌⊠◌}
use Rattle.whole_math.proofs.Order.{lt_pos}

-- by h1*h0 + h1*h1*sq(x*e) + (h1 + 1)*sq(e*f)
pub first_high : (n x e f o : ℤ) → ((((((n *ℤ n) *ℤ (f *ℤ f)) +ℤ ((x *ℤ x) *ℤ (e *ℤ e))) *ℤ pos 1) -ℤ (pos 1 *ℤ ((e *ℤ e) *ℤ (f *ℤ f)))) *ℤ o)
    ≤ℤ (pos 1 *ℤ (((e *ℤ e) *ℤ (f *ℤ f)) *ℤ pos 1)) → (pos 0) ≤ℤ o → (pos 0) <ℤ (f *ℤ f)
    → ((n *ℤ o) *ℤ (n *ℤ o)) ≤ℤ (((o +ℤ pos 1) *ℤ e) *ℤ ((o +ℤ pos 1) *ℤ e))
first_high n x e f o h0 h1 h2 =
    cancel (f *ℤ f) ((n *ℤ o) *ℤ (n *ℤ o)) (((o +ℤ pos 1) *ℤ e) *ℤ ((o +ℤ pos 1) *ℤ e)) h2 (cert (n ∷ x ∷ e ∷ f ∷ o ∷ [])
    ((((((((va 0 ⊗ va 0) ⊗ (va 3 ⊗ va 3)) ⊕ ((va 1 ⊗ va 1) ⊗ (va 2 ⊗ va 2))) ⊗ ko (pos 1)) ⊖ (ko (pos 1) ⊗ ((va 2 ⊗ va 2) ⊗ (va 3 ⊗ va 3)))) ⊗ va 4)
    ≼ (ko (pos 1) ⊗ (((va 2 ⊗ va 2) ⊗ (va 3 ⊗ va 3)) ⊗ ko (pos 1)))) ∷ (ko (pos 0) ≼ va 4) ∷ (ko (pos 0) ≼ (va 3 ⊗ va 3)) ∷ [])
    ((va 3 ⊗ va 3) ⊗ ((va 0 ⊗ va 4) ⊗ (va 0 ⊗ va 4))) ((va 3 ⊗ va 3) ⊗ (((va 4 ⊕ ko (pos 1)) ⊗ va 2) ⊗ ((va 4 ⊕ ko (pos 1)) ⊗ va 2)))
    (((hy 1 ⊠ hy 0) ⊞ ((hy 1 ⊠ hy 1) ⊠ (sq (va 1 ⊗ va 2)))) ⊞ ((hy 1 ⊞ nm 1) ⊠ (sq (va 2 ⊗ va 3)))) refl (h0, (h1, (weak (pos 0) (f *ℤ f) h2, tt))))

-- by h1*h0 + h1*h1*sq(x*e) + (h1 + 1)*sq(e*f)
pub first_low : (n x e f o : ℤ) → ((((((n *ℤ n) *ℤ (f *ℤ f)) +ℤ ((x *ℤ x) *ℤ (e *ℤ e))) *ℤ pos 1) -ℤ (pos 1 *ℤ ((e *ℤ e) *ℤ (f *ℤ f)))) *ℤ o)
    ≤ℤ (pos 1 *ℤ (((e *ℤ e) *ℤ (f *ℤ f)) *ℤ pos 1)) → (pos 0) ≤ℤ o → (pos 0) <ℤ (f *ℤ f)
    → (((pos 0 -ℤ n) *ℤ o) *ℤ ((pos 0 -ℤ n) *ℤ o)) ≤ℤ (((o +ℤ pos 1) *ℤ e) *ℤ ((o +ℤ pos 1) *ℤ e))
first_low n x e f o h0 h1 h2 =
    cancel (f *ℤ f) (((pos 0 -ℤ n) *ℤ o) *ℤ ((pos 0 -ℤ n) *ℤ o)) (((o +ℤ pos 1) *ℤ e) *ℤ ((o +ℤ pos 1) *ℤ e)) h2 (cert (n ∷ x ∷ e ∷ f ∷ o ∷ [])
    ((((((((va 0 ⊗ va 0) ⊗ (va 3 ⊗ va 3)) ⊕ ((va 1 ⊗ va 1) ⊗ (va 2 ⊗ va 2))) ⊗ ko (pos 1)) ⊖ (ko (pos 1) ⊗ ((va 2 ⊗ va 2) ⊗ (va 3 ⊗ va 3)))) ⊗ va 4)
    ≼ (ko (pos 1) ⊗ (((va 2 ⊗ va 2) ⊗ (va 3 ⊗ va 3)) ⊗ ko (pos 1)))) ∷ (ko (pos 0) ≼ va 4) ∷ (ko (pos 0) ≼ (va 3 ⊗ va 3)) ∷ []) ((va 3 ⊗ va 3)
    ⊗ (((ko (pos 0) ⊖ va 0) ⊗ va 4) ⊗ ((ko (pos 0) ⊖ va 0) ⊗ va 4))) ((va 3 ⊗ va 3) ⊗ (((va 4 ⊕ ko (pos 1)) ⊗ va 2) ⊗ ((va 4 ⊕ ko (pos 1)) ⊗ va 2)))
    (((hy 1 ⊠ hy 0) ⊞ ((hy 1 ⊠ hy 1) ⊠ (sq (va 1 ⊗ va 2)))) ⊞ ((hy 1 ⊞ nm 1) ⊠ (sq (va 2 ⊗ va 3)))) refl (h0, (h1, (weak (pos 0) (f *ℤ f) h2, tt))))

-- by h1*h0 + h1*h1*sq(n*f) + (h1 + 1)*sq(e*f)
pub second_high : (n x e f o : ℤ) → ((((((n *ℤ n) *ℤ (f *ℤ f)) +ℤ ((x *ℤ x) *ℤ (e *ℤ e))) *ℤ pos 1) -ℤ (pos 1 *ℤ ((e *ℤ e) *ℤ (f *ℤ f)))) *ℤ o)
    ≤ℤ (pos 1 *ℤ (((e *ℤ e) *ℤ (f *ℤ f)) *ℤ pos 1)) → (pos 0) ≤ℤ o → (pos 0) <ℤ (e *ℤ e)
    → ((x *ℤ o) *ℤ (x *ℤ o)) ≤ℤ (((o +ℤ pos 1) *ℤ f) *ℤ ((o +ℤ pos 1) *ℤ f))
second_high n x e f o h0 h1 h2 =
    cancel (e *ℤ e) ((x *ℤ o) *ℤ (x *ℤ o)) (((o +ℤ pos 1) *ℤ f) *ℤ ((o +ℤ pos 1) *ℤ f)) h2 (cert (n ∷ x ∷ e ∷ f ∷ o ∷ [])
    ((((((((va 0 ⊗ va 0) ⊗ (va 3 ⊗ va 3)) ⊕ ((va 1 ⊗ va 1) ⊗ (va 2 ⊗ va 2))) ⊗ ko (pos 1)) ⊖ (ko (pos 1) ⊗ ((va 2 ⊗ va 2) ⊗ (va 3 ⊗ va 3)))) ⊗ va 4)
    ≼ (ko (pos 1) ⊗ (((va 2 ⊗ va 2) ⊗ (va 3 ⊗ va 3)) ⊗ ko (pos 1)))) ∷ (ko (pos 0) ≼ va 4) ∷ (ko (pos 0) ≼ (va 2 ⊗ va 2)) ∷ [])
    ((va 2 ⊗ va 2) ⊗ ((va 1 ⊗ va 4) ⊗ (va 1 ⊗ va 4))) ((va 2 ⊗ va 2) ⊗ (((va 4 ⊕ ko (pos 1)) ⊗ va 3) ⊗ ((va 4 ⊕ ko (pos 1)) ⊗ va 3)))
    (((hy 1 ⊠ hy 0) ⊞ ((hy 1 ⊠ hy 1) ⊠ (sq (va 0 ⊗ va 3)))) ⊞ ((hy 1 ⊞ nm 1) ⊠ (sq (va 2 ⊗ va 3)))) refl (h0, (h1, (weak (pos 0) (e *ℤ e) h2, tt))))

-- by h1*h0 + h1*h1*sq(n*f) + (h1 + 1)*sq(e*f)
pub second_low : (n x e f o : ℤ) → ((((((n *ℤ n) *ℤ (f *ℤ f)) +ℤ ((x *ℤ x) *ℤ (e *ℤ e))) *ℤ pos 1) -ℤ (pos 1 *ℤ ((e *ℤ e) *ℤ (f *ℤ f)))) *ℤ o)
    ≤ℤ (pos 1 *ℤ (((e *ℤ e) *ℤ (f *ℤ f)) *ℤ pos 1)) → (pos 0) ≤ℤ o → (pos 0) <ℤ (e *ℤ e)
    → (((pos 0 -ℤ x) *ℤ o) *ℤ ((pos 0 -ℤ x) *ℤ o)) ≤ℤ (((o +ℤ pos 1) *ℤ f) *ℤ ((o +ℤ pos 1) *ℤ f))
second_low n x e f o h0 h1 h2 =
    cancel (e *ℤ e) (((pos 0 -ℤ x) *ℤ o) *ℤ ((pos 0 -ℤ x) *ℤ o)) (((o +ℤ pos 1) *ℤ f) *ℤ ((o +ℤ pos 1) *ℤ f)) h2 (cert (n ∷ x ∷ e ∷ f ∷ o ∷ [])
    ((((((((va 0 ⊗ va 0) ⊗ (va 3 ⊗ va 3)) ⊕ ((va 1 ⊗ va 1) ⊗ (va 2 ⊗ va 2))) ⊗ ko (pos 1)) ⊖ (ko (pos 1) ⊗ ((va 2 ⊗ va 2) ⊗ (va 3 ⊗ va 3)))) ⊗ va 4)
    ≼ (ko (pos 1) ⊗ (((va 2 ⊗ va 2) ⊗ (va 3 ⊗ va 3)) ⊗ ko (pos 1)))) ∷ (ko (pos 0) ≼ va 4) ∷ (ko (pos 0) ≼ (va 2 ⊗ va 2)) ∷ []) ((va 2 ⊗ va 2)
    ⊗ (((ko (pos 0) ⊖ va 1) ⊗ va 4) ⊗ ((ko (pos 0) ⊖ va 1) ⊗ va 4))) ((va 2 ⊗ va 2) ⊗ (((va 4 ⊕ ko (pos 1)) ⊗ va 3) ⊗ ((va 4 ⊕ ko (pos 1)) ⊗ va 3)))
    (((hy 1 ⊠ hy 0) ⊞ ((hy 1 ⊠ hy 1) ⊠ (sq (va 0 ⊗ va 3)))) ⊞ ((hy 1 ⊞ nm 1) ⊠ (sq (va 2 ⊗ va 3)))) refl (h0, (h1, (weak (pos 0) (e *ℤ e) h2, tt))))

-- by 16384*h0 + 16384*h3*h1 + 1152921504606846976*h2 + h3*2360030319861496283136
pub end_high : (l h n d : ℤ) → (l *ℤ d) ≤ℤ (n *ℤ pos 1152921504606846976) → (h -ℤ l) ≤ℤ pos 4194304 → (n *ℤ pos 16384) ≤ℤ ((pos 16384 +ℤ pos 1) *ℤ d) → (pos 0) <ℤ d → h ≤ℤ pos 1297036692682702848
end_high l h n d h0 h1 h2 h3 =
    cancel (pos 16384 *ℤ d) h (pos 1297036692682702848) (mul_positive (pos 16384) d (lt_pos 0 16384 (lit< tt)) h3)
    (cert (l ∷ h ∷ n ∷ d ∷ []) (((va 0 ⊗ va 3) ≼ (va 2 ⊗ ko (pos 1152921504606846976))) ∷ ((va 1 ⊖ va 0) ≼ ko (pos 4194304))
    ∷ ((va 2 ⊗ ko (pos 16384)) ≼ ((ko (pos 16384) ⊕ ko (pos 1)) ⊗ va 3)) ∷ (ko (pos 0) ≼ va 3) ∷ []) ((ko (pos 16384) ⊗ va 3) ⊗ va 1)
    ((ko (pos 16384) ⊗ va 3) ⊗ ko (pos 1297036692682702848)) ((((nm 16384 ⊠ hy 0) ⊞ ((nm 16384 ⊠ hy 3) ⊠ hy 1)) ⊞ (nm 1152921504606846976 ⊠ hy 2))
    ⊞ (hy 3 ⊠ nm 2360030319861496283136)) refl (h0, (h1, (h2, (weak (pos 0) d h3, tt)))))

-- by 16384*h0 + 16384*h3*h1 + 1152921504606846976*h2 + h3*2360030319861496283136
pub end_low : (l h n d : ℤ) → (n *ℤ pos 1152921504606846976) ≤ℤ (h *ℤ d) → (h -ℤ l) ≤ℤ pos 4194304
    → ((pos 0 -ℤ n) *ℤ pos 16384) ≤ℤ ((pos 16384 +ℤ pos 1) *ℤ d) → (pos 0) <ℤ d → (pos 0 -ℤ pos 1297036692682702848) ≤ℤ l
end_low l h n d h0 h1 h2 h3 =
    cancel (pos 16384 *ℤ d) (pos 0 -ℤ pos 1297036692682702848) l (mul_positive (pos 16384) d (lt_pos 0 16384 (lit< tt)) h3)
    (cert (l ∷ h ∷ n ∷ d ∷ []) (((va 2 ⊗ ko (pos 1152921504606846976)) ≼ (va 1 ⊗ va 3)) ∷ ((va 1 ⊖ va 0) ≼ ko (pos 4194304))
    ∷ (((ko (pos 0) ⊖ va 2) ⊗ ko (pos 16384)) ≼ ((ko (pos 16384) ⊕ ko (pos 1)) ⊗ va 3)) ∷ (ko (pos 0) ≼ va 3) ∷ [])
    ((ko (pos 16384) ⊗ va 3) ⊗ (ko (pos 0) ⊖ ko (pos 1297036692682702848))) ((ko (pos 16384) ⊗ va 3) ⊗ va 0)
    ((((nm 16384 ⊠ hy 0) ⊞ ((nm 16384 ⊠ hy 3) ⊠ hy 1)) ⊞ (nm 1152921504606846976 ⊠ hy 2)) ⊞ (hy 3 ⊠ nm 2360030319861496283136)) refl
    (h0, (h1, (h2, (weak (pos 0) d h3, tt)))))
