-- Inequalities of the length of a vector, each by a certificate.
-- The terms are made: tools/inequality_certificate.py writes a lemma from its claim and the products of its hypotheses,
-- h0, h1, .. in the order in which they stand: they are over each lemma, after `by`. Who changes a claim writes its term anew there;
-- the check proves what is written.
use Rattle.std.proofs.Common.{[], ◌∷◌, ℤ, pos, ◌+ℤ◌, ◌-ℤ◌, ◌*ℤ◌, ◌≤ℤ◌, arith, refl}
use Rattle.std.proofs.lemmas.Int.{ints}
use Rattle.whole_math.proofs.Ring.{va, ko, ◌⊕◌, ◌⊖◌, ◌⊗◌}
use Rattle.whole_math.proofs.Certificates.{cert, cancel, ◌≼◌, hy, nm, sq, ◌⊞◌, ◌⊠◌}

-- Σ near ends is at most 7/4 of a length that is at least theirs
-- by 49*h0 + sq(n) + sq(m) + sq(k) + 16*sq(n - m) + 16*sq(n - k) + 16*sq(m - k)
pub near_sum : (n m k b : ℤ) → (((n *ℤ n) +ℤ (m *ℤ m)) +ℤ (k *ℤ k)) ≤ℤ (b *ℤ b) → (((pos 4) *ℤ ((n +ℤ m) +ℤ k)) *ℤ ((pos 4) *ℤ ((n +ℤ m) +ℤ k))) ≤ℤ (((pos 7) *ℤ b) *ℤ ((pos 7) *ℤ b))
near_sum n m k b h0 =
    cert (n ∷ m ∷ k ∷ b ∷ []) ((((((va 0) ⊗ (va 0)) ⊕ ((va 1) ⊗ (va 1))) ⊕ ((va 2) ⊗ (va 2))) ≼ ((va 3) ⊗ (va 3))) ∷ [])
    (((ko (pos 4)) ⊗ (((va 0) ⊕ (va 1)) ⊕ (va 2))) ⊗ ((ko (pos 4)) ⊗ (((va 0) ⊕ (va 1)) ⊕ (va 2)))) (((ko (pos 7)) ⊗ (va 3)) ⊗ ((ko (pos 7)) ⊗ (va 3)))
    ((((((((nm 49) ⊠ (hy 0)) ⊞ (sq (va 0))) ⊞ (sq (va 1))) ⊞ (sq (va 2))) ⊞ ((nm 16) ⊠ (sq ((va 0) ⊖ (va 1))))) ⊞ ((nm 16) ⊠ (sq ((va 0) ⊖ (va 2)))))
    ⊞ ((nm 16) ⊠ (sq ((va 1) ⊖ (va 2))))) refl (h0, tt)

-- a length that is at most that of the far ends is at most 7/4 w longer
-- by 16*h9 + 16*h10 + 16*h0*(h0 + 2*h3 + 2*h6) + 16*h1*(h1 + 2*h4 + 2*h7) + 16*h2*(h2 + 2*h5 + 2*h8) + 8*h12*h11 + sq(w)
pub far_square_most : (n m k f g h w a b : ℤ) → (f -ℤ n) ≤ℤ w → (g -ℤ m) ≤ℤ w → (h -ℤ k) ≤ℤ w → n ≤ℤ f → m ≤ℤ g → k ≤ℤ h → (pos 0) ≤ℤ n → (pos 0) ≤ℤ m
    → (pos 0) ≤ℤ k → (a *ℤ a) ≤ℤ (((f *ℤ f) +ℤ (g *ℤ g)) +ℤ (h *ℤ h)) → (((n *ℤ n) +ℤ (m *ℤ m)) +ℤ (k *ℤ k)) ≤ℤ (b *ℤ b)
    → ((pos 4) *ℤ ((n +ℤ m) +ℤ k)) ≤ℤ ((pos 7) *ℤ b) → (pos 0) ≤ℤ w
    → (((pos 4) *ℤ a) *ℤ ((pos 4) *ℤ a)) ≤ℤ ((((pos 4) *ℤ b) +ℤ ((pos 7) *ℤ w)) *ℤ (((pos 4) *ℤ b) +ℤ ((pos 7) *ℤ w)))
far_square_most n m k f g h w a b h0 h1 h2 h3 h4 h5 h6 h7 h8 h9 h10 h11 h12 =
    cert (n ∷ m ∷ k ∷ f ∷ g ∷ h ∷ w ∷ a ∷ b ∷ []) ((((va 3) ⊖ (va 0)) ≼ (va 6)) ∷ (((va 4) ⊖ (va 1)) ≼ (va 6)) ∷ (((va 5) ⊖ (va 2)) ≼ (va 6))
    ∷ ((va 0) ≼ (va 3)) ∷ ((va 1) ≼ (va 4)) ∷ ((va 2) ≼ (va 5)) ∷ ((ko (pos 0)) ≼ (va 0)) ∷ ((ko (pos 0)) ≼ (va 1)) ∷ ((ko (pos 0)) ≼ (va 2))
    ∷ (((va 7) ⊗ (va 7)) ≼ ((((va 3) ⊗ (va 3)) ⊕ ((va 4) ⊗ (va 4))) ⊕ ((va 5) ⊗ (va 5)))) ∷ (((((va 0) ⊗ (va 0)) ⊕ ((va 1) ⊗ (va 1))) ⊕ ((va 2) ⊗ (va 2)))
    ≼ ((va 8) ⊗ (va 8))) ∷ (((ko (pos 4)) ⊗ (((va 0) ⊕ (va 1)) ⊕ (va 2))) ≼ ((ko (pos 7)) ⊗ (va 8))) ∷ ((ko (pos 0)) ≼ (va 6)) ∷ [])
    (((ko (pos 4)) ⊗ (va 7)) ⊗ ((ko (pos 4)) ⊗ (va 7)))
    ((((ko (pos 4)) ⊗ (va 8)) ⊕ ((ko (pos 7)) ⊗ (va 6))) ⊗ (((ko (pos 4)) ⊗ (va 8)) ⊕ ((ko (pos 7)) ⊗ (va 6))))
    ((((((((nm 16) ⊠ (hy 9)) ⊞ ((nm 16) ⊠ (hy 10))) ⊞ (((nm 16) ⊠ (hy 0)) ⊠ (((hy 0) ⊞ ((nm 2) ⊠ (hy 3))) ⊞ ((nm 2) ⊠ (hy 6))))) ⊞ (((nm 16) ⊠ (hy 1))
    ⊠ (((hy 1) ⊞ ((nm 2) ⊠ (hy 4))) ⊞ ((nm 2) ⊠ (hy 7))))) ⊞ (((nm 16) ⊠ (hy 2)) ⊠ (((hy 2) ⊞ ((nm 2) ⊠ (hy 5))) ⊞ ((nm 2) ⊠ (hy 8)))))
    ⊞ (((nm 8) ⊠ (hy 12)) ⊠ (hy 11))) ⊞ (sq (va 6))) refl (h0, (h1, (h2, (h3, (h4, (h5, (h6, (h7, (h8, (h9, (h10, (h11, (h12, tt)))))))))))))

-- both roots, in units of 2^-34, against the squares of the ends
-- by 16*h0 + 1152921504606846977*h1 + h2 + 590295810358705651712*h3 + 40566625261934365957544050124436537344
pub far_root : (h q g : ℤ)
    → (((h -ℤ (pos 1)) *ℤ (h -ℤ (pos 1))) *ℤ (pos 1152921504606846976)) ≤ℤ ((q *ℤ (pos 576460752303423488)) *ℤ ((pos 1152921504606846976) +ℤ (pos 1)))
    → ((pos 9223372036854775808) *ℤ (q -ℤ (pos 3))) ≤ℤ g → g ≤ℤ (pos 28943950857485999872168427520000000000) → (pos 171798691840000000) ≤ℤ h
    → ((((pos 4) *ℤ h) -ℤ (pos 68)) *ℤ (((pos 4) *ℤ h) -ℤ (pos 68))) ≤ℤ g
far_root h q g h0 h1 h2 h3 =
    cancel (pos 1152921504606846976) ((((pos 4) *ℤ h) -ℤ (pos 68)) *ℤ (((pos 4) *ℤ h) -ℤ (pos 68))) g (omega (arith, ints))
    (cert (h ∷ q ∷ g ∷ []) ((((((va 0) ⊖ (ko (pos 1))) ⊗ ((va 0) ⊖ (ko (pos 1)))) ⊗ (ko (pos 1152921504606846976)))
    ≼ (((va 1) ⊗ (ko (pos 576460752303423488))) ⊗ ((ko (pos 1152921504606846976)) ⊕ (ko (pos 1)))))
    ∷ (((ko (pos 9223372036854775808)) ⊗ ((va 1) ⊖ (ko (pos 3)))) ≼ (va 2)) ∷ ((va 2) ≼ (ko (pos 28943950857485999872168427520000000000)))
    ∷ ((ko (pos 171798691840000000)) ≼ (va 0)) ∷ []) ((ko (pos 1152921504606846976))
    ⊗ ((((ko (pos 4)) ⊗ (va 0)) ⊖ (ko (pos 68))) ⊗ (((ko (pos 4)) ⊗ (va 0)) ⊖ (ko (pos 68))))) ((ko (pos 1152921504606846976)) ⊗ (va 2))
    ((((((nm 16) ⊠ (hy 0)) ⊞ ((nm 1152921504606846977) ⊠ (hy 1))) ⊞ (hy 2)) ⊞ ((nm 590295810358705651712) ⊠ (hy 3)))
    ⊞ (nm 40566625261934365957544050124436537344)) refl (h0, (h1, (h2, (h3, tt)))))

-- by 16*h0 + 1152921504606846975*h1 + h2 + 590295810358705651712*h3 + 40566625261934376638208868802266923008
pub near_root : (l q m : ℤ)
    → ((q *ℤ (pos 576460752303423488)) *ℤ ((pos 1152921504606846976) -ℤ (pos 1))) ≤ℤ (((l +ℤ (pos 1)) *ℤ (l +ℤ (pos 1))) *ℤ (pos 1152921504606846976))
    → m ≤ℤ ((pos 9223372036854775808) *ℤ (q +ℤ (pos 3))) → m ≤ℤ (pos 28943950857485999872168427520000000000) → (pos 171798691840000000) ≤ℤ l
    → m ≤ℤ ((((pos 4) *ℤ l) +ℤ (pos 68)) *ℤ (((pos 4) *ℤ l) +ℤ (pos 68)))
near_root l q m h0 h1 h2 h3 =
    cancel (pos 1152921504606846976) m ((((pos 4) *ℤ l) +ℤ (pos 68)) *ℤ (((pos 4) *ℤ l) +ℤ (pos 68))) (omega (arith, ints))
    (cert (l ∷ q ∷ m ∷ []) (((((va 1) ⊗ (ko (pos 576460752303423488))) ⊗ ((ko (pos 1152921504606846976)) ⊖ (ko (pos 1))))
    ≼ ((((va 0) ⊕ (ko (pos 1))) ⊗ ((va 0) ⊕ (ko (pos 1)))) ⊗ (ko (pos 1152921504606846976))))
    ∷ ((va 2) ≼ ((ko (pos 9223372036854775808)) ⊗ ((va 1) ⊕ (ko (pos 3))))) ∷ ((va 2) ≼ (ko (pos 28943950857485999872168427520000000000)))
    ∷ ((ko (pos 171798691840000000)) ≼ (va 0)) ∷ []) ((ko (pos 1152921504606846976)) ⊗ (va 2))
    ((ko (pos 1152921504606846976)) ⊗ ((((ko (pos 4)) ⊗ (va 0)) ⊕ (ko (pos 68))) ⊗ (((ko (pos 4)) ⊗ (va 0)) ⊕ (ko (pos 68)))))
    ((((((nm 16) ⊠ (hy 0)) ⊞ ((nm 1152921504606846975) ⊠ (hy 1))) ⊞ (hy 2)) ⊞ ((nm 590295810358705651712) ⊠ (hy 3)))
    ⊞ (nm 40566625261934376638208868802266923008)) refl (h0, (h1, (h2, (h3, tt)))))

-- the square of the far end less that of the near one
-- by h0*(2*h2 + h1) + h4*(2*h3 + h1)
pub square_gap : (n f w o : ℤ) → (f -ℤ n) ≤ℤ w → n ≤ℤ f → (pos 0) ≤ℤ n → f ≤ℤ o → (pos 0) ≤ℤ w → ((f *ℤ f) -ℤ (n *ℤ n)) ≤ℤ (w *ℤ ((pos 2) *ℤ o))
square_gap n f w o h0 h1 h2 h3 h4 =
    cert (n ∷ f ∷ w ∷ o ∷ []) ((((va 1) ⊖ (va 0)) ≼ (va 2)) ∷ ((va 0) ≼ (va 1)) ∷ ((ko (pos 0)) ≼ (va 0)) ∷ ((va 1) ≼ (va 3)) ∷ ((ko (pos 0)) ≼ (va 2)) ∷ [])
    (((va 1) ⊗ (va 1)) ⊖ ((va 0) ⊗ (va 0))) ((va 2) ⊗ ((ko (pos 2)) ⊗ (va 3)))
    (((hy 0) ⊠ (((nm 2) ⊠ (hy 2)) ⊞ (hy 1))) ⊞ ((hy 4) ⊠ (((nm 2) ⊠ (hy 3)) ⊞ (hy 1)))) refl (h0, (h1, (h2, (h3, (h4, tt)))))

-- by h2*(h0 + h1 + 3106120348467200000)
pub square_most : (n f : ℤ) → n ≤ℤ f → (pos 0) ≤ℤ n → f ≤ℤ (pos 3106120348467200000) → (f *ℤ f) ≤ℤ (pos 9647983619161999957389475840000000000)
square_most n f h0 h1 h2 =
    cert (n ∷ f ∷ []) (((va 0) ≼ (va 1)) ∷ ((ko (pos 0)) ≼ (va 0)) ∷ ((va 1) ≼ (ko (pos 3106120348467200000))) ∷ []) ((va 1) ⊗ (va 1))
    (ko (pos 9647983619161999957389475840000000000)) ((hy 2) ⊠ (((hy 0) ⊞ (hy 1)) ⊞ (nm 3106120348467200000))) refl (h0, (h1, (h2, tt)))

-- by h0 + sq(y) + sq(z)
pub first : (x y z b : ℤ) → (((x *ℤ x) +ℤ (y *ℤ y)) +ℤ (z *ℤ z)) ≤ℤ (b *ℤ b) → (x *ℤ x) ≤ℤ (b *ℤ b)
first x y z b h0 =
    cert (x ∷ y ∷ z ∷ b ∷ []) ((((((va 0) ⊗ (va 0)) ⊕ ((va 1) ⊗ (va 1))) ⊕ ((va 2) ⊗ (va 2))) ≼ ((va 3) ⊗ (va 3))) ∷ []) ((va 0) ⊗ (va 0))
    ((va 3) ⊗ (va 3)) (((hy 0) ⊞ (sq (va 1))) ⊞ (sq (va 2))) refl (h0, tt)

-- by h0 + sq(x) + sq(z)
pub second : (x y z b : ℤ) → (((x *ℤ x) +ℤ (y *ℤ y)) +ℤ (z *ℤ z)) ≤ℤ (b *ℤ b) → (y *ℤ y) ≤ℤ (b *ℤ b)
second x y z b h0 =
    cert (x ∷ y ∷ z ∷ b ∷ []) ((((((va 0) ⊗ (va 0)) ⊕ ((va 1) ⊗ (va 1))) ⊕ ((va 2) ⊗ (va 2))) ≼ ((va 3) ⊗ (va 3))) ∷ []) ((va 1) ⊗ (va 1))
    ((va 3) ⊗ (va 3)) (((hy 0) ⊞ (sq (va 0))) ⊞ (sq (va 2))) refl (h0, tt)

-- by h0 + sq(x) + sq(y)
pub third : (x y z b : ℤ) → (((x *ℤ x) +ℤ (y *ℤ y)) +ℤ (z *ℤ z)) ≤ℤ (b *ℤ b) → (z *ℤ z) ≤ℤ (b *ℤ b)
third x y z b h0 =
    cert (x ∷ y ∷ z ∷ b ∷ []) ((((((va 0) ⊗ (va 0)) ⊕ ((va 1) ⊗ (va 1))) ⊕ ((va 2) ⊗ (va 2))) ≼ ((va 3) ⊗ (va 3))) ∷ []) ((va 2) ⊗ (va 2))
    ((va 3) ⊗ (va 3)) (((hy 0) ⊞ (sq (va 0))) ⊞ (sq (va 1))) refl (h0, tt)
