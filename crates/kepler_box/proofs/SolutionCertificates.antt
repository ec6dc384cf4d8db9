-- Inequalities of the distance of a solution from the point where the steps end, each by a certificate.
-- The terms are made: tools/inequality_certificate.py writes a lemma from its claim and the products of its hypotheses,
-- h0, h1, .. in the order in which they stand: they are over each lemma, after `by`. Who changes a claim writes its term anew there;
-- the check proves what is written.
use Rattle.std.proofs.Common.{[], ◌∷◌, ℤ, pos, ◌+ℤ◌, ◌-ℤ◌, ◌*ℤ◌, ◌≤ℤ◌, ◌<ℤ◌, arith, refl, lit<}
use Rattle.std.proofs.lemmas.Int.{ints}
use Rattle.whole_math.proofs.Ring.{va, ko, ◌⊕◌, ◌⊖◌, ◌⊗◌}
use Rattle.whole_math.proofs.Certificates.{cert, cancel, mul_positive, weak, ◌≼◌, hy, nm, sq, ◌⊞◌, ◌⊠◌}
use Rattle.whole_math.proofs.Order.{lt_pos}

-- by 147573952589676412928*h0*h8*h14*h10*h9 + 10633823966279326983230456482242756608*h1*h14*h11*h13
--    + 10633823966279326983230456482242756608*h2*h8*h12*h9*h13 + 1*h5*h3*h14*h10*h11 + 9223372036854775808*h4*h7*h14*h10*h11*h9*h13
--    + 2251799813685248*h4*h8*h14*h10*h11*h9*h13 + 9223372036854775808*h6*h8*h14*h10*h11*h12*h9*h13
--    + 9221120237041090560*h8*h14*h10*h11*h12*h9*h13
pub upper : (en ed sn sd mn md nn nd pn pd tn td dn dd x r h : ℤ)
    → (((nn *ℤ (pd *ℤ td)) +ℤ ((pn *ℤ tn) *ℤ nd)) *ℤ (pos 72057594037927936)) ≤ℤ (h *ℤ (nd *ℤ (pd *ℤ td)))
    → (((en *ℤ (pd *ℤ sd)) -ℤ ((pn *ℤ sn) *ℤ ed)) *ℤ md) ≤ℤ (mn *ℤ (ed *ℤ (pd *ℤ sd))) → (((mn *ℤ nd) -ℤ (nn *ℤ md)) *ℤ dd) ≤ℤ (dn *ℤ (md *ℤ nd))
    → (((sn *ℤ td) -ℤ (tn *ℤ sd)) *ℤ ((ed *ℤ (pos 72057594037927936)) *ℤ (pos 147573952589676412928)))
    ≤ℤ (((((pos 2) *ℤ ((en *ℤ (pos 72057594037927936)) -ℤ (x *ℤ ed))) *ℤ (pos 147573952589676412928)) +ℤ ((pos 1) *ℤ (ed *ℤ (pos 72057594037927936))))
    *ℤ (sd *ℤ td)) → ((pos 32) *ℤ pn) ≤ℤ pd → (pos 0) ≤ℤ pn → (((pos 16) *ℤ (h -ℤ x)) +ℤ (pos 1)) ≤ℤ ((pos 15) *ℤ r)
    → (pos 0) ≤ℤ ((en *ℤ (pos 72057594037927936)) -ℤ (x *ℤ ed)) → (pos 0) <ℤ ed → (pos 0) <ℤ sd → (pos 0) <ℤ md → (pos 0) <ℤ nd → (pos 0) <ℤ pd → (pos 0) <ℤ td
    → (pos 0) <ℤ dd → ((pos 15) *ℤ (((en *ℤ (pos 72057594037927936)) -ℤ ((x +ℤ r) *ℤ ed)) *ℤ dd)) ≤ℤ ((pos 16) *ℤ (dn *ℤ (ed *ℤ (pos 72057594037927936))))
upper en ed sn sd mn md nn nd pn pd tn td dn dd x r h h0 h1 h2 h3 h4 h5 h6 h7 h8 h9 h10 h11 h12 h13 h14 =
    cancel ((pos 9223372036854775808) *ℤ (md *ℤ (nd *ℤ (pd *ℤ (sd *ℤ td)))))
    ((pos 15) *ℤ (((en *ℤ (pos 72057594037927936)) -ℤ ((x +ℤ r) *ℤ ed)) *ℤ dd)) ((pos 16) *ℤ (dn *ℤ (ed *ℤ (pos 72057594037927936))))
    (mul_positive (pos 9223372036854775808) (md *ℤ (nd *ℤ (pd *ℤ (sd *ℤ td)))) (lt_pos 0 9223372036854775808 (lit< tt)) (mul_positive md
    (nd *ℤ (pd *ℤ (sd *ℤ td))) h10 (mul_positive nd (pd *ℤ (sd *ℤ td)) h11 (mul_positive pd (sd *ℤ td) h12 (mul_positive sd td h9 h13)))))
    (cert (en ∷ ed ∷ sn ∷ sd ∷ mn ∷ md ∷ nn ∷ nd ∷ pn ∷ pd ∷ tn ∷ td ∷ dn ∷ dd ∷ x ∷ r ∷ h ∷ [])
    ((((((va 6) ⊗ ((va 9) ⊗ (va 11))) ⊕ (((va 8) ⊗ (va 10)) ⊗ (va 7))) ⊗ (ko (pos 72057594037927936))) ≼ ((va 16) ⊗ ((va 7) ⊗ ((va 9) ⊗ (va 11)))))
    ∷ (((((va 0) ⊗ ((va 9) ⊗ (va 3))) ⊖ (((va 8) ⊗ (va 2)) ⊗ (va 1))) ⊗ (va 5)) ≼ ((va 4) ⊗ ((va 1) ⊗ ((va 9) ⊗ (va 3)))))
    ∷ (((((va 4) ⊗ (va 7)) ⊖ ((va 6) ⊗ (va 5))) ⊗ (va 13)) ≼ ((va 12) ⊗ ((va 5) ⊗ (va 7))))
    ∷ (((((va 2) ⊗ (va 11)) ⊖ ((va 10) ⊗ (va 3))) ⊗ (((va 1) ⊗ (ko (pos 72057594037927936))) ⊗ (ko (pos 147573952589676412928))))
    ≼ (((((ko (pos 2)) ⊗ (((va 0) ⊗ (ko (pos 72057594037927936))) ⊖ ((va 14) ⊗ (va 1)))) ⊗ (ko (pos 147573952589676412928)))
    ⊕ ((ko (pos 1)) ⊗ ((va 1) ⊗ (ko (pos 72057594037927936))))) ⊗ ((va 3) ⊗ (va 11)))) ∷ (((ko (pos 32)) ⊗ (va 8)) ≼ (va 9))
    ∷ ((ko (pos 0)) ≼ (va 8)) ∷ ((((ko (pos 16)) ⊗ ((va 16) ⊖ (va 14))) ⊕ (ko (pos 1))) ≼ ((ko (pos 15)) ⊗ (va 15)))
    ∷ ((ko (pos 0)) ≼ (((va 0) ⊗ (ko (pos 72057594037927936))) ⊖ ((va 14) ⊗ (va 1)))) ∷ ((ko (pos 0)) ≼ (va 1)) ∷ ((ko (pos 0)) ≼ (va 3))
    ∷ ((ko (pos 0)) ≼ (va 5)) ∷ ((ko (pos 0)) ≼ (va 7)) ∷ ((ko (pos 0)) ≼ (va 9)) ∷ ((ko (pos 0)) ≼ (va 11)) ∷ ((ko (pos 0)) ≼ (va 13)) ∷ [])
    (((ko (pos 9223372036854775808)) ⊗ ((va 5) ⊗ ((va 7) ⊗ ((va 9) ⊗ ((va 3) ⊗ (va 11))))))
    ⊗ ((ko (pos 15)) ⊗ ((((va 0) ⊗ (ko (pos 72057594037927936))) ⊖ (((va 14) ⊕ (va 15)) ⊗ (va 1))) ⊗ (va 13)))) (((ko (pos 9223372036854775808))
    ⊗ ((va 5) ⊗ ((va 7) ⊗ ((va 9) ⊗ ((va 3) ⊗ (va 11)))))) ⊗ ((ko (pos 16)) ⊗ ((va 12) ⊗ ((va 1) ⊗ (ko (pos 72057594037927936))))))
    (((((((((((((nm 147573952589676412928) ⊠ (hy 0)) ⊠ (hy 8)) ⊠ (hy 14)) ⊠ (hy 10)) ⊠ (hy 9)) ⊞ (((((nm 10633823966279326983230456482242756608) ⊠ (hy 1))
    ⊠ (hy 14)) ⊠ (hy 11)) ⊠ (hy 13))) ⊞ ((((((nm 10633823966279326983230456482242756608) ⊠ (hy 2)) ⊠ (hy 8)) ⊠ (hy 12)) ⊠ (hy 9)) ⊠ (hy 13)))
    ⊞ ((((((nm 1) ⊠ (hy 5)) ⊠ (hy 3)) ⊠ (hy 14)) ⊠ (hy 10)) ⊠ (hy 11))) ⊞ ((((((((nm 9223372036854775808) ⊠ (hy 4)) ⊠ (hy 7)) ⊠ (hy 14)) ⊠ (hy 10))
    ⊠ (hy 11)) ⊠ (hy 9)) ⊠ (hy 13))) ⊞ ((((((((nm 2251799813685248) ⊠ (hy 4)) ⊠ (hy 8)) ⊠ (hy 14)) ⊠ (hy 10)) ⊠ (hy 11)) ⊠ (hy 9)) ⊠ (hy 13)))
    ⊞ (((((((((nm 9223372036854775808) ⊠ (hy 6)) ⊠ (hy 8)) ⊠ (hy 14)) ⊠ (hy 10)) ⊠ (hy 11)) ⊠ (hy 12)) ⊠ (hy 9)) ⊠ (hy 13)))
    ⊞ ((((((((nm 9221120237041090560) ⊠ (hy 8)) ⊠ (hy 14)) ⊠ (hy 10)) ⊠ (hy 11)) ⊠ (hy 12)) ⊠ (hy 9)) ⊠ (hy 13))) refl (
      h0,
      (
        h1,
        (
          h2,
          (
            h3,
            (
              h4,
              (
                h5,
                (
                  h6,
                  (
                    h7,
                    (
                      weak (pos 0) ed h8,
                      (
                        weak (pos 0) sd h9,
                        (weak (pos 0) md h10, (weak (pos 0) nd h11, (weak (pos 0) pd h12, (weak (pos 0) td h13, (weak (pos 0) dd h14, tt))))),
                      ),
                    ),
                  ),
                ),
              ),
            ),
          ),
        ),
      ),
    ))

-- by 147573952589676412928*h0*h8*h14*h10*h9 + 10633823966279326983230456482242756608*h1*h14*h11*h13
--    + 10633823966279326983230456482242756608*h2*h8*h12*h9*h13 + 1*h5*h3*h14*h10*h11 + 9223372036854775808*h4*h7*h14*h10*h11*h9*h13
--    + 2251799813685248*h4*h8*h14*h10*h11*h9*h13 + 9223372036854775808*h6*h8*h14*h10*h11*h12*h9*h13
--    + 9221120237041090560*h8*h14*h10*h11*h12*h9*h13
pub lower : (en ed sn sd mn md nn nd pn pd tn td dn dd x r h : ℤ)
    → (h *ℤ (nd *ℤ (pd *ℤ td))) ≤ℤ (((nn *ℤ (pd *ℤ td)) +ℤ ((pn *ℤ tn) *ℤ nd)) *ℤ (pos 72057594037927936))
    → (mn *ℤ (ed *ℤ (pd *ℤ sd))) ≤ℤ (((en *ℤ (pd *ℤ sd)) -ℤ ((pn *ℤ sn) *ℤ ed)) *ℤ md) → (((nn *ℤ md) -ℤ (mn *ℤ nd)) *ℤ dd) ≤ℤ (dn *ℤ (nd *ℤ md))
    → (((tn *ℤ sd) -ℤ (sn *ℤ td)) *ℤ ((ed *ℤ (pos 72057594037927936)) *ℤ (pos 147573952589676412928)))
    ≤ℤ (((((pos 2) *ℤ ((x *ℤ ed) -ℤ (en *ℤ (pos 72057594037927936)))) *ℤ (pos 147573952589676412928)) +ℤ ((pos 1) *ℤ (ed *ℤ (pos 72057594037927936))))
    *ℤ (td *ℤ sd)) → ((pos 32) *ℤ pn) ≤ℤ pd → (pos 0) ≤ℤ pn → (((pos 16) *ℤ (x -ℤ h)) +ℤ (pos 1)) ≤ℤ ((pos 15) *ℤ r)
    → (pos 0) ≤ℤ ((x *ℤ ed) -ℤ (en *ℤ (pos 72057594037927936))) → (pos 0) <ℤ ed → (pos 0) <ℤ sd → (pos 0) <ℤ md → (pos 0) <ℤ nd → (pos 0) <ℤ pd → (pos 0) <ℤ td
    → (pos 0) <ℤ dd → ((pos 15) *ℤ ((((x -ℤ r) *ℤ ed) -ℤ (en *ℤ (pos 72057594037927936))) *ℤ dd)) ≤ℤ ((pos 16) *ℤ (dn *ℤ (ed *ℤ (pos 72057594037927936))))
lower en ed sn sd mn md nn nd pn pd tn td dn dd x r h h0 h1 h2 h3 h4 h5 h6 h7 h8 h9 h10 h11 h12 h13 h14 =
    cancel ((pos 9223372036854775808) *ℤ (md *ℤ (nd *ℤ (pd *ℤ (sd *ℤ td)))))
    ((pos 15) *ℤ ((((x -ℤ r) *ℤ ed) -ℤ (en *ℤ (pos 72057594037927936))) *ℤ dd)) ((pos 16) *ℤ (dn *ℤ (ed *ℤ (pos 72057594037927936))))
    (mul_positive (pos 9223372036854775808) (md *ℤ (nd *ℤ (pd *ℤ (sd *ℤ td)))) (lt_pos 0 9223372036854775808 (lit< tt)) (mul_positive md
    (nd *ℤ (pd *ℤ (sd *ℤ td))) h10 (mul_positive nd (pd *ℤ (sd *ℤ td)) h11 (mul_positive pd (sd *ℤ td) h12 (mul_positive sd td h9 h13)))))
    (cert (en ∷ ed ∷ sn ∷ sd ∷ mn ∷ md ∷ nn ∷ nd ∷ pn ∷ pd ∷ tn ∷ td ∷ dn ∷ dd ∷ x ∷ r ∷ h ∷ [])
    ((((va 16) ⊗ ((va 7) ⊗ ((va 9) ⊗ (va 11)))) ≼ ((((va 6) ⊗ ((va 9) ⊗ (va 11))) ⊕ (((va 8) ⊗ (va 10)) ⊗ (va 7))) ⊗ (ko (pos 72057594037927936))))
    ∷ (((va 4) ⊗ ((va 1) ⊗ ((va 9) ⊗ (va 3)))) ≼ ((((va 0) ⊗ ((va 9) ⊗ (va 3))) ⊖ (((va 8) ⊗ (va 2)) ⊗ (va 1))) ⊗ (va 5)))
    ∷ (((((va 6) ⊗ (va 5)) ⊖ ((va 4) ⊗ (va 7))) ⊗ (va 13)) ≼ ((va 12) ⊗ ((va 7) ⊗ (va 5))))
    ∷ (((((va 10) ⊗ (va 3)) ⊖ ((va 2) ⊗ (va 11))) ⊗ (((va 1) ⊗ (ko (pos 72057594037927936))) ⊗ (ko (pos 147573952589676412928))))
    ≼ (((((ko (pos 2)) ⊗ (((va 14) ⊗ (va 1)) ⊖ ((va 0) ⊗ (ko (pos 72057594037927936))))) ⊗ (ko (pos 147573952589676412928)))
    ⊕ ((ko (pos 1)) ⊗ ((va 1) ⊗ (ko (pos 72057594037927936))))) ⊗ ((va 11) ⊗ (va 3)))) ∷ (((ko (pos 32)) ⊗ (va 8)) ≼ (va 9))
    ∷ ((ko (pos 0)) ≼ (va 8)) ∷ ((((ko (pos 16)) ⊗ ((va 14) ⊖ (va 16))) ⊕ (ko (pos 1))) ≼ ((ko (pos 15)) ⊗ (va 15)))
    ∷ ((ko (pos 0)) ≼ (((va 14) ⊗ (va 1)) ⊖ ((va 0) ⊗ (ko (pos 72057594037927936))))) ∷ ((ko (pos 0)) ≼ (va 1)) ∷ ((ko (pos 0)) ≼ (va 3))
    ∷ ((ko (pos 0)) ≼ (va 5)) ∷ ((ko (pos 0)) ≼ (va 7)) ∷ ((ko (pos 0)) ≼ (va 9)) ∷ ((ko (pos 0)) ≼ (va 11)) ∷ ((ko (pos 0)) ≼ (va 13)) ∷ [])
    (((ko (pos 9223372036854775808)) ⊗ ((va 5) ⊗ ((va 7) ⊗ ((va 9) ⊗ ((va 3) ⊗ (va 11))))))
    ⊗ ((ko (pos 15)) ⊗ (((((va 14) ⊖ (va 15)) ⊗ (va 1)) ⊖ ((va 0) ⊗ (ko (pos 72057594037927936)))) ⊗ (va 13)))) (((ko (pos 9223372036854775808))
    ⊗ ((va 5) ⊗ ((va 7) ⊗ ((va 9) ⊗ ((va 3) ⊗ (va 11)))))) ⊗ ((ko (pos 16)) ⊗ ((va 12) ⊗ ((va 1) ⊗ (ko (pos 72057594037927936))))))
    (((((((((((((nm 147573952589676412928) ⊠ (hy 0)) ⊠ (hy 8)) ⊠ (hy 14)) ⊠ (hy 10)) ⊠ (hy 9)) ⊞ (((((nm 10633823966279326983230456482242756608) ⊠ (hy 1))
    ⊠ (hy 14)) ⊠ (hy 11)) ⊠ (hy 13))) ⊞ ((((((nm 10633823966279326983230456482242756608) ⊠ (hy 2)) ⊠ (hy 8)) ⊠ (hy 12)) ⊠ (hy 9)) ⊠ (hy 13)))
    ⊞ ((((((nm 1) ⊠ (hy 5)) ⊠ (hy 3)) ⊠ (hy 14)) ⊠ (hy 10)) ⊠ (hy 11))) ⊞ ((((((((nm 9223372036854775808) ⊠ (hy 4)) ⊠ (hy 7)) ⊠ (hy 14)) ⊠ (hy 10))
    ⊠ (hy 11)) ⊠ (hy 9)) ⊠ (hy 13))) ⊞ ((((((((nm 2251799813685248) ⊠ (hy 4)) ⊠ (hy 8)) ⊠ (hy 14)) ⊠ (hy 10)) ⊠ (hy 11)) ⊠ (hy 9)) ⊠ (hy 13)))
    ⊞ (((((((((nm 9223372036854775808) ⊠ (hy 6)) ⊠ (hy 8)) ⊠ (hy 14)) ⊠ (hy 10)) ⊠ (hy 11)) ⊠ (hy 12)) ⊠ (hy 9)) ⊠ (hy 13)))
    ⊞ ((((((((nm 9221120237041090560) ⊠ (hy 8)) ⊠ (hy 14)) ⊠ (hy 10)) ⊠ (hy 11)) ⊠ (hy 12)) ⊠ (hy 9)) ⊠ (hy 13))) refl (
      h0,
      (
        h1,
        (
          h2,
          (
            h3,
            (
              h4,
              (
                h5,
                (
                  h6,
                  (
                    h7,
                    (
                      weak (pos 0) ed h8,
                      (
                        weak (pos 0) sd h9,
                        (weak (pos 0) md h10, (weak (pos 0) nd h11, (weak (pos 0) pd h12, (weak (pos 0) td h13, (weak (pos 0) dd h14, tt))))),
                      ),
                    ),
                  ),
                ),
              ),
            ),
          ),
        ),
      ),
    ))

-- by 15*h4*h0 + 15*h4*h3*h1 + 1152921504606846976*h2*h3
pub upper_easy : (en ed dn dd x r : ℤ) → (en *ℤ (pos 72057594037927936)) ≤ℤ (x *ℤ ed) → (pos 0) ≤ℤ r → (pos 0) ≤ℤ dn → (pos 0) ≤ℤ ed → (pos 0) ≤ℤ dd
    → ((pos 15) *ℤ (((en *ℤ (pos 72057594037927936)) -ℤ ((x +ℤ r) *ℤ ed)) *ℤ dd)) ≤ℤ ((pos 16) *ℤ (dn *ℤ (ed *ℤ (pos 72057594037927936))))
upper_easy en ed dn dd x r h0 h1 h2 h3 h4 =
    cert (en ∷ ed ∷ dn ∷ dd ∷ x ∷ r ∷ [])
    ((((va 0) ⊗ (ko (pos 72057594037927936))) ≼ ((va 4) ⊗ (va 1))) ∷ ((ko (pos 0)) ≼ (va 5)) ∷ ((ko (pos 0)) ≼ (va 2)) ∷ ((ko (pos 0)) ≼ (va 1))
    ∷ ((ko (pos 0)) ≼ (va 3)) ∷ []) ((ko (pos 15)) ⊗ ((((va 0) ⊗ (ko (pos 72057594037927936))) ⊖ (((va 4) ⊕ (va 5)) ⊗ (va 1))) ⊗ (va 3)))
    ((ko (pos 16)) ⊗ ((va 2) ⊗ ((va 1) ⊗ (ko (pos 72057594037927936))))) (((((nm 15) ⊠ (hy 4)) ⊠ (hy 0)) ⊞ ((((nm 15) ⊠ (hy 4)) ⊠ (hy 3)) ⊠ (hy 1)))
    ⊞ (((nm 1152921504606846976) ⊠ (hy 2)) ⊠ (hy 3))) refl (h0, (h1, (h2, (h3, (h4, tt)))))

-- by 15*h4*h0 + 15*h4*h3*h1 + 1152921504606846976*h2*h3
pub lower_easy : (en ed dn dd x r : ℤ) → (x *ℤ ed) ≤ℤ (en *ℤ (pos 72057594037927936)) → (pos 0) ≤ℤ r → (pos 0) ≤ℤ dn → (pos 0) ≤ℤ ed → (pos 0) ≤ℤ dd
    → ((pos 15) *ℤ ((((x -ℤ r) *ℤ ed) -ℤ (en *ℤ (pos 72057594037927936))) *ℤ dd)) ≤ℤ ((pos 16) *ℤ (dn *ℤ (ed *ℤ (pos 72057594037927936))))
lower_easy en ed dn dd x r h0 h1 h2 h3 h4 =
    cert (en ∷ ed ∷ dn ∷ dd ∷ x ∷ r ∷ [])
    ((((va 4) ⊗ (va 1)) ≼ ((va 0) ⊗ (ko (pos 72057594037927936)))) ∷ ((ko (pos 0)) ≼ (va 5)) ∷ ((ko (pos 0)) ≼ (va 2)) ∷ ((ko (pos 0)) ≼ (va 1))
    ∷ ((ko (pos 0)) ≼ (va 3)) ∷ []) ((ko (pos 15)) ⊗ (((((va 4) ⊖ (va 5)) ⊗ (va 1)) ⊖ ((va 0) ⊗ (ko (pos 72057594037927936)))) ⊗ (va 3)))
    ((ko (pos 16)) ⊗ ((va 2) ⊗ ((va 1) ⊗ (ko (pos 72057594037927936))))) (((((nm 15) ⊠ (hy 4)) ⊠ (hy 0)) ⊞ ((((nm 15) ⊠ (hy 4)) ⊠ (hy 3)) ⊠ (hy 1)))
    ⊞ (((nm 1152921504606846976) ⊠ (hy 2)) ⊠ (hy 3))) refl (h0, (h1, (h2, (h3, (h4, tt)))))

-- by 0
pub own_near : (z w : ℤ) → (pos 0) ≤ℤ z → (z *ℤ w) ≤ℤ (z *ℤ w)
own_near z w h0 =
    cert (z ∷ w ∷ []) (((ko (pos 0)) ≼ (va 0)) ∷ []) ((va 0) ⊗ (va 1)) ((va 0) ⊗ (va 1)) (nm 0) refl (h0, tt)

-- by 2*h0*h1
pub back_near : (a b w : ℤ) → (pos 0) ≤ℤ (a -ℤ b) → (pos 0) ≤ℤ w → ((b -ℤ a) *ℤ w) ≤ℤ ((a -ℤ b) *ℤ w)
back_near a b w h0 h1 =
    cert (a ∷ b ∷ w ∷ []) (((ko (pos 0)) ≼ ((va 0) ⊖ (va 1))) ∷ ((ko (pos 0)) ≼ (va 2)) ∷ []) (((va 1) ⊖ (va 0)) ⊗ (va 2)) (((va 0) ⊖ (va 1)) ⊗ (va 2)) (((nm 2) ⊠ (hy 0)) ⊠ (hy 1)) refl (h0, (h1, tt))

-- by 2*h0*h1
pub back_turned : (a b u w : ℤ) → (pos 0) ≤ℤ (a -ℤ b) → (pos 0) ≤ℤ (u *ℤ w) → ((b -ℤ a) *ℤ (u *ℤ w)) ≤ℤ ((a -ℤ b) *ℤ (w *ℤ u))
back_turned a b u w h0 h1 =
    cert (a ∷ b ∷ u ∷ w ∷ []) (((ko (pos 0)) ≼ ((va 0) ⊖ (va 1))) ∷ ((ko (pos 0)) ≼ ((va 2) ⊗ (va 3))) ∷ []) (((va 1) ⊖ (va 0)) ⊗ ((va 2) ⊗ (va 3)))
    (((va 0) ⊖ (va 1)) ⊗ ((va 3) ⊗ (va 2))) (((nm 2) ⊠ (hy 0)) ⊠ (hy 1)) refl (h0, (h1, tt))

-- by h0
pub plain_high : (en ed x r : ℤ) → ((pos 15) *ℤ (((en *ℤ (pos 72057594037927936)) -ℤ ((x +ℤ r) *ℤ ed)) *ℤ (pos 1)))
    ≤ℤ ((pos 16) *ℤ ((pos 0) *ℤ (ed *ℤ (pos 72057594037927936)))) → (en *ℤ (pos 72057594037927936)) ≤ℤ ((x +ℤ r) *ℤ ed)
plain_high en ed x r h0 =
    cancel (pos 15) (en *ℤ (pos 72057594037927936)) ((x +ℤ r) *ℤ ed) (omega (arith, ints))
    (cert (en ∷ ed ∷ x ∷ r ∷ []) ((((ko (pos 15)) ⊗ ((((va 0) ⊗ (ko (pos 72057594037927936))) ⊖ (((va 2) ⊕ (va 3)) ⊗ (va 1))) ⊗ (ko (pos 1))))
    ≼ ((ko (pos 16)) ⊗ ((ko (pos 0)) ⊗ ((va 1) ⊗ (ko (pos 72057594037927936)))))) ∷ []) ((ko (pos 15)) ⊗ ((va 0) ⊗ (ko (pos 72057594037927936))))
    ((ko (pos 15)) ⊗ (((va 2) ⊕ (va 3)) ⊗ (va 1))) (hy 0) refl (h0, tt))

-- by h0
pub plain_low : (en ed x r : ℤ) → ((pos 15) *ℤ ((((x -ℤ r) *ℤ ed) -ℤ (en *ℤ (pos 72057594037927936))) *ℤ (pos 1)))
    ≤ℤ ((pos 16) *ℤ ((pos 0) *ℤ (ed *ℤ (pos 72057594037927936)))) → ((x -ℤ r) *ℤ ed) ≤ℤ (en *ℤ (pos 72057594037927936))
plain_low en ed x r h0 =
    cancel (pos 15) ((x -ℤ r) *ℤ ed) (en *ℤ (pos 72057594037927936)) (omega (arith, ints))
    (cert (en ∷ ed ∷ x ∷ r ∷ []) ((((ko (pos 15)) ⊗ (((((va 2) ⊖ (va 3)) ⊗ (va 1)) ⊖ ((va 0) ⊗ (ko (pos 72057594037927936)))) ⊗ (ko (pos 1))))
    ≼ ((ko (pos 16)) ⊗ ((ko (pos 0)) ⊗ ((va 1) ⊗ (ko (pos 72057594037927936)))))) ∷ []) ((ko (pos 15)) ⊗ (((va 2) ⊖ (va 3)) ⊗ (va 1)))
    ((ko (pos 15)) ⊗ ((va 0) ⊗ (ko (pos 72057594037927936)))) (hy 0) refl (h0, tt))

-- by h0 + 1008806316530991104*h1*h2
pub high_near : (en ed dn dd x r : ℤ)
    → ((pos 15) *ℤ (((en *ℤ (pos 72057594037927936)) -ℤ ((x +ℤ r) *ℤ ed)) *ℤ dd)) ≤ℤ ((pos 16) *ℤ (dn *ℤ (ed *ℤ (pos 72057594037927936)))) → (pos 0) ≤ℤ dn
    → (pos 0) ≤ℤ ed → (((en *ℤ (pos 72057594037927936)) -ℤ ((x +ℤ r) *ℤ ed)) *ℤ dd) ≤ℤ (((pos 2) *ℤ dn) *ℤ (ed *ℤ (pos 72057594037927936)))
high_near en ed dn dd x r h0 h1 h2 =
    cancel (pos 15) (((en *ℤ (pos 72057594037927936)) -ℤ ((x +ℤ r) *ℤ ed)) *ℤ dd) (((pos 2) *ℤ dn) *ℤ (ed *ℤ (pos 72057594037927936))) (omega (arith, ints))
    (cert (en ∷ ed ∷ dn ∷ dd ∷ x ∷ r ∷ []) ((((ko (pos 15)) ⊗ ((((va 0) ⊗ (ko (pos 72057594037927936))) ⊖ (((va 4) ⊕ (va 5)) ⊗ (va 1))) ⊗ (va 3)))
    ≼ ((ko (pos 16)) ⊗ ((va 2) ⊗ ((va 1) ⊗ (ko (pos 72057594037927936)))))) ∷ ((ko (pos 0)) ≼ (va 2)) ∷ ((ko (pos 0)) ≼ (va 1)) ∷ [])
    ((ko (pos 15)) ⊗ ((((va 0) ⊗ (ko (pos 72057594037927936))) ⊖ (((va 4) ⊕ (va 5)) ⊗ (va 1))) ⊗ (va 3)))
    ((ko (pos 15)) ⊗ (((ko (pos 2)) ⊗ (va 2)) ⊗ ((va 1) ⊗ (ko (pos 72057594037927936)))))
    ((hy 0) ⊞ (((nm 1008806316530991104) ⊠ (hy 1)) ⊠ (hy 2))) refl (h0, (h1, (h2, tt))))

-- by h0*h3 + 144115188075855872*h1*h2
pub high_back : (en ed dn dd x r : ℤ) → ((x +ℤ r) *ℤ ed) ≤ℤ (en *ℤ (pos 72057594037927936)) → (pos 0) ≤ℤ dn → (pos 0) ≤ℤ ed → (pos 0) ≤ℤ dd
    → ((((x +ℤ r) *ℤ ed) -ℤ (en *ℤ (pos 72057594037927936))) *ℤ dd) ≤ℤ (((pos 2) *ℤ dn) *ℤ ((pos 72057594037927936) *ℤ ed))
high_back en ed dn dd x r h0 h1 h2 h3 =
    cert (en ∷ ed ∷ dn ∷ dd ∷ x ∷ r ∷ []) (((((va 4) ⊕ (va 5)) ⊗ (va 1)) ≼ ((va 0) ⊗ (ko (pos 72057594037927936)))) ∷ ((ko (pos 0)) ≼ (va 2))
    ∷ ((ko (pos 0)) ≼ (va 1)) ∷ ((ko (pos 0)) ≼ (va 3)) ∷ []) (((((va 4) ⊕ (va 5)) ⊗ (va 1)) ⊖ ((va 0) ⊗ (ko (pos 72057594037927936)))) ⊗ (va 3))
    (((ko (pos 2)) ⊗ (va 2)) ⊗ ((ko (pos 72057594037927936)) ⊗ (va 1))) (((hy 0) ⊠ (hy 3)) ⊞ (((nm 144115188075855872) ⊠ (hy 1)) ⊠ (hy 2))) refl
    (h0, (h1, (h2, (h3, tt))))

-- by h0 + 1008806316530991104*h1*h2
pub low_near : (en ed dn dd x r : ℤ)
    → ((pos 15) *ℤ ((((x -ℤ r) *ℤ ed) -ℤ (en *ℤ (pos 72057594037927936))) *ℤ dd)) ≤ℤ ((pos 16) *ℤ (dn *ℤ (ed *ℤ (pos 72057594037927936)))) → (pos 0) ≤ℤ dn
    → (pos 0) ≤ℤ ed → ((((x -ℤ r) *ℤ ed) -ℤ (en *ℤ (pos 72057594037927936))) *ℤ dd) ≤ℤ (((pos 2) *ℤ dn) *ℤ ((pos 72057594037927936) *ℤ ed))
low_near en ed dn dd x r h0 h1 h2 =
    cancel (pos 15) ((((x -ℤ r) *ℤ ed) -ℤ (en *ℤ (pos 72057594037927936))) *ℤ dd) (((pos 2) *ℤ dn) *ℤ ((pos 72057594037927936) *ℤ ed)) (omega (arith, ints))
    (cert (en ∷ ed ∷ dn ∷ dd ∷ x ∷ r ∷ []) ((((ko (pos 15)) ⊗ (((((va 4) ⊖ (va 5)) ⊗ (va 1)) ⊖ ((va 0) ⊗ (ko (pos 72057594037927936)))) ⊗ (va 3)))
    ≼ ((ko (pos 16)) ⊗ ((va 2) ⊗ ((va 1) ⊗ (ko (pos 72057594037927936)))))) ∷ ((ko (pos 0)) ≼ (va 2)) ∷ ((ko (pos 0)) ≼ (va 1)) ∷ [])
    ((ko (pos 15)) ⊗ (((((va 4) ⊖ (va 5)) ⊗ (va 1)) ⊖ ((va 0) ⊗ (ko (pos 72057594037927936)))) ⊗ (va 3)))
    ((ko (pos 15)) ⊗ (((ko (pos 2)) ⊗ (va 2)) ⊗ ((ko (pos 72057594037927936)) ⊗ (va 1))))
    ((hy 0) ⊞ (((nm 1008806316530991104) ⊠ (hy 1)) ⊠ (hy 2))) refl (h0, (h1, (h2, tt))))

-- by h0*h3 + 144115188075855872*h1*h2
pub low_back : (en ed dn dd x r : ℤ) → (en *ℤ (pos 72057594037927936)) ≤ℤ ((x -ℤ r) *ℤ ed) → (pos 0) ≤ℤ dn → (pos 0) ≤ℤ ed → (pos 0) ≤ℤ dd
    → (((en *ℤ (pos 72057594037927936)) -ℤ ((x -ℤ r) *ℤ ed)) *ℤ dd) ≤ℤ (((pos 2) *ℤ dn) *ℤ (ed *ℤ (pos 72057594037927936)))
low_back en ed dn dd x r h0 h1 h2 h3 =
    cert (en ∷ ed ∷ dn ∷ dd ∷ x ∷ r ∷ []) ((((va 0) ⊗ (ko (pos 72057594037927936))) ≼ (((va 4) ⊖ (va 5)) ⊗ (va 1))) ∷ ((ko (pos 0)) ≼ (va 2))
    ∷ ((ko (pos 0)) ≼ (va 1)) ∷ ((ko (pos 0)) ≼ (va 3)) ∷ []) ((((va 0) ⊗ (ko (pos 72057594037927936))) ⊖ (((va 4) ⊖ (va 5)) ⊗ (va 1))) ⊗ (va 3))
    (((ko (pos 2)) ⊗ (va 2)) ⊗ ((va 1) ⊗ (ko (pos 72057594037927936)))) (((hy 0) ⊠ (hy 3)) ⊞ (((nm 144115188075855872) ⊠ (hy 1)) ⊠ (hy 2))) refl
    (h0, (h1, (h2, (h3, tt))))

-- by 2*h0*sq(w)
pub own_two : (n w dn dd : ℤ) → (pos 0) ≤ℤ dn → (pos 0) ≤ℤ w → (((n *ℤ w) -ℤ (n *ℤ w)) *ℤ dd) ≤ℤ (((pos 2) *ℤ dn) *ℤ (w *ℤ w))
own_two n w dn dd h0 h1 =
    cert (n ∷ w ∷ dn ∷ dd ∷ []) (((ko (pos 0)) ≼ (va 2)) ∷ ((ko (pos 0)) ≼ (va 1)) ∷ []) ((((va 0) ⊗ (va 1)) ⊖ ((va 0) ⊗ (va 1))) ⊗ (va 3))
    (((ko (pos 2)) ⊗ (va 2)) ⊗ ((va 1) ⊗ (va 1))) (((nm 2) ⊠ (hy 0)) ⊠ (sq (va 1))) refl (h0, (h1, tt))

-- by h0 + 127*h1*h2
pub looser : (g dn dd w : ℤ)
    → (g *ℤ (dd *ℤ (pos 147573952589676412928))) ≤ℤ (((((pos 2) *ℤ ((pos 2) *ℤ dn)) *ℤ (pos 147573952589676412928)) +ℤ ((pos 1) *ℤ dd)) *ℤ w) → (pos 0) ≤ℤ dd
    → (pos 0) ≤ℤ w → (g *ℤ (dd *ℤ (pos 1152921504606846976))) ≤ℤ (((((pos 4) *ℤ dn) *ℤ (pos 1152921504606846976)) +ℤ ((pos 1) *ℤ dd)) *ℤ w)
looser g dn dd w h0 h1 h2 =
    cancel (pos 128) (g *ℤ (dd *ℤ (pos 1152921504606846976))) (((((pos 4) *ℤ dn) *ℤ (pos 1152921504606846976)) +ℤ ((pos 1) *ℤ dd)) *ℤ w) (omega (arith, ints))
    (cert (g ∷ dn ∷ dd ∷ w ∷ []) ((((va 0) ⊗ ((va 2) ⊗ (ko (pos 147573952589676412928))))
    ≼ (((((ko (pos 2)) ⊗ ((ko (pos 2)) ⊗ (va 1))) ⊗ (ko (pos 147573952589676412928))) ⊕ ((ko (pos 1)) ⊗ (va 2))) ⊗ (va 3)))
    ∷ ((ko (pos 0)) ≼ (va 2)) ∷ ((ko (pos 0)) ≼ (va 3)) ∷ []) ((ko (pos 128)) ⊗ ((va 0) ⊗ ((va 2) ⊗ (ko (pos 1152921504606846976)))))
    ((ko (pos 128)) ⊗ (((((ko (pos 4)) ⊗ (va 1)) ⊗ (ko (pos 1152921504606846976))) ⊕ ((ko (pos 1)) ⊗ (va 2))) ⊗ (va 3)))
    ((hy 0) ⊞ (((nm 127) ⊠ (hy 1)) ⊠ (hy 2))) refl (h0, (h1, (h2, tt))))

-- by h0 + h2*h1
pub e_bound : (n d h : ℤ) → (n *ℤ (pos 1152921504606846976)) ≤ℤ (h *ℤ d) → h ≤ℤ (pos 36028797018963968) → (pos 0) ≤ℤ d → ((pos 32) *ℤ n) ≤ℤ d
e_bound n d h h0 h1 h2 =
    cancel (pos 36028797018963968) ((pos 32) *ℤ n) d (omega (arith, ints))
    (cert (n ∷ d ∷ h ∷ []) ((((va 0) ⊗ (ko (pos 1152921504606846976))) ≼ ((va 2) ⊗ (va 1))) ∷ ((va 2) ≼ (ko (pos 36028797018963968)))
    ∷ ((ko (pos 0)) ≼ (va 1)) ∷ []) ((ko (pos 36028797018963968)) ⊗ ((ko (pos 32)) ⊗ (va 0))) ((ko (pos 36028797018963968)) ⊗ (va 1))
    ((hy 0) ⊞ ((hy 2) ⊠ (hy 1))) refl (h0, (h1, (h2, tt))))

-- by h0 + h1*h2
pub e_sign : (n d l : ℤ) → (l *ℤ d) ≤ℤ (n *ℤ (pos 1152921504606846976)) → (pos 0) ≤ℤ l → (pos 0) ≤ℤ d → (pos 0) ≤ℤ n
e_sign n d l h0 h1 h2 =
    cancel (pos 1152921504606846976) (pos 0) n (omega (arith, ints))
    (cert (n ∷ d ∷ l ∷ []) ((((va 2) ⊗ (va 1)) ≼ ((va 0) ⊗ (ko (pos 1152921504606846976)))) ∷ ((ko (pos 0)) ≼ (va 2)) ∷ ((ko (pos 0)) ≼ (va 1)) ∷ [])
    ((ko (pos 1152921504606846976)) ⊗ (ko (pos 0))) ((ko (pos 1152921504606846976)) ⊗ (va 0)) ((hy 0) ⊞ ((hy 1) ⊠ (hy 2))) refl (h0, (h1, (h2, tt))))
