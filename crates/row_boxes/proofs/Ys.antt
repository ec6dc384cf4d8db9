-- The observations of a row: in the order in which the boxes are made, and what follows from boxes that hold them.
use Rattle.std.proofs.Common.{◌≡◌, ◌∙◌, ℕ, zero, suc, ◌+◌, ◌-◌, ◌*◌, ◌^◌, ◌<◌, ⊎_elim, inl, inr, IsTrue, Some, List, [], ◌∷◌, length, get_or, set, ℤ, pos, ◌+ℤ◌, ◌-ℤ◌, ◌*ℤ◌, neg_ℤ, ◌≤ℤ◌, ◌<ℤ◌, unsigned_abs, arith, refl, sym, subst}
use Rattle.std.proofs.lemmas.Int.{ints, by_lt_z}
use Rattle.std.proofs.lemmas.Bool.{cases_eq, false≢true}
use Rattle.std.proofs.lemmas.List.{get_or-set_same, get_or-set_other}
use Rattle.whole_math.specs.Rounding.{IsNearest}
use Rattle.whole_math.proofs.Ring.{va, ko, ng, ◌⊕◌, ◌⊖◌, ◌⊗◌}
use Rattle.whole_math.proofs.Order.{lins, mul_le_right}
use Rattle.whole_math.proofs.Inequalities.{same_by, pos_nn, pos_one}
use Rattle.whole_math.specs.Rational.{Rational, ◌≈◌, ◌<ʳ◌, of_whole, ◌+ʳ◌, ◌-ʳ◌, Near, InBox}
use Rattle.whole_math.proofs.Boxes.{wider}
use Rattle.whole_math.proofs.RationalOrders.{equal_r, ◌≐◌}
use Rattle.iv_core.proofs.SumLaws.{sub_holds}
use Rattle.orbit_model.specs.SeenPlaces.{range_of}
use Rattle.std.specs.Prelude.{slice_get}
use Rattle.obs_rows.specs.Signals.{wavelength, band, is_phase}
use Rattle.obs_rows.specs.Data.{number_at}
use Rattle.row_boxes.specs.Terms.{prefit_width, pseudorange, iota_exponent}
use Rattle.row_boxes.specs.Sightings.{observed, in_row_unit, row_unit, Sighting, computed, y_of, y_in_rows}
use Rattle.row_boxes.specs.YBoxes.{Pairing, HasSightings, HoldsY, HasFarSignal, IsFar, IsWithinHalf, most_radius}
use Rattle.row_boxes.proofs.Values.{computed_is}
use Rattle.row_boxes.proofs.Boxes.{whole_at}
use Rattle.obs_rows.specs.declared.units.TheConstants.{SIGNALS}

-- observed less the difference of two pseudoranges
abbrev pub less_pseudoranges : ℕ → ℤ → Sighting → Sighting → Rational
less_pseudoranges s amount base rover = observed s amount -ʳ (pseudorange (range_of rover.travel) rover.clock -ʳ pseudorange (range_of base.travel) base.clock)

pub whole_sum : (w g k : ℤ) → w ≡ g +ℤ k → of_whole w ≈ of_whole g +ʳ of_whole k
whole_sum w g k e = omega (arith, ints)

-- ---- one whole number in place of the group and the shift
pub y_is : (s : ℕ) (amount group shift w : ℤ) (base rover : Sighting) → w ≡ group +ℤ (wavelength s *ℤ shift) →
    less_pseudoranges s amount base rover -ʳ of_whole w ≈ y_of s amount group shift base rover
y_is s amount group shift w base rover e =
    equal_r (observed s amount ∷ (pseudorange (range_of rover.travel) rover.clock -ʳ pseudorange (range_of base.travel) base.clock) ∷ computed base rover ∷ of_whole group ∷ of_whole
    (wavelength s *ℤ shift) ∷ of_whole w ∷ [])
    ((va 1 ≐ va 2) ∷ (va 5 ≐ va 3 ⊕ va 4) ∷ []) (ng (ko (pos 1)) ∷ ng (ko (pos 1)) ∷ []) ((va 0 ⊖ va 1) ⊖ va 5) (((va 0 ⊖ va 2) ⊖ va 3) ⊖ va 4) refl
    (computed_is (range_of rover.travel) (range_of base.travel) rover.clock base.clock, (whole_sum w group (wavelength s *ℤ shift) e, tt))

pub y_in_rows_is : (scale s : ℕ) (amount group shift w : ℤ) (base rover : Sighting) → w ≡ group +ℤ (wavelength s *ℤ shift) →
    in_row_unit scale (less_pseudoranges s amount base rover -ʳ of_whole w) ≈ y_in_rows scale s amount group shift base rover
y_in_rows_is scale s amount group shift w base rover e =
    equal_r (row_unit scale ∷ observed s amount ∷ (pseudorange (range_of rover.travel) rover.clock -ʳ
    pseudorange (range_of base.travel) base.clock) ∷ computed base rover ∷ of_whole group ∷ of_whole (wavelength s *ℤ shift) ∷ of_whole w ∷ [])
    ((va 2 ≐ va 3) ∷ (va 6 ≐ va 4 ⊕ va 5) ∷ []) (ng (va 0) ∷ ng (va 0) ∷ []) (va 0 ⊗ ((va 1 ⊖ va 2) ⊖ va 6)) (va 0 ⊗ (((va 1 ⊖ va 3) ⊖ va 4) ⊖ va 5)) refl
    (computed_is (range_of rover.travel) (range_of base.travel) rover.clock base.clock, (whole_sum w group (wavelength s *ℤ shift) e, tt))

-- another group
pub group_moved : (s : ℕ) (amount group other shift : ℤ) (base rover : Sighting) → y_of s amount group shift base rover -ʳ of_whole (other -ℤ group) ≈ y_of s amount other shift base rover
group_moved s amount group other shift base rover =
    equal_r ((observed s amount -ʳ computed base rover) ∷ of_whole group ∷ of_whole other ∷ of_whole (wavelength s *ℤ shift) ∷ of_whole (other -ℤ group) ∷ [])
    ((va 2 ≐ va 1 ⊕ va 4) ∷ []) (ko (pos 1) ∷ []) (((va 0 ⊖ va 1) ⊖ va 3) ⊖ va 4) ((va 0 ⊖ va 2) ⊖ va 3) refl
    (whole_sum other group (other -ℤ group) (sum other group), tt)
  where
    sum : (a b : ℤ) → a ≡ b +ℤ (a -ℤ b)
    sum a b = omega (arith, ints)

-- ---- the nearest whole numbers
pub half_group : (lo hi g : ℤ) → (hi -ℤ lo) ≤ℤ prefit_width → IsNearest lo (2 ^ 15) g →
    (neg_ℤ (pos (2 ^ 14)) ≤ℤ (lo -ℤ (g *ℤ pos 32768))) × ((hi -ℤ (g *ℤ pos 32768)) ≤ℤ (pos (2 ^ 14) +ℤ prefit_width))
half_group lo hi g h k = (low k.0, high h k.1)
  where
    low : (pos 2 *ℤ (g *ℤ pos (2 ^ 15))) ≤ℤ ((pos 2 *ℤ lo) +ℤ pos (2 ^ 15)) → neg_ℤ (pos (2 ^ 14)) ≤ℤ (lo -ℤ (g *ℤ pos 32768))
    low h = omega (arith, ints)

    high : (hi -ℤ lo) ≤ℤ prefit_width → ((pos 2 *ℤ lo) +ℤ pos (2 ^ 15)) <ℤ ((pos 2 *ℤ (g *ℤ pos (2 ^ 15))) +ℤ (pos 2 *ℤ pos (2 ^ 15))) → (hi -ℤ (g *ℤ pos 32768)) ≤ℤ (pos (2 ^ 14) +ℤ prefit_width)
    high h k = omega (arith, ints)

-- cycles of n ι, which are m units of 2^-15 ι
pub half_cycle : (lo hi g k n : ℤ) (m : ℕ) → pos m ≡ n *ℤ pos (2 ^ 15) → (hi -ℤ lo) ≤ℤ prefit_width → IsNearest (lo -ℤ (g *ℤ pos (2 ^ 15))) m k →
    (neg_ℤ (n *ℤ pos (2 ^ 14)) ≤ℤ (lo -ℤ ((g +ℤ (n *ℤ k)) *ℤ pos 32768))) × ((hi -ℤ ((g +ℤ (n *ℤ k)) *ℤ pos 32768)) ≤ℤ ((n *ℤ pos (2 ^ 14)) +ℤ prefit_width))
half_cycle lo hi g k n m e h i =
    let same_half_cycle : k *ℤ pos m ≡ (n *ℤ k) *ℤ pos (2 ^ 15) = subst (λ (z : ℤ). k *ℤ z ≡ (n *ℤ k) *ℤ pos (2 ^ 15)) (sym e) (same_by (k ∷ n ∷ pos (2 ^ 15) ∷ []) (λ k n t. (k ⊗ (n ⊗ t), (n ⊗ k) ⊗ t)) refl) in
    (low (n *ℤ k) (k *ℤ pos m) (pos m) same_half_cycle e i.0, high (n *ℤ k) (k *ℤ pos m) (pos m) same_half_cycle e h i.1)
  where
    low : (x y t : ℤ) → y ≡ x *ℤ pos (2 ^ 15) → t ≡ n *ℤ pos (2 ^ 15) → (pos 2 *ℤ y) ≤ℤ ((pos 2 *ℤ (lo -ℤ (g *ℤ pos (2 ^ 15)))) +ℤ t) → neg_ℤ (n *ℤ pos (2 ^ 14)) ≤ℤ (lo -ℤ ((g +ℤ x) *ℤ pos 32768))
    low x y t e f h = omega (arith, ints)

    high : (x y t : ℤ) → y ≡ x *ℤ pos (2 ^ 15) → t ≡ n *ℤ pos (2 ^ 15) → (hi -ℤ lo) ≤ℤ prefit_width → ((pos 2 *ℤ (lo -ℤ (g *ℤ pos (2 ^ 15)))) +ℤ t) <ℤ ((pos 2 *ℤ y) +ℤ (pos 2 *ℤ t)) →
        (hi -ℤ ((g +ℤ x) *ℤ pos 32768)) ≤ℤ ((n *ℤ pos (2 ^ 14)) +ℤ prefit_width)
    high x y t e f h k = omega (arith, ints)

pub within_half : (n lo hi w : ℤ) (q : Rational) →
    (neg_ℤ (n *ℤ pos (2 ^ 14)) ≤ℤ (lo -ℤ (w *ℤ pos 32768))) × ((hi -ℤ (w *ℤ pos 32768)) ≤ℤ ((n *ℤ pos (2 ^ 14)) +ℤ prefit_width)) → InBox iota_exponent lo hi q → IsWithinHalf n (q -ʳ of_whole w)
within_half n lo hi w q h i = wider 15 (lo -ℤ (w *ℤ pos 32768)) (hi -ℤ (w *ℤ pos 32768)) (neg_ℤ (n *ℤ pos (2 ^ 14))) ((n *ℤ pos (2 ^ 14)) +ℤ prefit_width) (q -ʳ of_whole w) h.0 h.1
    (sub_holds 15 lo hi (w *ℤ pos 32768) (w *ℤ pos 32768) q (of_whole w) i (whole_at w))

-- ---- what lies in a box whose centre is far out
near_more : (a b n d : ℤ) → pos 1 ≤ℤ d → (a +ℤ pos 1) ≤ℤ b → (b *ℤ d) ≤ℤ n → pos 0 ≤ℤ d → (a *ℤ d) <ℤ n
near_more a b n d d1 h i d0 = step (a *ℤ d) (b *ℤ d) n d ((a +ℤ pos 1) *ℤ d) d1 (mul_le_right d (a +ℤ pos 1) b d0 h) i (same_by (a ∷ d ∷ []) (λ a d. ((a ⊕ ko (pos 1)) ⊗ d, (a ⊗ d) ⊕ d)) refl)
  where
    step : (x y n d z : ℤ) → pos 1 ≤ℤ d → z ≤ℤ y → y ≤ℤ n → z ≡ x +ℤ d → x <ℤ n
    step x y n d z h i j e = omega (arith, lins)

near_less : (a b n d : ℤ) → pos 1 ≤ℤ d → (b +ℤ pos 1) ≤ℤ a → n ≤ℤ (b *ℤ d) → pos 0 ≤ℤ d → n <ℤ (a *ℤ d)
near_less a b n d d1 h i d0 = step (a *ℤ d) (b *ℤ d) n d ((b +ℤ pos 1) *ℤ d) d1 (mul_le_right d (b +ℤ pos 1) a d0 h) i (same_by (b ∷ d ∷ []) (λ b d. ((b ⊕ ko (pos 1)) ⊗ d, (b ⊗ d) ⊕ d)) refl)
  where
    step : (x y n d z : ℤ) → pos 1 ≤ℤ d → z ≤ℤ x → n ≤ℤ y → z ≡ y +ℤ d → n <ℤ x
    step x y n d z h i j e = omega (arith, lins)

pub far_from : (c r : ℤ) (q : Rational) → 2 ^ 34 < unsigned_abs c → r ≤ℤ most_radius 0 → Near c r q → IsFar q
far_from c r q h k n = by_lt_z (pos 0) c
    (λ (up : pos 0 <ℤ c). inr_left (near_more (pos (2 ^ 34 - 2 ^ 12)) (c -ℤ r) (q.num *ℤ pos 1) (pos q.den) (pos_one q.den q.positive) (above c r h k up) n.0 (pos_nn q.den)))
    (λ (down : c ≤ℤ pos 0). inr_right (near_less (neg_ℤ (pos (2 ^ 34 - 2 ^ 12))) (c +ℤ r) (q.num *ℤ pos 1) (pos q.den) (pos_one q.den q.positive) (below c r h k down) n.1 (pos_nn q.den)))
  where
    above : (c r : ℤ) → 2 ^ 34 < unsigned_abs c → r ≤ℤ most_radius 0 → pos 0 <ℤ c → (pos (2 ^ 34 - 2 ^ 12) +ℤ pos 1) ≤ℤ (c -ℤ r)
    above c r h k l = omega (arith, ints)

    below : (c r : ℤ) → 2 ^ 34 < unsigned_abs c → r ≤ℤ most_radius 0 → c ≤ℤ pos 0 → ((c +ℤ r) +ℤ pos 1) ≤ℤ neg_ℤ (pos (2 ^ 34 - 2 ^ 12))
    below c r h k l = omega (arith, ints)

    inr_left : of_whole (pos (2 ^ 34 - 2 ^ 12)) <ʳ q → IsFar q
    inr_left h = inl h

    inr_right : q <ʳ of_whole (neg_ℤ (pos (2 ^ 34 - 2 ^ 12))) → IsFar q
    inr_right h = inr h

-- a greater radius
pub near_looser : (c r s : ℤ) (q : Rational) → r ≤ℤ s → Near c r q → Near c s q
near_looser c r s q h n = wider 0 (c -ℤ r) (c +ℤ r) (c -ℤ s) (c +ℤ s) q (low c r s h) (high c r s h) n
  where
    low : (c r s : ℤ) → r ≤ℤ s → (c -ℤ s) ≤ℤ (c -ℤ r)
    low c r s h = omega (arith, ints)

    high : (c r s : ℤ) → r ≤ℤ s → (c +ℤ r) ≤ℤ (c +ℤ s)
    high c r s h = omega (arith, ints)

-- ---- the signals that count, one by one
pub far_signal : (p : Pairing) (ss : List ℕ) (scale place s : ℕ) (amounts shift : List ℤ) (group centre radius : ℤ) → slice_get ss place ≡ Some s → radius ≤ℤ most_radius 0 →
    2 ^ 34 < unsigned_abs centre →
    HoldsY p scale s (number_at amounts s) group (number_at shift (band s)) centre radius → HasSightings p → HasFarSignal p ss scale amounts group shift
far_signal p ss scale place s amounts shift group centre radius is small far holds has = record {
  signal = s;
  place = place;
  counts = is;
  far = record {
    base = has.base.sighting;
    rover = has.rover.sighting;
    are = record { base_is = has.base.is; rover_is = has.rover.is };
    far = far_from centre radius (y_in_rows scale s (number_at amounts s) group (number_at shift (band s)) has.base.sighting has.rover.sighting) far small
        (holds has.base.sighting has.rover.sighting (record { base_is = has.base.is; rover_is = has.rover.is }));
  };
}

y_looser : (p : Pairing) (scale s : ℕ) (amount group shift centre r ry : ℤ) → r ≤ℤ ry → HoldsY p scale s amount group shift centre r → HoldsY p scale s amount group shift centre ry
y_looser p scale s amount group shift centre r ry l h = λ b q a. near_looser centre r ry (y_in_rows scale s amount group shift b q) l (h b q a)

-- the signal's place in the lists of amounts, shifts and centres
abbrev pub HoldsAt : Pairing → ℕ → List ℤ → ℤ → List ℤ → List ℤ → ℤ → ℕ → Type 0
HoldsAt p scale amounts group shift y ry s = HoldsY p scale s (number_at amounts s) group (number_at shift (band s)) (number_at y s) ry

pub before_last : (k i : ℕ) → k < i + 1 → (k ≡ i → ⊥) → k < i
before_last k i h n = omega arith

-- the signals before place i and that at it
pub one_more : (p : Pairing) (scale : ℕ) (amounts : List ℤ) (group : ℤ) (shift y : List ℤ) (ss : List ℕ) (i : ℕ) (c r q z : ℤ) → get_or ss i 0 < length y → q ≤ℤ z → r ≤ℤ z →
    HoldsY p scale (get_or ss i 0) (number_at amounts (get_or ss i 0)) group (number_at shift (band (get_or ss i 0))) c r →
    ((k : ℕ) → k < i → HoldsAt p scale amounts group shift y q (get_or ss k 0)) →
    (k : ℕ) → k < i + 1 → HoldsAt p scale amounts group shift (set y (get_or ss i 0) c) z (get_or ss k 0)
one_more p scale amounts group shift y ss i c r q z inside hq hr h hs k hk = ⊎_elim
    (λ (e : get_or ss k 0 ≡ get_or ss i 0). subst (HoldsAt p scale amounts group shift (set y (get_or ss i 0) c) z) (sym e)
    (subst (λ (x : ℤ). HoldsY p scale (get_or ss i 0) (number_at amounts (get_or ss i 0)) group (number_at shift (band (get_or ss i 0))) x z) (sym (get_or-set_same y (get_or ss i 0) c (pos 0) inside))
    (y_looser p scale (get_or ss i 0) (number_at amounts (get_or ss i 0)) group (number_at shift (band (get_or ss i 0))) c r z hr h)))
    (λ (n : get_or ss k 0 ≡ get_or ss i 0 → ⊥).
    subst (λ (x : ℤ). HoldsY p scale (get_or ss k 0) (number_at amounts (get_or ss k 0)) group (number_at shift (band (get_or ss k 0))) x z)
    (sym (get_or-set_other y (get_or ss i 0) (get_or ss k 0) c (pos 0) n))
    (y_looser p scale (get_or ss k 0) (number_at amounts (get_or ss k 0)) group (number_at shift (band (get_or ss k 0))) (number_at y (get_or ss k 0)) q z hq
    (hs k (before_last k i hk (λ (e : k ≡ i). n (subst (λ (j : ℕ). get_or ss k 0 ≡ get_or ss j 0) e refl))))))
    (cases_eq (get_or ss k 0) (get_or ss i 0))

pub zero_off : (y : List ℤ) (s t : ℕ) (c : ℤ) → (s ≡ t → ⊥) → number_at y t ≡ pos 0 → number_at (set y s c) t ≡ pos 0
zero_off y s t c n z = get_or-set_other y s t c (pos 0) (λ (e : t ≡ s). n (sym e)) ∙ z

-- ---- phases
pub cycle_units : (s : ℕ) → s < SIGNALS → IsTrue (is_phase s) → pos (unsigned_abs (wavelength s) * 2 ^ 15) ≡ wavelength s *ℤ pos (2 ^ 15)
cycle_units zero h p = refl
cycle_units (suc zero) h p = refl
cycle_units (suc (suc zero)) h p = absurd (false≢true p)
cycle_units (suc (suc (suc zero))) h p = absurd (false≢true p)
cycle_units (suc (suc (suc (suc zero)))) h p = refl
cycle_units (suc (suc (suc (suc (suc zero))))) h p = absurd (false≢true p)
cycle_units (suc (suc (suc (suc (suc (suc s)))))) h p = absurd (omega arith)

pub long_cycle : (s : ℕ) → s < SIGNALS → IsTrue (is_phase s) → pos 1000 ≤ℤ wavelength s
long_cycle zero h p = omega (arith, ints)
long_cycle (suc zero) h p = omega (arith, ints)
long_cycle (suc (suc zero)) h p = absurd (false≢true p)
long_cycle (suc (suc (suc zero))) h p = absurd (false≢true p)
long_cycle (suc (suc (suc (suc zero)))) h p = omega (arith, ints)
long_cycle (suc (suc (suc (suc (suc zero))))) h p = absurd (false≢true p)
long_cycle (suc (suc (suc (suc (suc (suc s)))))) h p = absurd (omega arith)
