-- The places that hold the coefficients of a row.
use Rattle.std.proofs.Common.{◌≡◌, ◌≢◌, ◌⊎◌, ⊎_elim, ℕ, zero, suc, ◌+◌, ◌<◌, ◌≤◌, List, [], ◌∷◌, ◌++◌, length, ℤ, pos, neg_ℤ, Option, Some, None, IfSome, replicate, set, unsigned_abs, get_or-set_same, get_or-set_other, length-set, length-append, arith, sym, ap, ◌∙◌, refl, subst}
use Rattle.std.proofs.lemmas.Bool.{cases_eq, cases_lt}
use Rattle.std.proofs.lemmas.List.{get_or_append_left, get_or_push, get_or_past, length-replicate, ext_get_or}
use Rattle.whole_math.specs.Vectors.{zeros}
use Rattle.quadratic_form.specs.MatrixEntries.{coefficient}
use Rattle.quadratic_form.proofs.MatrixEntries.{length_zeros}
use Rattle.obs_rows.specs.declared.arcs.Arc.{Arc}
use Rattle.obs_rows.specs.declared.rows.Row.{Row}
use Rattle.obs_rows.specs.Signals.{cycle}
use Rattle.obs_rows.specs.Integers.{integer_count, integer_place}
use Rattle.obs_rows.specs.Data.{number_at}
use Rattle.obs_rows.specs.SignalGroups.{only_at, signal_row}
use Rattle.quadratic_form.specs.declared.sizes.TheConstants.{MOST_COLUMNS, MOST_FORM_COLUMNS, MOST_INTEGERS}
use Rattle.quadratic_form.proofs.TableLaws.{zero_item}
use Rattle.quadratic_form.specs.Tables.{item}
use Rattle.normal_sum.specs.Places.{put_at}

-- ---- zeros

pub item_zeros : (n k : ℕ) → item (zeros n) k ≡ pos 0
item_zeros zero k = refl
item_zeros (suc n) zero = refl
item_zeros (suc n) (suc k) = item_zeros n k

-- ---- a write
item_set_zero : (t : List ℤ) (i k : ℕ) (v : ℤ) → k ≢ i → item t k ≡ pos 0 → item (set t i v) k ≡ pos 0
item_set_zero t i k v n h = get_or-set_other t i k v (pos 0) n ∙ h

-- the last value after the others
written_last : (t s : List ℤ) (n : ℕ) (y : ℤ) → n < length t → length s ≡ n → ((k : ℕ) → k < n → item t k ≡ item s k) → ((k : ℕ) → n < k → item t k ≡ pos 0) →
    (k : ℕ) → item (set t n y) k ≡ item (s ++ (y ∷ [])) k
written_last t s n y h l before after k = ⊎_elim
    (λ (e : k ≡ n). subst (λ (m : ℕ). item (set t n y) m ≡ item (s ++ (y ∷ [])) m) (sym e) (get_or-set_same t n y (pos 0) h ∙ sym (get_or_push s y (pos 0) n l)))
    (λ (e : k ≡ n → ⊥). get_or-set_other t n k y (pos 0) e ∙ other (order k n e))
    (cases_eq k n)
  where
    order : (k n : ℕ) → (k ≡ n → ⊥) → (k < n) ⊎ (n < k)
    order k n e = grind arith

    other : (k < n) ⊎ (n < k) → item t k ≡ item (s ++ (y ∷ [])) k
    other w = ⊎_elim (λ (g : k < n). before k g ∙ sym (get_or_append_left s (y ∷ []) (pos 0) k (omega arith)))
        (λ (g : n < k). after k g ∙ sym (get_or_past (s ++ (y ∷ [])) k (pos 0) (omega (arith, length-append s (y ∷ []))))) w

one_set : (t s : List ℤ) (i n : ℕ) (v : ℤ) → i < n → n < length t → length s ≡ n → ((k : ℕ) → item t k ≡ pos 0) → ((k : ℕ) → item s k ≡ pos 0) →
    (k : ℕ) → k < n → item (set t i v) k ≡ item (set s i v) k
one_set t s i n v h l m f g k b = ⊎_elim
    (λ (e : k ≡ i). subst (λ (r : ℕ). item (set t i v) r ≡ item (set s i v) r) (sym e) (get_or-set_same t i v (pos 0) (omega arith) ∙ sym (get_or-set_same s i v (pos 0) (omega arith))))
    (λ (e : k ≡ i → ⊥). item_set_zero t i k v e (f k) ∙ sym (item_set_zero s i k v e (g k)))
    (cases_eq k i)

-- after the columns of the baseline
behind : (n : ℕ) (p : Option ℕ) (v y : ℤ) → n ≤ MOST_INTEGERS → IfSome p (λ i. i < n) → (k : ℕ) →
    item (set (elim p as (λ q. List ℤ) [ Some i ↦ set (replicate MOST_FORM_COLUMNS (pos 0)) i v | None ↦ replicate MOST_FORM_COLUMNS (pos 0) ]) n y) k ≡ item (only_at n p v ++ (y ∷ [])) k
behind n None v y h i k = written_last (replicate MOST_FORM_COLUMNS (pos 0)) (zeros n) n y (omega (arith, length-replicate MOST_FORM_COLUMNS (pos 0))) (length_zeros n)
    (λ j g. zero_item MOST_FORM_COLUMNS j ∙ sym (item_zeros n j)) (λ j g. zero_item MOST_FORM_COLUMNS j) k
behind n (Some i) v y h g k = written_last (set (replicate MOST_FORM_COLUMNS (pos 0)) i v) (set (zeros n) i v) n y
    (omega (arith, length-set (replicate MOST_FORM_COLUMNS (pos 0)) i v, length-replicate MOST_FORM_COLUMNS (pos 0))) (length-set (zeros n) i v ∙ length_zeros n)
    (one_set (replicate MOST_FORM_COLUMNS (pos 0)) (zeros n) i n v g (omega (arith, length-replicate MOST_FORM_COLUMNS (pos 0))) (length_zeros n) (zero_item MOST_FORM_COLUMNS) (item_zeros n))
    (λ j l. item_set_zero (replicate MOST_FORM_COLUMNS (pos 0)) i j v (omega arith) (zero_item MOST_FORM_COLUMNS j)) k

-- the whole array
all_places : (n : ℕ) (p : Option ℕ) (a b d v y : ℤ) → n ≤ MOST_INTEGERS → IfSome p (λ i. i < n) → (j : ℕ) →
    item (set (put_at (set (set (set (replicate MOST_COLUMNS (pos 0)) 0 a) 1 b) 2 d) p v) (3 + n) y) j ≡ item (a ∷ (b ∷ (d ∷ (only_at n p v ++ (y ∷ []))))) j
all_places n p a b d v y h i j = rw (three_more n) (opened p i j)
  where
    three_more : (n : ℕ) → 3 + n ≡ suc (suc (suc n))
    three_more n = omega arith

    opened : (p : Option ℕ) → IfSome p (λ i. i < n) → (j : ℕ) →
        item (set (put_at (set (set (set (replicate MOST_COLUMNS (pos 0)) 0 a) 1 b) 2 d) p v) (suc (suc (suc n))) y) j ≡ item (a ∷ (b ∷ (d ∷ (only_at n p v ++ (y ∷ []))))) j
    opened None i zero = refl
    opened None i (suc zero) = refl
    opened None i (suc (suc zero)) = refl
    opened None i (suc (suc (suc k))) = behind n None v y h i k
    opened (Some q) i zero = rw (three_more q) refl
    opened (Some q) i (suc zero) = rw (three_more q) refl
    opened (Some q) i (suc (suc zero)) = rw (three_more q) refl
    opened (Some q) i (suc (suc (suc k))) = rw (three_more q) (behind n (Some q) v y h i k)

pub coefficients_are : (arcs : List Arc) (ss : List ℕ) (s : ℕ) (r : Row) (w : List ℤ) (n : ℕ) (p : Option ℕ) (a b d v y : ℤ) →
    w ≡ put_at (set (set (set (replicate MOST_COLUMNS (pos 0)) 0 a) 1 b) 2 d) p v → n ≤ MOST_INTEGERS → IfSome p (λ i. i < n) →
    n ≡ integer_count arcs ss → p ≡ integer_place arcs ss r.arc s → v ≡ neg_ℤ (cycle s) →
    a ≡ neg_ℤ (number_at r.u 0) → b ≡ neg_ℤ (number_at r.u 1) → d ≡ neg_ℤ (number_at r.u 2) → y ≡ number_at r.y s →
    (j : ℕ) → item (set w (3 + n) y) j ≡ coefficient (signal_row arcs ss s r) j
coefficients_are arcs ss s r w n p a b d v y e h i en ep ev ea eb ed ey j =
    ap (λ (t : List ℤ). item (set t (3 + n) y) j) e ∙ all_places n p a b d v y h i j
    ∙ ap (λ (t : List ℤ). item t j) (ap (λ x. x ∷ (b ∷ (d ∷ (only_at n p v ++ (y ∷ []))))) ea
    ∙ ap (λ x. neg_ℤ (number_at r.u 0) ∷ (x ∷ (d ∷ (only_at n p v ++ (y ∷ []))))) eb
    ∙ ap (λ x. neg_ℤ (number_at r.u 0) ∷ (neg_ℤ (number_at r.u 1) ∷ (x ∷ (only_at n p v ++ (y ∷ []))))) ed
    ∙ ap (λ x. first (only_at x p v ++ (y ∷ []))) en
    ∙ ap (λ (x : Option ℕ). first (only_at (integer_count arcs ss) x v ++ (y ∷ []))) ep
    ∙ ap (λ x. first (only_at (integer_count arcs ss) (integer_place arcs ss r.arc s) x ++ (y ∷ []))) ev
    ∙ ap (λ x. first (only_at (integer_count arcs ss) (integer_place arcs ss r.arc s) (neg_ℤ (cycle s)) ++ (x ∷ []))) ey)
  where
    first : List ℤ → List ℤ
    first t = neg_ℤ (number_at r.u 0) ∷ (neg_ℤ (number_at r.u 1) ∷ (neg_ℤ (number_at r.u 2) ∷ t))

-- ---- sizes
bounded_set : (m : ℕ) (t : List ℤ) (i : ℕ) (v : ℤ) → ((j : ℕ) → unsigned_abs (item t j) ≤ m) → unsigned_abs v ≤ m → (j : ℕ) → unsigned_abs (item (set t i v) j) ≤ m
bounded_set m [] i v h g j = h j
bounded_set m (x ∷ t) zero v h g zero = g
bounded_set m (x ∷ t) zero v h g (suc j) = h (suc j)
bounded_set m (x ∷ t) (suc i) v h g zero = h zero
bounded_set m (x ∷ t) (suc i) v h g (suc j) = bounded_set m t i v (λ k. h (suc k)) g j

bounded_put : (m : ℕ) (t : List ℤ) (p : Option ℕ) (v : ℤ) → ((j : ℕ) → unsigned_abs (item t j) ≤ m) → unsigned_abs v ≤ m → (j : ℕ) → unsigned_abs (item (put_at t p v) j) ≤ m
bounded_put m t None v h g j = h j
bounded_put m t (Some i) v h g j = bounded_set m t (3 + i) v h g j

bounded_zeros : (m n j : ℕ) → unsigned_abs (item (replicate n (pos 0)) j) ≤ m
bounded_zeros m n j = rw (zero_item n j) (omega arith)

pub coefficients_within : (m : ℕ) (w : List ℤ) (n : ℕ) (p : Option ℕ) (a b d v y : ℤ) → w ≡ put_at (set (set (set (replicate MOST_COLUMNS (pos 0)) 0 a) 1 b) 2 d) p v →
    unsigned_abs a ≤ m → unsigned_abs b ≤ m → unsigned_abs d ≤ m → unsigned_abs v ≤ m → unsigned_abs y ≤ m → (j : ℕ) → unsigned_abs (item (set w n y) j) ≤ m
coefficients_within m w n p a b d v y e ha hb hd hv hy j = subst (λ (t : List ℤ). unsigned_abs (item (set t n y) j) ≤ m) (sym e)
    (bounded_set m (put_at w3 p v) n y (bounded_put m w3 p v (bounded_set m w2 2 d (bounded_set m w1 1 b (bounded_set m w0 0 a (bounded_zeros m MOST_COLUMNS) ha) hb) hd) hv) hy j)
  where
    w0 : List ℤ
    w0 = replicate MOST_COLUMNS (pos 0)

    w1 : List ℤ
    w1 = set w0 0 a

    w2 : List ℤ
    w2 = set w1 1 b

    w3 : List ℤ
    w3 = set w2 2 d

-- ---- 0 after the baseline, but at the integer and the constant
put_elsewhere : (t : List ℤ) (p : Option ℕ) (v : ℤ) (j : ℕ) → IfSome p (λ i. j ≢ 3 + i) → item (put_at t p v) j ≡ item t j
put_elsewhere t None v j h = refl
put_elsewhere t (Some i) v j h = get_or-set_other t (3 + i) j v (pos 0) h

pub nothing_elsewhere : (w : List ℤ) (n : ℕ) (p : Option ℕ) (a b d v y : ℤ) → w ≡ put_at (set (set (set (replicate MOST_COLUMNS (pos 0)) 0 a) 1 b) 2 d) p v →
    (j : ℕ) → 3 ≤ j → j ≢ 3 + n → IfSome p (λ i. j ≢ 3 + i) → item (set w (3 + n) y) j ≡ pos 0
nothing_elsewhere w n p a b d v y e j h f g =
    get_or-set_other w (3 + n) j y (pos 0) f
    ∙ ap (λ (t : List ℤ). item t j) e
    ∙ put_elsewhere (set (set (set (replicate MOST_COLUMNS (pos 0)) 0 a) 1 b) 2 d) p v j g
    ∙ item_set_zero (set (set (replicate MOST_COLUMNS (pos 0)) 0 a) 1 b) 2 j d (omega arith)
    (item_set_zero (set (replicate MOST_COLUMNS (pos 0)) 0 a) 1 j b (omega arith) (item_set_zero (replicate MOST_COLUMNS (pos 0)) 0 j a (omega arith) (zero_item MOST_COLUMNS j)))

-- ---- zeros again

zero_set : (t : List ℤ) (i j : ℕ) → (j ≢ i → item t j ≡ pos 0) → item (set t i (pos 0)) j ≡ pos 0
zero_set t i j h = ⊎_elim (λ (e : j ≡ i). by_room (cases_lt i (length t)) e) (λ (e : j ≡ i → ⊥). get_or-set_other t i j (pos 0) (pos 0) e ∙ h e) (cases_eq j i)
  where
    by_room : (i < length t) ⊎ (length t ≤ i) → j ≡ i → item (set t i (pos 0)) j ≡ pos 0
    by_room w e = subst (λ (k : ℕ). item (set t i (pos 0)) k ≡ pos 0) (sym e)
        (⊎_elim (λ (g : i < length t). get_or-set_same t i (pos 0) (pos 0) g) (λ (g : length t ≤ i). get_or_past (set t i (pos 0)) i (pos 0) (omega (arith, length-set t i (pos 0)))) w)

zero_put : (t : List ℤ) (p : Option ℕ) (j : ℕ) → (IfSome p (λ i. j ≢ 3 + i) → item t j ≡ pos 0) → item (put_at t p (pos 0)) j ≡ pos 0
zero_put t None j h = h tt
zero_put t (Some i) j h = zero_set t (3 + i) j h

length_put : (t : List ℤ) (p : Option ℕ) (v : ℤ) → length (put_at t p v) ≡ length t
length_put t None v = refl
length_put t (Some i) v = length-set t (3 + i) v

pub zeros_again : (u t : List ℤ) (n : ℕ) (p : Option ℕ) → u ≡ put_at (set (set (set t 0 (pos 0)) 1 (pos 0)) 2 (pos 0)) p (pos 0) → length t ≡ MOST_COLUMNS
    → ((j : ℕ) → 3 ≤ j → j ≢ 3 + n → IfSome p (λ i. j ≢ 3 + i) → item t j ≡ pos 0) → set u (3 + n) (pos 0) ≡ replicate MOST_COLUMNS (pos 0)
zeros_again u t n p is full others =
    ext_get_or (pos 0) (set u (3 + n) (pos 0)) (replicate MOST_COLUMNS (pos 0)) (count ∙ sym (length-replicate MOST_COLUMNS (pos 0))) (λ j inside. each j ∙ sym (zero_item MOST_COLUMNS j))
  where
    one : List ℤ
    one = set t 0 (pos 0)

    two : List ℤ
    two = set one 1 (pos 0)

    three : List ℤ
    three = set two 2 (pos 0)

    count : length (set u (3 + n) (pos 0)) ≡ MOST_COLUMNS
    count = length-set u (3 + n) (pos 0) ∙ ap (λ (l : List ℤ). length l) is ∙ length_put three p (pos 0) ∙ length-set two 2 (pos 0) ∙ length-set one 1 (pos 0) ∙ length-set t 0 (pos 0) ∙ full

    each : (j : ℕ) → item (set u (3 + n) (pos 0)) j ≡ pos 0
    each j = zero_set u (3 + n) j (λ last. ap (λ (l : List ℤ). item l j) is ∙ zero_put three p j (λ own.
        zero_set two 2 j (λ third. zero_set one 1 j (λ second. zero_set t 0 j (λ first. others j (omega (arith, first, second, third)) last own)))))
