-- The entries of the constant's column, by the sums of the observations; and what a code adds elsewhere.
use Rattle.std.proofs.Common.{◌≡◌, ◌≢◌, ◌⊎◌, inl, inr, ⊎_elim, ℕ, zero, suc, ◌+◌, ◌/◌, ◌<◌, ◌≤◌, List, [], ◌∷◌, ◌++◌, Option, Some, None, ℤ, pos, neg_ℤ, ◌+ℤ◌, ◌-ℤ◌, ◌*ℤ◌, length, map, length-append, length-set, arith, sym, ap, ap₂, ◌∙◌, refl, subst}
use Rattle.std.proofs.lemmas.List.{length-map, get_or_append_left, get_or_push, get_or_past}
use Rattle.std.proofs.lemmas.Bool.{cases_eq, cases_lt}
use Rattle.whole_math.specs.Vectors.{zeros}
use Rattle.whole_math.proofs.Vectors.{len_is}
use Rattle.whole_math.proofs.Ring.{◌⊕◌, ◌⊖◌, ◌⊗◌}
use Rattle.whole_math.proofs.Inequalities.{same_by, nat}
use Rattle.quadratic_form.specs.Rows.{SignalRow}
use Rattle.quadratic_form.specs.MatrixEntries.{coefficient, coefficient_sum, product_sum, group_entry}
use Rattle.quadratic_form.proofs.MatrixEntries.{length_zeros}
use Rattle.obs_rows.specs.declared.arcs.Arc.{Arc}
use Rattle.obs_rows.specs.declared.rows.Row.{Row}
use Rattle.obs_rows.specs.declared.pair_rows.PairRows.{PairRows}
use Rattle.obs_rows.specs.Data.{number_at}
use Rattle.obs_rows.specs.Signals.{weight, cycle}
use Rattle.obs_rows.specs.Integers.{integer_count, integer_place}
use Rattle.obs_rows.specs.SumOfSquares.{share}
use Rattle.obs_rows.specs.SignalGroups.{only_at, signal_row, signal_group}
use Rattle.quadratic_form.specs.declared.sizes.TheConstants.{BASELINE_COLUMNS}
use Rattle.quadratic_form.specs.Tables.{entry, item}
use Rattle.normal_sum.specs.Directions.{direction_sum}
use Rattle.normal_sum.specs.Places.{SeesNone}
use Rattle.normal_sum.specs.Observations.{observation_sum, observation_products, observation_squares, axis_spread, observation_spread}
use Rattle.normal_sum.proofs.RowSums.{times_nothing}
use Rattle.normal_sum.proofs.CoefficientPlaces.{item_zeros}
use Rattle.normal_sum.proofs.DirectionLaws.{turned, axis, sum_is}

-- ---- a row's coefficient of the constant
length_only : (n : ℕ) (p : Option ℕ) (v : ℤ) → length (only_at n p v) ≡ n
length_only n None v = length_zeros n
length_only n (Some i) v = length-set (zeros n) i v ∙ length_zeros n

three_more : (n : ℕ) → 3 + n ≡ suc (suc (suc n))
three_more n = omega arith

last_item : (a b d y : ℤ) (t : List ℤ) (n : ℕ) → length t ≡ n → item (a ∷ (b ∷ (d ∷ (t ++ (y ∷ []))))) (3 + n) ≡ y
last_item a b d y t n l = rw (three_more n) (get_or_push t y (pos 0) n l)

constant : (arcs : List Arc) (ss : List ℕ) (s : ℕ) (r : Row) (last : ℕ) → last ≡ BASELINE_COLUMNS + integer_count arcs ss → coefficient (signal_row arcs ss s r) last ≡ number_at r.y s
constant arcs ss s r last e = ap (coefficient (signal_row arcs ss s r)) e
    ∙ last_item (neg_ℤ (number_at r.u 0)) (neg_ℤ (number_at r.u 1)) (neg_ℤ (number_at r.u 2)) (number_at r.y s) (only_at (integer_count arcs ss) (integer_place arcs ss r.arc s) (neg_ℤ (cycle s)))
    (integer_count arcs ss) (length_only (integer_count arcs ss) (integer_place arcs ss r.arc s) (neg_ℤ (cycle s)))

-- ---- sums over rows
sums_are : (arcs : List Arc) (ss : List ℕ) (s : ℕ) (rows : List Row) (last : ℕ) → last ≡ BASELINE_COLUMNS + integer_count arcs ss →
    coefficient_sum (map (signal_row arcs ss s) rows) last ≡ observation_sum rows s
sums_are arcs ss s [] last e = refl
sums_are arcs ss s (r ∷ rs) last e = ap₂ (λ x y. x +ℤ y) (constant arcs ss s r last e) (sums_are arcs ss s rs last e)

next_turned : (a b p : ℤ) → (turned a *ℤ b) +ℤ turned p ≡ turned ((a *ℤ b) +ℤ p)
next_turned a b p = same_by (a ∷ b ∷ p ∷ []) (λ a b p. ((nat 0 ⊖ a) ⊗ b ⊕ (nat 0 ⊖ p), nat 0 ⊖ (a ⊗ b ⊕ p))) refl

products_are : (arcs : List Arc) (ss : List ℕ) (s : ℕ) (rows : List Row) (i last : ℕ) → i < BASELINE_COLUMNS → last ≡ BASELINE_COLUMNS + integer_count arcs ss →
    product_sum (map (signal_row arcs ss s) rows) i last ≡ turned (observation_products rows i s)
products_are arcs ss s [] i last h e = refl
products_are arcs ss s (r ∷ rs) i last h e =
    ap₂ (λ x y. x +ℤ y) (ap₂ (λ x y. x *ℤ y) (axis arcs ss s r i h) (constant arcs ss s r last e)) (products_are arcs ss s rs i last h e)
    ∙ next_turned (number_at r.u i) (number_at r.y s) (observation_products rs i s)

squares_are : (arcs : List Arc) (ss : List ℕ) (s : ℕ) (rows : List Row) (last : ℕ) → last ≡ BASELINE_COLUMNS + integer_count arcs ss →
    product_sum (map (signal_row arcs ss s) rows) last last ≡ observation_squares rows s
squares_are arcs ss s [] last e = refl
squares_are arcs ss s (r ∷ rs) last e =
    ap₂ (λ x y. x +ℤ y) (ap₂ (λ x y. x *ℤ y) (constant arcs ss s r last e) (constant arcs ss s r last e)) (squares_are arcs ss s rs last e)

-- ---- the entries
opened : (arcs : List Arc) (ss : List ℕ) (p : PairRows) (s i j : ℕ) (q a b : ℤ) → product_sum (map (signal_row arcs ss s) p.rows) i j ≡ q → coefficient_sum (map (signal_row arcs ss s) p.rows) i ≡ a →
    coefficient_sum (map (signal_row arcs ss s) p.rows) j ≡ b → group_entry (signal_group arcs ss p s) i j ≡ share (length p.rows) s *ℤ ((pos (length p.rows) *ℤ q) -ℤ (a *ℤ b))
opened arcs ss p s i j q a b product first second =
    ap (λ z. (pos (360360 / length seen) *ℤ weight s) *ℤ ((z *ℤ product_sum seen i j) -ℤ (coefficient_sum seen i *ℤ coefficient_sum seen j))) (len_is seen)
    ∙ ap (λ (n : ℕ). (pos (360360 / n) *ℤ weight s) *ℤ ((pos n *ℤ product_sum seen i j) -ℤ (coefficient_sum seen i *ℤ coefficient_sum seen j))) (length-map p.rows (signal_row arcs ss s))
    ∙ ap (λ z. share (length p.rows) s *ℤ ((pos (length p.rows) *ℤ z) -ℤ (coefficient_sum seen i *ℤ coefficient_sum seen j))) product
    ∙ ap (λ z. share (length p.rows) s *ℤ ((pos (length p.rows) *ℤ q) -ℤ (z *ℤ coefficient_sum seen j))) first
    ∙ ap (λ z. share (length p.rows) s *ℤ ((pos (length p.rows) *ℤ q) -ℤ (a *ℤ z))) second
  where
    seen : List SignalRow
    seen = map (signal_row arcs ss s) p.rows

less : (x f n p s t : ℤ) → x -ℤ (f *ℤ ((n *ℤ p) -ℤ (s *ℤ t))) ≡ x +ℤ (f *ℤ ((n *ℤ turned p) -ℤ (turned s *ℤ t)))
less x f n p s t = same_by (x ∷ f ∷ n ∷ p ∷ s ∷ t ∷ []) (λ x f n p s t. (x ⊖ f ⊗ (n ⊗ p ⊖ s ⊗ t), x ⊕ f ⊗ (n ⊗ (nat 0 ⊖ p) ⊖ (nat 0 ⊖ s) ⊗ t))) refl

-- of an axis and the constant
pub axis_entry : (arcs : List Arc) (ss : List ℕ) (p : PairRows) (s i last : ℕ) (x : ℤ) → i < BASELINE_COLUMNS → last ≡ BASELINE_COLUMNS + integer_count arcs ss →
    x -ℤ (share (length p.rows) s *ℤ axis_spread p.rows i s) ≡ x +ℤ group_entry (signal_group arcs ss p s) i last
axis_entry arcs ss p s i last x h e = less x (share (length p.rows) s) (pos (length p.rows)) (observation_products p.rows i s) (direction_sum p.rows i) (observation_sum p.rows s)
    ∙ ap (λ z. x +ℤ z) (sym (opened arcs ss p s i last (turned (observation_products p.rows i s)) (turned (direction_sum p.rows i)) (observation_sum p.rows s)
    (products_are arcs ss s p.rows i last h e) (sum_is arcs ss s p.rows i h) (sums_are arcs ss s p.rows last e)))

-- of the constant with itself
pub constant_entry : (arcs : List Arc) (ss : List ℕ) (p : PairRows) (s last : ℕ) → last ≡ BASELINE_COLUMNS + integer_count arcs ss →
    share (length p.rows) s *ℤ observation_spread p.rows s ≡ group_entry (signal_group arcs ss p s) last last
constant_entry arcs ss p s last e = sym (opened arcs ss p s last last (observation_squares p.rows s) (observation_sum p.rows s) (observation_sum p.rows s)
    (squares_are arcs ss s p.rows last e) (sums_are arcs ss s p.rows last e) (sums_are arcs ss s p.rows last e))

-- ---- a code sees no integer
inner_item : (a b d y : ℤ) (n j : ℕ) → BASELINE_COLUMNS ≤ j → j ≢ 3 + n → item (a ∷ (b ∷ (d ∷ (zeros n ++ (y ∷ []))))) j ≡ pos 0
inner_item a b d y n zero h f = absurd (omega arith)
inner_item a b d y n (suc zero) h f = absurd (omega arith)
inner_item a b d y n (suc (suc zero)) h f = absurd (omega arith)
inner_item a b d y n (suc (suc (suc k))) h f = ⊎_elim
    (λ (g : k < n). get_or_append_left (zeros n) (y ∷ []) (pos 0) k (omega (arith, length_zeros n)) ∙ item_zeros n k)
    (λ (g : n < k). get_or_past (zeros n ++ (y ∷ [])) k (pos 0) (omega (arith, length-append (zeros n) (y ∷ []), length_zeros n)))
    (order k n (λ e. f (omega (arith, e))))
  where
    order : (k n : ℕ) → (k ≡ n → ⊥) → (k < n) ⊎ (n < k)
    order k n e = grind arith

coefficient_nothing : (arcs : List Arc) (ss : List ℕ) (s : ℕ) (r : Row) (j last : ℕ) → integer_place arcs ss r.arc s ≡ None → last ≡ BASELINE_COLUMNS + integer_count arcs ss → BASELINE_COLUMNS ≤ j →
    j ≢ last → coefficient (signal_row arcs ss s r) j ≡ pos 0
coefficient_nothing arcs ss s r j last none e h f =
    ap (λ (p : Option ℕ). item (neg_ℤ (number_at r.u 0) ∷ (neg_ℤ (number_at r.u 1) ∷ (neg_ℤ (number_at r.u 2) ∷ (only_at (integer_count arcs ss) p (neg_ℤ (cycle s)) ++ (number_at r.y s ∷ []))))) j) none
    ∙ inner_item (neg_ℤ (number_at r.u 0)) (neg_ℤ (number_at r.u 1)) (neg_ℤ (number_at r.u 2)) (number_at r.y s) (integer_count arcs ss) j h (λ g. f (g ∙ sym e))

nothing_times : (x y : ℤ) → x ≡ pos 0 → x *ℤ y ≡ pos 0
nothing_times x y e = ap (λ z. z *ℤ y) e ∙ same_by (y ∷ []) (λ y. (nat 0 ⊗ y, nat 0)) refl

sum_nothing : (arcs : List Arc) (ss : List ℕ) (s : ℕ) (rows : List Row) (j last : ℕ) → SeesNone arcs ss s rows → last ≡ BASELINE_COLUMNS + integer_count arcs ss → BASELINE_COLUMNS ≤ j → j ≢ last →
    coefficient_sum (map (signal_row arcs ss s) rows) j ≡ pos 0
sum_nothing arcs ss s [] j last none e h f = refl
sum_nothing arcs ss s (r ∷ rs) j last none e h f =
    ap₂ (λ x y. x +ℤ y) (coefficient_nothing arcs ss s r j last (none 0 r (omega arith)) e h f) (sum_nothing arcs ss s rs j last (λ k d l. none (suc k) d (omega arith)) e h f)

first_nothing : (arcs : List Arc) (ss : List ℕ) (s : ℕ) (rows : List Row) (i j last : ℕ) → SeesNone arcs ss s rows → last ≡ BASELINE_COLUMNS + integer_count arcs ss → BASELINE_COLUMNS ≤ i → i ≢ last →
    product_sum (map (signal_row arcs ss s) rows) i j ≡ pos 0
first_nothing arcs ss s [] i j last none e h f = refl
first_nothing arcs ss s (r ∷ rs) i j last none e h f =
    ap₂ (λ x y. x +ℤ y) (nothing_times (coefficient (signal_row arcs ss s r) i) (coefficient (signal_row arcs ss s r) j) (coefficient_nothing arcs ss s r i last (none 0 r (omega arith)) e h f))
    (first_nothing arcs ss s rs i j last (λ k d l. none (suc k) d (omega arith)) e h f)

second_nothing : (arcs : List Arc) (ss : List ℕ) (s : ℕ) (rows : List Row) (i j last : ℕ) → SeesNone arcs ss s rows → last ≡ BASELINE_COLUMNS + integer_count arcs ss → BASELINE_COLUMNS ≤ j → j ≢ last →
    product_sum (map (signal_row arcs ss s) rows) i j ≡ pos 0
second_nothing arcs ss s [] i j last none e h f = refl
second_nothing arcs ss s (r ∷ rs) i j last none e h f =
    ap₂ (λ x y. x +ℤ y) (times_nothing (coefficient (signal_row arcs ss s r) i) (coefficient (signal_row arcs ss s r) j) (coefficient_nothing arcs ss s r j last (none 0 r (omega arith)) e h f))
    (second_nothing arcs ss s rs i j last (λ k d l. none (suc k) d (omega arith)) e h f)

none_left : (f n b x : ℤ) → x +ℤ (f *ℤ ((n *ℤ pos 0) -ℤ (pos 0 *ℤ b))) ≡ x
none_left f n b x = same_by (f ∷ n ∷ b ∷ x ∷ []) (λ f n b x. (x ⊕ f ⊗ (n ⊗ nat 0 ⊖ nat 0 ⊗ b), x)) refl

none_right : (f n a x : ℤ) → x +ℤ (f *ℤ ((n *ℤ pos 0) -ℤ (a *ℤ pos 0))) ≡ x
none_right f n a x = same_by (f ∷ n ∷ a ∷ x ∷ []) (λ f n a x. (x ⊕ f ⊗ (n ⊗ nat 0 ⊖ a ⊗ nat 0), x)) refl

pub no_entry_first : (arcs : List Arc) (ss : List ℕ) (p : PairRows) (s i j last : ℕ) (x : ℤ) → SeesNone arcs ss s p.rows → last ≡ BASELINE_COLUMNS + integer_count arcs ss → BASELINE_COLUMNS ≤ i → i ≢ last →
    x ≡ x +ℤ group_entry (signal_group arcs ss p s) i j
no_entry_first arcs ss p s i j last x none e h f = sym (ap (λ z. x +ℤ z)
    (opened arcs ss p s i j (pos 0) (pos 0) (coefficient_sum (map (signal_row arcs ss s) p.rows) j) (first_nothing arcs ss s p.rows i j last none e h f) (sum_nothing arcs ss s p.rows i last none e h f) refl)
    ∙ none_left (share (length p.rows) s) (pos (length p.rows)) (coefficient_sum (map (signal_row arcs ss s) p.rows) j) x)

pub no_entry_second : (arcs : List Arc) (ss : List ℕ) (p : PairRows) (s i j last : ℕ) (x : ℤ) → SeesNone arcs ss s p.rows → last ≡ BASELINE_COLUMNS + integer_count arcs ss → BASELINE_COLUMNS ≤ j → j ≢ last →
    x ≡ x +ℤ group_entry (signal_group arcs ss p s) i j
no_entry_second arcs ss p s i j last x none e h f = sym (ap (λ z. x +ℤ z)
    (opened arcs ss p s i j (pos 0) (coefficient_sum (map (signal_row arcs ss s) p.rows) i) (pos 0) (second_nothing arcs ss s p.rows i j last none e h f) refl (sum_nothing arcs ss s p.rows j last none e h f))
    ∙ none_right (share (length p.rows) s) (pos (length p.rows)) (coefficient_sum (map (signal_row arcs ss s) p.rows) i) x)

-- all entries after the columns of the baseline that a code adds to, from those of the constant's column
pub code_entries : (arcs : List Arc) (ss : List ℕ) (p : PairRows) (s integers : ℕ) (t u : List (List ℤ)) (rows : List Row) → rows ≡ p.rows → SeesNone arcs ss s p.rows → integers ≡ integer_count arcs ss →
    ((i : ℕ) → i < BASELINE_COLUMNS → entry u i (BASELINE_COLUMNS + integers) ≡ entry t i (BASELINE_COLUMNS + integers) -ℤ (share (length rows) s *ℤ axis_spread rows i s)) →
    entry u (BASELINE_COLUMNS + integers) (BASELINE_COLUMNS + integers) ≡ entry t (BASELINE_COLUMNS + integers) (BASELINE_COLUMNS + integers) +ℤ (share (length rows) s *ℤ observation_spread rows s) →
    ((i j : ℕ) → (j ≢ BASELINE_COLUMNS + integers) ⊎ ((BASELINE_COLUMNS ≤ i) × (i ≢ BASELINE_COLUMNS + integers)) → entry u i j ≡ entry t i j) →
    (i j : ℕ) → BASELINE_COLUMNS ≤ j → entry u i j ≡ entry t i j +ℤ group_entry (signal_group arcs ss p s) i j
code_entries arcs ss p s integers t u rows same none n axes square others i j b = ⊎_elim
    (λ (f : j ≡ BASELINE_COLUMNS + integers). subst (λ (k : ℕ). entry u i k ≡ entry t i k +ℤ group_entry (signal_group arcs ss p s) i k) (sym f) (of_constant (cases_lt i BASELINE_COLUMNS)))
    (λ (f : j ≡ BASELINE_COLUMNS + integers → ⊥). others i j (inl f) ∙ no_entry_second arcs ss p s i j (BASELINE_COLUMNS + integers) (entry t i j) none e b f)
    (cases_eq j (BASELINE_COLUMNS + integers))
  where
    e : BASELINE_COLUMNS + integers ≡ BASELINE_COLUMNS + integer_count arcs ss
    e = ap (λ (m : ℕ). BASELINE_COLUMNS + m) n

    with_square : entry u (BASELINE_COLUMNS + integers) (BASELINE_COLUMNS + integers) ≡ entry t (BASELINE_COLUMNS + integers) (BASELINE_COLUMNS + integers)
        +ℤ group_entry (signal_group arcs ss p s) (BASELINE_COLUMNS + integers) (BASELINE_COLUMNS + integers)
    with_square = square
        ∙ ap (λ (l : List Row). entry t (BASELINE_COLUMNS + integers) (BASELINE_COLUMNS + integers) +ℤ (share (length l) s *ℤ observation_spread l s)) same
        ∙ ap (λ z. entry t (BASELINE_COLUMNS + integers) (BASELINE_COLUMNS + integers) +ℤ z) (constant_entry arcs ss p s (BASELINE_COLUMNS + integers) e)

    of_constant : (i < BASELINE_COLUMNS) ⊎ (BASELINE_COLUMNS ≤ i) → entry u i (BASELINE_COLUMNS + integers) ≡ entry t i (BASELINE_COLUMNS + integers)
        +ℤ group_entry (signal_group arcs ss p s) i (BASELINE_COLUMNS + integers)
    of_constant (inl h) = axes i h
        ∙ ap (λ (l : List Row). entry t i (BASELINE_COLUMNS + integers) -ℤ (share (length l) s *ℤ axis_spread l i s)) same
        ∙ axis_entry arcs ss p s i (BASELINE_COLUMNS + integers) (entry t i (BASELINE_COLUMNS + integers)) h e
    of_constant (inr h) = ⊎_elim
        (λ (f : i ≡ BASELINE_COLUMNS + integers). subst (λ (k : ℕ). entry u k (BASELINE_COLUMNS + integers) ≡ entry t k (BASELINE_COLUMNS + integers)
        +ℤ group_entry (signal_group arcs ss p s) k (BASELINE_COLUMNS + integers)) (sym f) with_square)
        (λ (f : i ≡ BASELINE_COLUMNS + integers → ⊥). others i (BASELINE_COLUMNS + integers) (inr (h, f))
        ∙ no_entry_first arcs ss p s i (BASELINE_COLUMNS + integers) (BASELINE_COLUMNS + integers) (entry t i (BASELINE_COLUMNS + integers)) none e h f)
        (cases_eq i (BASELINE_COLUMNS + integers))
