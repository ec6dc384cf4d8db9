-- Lists of columns, and what is added in them.
use Rattle.std.proofs.Common.{◌≡◌, ◌≢◌, ◌⊎◌, inl, inr, ⊎_elim, ℕ, zero, suc, ◌+◌, ◌-◌, ◌<◌, ◌≤◌, List, [], ◌∷◌, ◌++◌, length, drop, ℤ, pos, ◌+ℤ◌, slice_index_or, arith, sym, ap, ◌∙◌, subst, below_more, length-append, refl, add-zero, add-sub_of_le}
use Rattle.std.specs.Prelude.{slice_index, All}
use Rattle.std.specs.List.Sorted.{IsStrictlyIncreasing}
use Rattle.std.proofs.lemmas.Bool.{cases_eq, cases_lt}
use Rattle.std.proofs.lemmas.List.{get_or_append_left, get_or_past, get_or_push, get_or-drop, get_or_default, length-drop}
use Rattle.std.proofs.lemmas.List.Elements.{All-from_recursion, All-push}
use Rattle.std.proofs.lemmas.List.Kept.{AllPairs-from_increasing}
use Rattle.whole_math.proofs.Order.{lins}
use Rattle.quadratic_form.specs.declared.sizes.TheConstants.{BASELINE_COLUMNS, MOST_COLUMNS, MOST_INTEGERS}
use Rattle.normal_sum.specs.Columns.{AreColumnsOf, AreColumnsFrom}

-- ---- a column that is one of the list, or none of it
pub one_or_none : (columns : List ℕ) (j : ℕ) → ((k : ℕ) × (k < length columns) × (slice_index columns k ≡ j)) ⊎ ((k : ℕ) → k < length columns → slice_index columns k ≢ j)
one_or_none [] j = inr (λ k h. absurd (omega arith))
one_or_none (c ∷ cs) j = ⊎_elim (λ (e : c ≡ j). inl (0, omega arith, e)) (λ (n : c ≡ j → ⊥). later n (one_or_none cs j)) (cases_eq c j)
  where
    none : (c ≡ j → ⊥) → ((k : ℕ) → k < length cs → slice_index cs k ≢ j) → (k : ℕ) → k < length (c ∷ cs) → slice_index (c ∷ cs) k ≢ j
    none n f zero h = n
    none n f (suc k) h = f k (omega arith)

    later : (c ≡ j → ⊥) → ((k : ℕ) × (k < length cs) × (slice_index cs k ≡ j)) ⊎ ((k : ℕ) → k < length cs → slice_index cs k ≢ j) →
        ((k : ℕ) × (k < length (c ∷ cs)) × (slice_index (c ∷ cs) k ≡ j)) ⊎ ((k : ℕ) → k < length (c ∷ cs) → slice_index (c ∷ cs) k ≢ j)
    later n (inl w) = inl (suc w.0, omega (arith, w.1), w.2)
    later n (inr f) = inr (none n f)

before : (columns : List ℕ) (m k : ℕ) → IsStrictlyIncreasing columns → m < k → k < length columns → slice_index columns m ≢ slice_index columns k
before columns m k r h g e = let below : slice_index columns m < slice_index columns k = AllPairs-from_increasing columns r m k 0 h g in omega (arith, below, e)

-- ---- of values by their columns: what is added in the first n columns of a list, and the rest as it was, among these columns
pub record AddedIn (among : ℕ → Type 0) (columns : List ℕ) (n : ℕ) (old new add : ℕ → ℤ) : Type 0 where
  pub done : (k : ℕ) → k < n → among (slice_index columns k) → new (slice_index columns k) ≡ old (slice_index columns k) +ℤ add (slice_index columns k)
  pub rest : (j : ℕ) → among j → ((k : ℕ) → k < n → slice_index columns k ≢ j) → new j ≡ old j

pub none_added : (among : ℕ → Type 0) (columns : List ℕ) (old add : ℕ → ℤ) → AddedIn among columns 0 old old add
none_added among columns old add = record { done = λ k h m. absurd (omega arith); rest = λ j m h. refl }

pub untouched : (among : ℕ → Type 0) (columns : List ℕ) (k : ℕ) (old now add : ℕ → ℤ) → IsStrictlyIncreasing columns → k < length columns → AddedIn among columns k old now add →
    among (slice_index columns k) → now (slice_index columns k) ≡ old (slice_index columns k)
untouched among columns k old now add r g a p = a.rest (slice_index columns k) p (λ m h. before columns m k r h g)

pub one_more : (among : ℕ → Type 0) (columns : List ℕ) (k : ℕ) (old now new add : ℕ → ℤ) → IsStrictlyIncreasing columns → k < length columns → AddedIn among columns k old now add →
    ((j : ℕ) → among j → j ≢ slice_index columns k → new j ≡ now j) →
    (among (slice_index columns k) → new (slice_index columns k) ≡ now (slice_index columns k) +ℤ add (slice_index columns k)) → AddedIn among columns (k + 1) old new add
one_more among columns k old now new add r g a others there = record {
  done = below_more (λ (m : ℕ). among (slice_index columns m) → new (slice_index columns m) ≡ old (slice_index columns m) +ℤ add (slice_index columns m)) k
      (λ m h p. others (slice_index columns m) p (before columns m k r h g) ∙ a.done m h p)
      (λ p. there p ∙ ap (λ z. z +ℤ add (slice_index columns k)) (untouched among columns k old now add r g a p));
  rest = λ j p h. others j p (λ e. h k (omega arith) (sym e)) ∙ a.rest j p (λ m l. h m (omega arith));
}

-- all, where nothing is to be added in the other columns
pub all_added : (among : ℕ → Type 0) (values : List ℤ) (columns : List ℕ) (n : ℕ) (old new add : ℕ → ℤ) →
    ((j : ℕ) → among j → ((k : ℕ) → k < length columns → slice_index columns k ≢ j) → slice_index_or values j (pos 0) ≡ pos 0) → n ≡ length columns → AddedIn among columns n old new add →
    ((j : ℕ) → slice_index_or values j (pos 0) ≡ pos 0 → add j ≡ pos 0) → (j : ℕ) → among j → new j ≡ old j +ℤ add j
all_added among values columns n old new add others h a z j p = ⊎_elim
    (λ (w : (k : ℕ) × (k < length columns) × (slice_index columns k ≡ j)). subst (λ (i : ℕ). among i → new i ≡ old i +ℤ add i) w.2 (a.done w.0 (omega (arith, w.1))) p)
    (λ (f : (k : ℕ) → k < length columns → slice_index columns k ≢ j). a.rest j p (λ k l. f k (omega arith)) ∙ nothing (old j) (add j) (z j (others j p f)))
    (one_or_none columns j)
  where
    nothing : (x y : ℤ) → y ≡ pos 0 → x ≡ x +ℤ y
    nothing x y e = omega (arith, lins)

-- ---- the columns of a list from its k-th on
later_index : (columns : List ℕ) (k m : ℕ) → slice_index (drop k columns) m ≡ slice_index columns (k + m)
later_index columns k m = get_or-drop k columns m 0

later_length : (columns : List ℕ) (k m : ℕ) → k ≤ length columns → m < length (drop k columns) → k + m < length columns
later_length columns k m h g = omega (arith, length-drop k columns)

at_or_behind : (columns : List ℕ) (k m : ℕ) → IsStrictlyIncreasing columns → k + m < length columns → slice_index columns k ≤ slice_index columns (k + m)
at_or_behind columns k zero r h = subst (λ (i : ℕ). slice_index columns k ≤ slice_index columns i) (sym (add-zero k)) (omega arith)
at_or_behind columns k (suc m) r h = let below : slice_index columns k < slice_index columns (k + suc m) = AllPairs-from_increasing columns r k (k + suc m) 0 (omega arith) h in omega (arith, below)

-- after the columns of the baseline, where k is one of them, and else from k on
pub columns_from : (values : List ℤ) (columns : List ℕ) (k m : ℕ) → AreColumnsOf values columns → k < length columns → k ≤ m → BASELINE_COLUMNS ≤ m → (k < BASELINE_COLUMNS → m ≡ BASELINE_COLUMNS) →
    (BASELINE_COLUMNS ≤ k → m ≡ k) → AreColumnsFrom (slice_index columns k) values (drop m columns)
columns_from values columns k m are h past apart low high = record {
  inside = λ i d l. inside_at i d l;
  from = λ i d l. from_at i d l;
  behind = λ i d l. behind_at i d l;
  rising = λ i l. rising_at i l;
  others = λ j g b f. are.others j (λ i l e. none_at j g b f i l e (cases_lt i m));
}
  where
    inner : (i : ℕ) → i < length (drop m columns) → m + i < length columns
    inner i l = omega (arith, length-drop m columns)

    read_at : (i d : ℕ) → i < length (drop m columns) → slice_index_or (drop m columns) i d ≡ slice_index columns (m + i)
    read_at i d l = get_or-drop m columns i d ∙ get_or_default columns (m + i) d 0 (inner i l)

    inside_at : (i d : ℕ) → i < length (drop m columns) → slice_index_or (drop m columns) i d < MOST_COLUMNS
    inside_at i d l = subst (λ (c : ℕ). c < MOST_COLUMNS) (sym (read_at i d l)) (are.inside (m + i) 0 (inner i l))

    in_order : (a b : ℕ) → a ≤ b → b < length columns → slice_index columns a ≤ slice_index columns b
    in_order a b g l = subst (λ (i : ℕ). slice_index columns a ≤ slice_index columns i) (add-sub_of_le g) (at_or_behind columns a (b - a) are.rising (omega arith))

    from_at : (i d : ℕ) → i < length (drop m columns) → slice_index columns k ≤ slice_index_or (drop m columns) i d
    from_at i d l = subst (λ (c : ℕ). slice_index columns k ≤ c) (sym (read_at i d l)) (in_order k (m + i) (omega arith) (inner i l))

    -- the last of the baseline's columns stands before it
    behind_at : (i d : ℕ) → i < length (drop m columns) → BASELINE_COLUMNS ≤ slice_index_or (drop m columns) i d
    behind_at i d l =
        let before : slice_index columns 2 < slice_index columns (m + i) = AllPairs-from_increasing columns are.rising 2 (m + i) 0 (omega arith) (inner i l) in
        subst (λ (c : ℕ). BASELINE_COLUMNS ≤ c) (sym (read_at i d l)) (omega (arith, before, are.baseline 2 (omega arith)))

    rising_at : (i : ℕ) → i + 1 < length (drop m columns) → slice_index (drop m columns) i < slice_index (drop m columns) (i + 1)
    rising_at i l = subst (λ (c : ℕ). c < slice_index (drop m columns) (i + 1)) (sym (later_index columns m i))
        (subst (λ (c : ℕ). slice_index columns (m + i) < c) (sym (later_index columns m (i + 1)))
        (AllPairs-from_increasing columns are.rising (m + i) (m + (i + 1)) 0 (omega arith) (inner (i + 1) l)))

    none_at : (j : ℕ) → slice_index columns k ≤ j → BASELINE_COLUMNS ≤ j → ((i : ℕ) → i < length (drop m columns) → slice_index (drop m columns) i ≢ j) → (i : ℕ) → i < length columns →
        slice_index columns i ≡ j → (i < m) ⊎ (m ≤ i) → ⊥
    none_at j g b f i l e (inl ahead) = ⊎_elim
        (λ (few : k < BASELINE_COLUMNS). omega (arith, low few, ahead, are.baseline i (omega (arith, low few)), e, b))
        (λ (many : BASELINE_COLUMNS ≤ k). let below : slice_index columns i < slice_index columns k = AllPairs-from_increasing columns are.rising i k 0 (omega (arith, high many)) h in omega (arith, below, e, g))
        (cases_lt k BASELINE_COLUMNS)
    none_at j g b f i l e (inr after) = f (i - m) (omega (arith, length-drop m columns)) (later_index columns m (i - m) ∙ ap (slice_index columns) (add-sub_of_le after) ∙ e)

-- ---- the columns of a row: three of the baseline, of its integer if it has one, and of the constant
first_columns : (a b : ℕ) → 3 ≤ a → a < b → IsStrictlyIncreasing (0 ∷ 1 ∷ 2 ∷ a ∷ b ∷ [])
first_columns a b h g zero l = omega arith
first_columns a b h g (suc zero) l = omega arith
first_columns a b h g (suc (suc zero)) l = omega arith
first_columns a b h g (suc (suc (suc zero))) l = omega arith
first_columns a b h g (suc (suc (suc (suc k)))) l = absurd (omega arith)

first_of_code : (b : ℕ) → 3 ≤ b → IsStrictlyIncreasing (0 ∷ 1 ∷ 2 ∷ b ∷ [])
first_of_code b h zero l = omega arith
first_of_code b h (suc zero) l = omega arith
first_of_code b h (suc (suc zero)) l = omega arith
first_of_code b h (suc (suc (suc k))) l = absurd (omega arith)

behind : (j : ℕ) → 0 ≢ j → 1 ≢ j → 2 ≢ j → 3 ≤ j
behind j a b c = grind arith

first_three : (a b d : ℕ) (rest : List ℕ) (k : ℕ) → a ≡ 0 → b ≡ 1 → d ≡ 2 → k < BASELINE_COLUMNS → slice_index (a ∷ b ∷ d ∷ rest) k ≡ k
first_three a b d rest zero e f g h = e
first_three a b d rest (suc zero) e f g h = f
first_three a b d rest (suc (suc zero)) e f g h = g
first_three a b d rest (suc (suc (suc k))) e f g h = absurd (omega arith)

pub columns_of_phase : (values : List ℤ) (n i : ℕ) → n ≤ MOST_INTEGERS → i < n → ((j : ℕ) → 3 ≤ j → j ≢ 3 + n → j ≢ 3 + i → slice_index_or values j (pos 0) ≡ pos 0) →
    AreColumnsOf values (0 ∷ 1 ∷ 2 ∷ (3 + i) ∷ (3 + n) ∷ [])
columns_of_phase values n i few h z = record {
  baseline = λ k l. first_three 0 1 2 ((3 + i) ∷ (3 + n) ∷ []) k refl refl refl l;
  enough = omega arith;
  inside = All-from_recursion (λ (c : ℕ). c < MOST_COLUMNS) (0 ∷ 1 ∷ 2 ∷ (3 + i) ∷ (3 + n) ∷ []) (omega arith, (omega arith, (omega arith, (omega arith, (omega arith, tt)))));
  rising = first_columns (3 + i) (3 + n) (omega arith) (omega arith);
  others = λ j f. z j (behind j (f 0 (omega arith)) (f 1 (omega arith)) (f 2 (omega arith))) (λ e. f 4 (omega arith) (sym e)) (λ e. f 3 (omega arith) (sym e));
}

pub columns_of_code : (values : List ℤ) (n : ℕ) → n ≤ MOST_INTEGERS → ((j : ℕ) → 3 ≤ j → j ≢ 3 + n → slice_index_or values j (pos 0) ≡ pos 0) →
    AreColumnsOf values (0 ∷ 1 ∷ 2 ∷ (3 + n) ∷ [])
columns_of_code values n few z = record {
  baseline = λ k l. first_three 0 1 2 ((3 + n) ∷ []) k refl refl refl l;
  enough = omega arith;
  inside = All-from_recursion (λ (c : ℕ). c < MOST_COLUMNS) (0 ∷ 1 ∷ 2 ∷ (3 + n) ∷ []) (omega arith, (omega arith, (omega arith, (omega arith, tt))));
  rising = first_of_code (3 + n) (omega arith);
  others = λ j f. z j (behind j (f 0 (omega arith)) (f 1 (omega arith)) (f 2 (omega arith))) (λ e. f 3 (omega arith) (sym e));
}

-- ---- the columns so far, where they are sought one after another
pub record AreUsed (values : List ℤ) (j : ℕ) (used : List ℕ) : Type 0 where
  pub baseline : (k : ℕ) → k < BASELINE_COLUMNS → slice_index used k ≡ k
  pub enough : BASELINE_COLUMNS ≤ length used
  pub below : All (λ c. c < j) used
  pub rising : IsStrictlyIncreasing used
  pub others : (k : ℕ) → k < j → ((m : ℕ) → m < length used → slice_index used m ≢ k) → slice_index_or values k (pos 0) ≡ pos 0

pub baseline_used : (values : List ℤ) → AreUsed values BASELINE_COLUMNS (0 ∷ 1 ∷ 2 ∷ [])
baseline_used values = record {
  baseline = λ k l. first_three 0 1 2 [] k refl refl refl l;
  enough = omega arith;
  below = All-from_recursion (λ (c : ℕ). c < BASELINE_COLUMNS) (0 ∷ 1 ∷ 2 ∷ []) (omega arith, (omega arith, (omega arith, tt)));
  rising = rising;
  others = λ k h f. absurd (f k (omega arith) (first_three 0 1 2 [] k refl refl refl h));
}
  where
    rising : IsStrictlyIncreasing (0 ∷ 1 ∷ 2 ∷ [])
    rising zero l = omega arith
    rising (suc zero) l = omega arith
    rising (suc (suc k)) l = absurd (omega arith)

pub not_used : (values : List ℤ) (j : ℕ) (used : List ℕ) → AreUsed values j used → slice_index_or values j (pos 0) ≡ pos 0 → AreUsed values (j + 1) used
not_used values j used u z = record {
  baseline = u.baseline;
  enough = u.enough;
  below = λ i d h. omega (arith, u.below i d h);
  rising = u.rising;
  others = below_more (λ (k : ℕ). ((m : ℕ) → m < length used → slice_index used m ≢ k) → slice_index_or values k (pos 0) ≡ pos 0) j u.others (λ f. z);
}

pub one_used : (values : List ℤ) (j : ℕ) (used : List ℕ) → AreUsed values j used → AreUsed values (j + 1) (used ++ j ∷ [])
one_used values j used u = record {
  baseline = λ k h. get_or_append_left used (j ∷ []) 0 k (omega (arith, u.enough)) ∙ u.baseline k h;
  enough = omega (arith, u.enough, length-append used (j ∷ []));
  below = All-push (λ (c : ℕ). c < j + 1) used j (λ i d h. omega (arith, u.below i d h)) (omega arith);
  rising = λ k h. next k (cases_lt (k + 1) (length used)) h;
  others = below_more (λ (k : ℕ). ((m : ℕ) → m < length (used ++ j ∷ []) → slice_index (used ++ j ∷ []) m ≢ k) → slice_index_or values k (pos 0) ≡ pos 0) j
      (λ k h f. u.others k h (λ m l e. f m (omega (arith, length-append used (j ∷ []))) (get_or_append_left used (j ∷ []) 0 m l ∙ e)))
      (λ f. absurd (f (length used) (omega (arith, length-append used (j ∷ []))) (get_or_push used j 0 (length used) refl)));
}
  where
    -- the last two, or two before
    next : (k : ℕ) → (k + 1 < length used) ⊎ (length used ≤ k + 1) → k + 1 < length (used ++ j ∷ []) → slice_index (used ++ j ∷ []) k < slice_index (used ++ j ∷ []) (k + 1)
    next k (inl l) h = subst (λ (a : ℕ). a < slice_index (used ++ j ∷ []) (k + 1)) (sym (get_or_append_left used (j ∷ []) 0 k (omega arith)))
        (subst (λ (b : ℕ). slice_index used k < b) (sym (get_or_append_left used (j ∷ []) 0 (k + 1) l)) (u.rising k l))
    next k (inr g) h =
        let last : length used ≡ k + 1 = omega (arith, length-append used (j ∷ [])) in
        subst (λ (a : ℕ). a < slice_index (used ++ j ∷ []) (k + 1)) (sym (get_or_append_left used (j ∷ []) 0 k (omega arith)))
        (subst (λ (b : ℕ). slice_index used k < b) (sym (get_or_push used j 0 (k + 1) last)) (u.below k 0 (omega arith)))

-- nothing else, where the values from place n on are 0
pub all_used : (values : List ℤ) (n : ℕ) (used : List ℕ) → length values ≡ MOST_COLUMNS → n ≤ MOST_COLUMNS → ((j : ℕ) → n ≤ j → j < MOST_COLUMNS → slice_index_or values j (pos 0) ≡ pos 0) →
    AreUsed values n used → AreColumnsOf values used
all_used values n used full few beyond u = record {
  baseline = u.baseline;
  enough = u.enough;
  inside = λ i d h. omega (arith, u.below i d h);
  rising = u.rising;
  others = λ j f. ⊎_elim (λ (h : j < n). u.others j h f)
      (λ (g : n ≤ j). ⊎_elim (λ (h : j < MOST_COLUMNS). beyond j g h) (λ (h : MOST_COLUMNS ≤ j). get_or_past values j (pos 0) (omega arith)) (cases_lt j MOST_COLUMNS)) (cases_lt j n);
}
