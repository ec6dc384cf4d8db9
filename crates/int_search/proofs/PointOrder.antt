-- The rounded point comes first of all vectors, and its neighbour second.
use Rattle.std.proofs.Common.{◌≡◌, ◌≢◌, ◌⊎◌, inl, inr, ⊎_elim, ℕ, suc, ◌+◌, ◌-◌, ◌<◌, ◌≤◌, ◌^◌, List, [], ◌∷◌, ◌++◌, length, ℤ, pos, negsuc, ◌+ℤ◌, ◌-ℤ◌, ◌*ℤ◌, neg_ℤ, ◌<ℤ◌, ◌≤ℤ◌, arith, refl, ap, sym, ◌∙◌, subst, unsigned_abs, length-append}
use Rattle.std.proofs.lemmas.Int.{ints, by_lt_z}
use Rattle.whole_math.specs.Rounding.{nearest_div}
use Rattle.whole_math.proofs.Order.{lins, polys, mul_le_left}
use Rattle.whole_math.proofs.Rounding.{nearest_bounds}
use Rattle.whole_math.proofs.IntLaws.{mul_comm_ℤ}
use Rattle.whole_math.proofs.Inequalities.{one_nn}
use Rattle.quadratic_form.specs.Rows.{value}
use Rattle.int_search.specs.Suffixes.{SearchForm, IsSearchable, offset, rest, low, weight}
use Rattle.int_search.specs.PlainCount.{rounded, neighbour, side}
use Rattle.int_search.specs.VisitOrder.{IsCloser, IsNearer, IsBefore}
use Rattle.int_search.specs.Search.{Precedes}
use Rattle.int_search.proofs.SuffixLaws.{offset-is, low-cons, low_grows, weight_from, square_from}
use Rattle.int_search.proofs.PointLaws.{rounded-suc, rounded-zero, rounded_length, rounded_split, neighbour_is, neighbour_length, side_up, side_down, side_moves}
use Rattle.int_search.proofs.VisitLaws.{offsets, closer_from, closer_apart}

abbrev nearest_to : SearchForm → List ℤ → ℤ
nearest_to f s = nearest_div (neg_ℤ (rest f s)) (2 ^ 30)

-- ---- the nearest entry
record IsHalf (c : ℤ) : Type 0 where
  above : negsuc (2 ^ 29 - 1) <ℤ c
  most : c ≤ℤ pos (2 ^ 29)

nearest_half : (f : SearchForm) (s : List ℤ) → IsHalf (offset f (nearest_to f s) s)
nearest_half f s =
    let bounds = nearest_bounds (neg_ℤ (rest f s)) (2 ^ 30) (omega arith) in
    subst IsHalf (sym (offset-is f (nearest_to f s) s)) (step (nearest_to f s) (rest f s) bounds.0 bounds.1)
  where
    step : (x r : ℤ) → (pos 2 *ℤ (x *ℤ pos (2 ^ 30))) ≤ℤ ((pos 2 *ℤ neg_ℤ r) +ℤ pos (2 ^ 30)) → ((pos 2 *ℤ neg_ℤ r) -ℤ pos (2 ^ 30)) <ℤ (pos 2 *ℤ (x *ℤ pos (2 ^ 30))) → IsHalf ((pos (2 ^ 30) *ℤ x) +ℤ r)
    step x r a b = record { above = omega (arith, polys, mul_comm_ℤ x (pos (2 ^ 30))); most = omega (arith, polys, mul_comm_ℤ x (pos (2 ^ 30))) }

half_closer : (f : SearchForm) (x y : ℤ) (s : List ℤ) → IsHalf (offset f x s) → x ≢ y → IsCloser (offset f x s) (offset f y s)
half_closer f x y s h d = by_lt_z x y
    (λ l. above (offset f x s) (offset f y s) h (offsets f x y s l))
    (λ l. under (offset f x s) (offset f y s) h (offsets f y x s (strict l)))
  where
    strict : y ≤ℤ x → y <ℤ x
    strict l = by_lt_z y x (λ g. g) (λ g. absurd (d (omega (arith, ints))))

    above : (a b : ℤ) → IsHalf a → (a +ℤ pos (2 ^ 30)) ≤ℤ b → IsCloser a b
    above a b h g = let half_above = h.above in let half_most = h.most in inl (omega (arith, ints))

    under : (a b : ℤ) → IsHalf a → (b +ℤ pos (2 ^ 30)) ≤ℤ a → IsCloser a b
    under a b h g = let half_above = h.above in let half_most = h.most in closer_from a b (omega (arith, ints)) (omega (arith, ints))

-- one further to the side of the centre is nearer than all others
second_closer : (f : SearchForm) (x z y : ℤ) (s : List ℤ) → IsHalf (offset f x s) → z ≡ x +ℤ side (offset f x s) → x ≢ y → z ≢ y → IsCloser (offset f z s) (offset f y s)
second_closer f x z y s h e d g = by_lt_z (pos 0) (offset f x s) (λ p. down p (e ∙ ap (λ k. x +ℤ k) (side_down (offset f x s) p))) (λ p. up p (e ∙ ap (λ k. x +ℤ k) (side_up (offset f x s) p)))
  where
    exactly : (a b : ℤ) → b ≡ a +ℤ pos 1 → offset f b s ≡ offset f a s +ℤ pos (2 ^ 30)
    exactly a b i = offset-is f b s ∙ shift a b (rest f s) i ∙ ap (λ c. c +ℤ pos (2 ^ 30)) (sym (offset-is f a s))
      where
        shift : (a b r : ℤ) → b ≡ a +ℤ pos 1 → (pos (2 ^ 30) *ℤ b) +ℤ r ≡ ((pos (2 ^ 30) *ℤ a) +ℤ r) +ℤ pos (2 ^ 30)
        shift a b r i = omega (arith, polys)

    apart_above : (a b : ℤ) → a ≤ℤ b → a ≢ b → a <ℤ b
    apart_above a b l n = by_lt_z a b (λ k. k) (λ k. absurd (n (omega (arith, ints))))

    up : offset f x s ≤ℤ pos 0 → z ≡ x +ℤ pos 1 → IsCloser (offset f z s) (offset f y s)
    up p i =
        let here : offset f z s ≡ offset f x s +ℤ pos (2 ^ 30) = exactly x z i in
        by_lt_z y x
        (λ l. below (offset f x s) (offset f z s) (offset f y s) h p here (offsets f y x s l))
        (λ l. beyond (offset f x s) (offset f z s) (offset f y s) h p here (offsets f z y s (apart_above z y (let x_before : x <ℤ y = apart_above x y l d in omega (arith, ints)) g)))
      where
        below : (c a b : ℤ) → IsHalf c → c ≤ℤ pos 0 → a ≡ c +ℤ pos (2 ^ 30) → (b +ℤ pos (2 ^ 30)) ≤ℤ c → IsCloser a b
        below c a b k p i l = let half_above = k.above in closer_from a b (omega (arith, ints)) (omega (arith, ints))

        beyond : (c a b : ℤ) → IsHalf c → c ≤ℤ pos 0 → a ≡ c +ℤ pos (2 ^ 30) → (a +ℤ pos (2 ^ 30)) ≤ℤ b → IsCloser a b
        beyond c a b k p i l = let half_above = k.above in inl (omega (arith, ints))

    down : pos 0 <ℤ offset f x s → z ≡ x +ℤ negsuc 0 → IsCloser (offset f z s) (offset f y s)
    down p i =
        let here : offset f x s ≡ offset f z s +ℤ pos (2 ^ 30) = exactly z x (omega (arith, ints)) in
        by_lt_z x y
        (λ l. beyond (offset f x s) (offset f z s) (offset f y s) h p here (offsets f x y s l))
        (λ l. below (offset f x s) (offset f z s) (offset f y s) h p here (offsets f y z s (apart_above y z (let y_before : y <ℤ x = apart_above y x l (λ q. d (sym q)) in omega (arith, ints)) (λ q. g (sym q)))))
      where
        beyond : (c a b : ℤ) → IsHalf c → pos 0 <ℤ c → c ≡ a +ℤ pos (2 ^ 30) → (c +ℤ pos (2 ^ 30)) ≤ℤ b → IsCloser a b
        beyond c a b k p i l = let half_most = k.most in inl (omega (arith, ints))

        below : (c a b : ℤ) → IsHalf c → pos 0 <ℤ c → c ≡ a +ℤ pos (2 ^ 30) → (b +ℤ pos (2 ^ 30)) ≤ℤ a → IsCloser a b
        below c a b k p i l = let half_most = k.most in inl (omega (arith, ints))

-- ---- the rounded point
ends_or_nearer : (f : SearchForm) (q : List ℤ) → length q ≤ f.size → (q ≡ rounded f (length q)) ⊎ IsNearer f (rounded f f.size) q
ends_or_nearer f [] h = inl (sym (rounded-zero f))
ends_or_nearer f (y ∷ t) h = go (ends_or_nearer f t (omega arith))
  where
    apart : (e : t ≡ rounded f (length t)) → nearest_to f t ≢ y → IsNearer f (rounded f f.size) (y ∷ t)
    apart e d =
        let split = rounded_split f (suc (length t)) f.size h in
        record {
          same = t;
          near = nearest_to f t;
          far = y;
          near_front = split.0;
          far_front = [];
          near_split = split.1 ∙ ap (λ l. split.0 ++ l) (rounded-suc f (length t) ∙ ap (λ l. nearest_to f l ∷ l) (sym e));
          far_split = refl;
          nearer = half_closer f (nearest_to f t) y t (nearest_half f t) d;
        }

    same : (e : t ≡ rounded f (length t)) → nearest_to f t ≡ y → y ∷ t ≡ rounded f (suc (length t))
    same e g = ap (λ z. z ∷ t) (sym g) ∙ ap (λ l. nearest_to f l ∷ l) e ∙ sym (rounded-suc f (length t))

    decide : (a b : ℤ) → (a ≡ b) ⊎ (a ≢ b)
    decide a b = by_lt_z a b (λ l. inr (λ e. differ a b l e)) (λ l. by_lt_z b a (λ g. inr (λ e. differ b a g (sym e))) (λ g. inl (omega (arith, ints))))
      where
        differ : (a b : ℤ) → a <ℤ b → a ≡ b → ⊥
        differ a b l e = omega (arith, ints)

    go : (t ≡ rounded f (length t)) ⊎ IsNearer f (rounded f f.size) t → (y ∷ t ≡ rounded f (suc (length t))) ⊎ IsNearer f (rounded f f.size) (y ∷ t)
    go (inl e) = ⊎_elim (λ (g : nearest_to f t ≡ y). inl (same e g)) (λ (d : nearest_to f t ≢ y). inr (apart e d)) (decide (nearest_to f t) y)
    go (inr w) = inr (record {
      same = w.same;
      near = w.near;
      far = w.far;
      near_front = w.near_front;
      far_front = y ∷ w.far_front;
      near_split = w.near_split;
      far_split = ap (λ l. y ∷ l) w.far_split;
      nearer = w.nearer;
    })

-- a suffix ends the rounded point, or comes after it
pub rounded_leads : (f : SearchForm) (q : List ℤ) → length q ≤ f.size → ((g : List ℤ) × (rounded f f.size ≡ g ++ q)) ⊎ IsNearer f (rounded f f.size) q
rounded_leads f q h = go (ends_or_nearer f q h)
  where
    go : (q ≡ rounded f (length q)) ⊎ IsNearer f (rounded f f.size) q → ((g : List ℤ) × (rounded f f.size ≡ g ++ q)) ⊎ IsNearer f (rounded f f.size) q
    go (inl e) = let split = rounded_split f (length q) f.size h in inl (split.0, split.1 ∙ ap (λ l. split.0 ++ l) (sym e))
    go (inr w) = inr w

same_ends : (a b u v : List ℤ) → a ++ u ≡ b ++ v → length u ≡ length v → u ≡ v
same_ends [] [] u v e l = e
same_ends [] (z ∷ b) u v e l = absurd (omega (arith, simp length-append at (ap length e)))
same_ends (z ∷ a) [] u v e l = absurd (omega (arith, simp length-append at (ap length e)))
same_ends (z ∷ a) (w ∷ b) u v e l = let same_joined : a ++ u ≡ b ++ v = cc in same_ends a b u v same_joined l

head_of_same : (x y : ℤ) (s t : List ℤ) → x ∷ s ≡ y ∷ t → x ≡ y
head_of_same x y s t e = cc

tail_of_same : (x y : ℤ) (s t : List ℤ) → x ∷ s ≡ y ∷ t → s ≡ t
tail_of_same x y s t e = cc

same_or_not : (a b : ℤ) → (a ≡ b) ⊎ (a ≢ b)
same_or_not a b = by_lt_z a b (λ l. inr (λ e. differ a b l e)) (λ l. by_lt_z b a (λ g. inr (λ e. differ b a g (sym e))) (λ g. inl (omega (arith, ints))))
  where
    differ : (a b : ℤ) → a <ℤ b → a ≡ b → ⊥
    differ a b l e = omega (arith, ints)

less_itself : (f : SearchForm) (v z : List ℤ) → v ≡ z → value f.p v <ℤ value f.p z → ⊥
less_itself f v z e l = step (value f.p v) (value f.p z) (ap (value f.p) e) l
  where
    step : (a b : ℤ) → a ≡ b → a <ℤ b → ⊥
    step a b e l = omega (arith, ints)

-- no full vector comes before the rounded point
pub rounded_first_of_all : (f : SearchForm) (v : List ℤ) → length v ≡ f.size → IsBefore f v (rounded f f.size) → ⊥
rounded_first_of_all f v h (inl w) =
    let rounded_size = rounded_length f f.size in
    let joined : length (w.front ++ v) ≡ length w.front + length v = length-append w.front v in
    let some_front = w.some in
    let split_length : length (rounded f f.size) ≡ length (w.front ++ v) = ap length w.split in
    omega arith
rounded_first_of_all f v h (inr w) =
    let rounded_size = rounded_length f f.size in
    let joined : length (w.far_front ++ (w.far ∷ w.same)) ≡ length w.far_front + length (w.far ∷ w.same) = length-append w.far_front (w.far ∷ w.same) in
    let split_length : length (rounded f f.size) ≡ length (w.far_front ++ (w.far ∷ w.same)) = ap length w.far_split in
    let k : ℕ = length w.same in
    let split = rounded_split f (suc k) f.size (omega arith) in
    let end_is : w.far ∷ w.same ≡ rounded f (suc k) = same_ends w.far_front split.0 (w.far ∷ w.same) (rounded f (suc k)) (sym w.far_split ∙ split.1) (sym (rounded_length f (suc k))) in
    let both : w.far ∷ w.same ≡ nearest_to f (rounded f k) ∷ rounded f k = end_is ∙ rounded-suc f k in
    let far_is : w.far ≡ nearest_to f w.same = head_of w.far (nearest_to f (rounded f k)) w.same (rounded f k) both ∙ ap (nearest_to f) (sym (tail_is w.far (nearest_to f (rounded f k)) w.same (rounded f k) both)) in
    last far_is
  where
    head_of : (x y : ℤ) (s t : List ℤ) → x ∷ s ≡ y ∷ t → x ≡ y
    head_of x y s t e = cc

    tail_is : (x y : ℤ) (s t : List ℤ) → x ∷ s ≡ y ∷ t → s ≡ t
    tail_is x y s t e = cc

    last : w.far ≡ nearest_to f w.same → ⊥
    last e =
        let half : IsHalf (offset f w.far w.same) = subst (λ (x : ℤ). IsHalf (offset f x w.same)) (sym e) (nearest_half f w.same) in
        by_lt_z w.far w.near
        (λ l. closer_apart (offset f w.near w.same) (offset f w.far w.same) w.nearer (half_closer f w.far w.near w.same half (λ i. omega (arith, ints))))
        (λ l. by_lt_z w.near w.far
        (λ g. closer_apart (offset f w.near w.same) (offset f w.far w.same) w.nearer (half_closer f w.far w.near w.same half (λ i. omega (arith, ints))))
        (λ g. let equal : w.near ≡ w.far = omega (arith, ints) in
        closer_apart (offset f w.near w.same) (offset f w.near w.same) (subst (λ (x : ℤ). IsCloser (offset f w.near w.same) (offset f x w.same)) (sym equal) w.nearer)
        (subst (λ (x : ℤ). IsCloser (offset f w.near w.same) (offset f x w.same)) (sym equal) w.nearer)))

-- ---- the neighbour
-- a suffix ends the neighbour, or is the rounded point, or comes after the neighbour
pub neighbour_leads : (f : SearchForm) (q : List ℤ) → 0 < f.size → length q ≤ f.size → 0 < length q →
    ((g : List ℤ) × (neighbour f ≡ g ++ q)) ⊎ ((q ≡ rounded f f.size) ⊎ IsNearer f (neighbour f) q)
neighbour_leads f q some h n = go (rounded f f.size) refl (rounded_length f f.size)
  where
    go : (v : List ℤ) → rounded f f.size ≡ v → length v ≡ f.size → ((g : List ℤ) × (neighbour f ≡ g ++ q)) ⊎ ((q ≡ rounded f f.size) ⊎ IsNearer f (neighbour f) q)
    go [] e l = absurd (omega arith)
    go (x ∷ s) e l = leads (rounded_leads f q h)
      where
        z : ℤ
        z = x +ℤ side (offset f x s)

        is_neighbour : neighbour f ≡ z ∷ s
        is_neighbour = neighbour_is f x s e

        half : IsHalf (offset f x s)
        half = first_half (rounded_split f (suc (length s)) f.size (omega arith))
          where
            first_half : (g : List ℤ) × (rounded f f.size ≡ g ++ rounded f (suc (length s))) → IsHalf (offset f x s)
            first_half g =
                let rounded_is : x ∷ s ≡ nearest_to f (rounded f (length s)) ∷ rounded f (length s) =
                same_ends [] g.0 (x ∷ s) (rounded f (suc (length s))) (sym e ∙ g.1) (sym (rounded_length f (suc (length s)))) ∙ rounded-suc f (length s) in
                let tail_is : s ≡ rounded f (length s) = tail_of_same x (nearest_to f (rounded f (length s))) s (rounded f (length s)) rounded_is in
                let head_is : x ≡ nearest_to f s = head_of_same x (nearest_to f (rounded f (length s))) s (rounded f (length s)) rounded_is ∙ ap (nearest_to f) (sym tail_is) in
                subst (λ (y : ℤ). IsHalf (offset f y s)) (sym head_is) (nearest_half f s)

        -- where q ends the rounded point
        ended : (g : List ℤ) → x ∷ s ≡ g ++ q → ((g : List ℤ) × (neighbour f ≡ g ++ q)) ⊎ ((q ≡ rounded f f.size) ⊎ IsNearer f (neighbour f) q)
        ended [] i = inr (inl (sym i ∙ sym e))
        ended (y ∷ g) i = inl (z ∷ g, is_neighbour ∙ ap (λ t. z ∷ t) (tail_of_same x y s (g ++ q) i))

        -- where it comes after it
        after : (near far : ℤ) (same front back : List ℤ) → x ∷ s ≡ front ++ (near ∷ same) → q ≡ back ++ (far ∷ same) → IsCloser (offset f near same) (offset f far same) →
            ((g : List ℤ) × (neighbour f ≡ g ++ q)) ⊎ ((q ≡ rounded f f.size) ⊎ IsNearer f (neighbour f) q)
        after near far same (y ∷ front) back i j c = inr (inr (record {
          same = same;
          near = near;
          far = far;
          near_front = z ∷ front;
          far_front = back;
          near_split = is_neighbour ∙ ap (λ t. z ∷ t) (tail_of_same x y s (front ++ (near ∷ same)) i);
          far_split = j;
          nearer = c;
        }))
        after near far same [] back i j c = first back (j ∙ ap (λ t. back ++ (far ∷ t)) (sym (tail_of_same x near s same i)))
            (λ k. closer_apart (offset f near same) (offset f near same) (stay k) (stay k))
          where
            stay : x ≡ far → IsCloser (offset f near same) (offset f near same)
            stay k = subst (λ (y : ℤ). IsCloser (offset f near same) (offset f y same)) (sym k ∙ head_of_same x near s same i) c

            first : (back : List ℤ) → q ≡ back ++ (far ∷ s) → x ≢ far → ((g : List ℤ) × (neighbour f ≡ g ++ q)) ⊎ ((q ≡ rounded f f.size) ⊎ IsNearer f (neighbour f) q)
            first (y ∷ back) j d = absurd (omega (arith, simp length-append at (ap length j)))
            first [] j d = ⊎_elim (λ (k : z ≡ far). inl ([], is_neighbour ∙ ap (λ y. y ∷ s) k ∙ sym j))
                (λ (k : z ≢ far). inr (inr (record {
                  same = s;
                  near = z;
                  far = far;
                  near_front = [];
                  far_front = [];
                  near_split = is_neighbour;
                  far_split = j;
                  nearer = second_closer f x z far s half refl d k;
                }))) (same_or_not z far)

        leads : ((g : List ℤ) × (rounded f f.size ≡ g ++ q)) ⊎ IsNearer f (rounded f f.size) q → ((g : List ℤ) × (neighbour f ≡ g ++ q)) ⊎ ((q ≡ rounded f f.size) ⊎ IsNearer f (neighbour f) q)
        leads (inl g) = ended g.0 (sym e ∙ g.1)
        leads (inr w) = after w.near w.far w.same w.near_front w.far_front (sym e ∙ w.near_split) w.far_split w.nearer

-- ---- what is below a lower sum comes before
end_low : (f : SearchForm) (v g q : List ℤ) → IsSearchable f → length v ≡ f.size → v ≡ g ++ q → (pos (2 ^ 60) *ℤ value f.p v) <ℤ low f q → ⊥
end_low f v g q k h e l =
    let joined_length : length (g ++ q) ≡ f.size = ap length (sym e) ∙ h in
    last (low f q) (low f (g ++ q)) (value f.p v) (low_grows f k g q (omega arith)) (subst (λ (u : List ℤ). low f (g ++ q) ≤ℤ (pos (2 ^ 60) *ℤ value f.p u)) (sym e) (k.below (g ++ q) joined_length)) l
  where
    last : (a b v : ℤ) → a ≤ℤ b → b ≤ℤ (pos (2 ^ 60) *ℤ v) → (pos (2 ^ 60) *ℤ v) <ℤ a → ⊥
    last a b v h k l = omega (arith, polys)

zero_from : (x c : ℤ) → x ≡ x +ℤ c → c ≡ pos 0
zero_from x c e = omega (arith, ints)

closer_square : (a b : ℤ) → IsCloser a b → (a *ℤ a) ≤ℤ (b *ℤ b)
closer_square a b c = squares a b (sizes c)
  where
    sizes : IsCloser a b → unsigned_abs a ≤ unsigned_abs b
    sizes (inl l) = omega arith
    sizes (inr l) = omega arith

    squares : (a b : ℤ) → unsigned_abs a ≤ unsigned_abs b → (a *ℤ a) ≤ℤ (b *ℤ b)
    squares a b l = by_lt_z a (pos 0)
        (λ p. by_lt_z b (pos 0) (λ q. square_from a b (inr (inr (inr (omega (arith, ints), omega (arith, ints)))))) (λ q. square_from a b (inr (inr (inl (omega (arith, ints), omega (arith, ints)))))))
        (λ p. by_lt_z b (pos 0) (λ q. square_from a b (inr (inl (omega (arith, ints), omega (arith, ints))))) (λ q. square_from a b (inl (omega (arith, ints), omega (arith, ints)))))

grown : (s w a b : ℤ) → pos 0 ≤ℤ w → (a *ℤ a) ≤ℤ (b *ℤ b) → (s +ℤ (w *ℤ (a *ℤ a))) ≤ℤ (s +ℤ (w *ℤ (b *ℤ b)))
grown s w a b n h = let product_at_most : (w *ℤ (a *ℤ a)) ≤ℤ (w *ℤ (b *ℤ b)) = mul_le_left w (a *ℤ a) (b *ℤ b) n h in omega (arith, lins)

-- the lower sum of the rounded point is at most that of its neighbour
rounded_low : (f : SearchForm) → IsSearchable f → low f (rounded f f.size) ≤ℤ low f (neighbour f)
rounded_low f k = go (rounded f f.size) refl (rounded_length f f.size)
  where
    go : (v : List ℤ) → rounded f f.size ≡ v → length v ≡ f.size → low f (rounded f f.size) ≤ℤ low f (neighbour f)
    go [] e l = absurd (let some_integers = k.some in omega arith)
    go (x ∷ s) e l =
        let z : ℤ = x +ℤ side (offset f x s) in
        let closer : IsCloser (offset f x s) (offset f z s) = nearer (rounded_split f (suc (length s)) f.size (omega arith)) in
        subst (λ (v : List ℤ). low f v ≤ℤ low f (neighbour f)) (sym e)
        (subst (λ (v : List ℤ). low f (x ∷ s) ≤ℤ low f v) (sym (neighbour_is f x s e))
        (rw (low-cons f x s k.each (omega arith), low-cons f z s k.each (omega arith))
        (grown (low f s) (weight f s) (offset f x s) (offset f z s) (one_nn (weight_from f s k (omega arith))) (closer_square (offset f x s) (offset f z s) closer))))
      where
        nearer : (g : List ℤ) × (rounded f f.size ≡ g ++ rounded f (suc (length s))) → IsCloser (offset f x s) (offset f (x +ℤ side (offset f x s)) s)
        nearer g =
            let rounded_is : x ∷ s ≡ nearest_to f (rounded f (length s)) ∷ rounded f (length s) =
            same_ends [] g.0 (x ∷ s) (rounded f (suc (length s))) (sym e ∙ g.1) (sym (rounded_length f (suc (length s)))) ∙ rounded-suc f (length s) in
            let tail_is : s ≡ rounded f (length s) = tail_of_same x (nearest_to f (rounded f (length s))) s (rounded f (length s)) rounded_is in
            let head_is : x ≡ nearest_to f s = head_of_same x (nearest_to f (rounded f (length s))) s (rounded f (length s)) rounded_is ∙ ap (nearest_to f) (sym tail_is) in
            half_closer f x (x +ℤ side (offset f x s)) s (subst (λ (y : ℤ). IsHalf (offset f y s)) (sym head_is) (nearest_half f s)) (λ i. side_moves (offset f x s) (zero_from x (side (offset f x s)) i))

-- one of the two points whose value is below the lower sum of a suffix comes before it
pub below_before : (f : SearchForm) (v q : List ℤ) → IsSearchable f → length q ≤ f.size → 0 < length q → Precedes f v q → (pos (2 ^ 60) *ℤ value f.p v) <ℤ low f q → IsBefore f v q
below_before f v q k h n (inr b) l = b
below_before f v q k h n (inl (inl e)) l = subst (λ (u : List ℤ). IsBefore f u q) (sym e) (go (rounded_leads f q h))
  where
    go : ((g : List ℤ) × (rounded f f.size ≡ g ++ q)) ⊎ IsNearer f (rounded f f.size) q → IsBefore f (rounded f f.size) q
    go (inl g) = absurd (end_low f v g.0 q k (ap length e ∙ rounded_length f f.size) (e ∙ g.1) l)
    go (inr w) = inr w
below_before f v q k h n (inl (inr e)) l = subst (λ (u : List ℤ). IsBefore f u q) (sym e) (go (neighbour_leads f q k.some h n))
  where
    past : (a b c d : ℤ) → a ≡ b → b ≤ℤ c → c ≤ℤ d → d <ℤ a → ⊥
    past a b c d e h k l = omega (arith, ints)

    below : low f (neighbour f) ≤ℤ (pos (2 ^ 60) *ℤ value f.p v)
    below = subst (λ (u : List ℤ). low f u ≤ℤ (pos (2 ^ 60) *ℤ value f.p v)) e (k.below v (ap length e ∙ neighbour_length f k.some))

    go : ((g : List ℤ) × (neighbour f ≡ g ++ q)) ⊎ ((q ≡ rounded f f.size) ⊎ IsNearer f (neighbour f) q) → IsBefore f (neighbour f) q
    go (inl g) = absurd (end_low f v g.0 q k (ap length e ∙ neighbour_length f k.some) (e ∙ g.1) l)
    go (inr (inl m)) = absurd (past (low f q) (low f (rounded f f.size)) (low f (neighbour f)) (pos (2 ^ 60) *ℤ value f.p v) (ap (low f) m) (rounded_low f k) below l)
    go (inr (inr w)) = inr w

-- of a full vector z, two different vectors that precede it and have values below its own come before it
less_before : (f : SearchForm) (v z : List ℤ) → IsSearchable f → length z ≡ f.size → Precedes f v z → value f.p v <ℤ value f.p z → IsBefore f v z ⊎ ((v ≡ neighbour f) × (z ≡ rounded f f.size))
less_before f v z k h (inr b) l = inl b
less_before f v z k h (inl (inl e)) l = go (rounded_leads f z (omega arith))
  where
    go : ((g : List ℤ) × (rounded f f.size ≡ g ++ z)) ⊎ IsNearer f (rounded f f.size) z → IsBefore f v z ⊎ ((v ≡ neighbour f) × (z ≡ rounded f f.size))
    go (inl g) = absurd (less_itself f v z (e ∙ same_ends [] g.0 (rounded f f.size) z g.1 (rounded_length f f.size ∙ sym h)) l)
    go (inr w) = inl (subst (λ (u : List ℤ). IsBefore f u z) (sym e) (inr w))
less_before f v z k h (inl (inr e)) l = go (neighbour_leads f z k.some (omega arith) (let some_integers = k.some in omega arith))
  where
    go : ((g : List ℤ) × (neighbour f ≡ g ++ z)) ⊎ ((z ≡ rounded f f.size) ⊎ IsNearer f (neighbour f) z) → IsBefore f v z ⊎ ((v ≡ neighbour f) × (z ≡ rounded f f.size))
    go (inl g) = absurd (less_itself f v z (e ∙ same_ends [] g.0 (neighbour f) z g.1 (neighbour_length f k.some ∙ sym h)) l)
    go (inr (inl m)) = inr (e, m)
    go (inr (inr w)) = inl (subst (λ (u : List ℤ). IsBefore f u z) (sym e) (inr w))

pub pair_before : (f : SearchForm) (v w z : List ℤ) → IsSearchable f → length v ≡ f.size → length w ≡ f.size → length z ≡ f.size → v ≢ w → Precedes f v z → Precedes f w z →
    value f.p v <ℤ value f.p z → value f.p w <ℤ value f.p z → IsBefore f v z × IsBefore f w z
pair_before f v w z k a b c d p q l m = go (less_before f v z k c p l) (less_before f w z k c q m)
  where
    none : (u : List ℤ) → length u ≡ f.size → z ≡ rounded f f.size → IsBefore f u z → ⊥
    none u h e t = rounded_first_of_all f u h (subst (λ (y : List ℤ). IsBefore f u y) e t)

    go : IsBefore f v z ⊎ ((v ≡ neighbour f) × (z ≡ rounded f f.size)) → IsBefore f w z ⊎ ((w ≡ neighbour f) × (z ≡ rounded f f.size)) → IsBefore f v z × IsBefore f w z
    go (inl x) (inl y) = (x, y)
    go (inl x) (inr y) = absurd (none v a y.1 x)
    go (inr x) (inl y) = absurd (none w b x.1 y)
    go (inr x) (inr y) = absurd (d (x.0 ∙ sym y.0))
