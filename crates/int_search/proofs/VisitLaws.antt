-- What is open comes no earlier than the suffix that a search visits next, so it comes to that one after the visits that it has made.
use Rattle.std.proofs.Common.{◌≡◌, ◌⊎◌, inl, inr, ⊎_elim, ℕ, ◌-◌, ◌<◌, ◌≤◌, ◌^◌, List, [], ◌∷◌, ◌++◌, length, ℤ, pos, negsuc, ◌+ℤ◌, ◌*ℤ◌, neg_ℤ, ◌<ℤ◌, ◌≤ℤ◌, arith, refl, ap, sym, ◌∙◌, subst, unsigned_abs, le_refl, not-le_of_lt}
use Rattle.std.proofs.Common.{length-append, append_assoc}
use Rattle.std.proofs.lemmas.Int.{ints}
use Rattle.whole_math.proofs.Order.{polys}
use Rattle.int_search.specs.Suffixes.{SearchForm, offset, rest}
use Rattle.int_search.specs.VisitOrder.{IsCloser, IsBefore}
use Rattle.int_search.specs.Levels.{tail_of, IsFree, IsOpenAt, IsOpen, IsLevel, AreUnder, AreLevels}
use Rattle.int_search.specs.declared.stack.Level.{Level}
use Rattle.int_search.proofs.SuffixLaws.{offset-is, IsNearest, offset_mono}
use Rattle.int_search.proofs.OpenLaws.{same_heads, between_not_free, along_free}

-- ---- of two entries before the same ones the taken one is no further
pub offsets : (f : SearchForm) (x y : ℤ) (s : List ℤ) → x <ℤ y → (offset f x s +ℤ pos (2 ^ 30)) ≤ℤ offset f y s
offsets f x y s h = subst (λ (v : ℤ). (offset f x s +ℤ pos (2 ^ 30)) ≤ℤ v) (sym (offset-is f y s))
    (subst (λ (u : ℤ). (u +ℤ pos (2 ^ 30)) ≤ℤ ((pos (2 ^ 30) *ℤ y) +ℤ rest f s)) (sym (offset-is f x s)) (step x y (rest f s) h))
  where
    step : (x y e : ℤ) → x <ℤ y → (((pos (2 ^ 30) *ℤ x) +ℤ e) +ℤ pos (2 ^ 30)) ≤ℤ ((pos (2 ^ 30) *ℤ y) +ℤ e)
    step x y e h = omega (arith, polys)

-- an entry that isn't taken is at an end of the level or past it
past_end : (f : SearchForm) (a : Level) (s : List ℤ) (y : ℤ) → IsLevel f a s → IsFree a y → (a.up_offset ≤ℤ offset f y s) ⊎ (offset f y s ≤ℤ a.down_offset)
past_end f a s y k (inl d) = inr (subst (λ (u : ℤ). offset f y s ≤ℤ u) (sym k.down_offset_is) (offset_mono f y a.down s d))
past_end f a s y k (inr u) = inl (subst (λ (v : ℤ). v ≤ℤ offset f y s) (sym k.up_offset_is) (offset_mono f a.up y s u))

-- of offsets from one centre none comes before itself
pub closer_never : (a : ℤ) → IsCloser a a → ⊥
closer_never a (inl h) = not-le_of_lt h (le_refl (unsigned_abs a))
closer_never a (inr h) = omega (arith, ints)

-- nor after what it comes before
pub closer_apart : (a b : ℤ) → IsCloser a b → IsCloser b a → ⊥
closer_apart a b (inl h) (inl k) = omega arith
closer_apart a b (inl h) (inr k) = omega arith
closer_apart a b (inr h) (inl k) = omega arith
closer_apart a b (inr h) (inr k) = omega (arith, ints)

-- x is less far than y, or as far and above
pub closer_from : (x y : ℤ) → unsigned_abs x ≤ unsigned_abs y → y <ℤ x → IsCloser x y
closer_from x y h k = go (unsigned_abs x) (unsigned_abs y) h (λ l. inl l) (λ e. inr (e, k))
  where
    go : {P : Type 0} (m n : ℕ) → m ≤ n → (m < n → P) → (m ≡ n → P) → P
    go m n h less same = ⊎_elim less same (split m n h)
      where
        split : (m n : ℕ) → m ≤ n → (m < n) ⊎ (m ≡ n)
        split m n h = grind arith

pub taken_first : (f : SearchForm) (a : Level) (s : List ℤ) (x y : ℤ) → IsLevel f a s → a.down <ℤ x → x <ℤ a.up → IsFree a y → IsCloser (offset f x s) (offset f y s)
taken_first f a s x y k h g free =
    let over : (offset f a.down s +ℤ pos (2 ^ 30)) ≤ℤ offset f x s = offsets f a.down x s h in
    let under : (offset f x s +ℤ pos (2 ^ 30)) ≤ℤ offset f a.up s = offsets f x a.up s g in
    step (offset f x s) (offset f y s) a.up_offset a.down_offset (subst (λ (d : ℤ). (d +ℤ pos (2 ^ 30)) ≤ℤ offset f x s) (sym k.down_offset_is) over)
    (subst (λ (u : ℤ). (offset f x s +ℤ pos (2 ^ 30)) ≤ℤ u) (sym k.up_offset_is) under) k.balanced k.tied (past_end f a s y k free)
  where
    step : (x y u d : ℤ) → (d +ℤ pos (2 ^ 30)) ≤ℤ x → (x +ℤ pos (2 ^ 30)) ≤ℤ u → unsigned_abs (u +ℤ d) ≤ 2 ^ 30 → (negsuc (2 ^ 30 - 1) <ℤ (u +ℤ d)) ⊎ (u ≡ pos 0) → (u ≤ℤ y) ⊎ (y ≤ℤ d) → IsCloser x y
    step x y u d a b c (inl t) (inl h) = inl (omega (arith, ints))
    step x y u d a b c (inr t) (inl h) = absurd (omega (arith, ints))
    step x y u d a b c t (inr h) = closer_from x y (omega (arith, ints)) (omega (arith, ints))

chosen_first : (f : SearchForm) (a : Level) (s : List ℤ) (x c y : ℤ) → IsLevel f a s → IsNearest a c → offset f x s ≡ c → IsFree a y → IsCloser (offset f y s) (offset f x s) → ⊥
chosen_first f a s x c y k n e free = step (offset f x s) (offset f y s) a.up_offset a.down_offset c e k.above k.under n.nearest (past_end f a s y k free)
  where
    step : (x y u d c : ℤ) → x ≡ c → pos 0 ≤ℤ u → d <ℤ pos 0 → ((c ≡ u) × (u ≤ℤ neg_ℤ d)) ⊎ ((c ≡ d) × (neg_ℤ d <ℤ u)) → (u ≤ℤ y) ⊎ (y ≤ℤ d) → IsCloser y x → ⊥
    step x y u d c e p q (inl m) (inl h) (inl i) = omega (arith, ints)
    step x y u d c e p q (inl m) (inr h) (inl i) = omega (arith, ints)
    step x y u d c e p q (inr m) (inl h) (inl i) = omega (arith, ints)
    step x y u d c e p q (inr m) (inr h) (inl i) = omega (arith, ints)
    step x y u d c e p q (inl m) (inl h) (inr i) = omega (arith, ints)
    step x y u d c e p q (inl m) (inr h) (inr i) = omega (arith, ints)
    step x y u d c e p q (inr m) (inl h) (inr i) = omega (arith, ints)
    step x y u d c e p q (inr m) (inr h) (inr i) = omega (arith, ints)

-- ---- two endings of one list
record AreSameEnds (m n : ℤ) (u v : List ℤ) : Type 0 where
  heads : m ≡ n
  tails : u ≡ v

abbrev Ends : ℤ → ℤ → List ℤ → List ℤ → Type 0
Ends m n u v = AreSameEnds m n u v ⊎ (((g : List ℤ) × (u ≡ g ++ (n ∷ v))) ⊎ ((g : List ℤ) × (v ≡ g ++ (m ∷ u))))

ends : (a b : List ℤ) (m n : ℤ) (u v : List ℤ) → a ++ (m ∷ u) ≡ b ++ (n ∷ v) → Ends m n u v
ends [] [] m n u v e = inl (record { heads = cc; tails = cc })
ends [] (z ∷ b) m n u v e = inr (inl (b, cc))
ends (z ∷ a) [] m n u v e = inr (inr (a, cc))
ends (z ∷ a) (w ∷ b) m n u v e = let same_joined : a ++ (m ∷ u) ≡ b ++ (n ∷ v) = cc in ends a b m n u v same_joined

-- the entry before an ending of a longer ending
inside : (a b g : List ℤ) (x y z : ℤ) (t u : List ℤ) → a ++ (x ∷ t) ≡ b ++ (y ∷ u) → t ≡ g ++ (z ∷ u) → z ≡ y
inside a b g x y z t u e i = same_heads (a ++ (x ∷ g)) b z y u (append_assoc a (x ∷ g) (z ∷ u) ∙ ap (λ l. a ++ (x ∷ l)) (sym i) ∙ e)

-- ---- no suffix that comes before is open

closed_at : (f : SearchForm) (b : Level) (t q s more : List ℤ) (y : ℤ) → IsLevel f b t → b.down <ℤ y → y <ℤ b.up → s ≡ more ++ (y ∷ t) → IsBefore f q s → IsOpenAt b t q → ⊥
closed_at f b t q s more y k h g e (inl w) o =
    let same : (w.front ++ o.front) ++ (o.head ∷ t) ≡ more ++ (y ∷ t) = append_assoc w.front o.front (o.head ∷ t) ∙ ap (λ l. w.front ++ l) (sym o.split) ∙ sym w.split ∙ e in
    between_not_free b y h g (along_free b o.head y (same_heads (w.front ++ o.front) more o.head y t same) o.free)
closed_at f b t q s more y k h g e (inr w) o = go (ends w.near_front o.front w.near o.head w.same t (sym w.near_split ∙ o.split))
  where
    both : w.far_front ++ (w.far ∷ w.same) ≡ more ++ (y ∷ t)
    both = sym w.far_split ∙ e

    go : Ends w.near o.head w.same t → ⊥
    go (inl m) =
        let far : w.far ≡ y = same_heads w.far_front more w.far y t (ap (λ l. w.far_front ++ (w.far ∷ l)) (sym m.tails) ∙ both) in
        let near : IsCloser (offset f o.head t) (offset f y t) =
        subst (λ (z : ℤ). IsCloser (offset f o.head t) (offset f z t)) far
        (subst (λ (z : ℤ). IsCloser (offset f z t) (offset f w.far t)) m.heads
        (subst (λ (l : List ℤ). IsCloser (offset f w.near l) (offset f w.far l)) m.tails w.nearer)) in
        closer_apart (offset f o.head t) (offset f y t) near (taken_first f b t y o.head k h g o.free)
    go (inr (inl m)) = between_not_free b y h g (along_free b o.head y (inside w.far_front more m.0 w.far y o.head w.same t both m.1) o.free)
    go (inr (inr m)) =
        let near : w.near ≡ w.far = inside more w.far_front m.0 y w.far w.near t w.same (sym both) m.1 in
        closer_never (offset f w.near w.same) (subst (λ (z : ℤ). IsCloser (offset f w.near w.same) (offset f z w.same)) (sym near) w.nearer)

closed_below : (f : SearchForm) (r : List Level) (t q s more : List ℤ) → AreUnder f r t → s ≡ more ++ t → IsBefore f q s → IsOpen r (tail_of t) q → ⊥
closed_below f [] t q s more u e w o = o
closed_below f (b ∷ r) [] q s more u e w o = absurd u
closed_below f (b ∷ r) (y ∷ t) q s more u e w (inl o) = closed_at f b t q s more y u.0 u.1.0 u.1.1 e w o
closed_below f (b ∷ r) (y ∷ t) q s more u e w (inr o) = closed_below f r t q s (more ++ y ∷ []) u.2 (e ∙ sym (append_assoc more (y ∷ []) t)) w o

-- x is the entry that the latest level takes next
closed_first : (f : SearchForm) (a : Level) (s q : List ℤ) (x c : ℤ) → IsLevel f a s → IsNearest a c → offset f x s ≡ c → IsBefore f q (x ∷ s) → IsOpenAt a s q → ⊥
closed_first f a s q x c k n e (inl w) o = longer w.front o.front w.some (w.split ∙ ap (λ l. w.front ++ l) o.split)
  where
    longer : (g h : List ℤ) → 0 < length g → x ∷ s ≡ g ++ (h ++ (o.head ∷ s)) → ⊥
    longer g h p e = omega (arith, simp (length-append) at (ap length e))
closed_first f a s q x c k n e (inr w) o = go (ends w.near_front o.front w.near o.head w.same s (sym w.near_split ∙ o.split))
  where
    both : w.far_front ++ (w.far ∷ w.same) ≡ [] ++ (x ∷ s)
    both = sym w.far_split

    too_long : (g h : List ℤ) (z y : ℤ) → g ++ (z ∷ (h ++ (y ∷ s))) ≡ x ∷ s → ⊥
    too_long g h z y e = omega (arith, simp (length-append) at (ap length e))

    go : Ends w.near o.head w.same s → ⊥
    go (inl m) =
        let far : w.far ≡ x = same_heads w.far_front [] w.far x s (ap (λ l. w.far_front ++ (w.far ∷ l)) (sym m.tails) ∙ both) in
        let near : IsCloser (offset f o.head s) (offset f x s) =
        subst (λ (z : ℤ). IsCloser (offset f o.head s) (offset f z s)) far
        (subst (λ (z : ℤ). IsCloser (offset f z s) (offset f w.far s)) m.heads
        (subst (λ (l : List ℤ). IsCloser (offset f w.near l) (offset f w.far l)) m.tails w.nearer)) in
        chosen_first f a s x c o.head k n e o.free near
    go (inr (inl m)) = too_long w.far_front m.0 w.far o.head (ap (λ l. w.far_front ++ (w.far ∷ l)) (sym m.1) ∙ both)
    go (inr (inr m)) =
        let near : w.near ≡ w.far = inside [] w.far_front m.0 x w.far w.near s w.same (sym both) m.1 in
        closer_never (offset f w.near w.same) (subst (λ (z : ℤ). IsCloser (offset f w.near w.same) (offset f z w.same)) (sym near) w.nearer)

pub closed_before : (f : SearchForm) (a : Level) (r : List Level) (s q : List ℤ) (x c : ℤ) → AreLevels f (a ∷ r) s → IsNearest a c → offset f x s ≡ c → IsBefore f q (x ∷ s) → IsOpen (a ∷ r) s q → ⊥
closed_before f a r s q x c k n e w (inl o) = closed_first f a s q x c k.0 n e w o
closed_before f a r s q x c k n e w (inr o) = closed_below f r s q (x ∷ s) (x ∷ []) k.1 refl w o
