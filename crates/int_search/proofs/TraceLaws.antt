-- What a search visits is what is visited by definition.
use Rattle.std.proofs.Common.{◌≡◌, ◌≢◌, ◌⊎◌, inl, inr, ℕ, ◌+◌, ◌<◌, ◌≤◌, ◌^◌, List, [], ◌∷◌, ◌++◌, length, get_or, ℤ, pos, ◌*ℤ◌, ◌<ℤ◌, ◌≤ℤ◌, arith, refl, ap, sym, ◌∙◌, subst, All, length-append, append_assoc}
use Rattle.std.specs.List.{Contains}
use Rattle.std.proofs.lemmas.List.Elements.{All-cons}
use Rattle.std.proofs.lemmas.List.Kept.{AllPairs-cons}
use Rattle.whole_math.proofs.Order.{lins, polys}
use Rattle.quadratic_form.specs.Rows.{value}
use Rattle.int_search.specs.Suffixes.{SearchForm, IsSearchable, offset, low}
use Rattle.int_search.specs.PlainCount.{rounded, neighbour, top, HasLarge}
use Rattle.int_search.specs.VisitOrder.{IsCloser, IsBefore}
use Rattle.int_search.specs.VisitedSuffixes.{IsLeftOut, IsVisited, IsCandidate, IsTooLarge, IsWithinVisits, IsStartTooWide, MeetsTooWide, EndsByItself, IsOverBudget}
use Rattle.int_search.specs.Order.{IsLess}
use Rattle.int_search.specs.Levels.{tail_of, IsOpen, IsLevel, AreUnder, AreLevels}
use Rattle.int_search.specs.Search.{Precedes, HasVisitedAll, IsSettled, IsCovered}
use Rattle.int_search.specs.declared.stack.Level.{Level}
use Rattle.int_search.proofs.SuffixLaws.{IsNearest}
use Rattle.int_search.proofs.OpenLaws.{same_heads}
use Rattle.int_search.proofs.OrderLaws.{less_le, less_apart}
use Rattle.int_search.proofs.Counting.{contains_first, contains_later, contained_most}
use Rattle.int_search.proofs.VisitLaws.{closer_never, taken_first, closed_before}
use Rattle.int_search.proofs.PointLaws.{rounded_length, neighbour_length}
use Rattle.int_search.proofs.PointOrder.{below_before}

-- ---- what is visited comes before what is open
before_under : (f : SearchForm) (r : List Level) (t v q more : List ℤ) → AreUnder f r t → v ≡ more ++ t → IsOpen r (tail_of t) q → IsBefore f v q
before_under f [] t v q more u e o = absurd o
before_under f (b ∷ r) [] v q more u e o = absurd u
before_under f (b ∷ r) (y ∷ t) v q more u e (inl o) = inr (record {
  same = t;
  near = y;
  far = o.head;
  near_front = more;
  far_front = o.front;
  near_split = e;
  far_split = o.split;
  nearer = taken_first f b t y o.head u.0 u.1.0 u.1.1 o.free;
})
before_under f (b ∷ r) (y ∷ t) v q more u e (inr o) = before_under f r t v q (more ++ y ∷ []) u.2 (e ∙ sym (append_assoc more (y ∷ []) t)) o

pub leaf_first : (f : SearchForm) (b : Level) (r : List Level) (x : ℤ) (s q : List ℤ) → IsLevel f b s → b.down <ℤ x → x <ℤ b.up → AreUnder f r s → IsOpen (b ∷ r) s q → IsBefore f (x ∷ s) q
leaf_first f b r x s q k h g u (inl o) = inr (record {
  same = s;
  near = x;
  far = o.head;
  near_front = [];
  far_front = o.front;
  near_split = refl;
  far_split = o.split;
  nearer = taken_first f b s x o.head k h g o.free;
})
leaf_first f b r x s q k h g u (inr o) = before_under f r s (x ∷ s) q (x ∷ []) u refl o

pub inner_first : (f : SearchForm) (b c : Level) (r : List Level) (x : ℤ) (s q : List ℤ) → IsLevel f b s → b.down <ℤ x → x <ℤ b.up → AreUnder f r s → IsOpen (c ∷ b ∷ r) (x ∷ s) q → IsBefore f (x ∷ s) q
inner_first f b c r x s q k h g u (inl o) = inl (record {
  front = o.front ++ (o.head ∷ []);
  some = longer o.front o.head;
  split = o.split ∙ sym (append_assoc o.front (o.head ∷ []) (x ∷ s));
})
  where
    longer : (g : List ℤ) (y : ℤ) → 0 < length (g ++ (y ∷ []))
    longer g y = let joined : length (g ++ (y ∷ [])) ≡ length g + 1 = length-append g (y ∷ []) in omega arith
inner_first f b c r x s q k h g u (inr o) = leaf_first f b r x s q k h g u o

before_never : (f : SearchForm) (q : List ℤ) → IsBefore f q q → ⊥
before_never f q (inl w) =
    let joined : length (w.front ++ q) ≡ length w.front + length q = length-append w.front q in
    let same : length q ≡ length (w.front ++ q) = ap length w.split in
    let some_front = w.some in
    omega arith
before_never f q (inr w) =
    let equal : w.near ≡ w.far = same_heads w.near_front w.far_front w.near w.far w.same (sym w.near_split ∙ w.far_split) in
    closer_never (offset f w.near w.same) (subst (λ (z : ℤ). IsCloser (offset f w.near w.same) (offset f z w.same)) (sym equal) w.nearer)

-- ---- what is visited next is visited by definition
-- a vector before it with a value below the second best one is the best
alone : (f : SearchForm) (im : List ℤ → List ℤ) (a : Level) (r : List Level) (x c : ℤ) (s one two v : List ℤ) → AreLevels f (a ∷ r) s → IsCovered f im (a ∷ r) s one two → IsNearest a c → offset f x s ≡ c →
    length v ≡ f.size → IsBefore f v (x ∷ s) → value f.p v <ℤ value f.p two → v ≡ one
alone f im a r x c s one two v k h e i g b l = go (h.each v g)
  where
    past : (a b : ℤ) → a <ℤ b → b ≤ℤ a → ⊥
    past a b h g = omega (arith, lins)

    same : (a b : ℤ) → a ≡ b → b ≤ℤ a
    same a b e = omega (arith, lins)

    go : IsSettled f im one two v ⊎ IsOpen (a ∷ r) s v → v ≡ one
    go (inl (inl m)) = m
    go (inl (inr (inl m))) = absurd (past (value f.p v) (value f.p two) l (same (value f.p v) (value f.p two) (ap (value f.p) m)))
    go (inl (inr (inr m))) = absurd (past (value f.p v) (value f.p two) l (less_le f im two v m))
    go (inr o) = absurd (closed_before f a r s v x c k e i b o)

pub next_visited : (f : SearchForm) (im : List ℤ → List ℤ) (a : Level) (r : List Level) (x c : ℤ) (s one two : List ℤ) → AreLevels f (a ∷ r) s → IsCovered f im (a ∷ r) s one two → IsNearest a c → offset f x s ≡ c →
    low f (x ∷ s) ≤ℤ (pos (2 ^ 60) *ℤ value f.p two) → IsVisited f (x ∷ s)
next_visited f im a r x c s one two k h e i l = record {
  some = omega arith;
  most = let shorter = k.0.shorter in omega arith;
  kept = λ o. o.differ (best o.one o.one_size o.one_before o.one_below ∙ sym (best o.two o.two_size o.two_before o.two_below));
}
  where
    below : (a b c : ℤ) → (pos (2 ^ 60) *ℤ a) <ℤ c → c ≤ℤ (pos (2 ^ 60) *ℤ b) → a <ℤ b
    below a b c h g = omega (arith, polys)

    best : (v : List ℤ) → length v ≡ f.size → IsBefore f v (x ∷ s) → (pos (2 ^ 60) *ℤ value f.p v) <ℤ low f (x ∷ s) → v ≡ one
    best v g b m = alone f im a r x c s one two v k h e i g b (below (value f.p v) (value f.p two) (low f (x ∷ s)) m l)

pub next_candidate : (f : SearchForm) (im : List ℤ → List ℤ) (a : Level) (r : List Level) (x c : ℤ) (s one two : List ℤ) → AreLevels f (a ∷ r) s → IsCovered f im (a ∷ r) s one two → IsNearest a c → offset f x s ≡ c →
    length (x ∷ s) ≡ f.size → value f.p (x ∷ s) ≤ℤ value f.p two → IsCandidate f (x ∷ s)
next_candidate f im a r x c s one two k h e i n l = record {
  full = n;
  kept = λ o. o.differ (best o.one o.one_size o.one_before o.one_below ∙ sym (best o.two o.two_size o.two_before o.two_below));
}
  where
    below : (a b c : ℤ) → a <ℤ c → c ≤ℤ b → a <ℤ b
    below a b c h g = omega (arith, lins)

    best : (v : List ℤ) → length v ≡ f.size → IsBefore f v (x ∷ s) → value f.p v <ℤ value f.p (x ∷ s) → v ≡ one
    best v g b m = alone f im a r x c s one two v k h e i g b (below (value f.p v) (value f.p two) (value f.p (x ∷ s)) m l)

-- ---- turns
-- nothing is visited, and what is no longer open is past the second best value
pub traced_same : (f : SearchForm) (im : List ℤ → List ℤ) (fs gs : List Level) (s t one two : List ℤ) (n : ℕ) → IsSearchable f → length one ≡ f.size → length two ≡ f.size → IsLess f im one two →
    ((v : List ℤ) → IsOpen gs t v → IsOpen fs s v) →
    ((v : List ℤ) → length v ≤ f.size → IsOpen fs s v → ((pos (2 ^ 60) *ℤ value f.p two) <ℤ low f v) ⊎ IsOpen gs t v) → HasVisitedAll f im fs s one two n → HasVisitedAll f im gs t one two n
traced_same f im fs gs s t one two n k a b l back after h = record {
  suffixes = h.suffixes;
  many = h.many;
  different = h.different;
  visited = h.visited;
  first = λ j d i q o. h.first j d i q (back q o);
  small = h.small;
  left = λ q some most. again q some most (h.left q some most);
  ahead = λ q o. h.ahead q (back q o);
  started = h.started;
}
  where
    under : (a b c : ℤ) → a ≤ℤ b → (pos (2 ^ 60) *ℤ b) <ℤ c → (pos (2 ^ 60) *ℤ a) <ℤ c
    under a b c h g = omega (arith, polys)

    out : (q : List ℤ) → 0 < length q → length q ≤ f.size → Precedes f one q × Precedes f two q → (pos (2 ^ 60) *ℤ value f.p two) <ℤ low f q → IsLeftOut f q
    out q some most p g =
        let first_below : (pos (2 ^ 60) *ℤ value f.p one) <ℤ low f q = under (value f.p one) (value f.p two) (low f q) (less_le f im one two l) g in
        record {
          one = one;
          two = two;
          one_size = a;
          two_size = b;
          differ = less_apart f im one two l;
          one_before = below_before f one q k most some p.0 first_below;
          two_before = below_before f two q k most some p.1 g;
          one_below = first_below;
          two_below = g;
        }

    again : (q : List ℤ) → 0 < length q → length q ≤ f.size → Contains h.suffixes q ⊎ (IsLeftOut f q ⊎ IsOpen fs s q) → Contains h.suffixes q ⊎ (IsLeftOut f q ⊎ IsOpen gs t q)
    again q some most (inl c) = inl c
    again q some most (inr (inl c)) = inr (inl c)
    again q some most (inr (inr o)) = go (after q most o)
      where
        go : ((pos (2 ^ 60) *ℤ value f.p two) <ℤ low f q) ⊎ IsOpen gs t q → Contains h.suffixes q ⊎ (IsLeftOut f q ⊎ IsOpen gs t q)
        go (inl g) = inr (inl (out q some most (h.ahead q o) g))
        go (inr g) = inr (inr g)

abbrev IsFrom : List ℤ → List ℤ → List ℤ → List ℤ → Type 0
IsFrom one two z v = (v ≡ one) ⊎ ((v ≡ two) ⊎ (v ≡ z))

-- q is visited, and may take its place among the two best
pub traced_more : (f : SearchForm) (im : List ℤ → List ℤ) (fs gs : List Level) (s t one two new_one new_two q : List ℤ) (n : ℕ) → IsOpen fs s q → IsVisited f q → (IsTooLarge f im q → ⊥) →
    ((v : List ℤ) → IsOpen gs t v → IsOpen fs s v) → ((v : List ℤ) → IsOpen gs t v → IsBefore f q v) →
    ((v : List ℤ) → length v ≤ f.size → IsOpen fs s v → (v ≡ q) ⊎ IsOpen gs t v) →
    IsFrom one two q new_one → IsFrom one two q new_two → HasVisitedAll f im fs s one two n → HasVisitedAll f im gs t new_one new_two (n + 1)
traced_more f im fs gs s t one two new_one new_two q n o w large back before after a b h = record {
  suffixes = q ∷ h.suffixes;
  many = let many_visited = h.many in omega arith;
  different = AllPairs-cons (λ u v. u ≢ v) q h.suffixes (λ k d l e. before_never f q (subst (λ (v : List ℤ). IsBefore f v q) (sym e) (h.first k d l q o))) h.different;
  visited = All-cons (IsVisited f) q h.suffixes w h.visited;
  first = All-cons (λ v. (p : List ℤ) → IsOpen gs t p → IsBefore f v p) q h.suffixes before (λ k d l p g. h.first k d l p (back p g));
  small = All-cons (λ v. IsTooLarge f im v → ⊥) q h.suffixes large h.small;
  left = λ v some most. again v most (h.left v some most);
  ahead = λ v g. (along v g new_one a, along v g new_two b);
  started = h.started;
}
  where
    here : (v : List ℤ) → (v ≡ q) ⊎ IsOpen gs t v → Contains (q ∷ h.suffixes) v ⊎ (IsLeftOut f v ⊎ IsOpen gs t v)
    here v (inl e) = inl (subst (λ (u : List ℤ). Contains (q ∷ h.suffixes) u) (sym e) (contains_first h.suffixes q))
    here v (inr m) = inr (inr m)

    again : (v : List ℤ) → length v ≤ f.size → Contains h.suffixes v ⊎ (IsLeftOut f v ⊎ IsOpen fs s v) → Contains (q ∷ h.suffixes) v ⊎ (IsLeftOut f v ⊎ IsOpen gs t v)
    again v most (inl m) = inl (contains_later h.suffixes q v m)
    again v most (inr (inl m)) = inr (inl m)
    again v most (inr (inr m)) = here v (after v most m)

    along : (v : List ℤ) → IsOpen gs t v → (u : List ℤ) → IsFrom one two q u → Precedes f u v
    along v g u (inl e) = subst (λ (y : List ℤ). Precedes f y v) (sym e) (h.ahead v (back v g)).0
    along v g u (inr (inl e)) = subst (λ (y : List ℤ). Precedes f y v) (sym e) (h.ahead v (back v g)).1
    along v g u (inr (inr e)) = subst (λ (y : List ℤ). Precedes f y v) (sym e) (inr (before v g))

-- ---- ends
in_list : (P : List ℤ → Type 0) (qs : List (List ℤ)) (q : List ℤ) → All P qs → Contains qs q → P q
in_list P qs q h c = subst P c.2 (h c.0 q c.1)

-- what is visited by definition and comes before what is visited next, is visited
pub next_within : (f : SearchForm) (im : List ℤ → List ℤ) (a : Level) (r : List Level) (x c : ℤ) (s one two : List ℤ) (n m : ℕ) → AreLevels f (a ∷ r) s → IsNearest a c → offset f x s ≡ c → n < m →
    HasVisitedAll f im (a ∷ r) s one two n → IsWithinVisits f m (x ∷ s)
next_within f im a r x c s one two n m k e i l h = record {
  fewer = λ qs d w. less (length qs) (contained_most qs h.suffixes d (λ j q g. there (get_or qs j q) (w j q g)));
}
  where
    less : (j : ℕ) → j ≤ length h.suffixes → j < m
    less j g = let many_visited = h.many in omega arith

    there : (q : List ℤ) → IsVisited f q × IsBefore f q (x ∷ s) → Contains h.suffixes q
    there q w = go (h.left q w.0.some w.0.most)
      where
        go : Contains h.suffixes q ⊎ (IsLeftOut f q ⊎ IsOpen (a ∷ r) s q) → Contains h.suffixes q
        go (inl c) = c
        go (inr (inl o)) = absurd (w.0.kept o)
        go (inr (inr o)) = absurd (closed_before f a r s q x c k e i w.1 o)

pub next_outruns : (f : SearchForm) (im : List ℤ → List ℤ) (fs : List Level) (s one two q : List ℤ) (n : ℕ) → IsOpen fs s q → IsVisited f q → HasVisitedAll f im fs s one two n → IsOverBudget f im n
next_outruns f im fs s one two q n o w h = record {
  over = record {
    suffixes = q ∷ h.suffixes;
    many = let many_visited = h.many in omega arith;
    different = AllPairs-cons (λ u v. u ≢ v) q h.suffixes (λ k d l e. before_never f q (subst (λ (v : List ℤ). IsBefore f v q) (sym e) (h.first k d l q o))) h.different;
    visited = All-cons (IsVisited f) q h.suffixes w h.visited;
  };
  small = stopped;
}
  where
    itself : length h.suffixes < n → ⊥
    itself l = let many_visited = h.many in omega arith

    stopped : MeetsTooWide f im n → ⊥
    stopped (inl m) = h.started m
    stopped (inr m) = go (h.left m.0 m.1.0.some m.1.0.most)
      where
        go : Contains h.suffixes m.0 ⊎ (IsLeftOut f m.0 ⊎ IsOpen fs s m.0) → ⊥
        go (inl c) = in_list (λ t. IsTooLarge f im t → ⊥) h.suffixes m.0 h.small c m.1.1
        go (inr (inl c)) = m.1.0.kept c
        go (inr (inr c)) = itself (m.1.2.fewer h.suffixes h.different (λ k d l. (h.visited k d l, h.first k d l m.0 c)))

pub traced_finished : (f : SearchForm) (im : List ℤ → List ℤ) (s one two : List ℤ) (n m : ℕ) → n ≤ m → HasVisitedAll f im [] s one two n → EndsByItself f im m
traced_finished f im s one two n m l h = record {
  start = h.started;
  small = λ q w. in_list (λ t. IsTooLarge f im t → ⊥) h.suffixes q h.small (there q w);
  few = record { each = λ qs d w. most (length qs) (contained_most qs h.suffixes d (λ j q g. there (get_or qs j q) (w j q g))) };
}
  where
    most : (j : ℕ) → j ≤ length h.suffixes → j ≤ m
    most j g = let many_visited = h.many in omega arith

    there : (q : List ℤ) → IsVisited f q → Contains h.suffixes q
    there q w = go (h.left q w.some w.most)
      where
        go : Contains h.suffixes q ⊎ (IsLeftOut f q ⊎ IsOpen [] s q) → Contains h.suffixes q
        go (inl c) = c
        go (inr (inl o)) = absurd (w.kept o)
        go (inr (inr o)) = absurd o

-- ---- laws of the ends
pub stopped_more : (f : SearchForm) (im : List ℤ → List ℤ) (n m : ℕ) → n ≤ m → MeetsTooWide f im n → MeetsTooWide f im m
stopped_more f im n m h (inl s) = inl s
stopped_more f im n m h (inr s) = inr (s.0, (s.1.0, s.1.1, record { fewer = λ qs d w. more (length qs) (s.1.2.fewer qs d w) }))
  where
    more : (j : ℕ) → j < n → j < m
    more j l = omega arith

pub finished_more : (f : SearchForm) (im : List ℤ → List ℤ) (n m : ℕ) → n ≤ m → EndsByItself f im n → EndsByItself f im m
finished_more f im n m h w = record { start = w.start; small = w.small; few = record { each = λ qs d v. more (length qs) (w.few.each qs d v) } }
  where
    more : (j : ℕ) → j ≤ n → j ≤ m
    more j l = omega arith

-- of the three ends a search has one
pub finished_not_outrun : (f : SearchForm) (im : List ℤ → List ℤ) (n : ℕ) → EndsByItself f im n → IsOverBudget f im n → ⊥
finished_not_outrun f im n h o = let few = h.few.each o.over.suffixes o.over.different o.over.visited in let many = o.over.many in omega arith

pub finished_not_stopped : (f : SearchForm) (im : List ℤ → List ℤ) (n m : ℕ) → EndsByItself f im n → MeetsTooWide f im m → ⊥
finished_not_stopped f im n m h (inl s) = h.start s
finished_not_stopped f im n m h (inr s) = h.small s.0 s.1.0 s.1.1

-- ---- the ends are the same for coordinates that give each full vector the same image
abbrev pub AreSameImages : SearchForm → (List ℤ → List ℤ) → (List ℤ → List ℤ) → Type 0
AreSameImages f im jm = (v : List ℤ) → length v ≡ f.size → im v ≡ jm v

large_as : (f : SearchForm) (im jm : List ℤ → List ℤ) (q : List ℤ) → AreSameImages f im jm → IsTooLarge f im q → IsTooLarge f jm q
large_as f im jm q e (inl l) = inl l
large_as f im jm q e (inr l) = inr (l.0, subst HasLarge (e q l.0.full) l.1)

start_as : (f : SearchForm) (im jm : List ℤ → List ℤ) → IsSearchable f → AreSameImages f im jm → IsStartTooWide f im → IsStartTooWide f jm
start_as f im jm k e s = record { wide = go s.wide }
  where
    full : (v : List ℤ) → (v ≡ rounded f f.size) ⊎ (v ≡ neighbour f) → length v ≡ f.size
    full v (inl i) = ap length i ∙ rounded_length f f.size
    full v (inr i) = ap length i ∙ neighbour_length f k.some

    large : (v : List ℤ) → length v ≡ f.size → HasLarge v ⊎ HasLarge (im v) → HasLarge v ⊎ HasLarge (jm v)
    large v i (inl l) = inl l
    large v i (inr l) = inr (subst HasLarge (e v i) l)

    go : (pos (2 ^ 62) ≤ℤ top f) ⊎ ((v : List ℤ) × (((v ≡ rounded f f.size) ⊎ (v ≡ neighbour f)) × (HasLarge v ⊎ HasLarge (im v)))) →
        (pos (2 ^ 62) ≤ℤ top f) ⊎ ((v : List ℤ) × (((v ≡ rounded f f.size) ⊎ (v ≡ neighbour f)) × (HasLarge v ⊎ HasLarge (jm v))))
    go (inl t) = inl t
    go (inr t) = inr (t.0, (t.1.0, large t.0 (full t.0 t.1.0) t.1.1))

back : (f : SearchForm) (im jm : List ℤ → List ℤ) → AreSameImages f im jm → AreSameImages f jm im
back f im jm e v h = sym (e v h)

pub stopped_as : (f : SearchForm) (im jm : List ℤ → List ℤ) (n : ℕ) → IsSearchable f → AreSameImages f im jm → MeetsTooWide f im n → MeetsTooWide f jm n
stopped_as f im jm n k e (inl s) = inl (start_as f im jm k e s)
stopped_as f im jm n k e (inr s) = inr (s.0, (s.1.0, large_as f im jm s.0 e s.1.1, s.1.2))

pub outrun_as : (f : SearchForm) (im jm : List ℤ → List ℤ) (n : ℕ) → IsSearchable f → AreSameImages f im jm → IsOverBudget f im n → IsOverBudget f jm n
outrun_as f im jm n k e o = record { over = o.over; small = λ s. o.small (stopped_as f jm im n k (back f im jm e) s) }

pub finished_as : (f : SearchForm) (im jm : List ℤ → List ℤ) (n : ℕ) → IsSearchable f → AreSameImages f im jm → EndsByItself f im n → EndsByItself f jm n
finished_as f im jm n k e h = record { start = λ s. h.start (start_as f jm im k (back f im jm e) s); small = λ q w l. h.small q w (large_as f jm im q (back f im jm e) l); few = h.few }
