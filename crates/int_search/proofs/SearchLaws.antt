-- The search's state over its turns.
use Rattle.std.proofs.Common.{◌≡◌, ◌⊎◌, inl, inr, ℕ, ◌+◌, ◌<◌, ◌≤◌, ◌^◌, List, [], ◌∷◌, length, ℤ, pos, ◌+ℤ◌, ◌*ℤ◌, ◌<ℤ◌, ◌≤ℤ◌, arith, refl, ap, unsigned_abs}
use Rattle.std.proofs.lemmas.Int.{ints, by_lt_z}
use Rattle.std.proofs.lemmas.List.Elements.{All-nil}
use Rattle.whole_math.proofs.Inequalities.{le_refl_ℤ, le_trans_ℤ}
use Rattle.quadratic_form.specs.Rows.{value}
use Rattle.int_search.specs.Suffixes.{SearchForm, IsSearchable, low, offset, weight}
use Rattle.int_search.specs.PlainCount.{HasLarge, top}
use Rattle.int_search.specs.VisitOrder.{IsBefore}
use Rattle.int_search.specs.VisitedSuffixes.{IsVisited, HasTwoBetter, IsTooLarge, IsStartTooWide, MeetsTooWide, EndsByItself, IsOverBudget}
use Rattle.int_search.specs.Order.{IsLess, AreTwoLeast}
use Rattle.int_search.specs.Levels.{tail_of, IsFree, IsOpenAt, IsOpen, IsLevel, AreUnder, AreLevels, Takes}
use Rattle.int_search.specs.Search.{Precedes, AreStartPoints, IsSettled, IsSearch, IsOffered}
use Rattle.int_search.specs.declared.stack.Level.{Level}
use Rattle.int_search.proofs.OrderLaws.{settled_first, settled_second, less_le, less_apart}
use Rattle.int_search.proofs.SuffixLaws.{IsNearest, far_all}
use Rattle.int_search.proofs.OpenLaws.{leaf_before, leaf_after, inner_before, inner_after, HasLast, has_last}
use Rattle.int_search.proofs.OpenLaws.{pop_settles, pop_after}
use Rattle.int_search.proofs.PointOrder.{pair_before}
use Rattle.int_search.proofs.TraceLaws.{leaf_first, inner_first, next_visited, next_candidate, traced_same, traced_more, next_within, next_outruns, traced_finished}

-- the level and the second say that x::s is open
pub open_head : (a : Level) (r : List Level) (x : ℤ) (s : List ℤ) → IsFree a x → IsOpen (a ∷ r) s (x ∷ s)
open_head a r x s h = inl (record { head = x; front = []; split = refl; free = h })

levels_tail : (f : SearchForm) (r : List Level) (s : List ℤ) → AreUnder f r s → AreLevels f r (tail_of s)
levels_tail f [] s u = tt
levels_tail f (b ∷ r) [] u = absurd u
levels_tail f (b ∷ r) (x ∷ s) u = (u.0, u.2)

pub search_pop : (f : SearchForm) (im : List ℤ → List ℤ) (a : Level) (r : List Level) (s one two : List ℤ) (n : ℕ) (c : ℤ) → IsSearchable f → IsSearch f im (a ∷ r) s one two n → IsNearest a c →
    (pos (2 ^ 60) *ℤ value f.p two) <ℤ (low f s +ℤ (weight f s *ℤ (c *ℤ c))) → IsSearch f im r (tail_of s) one two n
search_pop f im a r s one two n c h k m far = record {
  one_size = k.one_size;
  two_size = k.two_size;
  ordered = k.ordered;
  bound = k.bound;
  levels = levels_tail f r s k.levels.1;
  covered = record { each = λ v g. go v g (k.covered.each v g) };
  traced = traced_same f im (a ∷ r) r s (tail_of s) one two n h k.one_size k.two_size k.ordered (λ v o. inr o) (λ v g. pop_after f (pos (2 ^ 60) *ℤ value f.p two) a r s v h g past) k.traced;
}
  where
    past : (y : ℤ) → IsFree a y → (pos (2 ^ 60) *ℤ value f.p two) <ℤ low f (y ∷ s)
    past = far_all f a s c (pos (2 ^ 60) *ℤ value f.p two) h k.levels.0 m far

    go : (v : List ℤ) → length v ≡ f.size → IsSettled f im one two v ⊎ IsOpen (a ∷ r) s v → IsSettled f im one two v ⊎ IsOpen r (tail_of s) v
    go v g (inl o) = inl o
    go v g (inr o) = pop_settles f im a r s one two v h g past o

pub search_inner : (f : SearchForm) (im : List ℤ → List ℤ) (a b c : Level) (r : List Level) (x z : ℤ) (s one two : List ℤ) (n : ℕ) → IsSearch f im (a ∷ r) s one two n → IsNearest a z → offset f x s ≡ z → (HasLarge (x ∷ s) → ⊥) → Takes a x b →
    IsLevel f b s → IsLevel f c (x ∷ s) → ((y : ℤ) → IsFree c y) →
    low f (x ∷ s) ≤ℤ (pos (2 ^ 60) *ℤ value f.p two) → IsSearch f im (c ∷ b ∷ r) (x ∷ s) one two (n + 1)
search_inner f im a b c r x z s one two n k nz iz small t fb fc all l = record {
  one_size = k.one_size;
  two_size = k.two_size;
  ordered = k.ordered;
  bound = k.bound;
  levels = (fc, (fb, (t.above, t.under), k.levels.1));
  covered = record { each = λ v g. go v g (k.covered.each v g) };
  traced = traced_more f im (a ∷ r) (c ∷ b ∷ r) s (x ∷ s) one two one two (x ∷ s) n (open_head a r x s t.was_free) (next_visited f im a r x z s one two k.levels k.covered nz iz l) narrow
      (λ v. inner_before a b c r x s v t) (λ v o. inner_first f b c r x s v fb t.above t.under k.levels.1 o) (λ v m. inner_after a b c r x s v t all) (inl refl) (inr (inl refl)) k.traced;
}
  where
    narrow : IsTooLarge f im (x ∷ s) → ⊥
    narrow (inl w) = small w
    narrow (inr w) = let is_shorter = fc.shorter in let full = w.0.full in omega arith

    longer : (v : List ℤ) → length v ≡ f.size → (v ≡ x ∷ s) ⊎ IsOpen (c ∷ b ∷ r) (x ∷ s) v → IsOpen (c ∷ b ∷ r) (x ∷ s) v
    longer v g (inl e) = absurd (let is_shorter = fc.shorter in let same_length = ap length e in omega arith)
    longer v g (inr o) = o

    go : (v : List ℤ) → length v ≡ f.size → IsSettled f im one two v ⊎ IsOpen (a ∷ r) s v → IsSettled f im one two v ⊎ IsOpen (c ∷ b ∷ r) (x ∷ s) v
    go v g (inl o) = inl o
    go v g (inr o) = inr (longer v g (inner_after a b c r x s v t all o))

pub offer_first : (f : SearchForm) (im : List ℤ → List ℤ) (one two z : List ℤ) → length one ≡ f.size → length z ≡ f.size → IsLess f im one two → IsLess f im z one → IsOffered f im one two z z one
offer_first f im one two z a b o h = record { one_size = b; two_size = a; ordered = h; bound = less_le f im one two o; kept = λ v. settled_first f im one two z v o; offered = inl refl; first_from = inr (inr refl); second_from = inl refl }

pub offer_second : (f : SearchForm) (im : List ℤ → List ℤ) (one two z : List ℤ) → length one ≡ f.size → length z ≡ f.size → IsLess f im one z → IsLess f im z two → IsOffered f im one two z one z
offer_second f im one two z a b o h = record { one_size = a; two_size = b; ordered = o; bound = less_le f im z two h; kept = λ v. settled_second f im one two z v h; offered = inr (inl refl); first_from = inl refl; second_from = inr (inr refl) }

pub offer_none : (f : SearchForm) (im : List ℤ → List ℤ) (one two z : List ℤ) → length one ≡ f.size → length two ≡ f.size → IsLess f im one two → IsSettled f im one two z →
    IsOffered f im one two z one two
offer_none f im one two z a b o h = record { one_size = a; two_size = b; ordered = o; bound = le_refl_ℤ (value f.p two); kept = λ v k. k; offered = h; first_from = inl refl; second_from = inr (inl refl) }

pub search_leaf : (f : SearchForm) (im : List ℤ → List ℤ) (a b : Level) (r : List Level) (x z : ℤ) (s one two new_one new_two : List ℤ) (n : ℕ) → IsSearchable f → IsSearch f im (a ∷ r) s one two n →
    IsNearest a z → offset f x s ≡ z → (HasLarge (x ∷ s) → ⊥) → (value f.p (x ∷ s) ≤ℤ value f.p two → HasLarge (im (x ∷ s)) → ⊥) →
    Takes a x b → IsLevel f b s → length s + 1 ≡ f.size →
    low f (x ∷ s) ≤ℤ (pos (2 ^ 60) *ℤ value f.p two) → IsOffered f im one two (x ∷ s) new_one new_two → IsSearch f im (b ∷ r) s new_one new_two (n + 1)
search_leaf f im a b r x z s one two new_one new_two n h k nz iz small asked t fb e l o = record {
  one_size = o.one_size;
  two_size = o.two_size;
  ordered = o.ordered;
  bound = le_trans_ℤ o.bound k.bound;
  levels = (fb, k.levels.1);
  covered = record { each = λ v g. go v g (k.covered.each v g) };
  traced = traced_more f im (a ∷ r) (b ∷ r) s s one two new_one new_two (x ∷ s) n (open_head a r x s t.was_free) (next_visited f im a r x z s one two k.levels k.covered nz iz l) narrow
      (λ v. leaf_before a b r x s v t) (λ v m. leaf_first f b r x s v fb t.above t.under k.levels.1 m) (λ v m. leaf_after a b r x s v f.size t e m) o.first_from o.second_from k.traced;
}
  where
    narrow : IsTooLarge f im (x ∷ s) → ⊥
    narrow (inl w) = small w
    narrow (inr w) = by_lt_z (value f.p two) (value f.p (x ∷ s)) (λ g. w.0.kept (third g)) (λ g. asked g w.1)
      where
        chain : (a b c : ℤ) → a ≤ℤ b → b <ℤ c → a <ℤ c
        chain a b c g i = omega (arith, ints)

        third : value f.p two <ℤ value f.p (x ∷ s) → HasTwoBetter f (x ∷ s)
        third g =
            let ahead = k.traced.ahead (x ∷ s) (open_head a r x s t.was_free) in
            let first_below : value f.p one <ℤ value f.p (x ∷ s) = chain (value f.p one) (value f.p two) (value f.p (x ∷ s)) (less_le f im one two k.ordered) g in
            let both = pair_before f one two (x ∷ s) h k.one_size k.two_size (omega arith) (less_apart f im one two k.ordered) ahead.0 ahead.1 first_below g in
            record {
              one = one;
              two = two;
              one_size = k.one_size;
              two_size = k.two_size;
              differ = less_apart f im one two k.ordered;
              one_before = both.0;
              two_before = both.1;
              one_below = first_below;
              two_below = g;
            }

    along : (v : List ℤ) → v ≡ x ∷ s → IsSettled f im new_one new_two v
    along v e = let P : List ℤ → Type 0 = λ w. IsSettled f im new_one new_two w in rw e o.offered

    after : (v : List ℤ) → (v ≡ x ∷ s) ⊎ IsOpen (b ∷ r) s v → IsSettled f im new_one new_two v ⊎ IsOpen (b ∷ r) s v
    after v (inl m) = inl (along v m)
    after v (inr m) = inr m

    go : (v : List ℤ) → length v ≡ f.size → IsSettled f im one two v ⊎ IsOpen (a ∷ r) s v → IsSettled f im new_one new_two v ⊎ IsOpen (b ∷ r) s v
    go v g (inl m) = inl (o.kept v m)
    go v g (inr m) = after v (leaf_after a b r x s v f.size t e (omega arith) m)

-- the next suffix is within the second best value: the search visits more than n, and nothing within n visits is too wide
pub search_outrun : (f : SearchForm) (im : List ℤ → List ℤ) (a : Level) (r : List Level) (x c : ℤ) (s one two : List ℤ) (n : ℕ) → IsSearch f im (a ∷ r) s one two n → IsNearest a c → offset f x s ≡ c →
    IsFree a x → low f (x ∷ s) ≤ℤ (pos (2 ^ 60) *ℤ value f.p two) → IsOverBudget f im n
search_outrun f im a r x c s one two n k e i h l = next_outruns f im (a ∷ r) s one two (x ∷ s) n (open_head a r x s h) (next_visited f im a r x c s one two k.levels k.covered e i l) k.traced

-- the next suffix is too large
pub search_stopped : (f : SearchForm) (im : List ℤ → List ℤ) (a : Level) (r : List Level) (x c : ℤ) (s one two : List ℤ) (n m : ℕ) → IsSearch f im (a ∷ r) s one two n → IsNearest a c → offset f x s ≡ c →
    n < m → low f (x ∷ s) ≤ℤ (pos (2 ^ 60) *ℤ value f.p two) → 2 ^ 30 ≤ unsigned_abs x → MeetsTooWide f im m
search_stopped f im a r x c s one two n m k e i h l w =
    inr (x ∷ s, (next_visited f im a r x c s one two k.levels k.covered e i l, inl (0, w), next_within f im a r x c s one two n m k.levels e i h k.traced))

pub search_stopped_image : (f : SearchForm) (im : List ℤ → List ℤ) (a : Level) (r : List Level) (x c : ℤ) (s one two : List ℤ) (n m : ℕ) → IsSearch f im (a ∷ r) s one two n → IsNearest a c → offset f x s ≡ c →
    n < m → length s + 1 ≡ f.size → low f (x ∷ s) ≤ℤ (pos (2 ^ 60) *ℤ value f.p two) → value f.p (x ∷ s) ≤ℤ value f.p two → HasLarge (im (x ∷ s)) → MeetsTooWide f im m
search_stopped_image f im a r x c s one two n m k e i h g l v w =
    inr (
      x ∷ s,
      (
        next_visited f im a r x c s one two k.levels k.covered e i l,
        inr (next_candidate f im a r x c s one two k.levels k.covered e i (omega arith) v, w),
        next_within f im a r x c s one two n m k.levels e i h k.traced,
      ),
    )

pub search_end : (f : SearchForm) (im : List ℤ → List ℤ) (s one two : List ℤ) (n : ℕ) → IsSearch f im [] s one two n → AreTwoLeast f im one two
search_end f im s one two n k = record { first_size = k.one_size; second_size = k.two_size; ordered = k.ordered; others = λ u g. go u (k.covered.each u g) }
  where
    go : (u : List ℤ) → IsSettled f im one two u ⊎ ⊥ → IsSettled f im one two u
    go u (inl m) = m
    go u (inr m) = absurd m

pub search_start : (f : SearchForm) (im : List ℤ → List ℤ) (a : Level) (one two : List ℤ) → IsSearchable f → length one ≡ f.size → length two ≡ f.size → IsLess f im one two →
    value f.p two ≤ℤ top f → AreStartPoints f one two → (IsStartTooWide f im → ⊥) → IsLevel f a [] → ((y : ℤ) → IsFree a y) → IsSearch f im (a ∷ []) [] one two 0
search_start f im a one two h p q o b points narrow fa all = record {
  one_size = p;
  two_size = q;
  ordered = o;
  bound = b;
  levels = (fa, refl);
  covered = record { each = λ v g. inr (inl (found v (full v g))) };
  traced = record {
    suffixes = [];
    many = refl;
    different = λ i j d k l. absurd (omega arith);
    visited = All-nil (IsVisited f);
    first = All-nil (λ t. (q : List ℤ) → IsOpen (a ∷ []) [] q → IsBefore f t q);
    small = All-nil (λ t. IsTooLarge f im t → ⊥);
    left = λ q some most. inr (inr (inl (found q (ended q some))));
    ahead = λ q free. starts points;
    started = narrow;
  };
}
  where
    starts : {q : List ℤ} → AreStartPoints f one two → Precedes f one q × Precedes f two q
    starts (inl e) = (inl (inl e.0), inl (inr e.1))
    starts (inr e) = (inl (inr e.0), inl (inl e.1))

    ended : (q : List ℤ) → 0 < length q → HasLast q
    ended [] g = absurd (omega arith)
    ended (x ∷ q) g = has_last x q

    full : (v : List ℤ) → length v ≡ f.size → HasLast v
    full v g = ended v (let some_integers = h.some in omega arith)

    found : (v : List ℤ) → HasLast v → IsOpenAt a [] v
    found v w = record { head = w.last; front = w.front; split = w.split; free = all w.last }

pub search_done : (f : SearchForm) (im : List ℤ → List ℤ) (fs : List Level) (s one two : List ℤ) (n : ℕ) → length fs ≡ 0 → IsSearch f im fs s one two n → AreTwoLeast f im one two
search_done f im [] s one two n e k = search_end f im s one two n k
search_done f im (a ∷ fs) s one two n e k = absurd (omega arith)

pub search_finished : (f : SearchForm) (im : List ℤ → List ℤ) (fs : List Level) (s one two : List ℤ) (n m : ℕ) → length fs ≡ 0 → n ≤ m → IsSearch f im fs s one two n → EndsByItself f im m
search_finished f im [] s one two n m e l k = traced_finished f im s one two n m l k.traced
search_finished f im (a ∷ fs) s one two n m e l k = absurd (omega arith)
