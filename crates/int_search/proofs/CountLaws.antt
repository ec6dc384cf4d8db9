-- What the exact ends of a search say of the plain count.
use Rattle.std.proofs.Common.{◌≡◌, ◌⊎◌, inl, inr, ℕ, ◌<◌, ◌^◌, List, [], length, get_or, ℤ, pos, ◌*ℤ◌, ◌<ℤ◌, ◌≤ℤ◌, arith, refl, ap, sym, ◌∙◌, subst}
use Rattle.std.proofs.lemmas.Int.{ints, by_lt_z}
use Rattle.whole_math.proofs.Order.{polys}
use Rattle.quadratic_form.specs.Rows.{value}
use Rattle.integer_form.specs.declared.form.Form.{Form}
use Rattle.int_search.specs.Suffixes.{SearchForm, IsSearchable, low}
use Rattle.int_search.specs.PlainCount.{rounded, neighbour, top, IsWithin, Counts, IsOver, AreAtMost, HasLarge}
use Rattle.int_search.specs.VisitOrder.{IsUpToSecond, IsReachedBy, IsWide, IsWideIn}
use Rattle.int_search.specs.Order.{IsLess, AreTwoLeast}
use Rattle.int_search.specs.VisitedSuffixes.{IsLeftOut, IsVisited, IsTooLarge, IsWithinVisits, MeetsTooWide, EndsByItself, IsOverBudget}
use Rattle.int_search.specs.SearchedForm.{search_form}
use Rattle.int_search.specs.Answers.{IsPlainOverBudget, PlainMeetsTooWide, IsPlainCountOver, IsSearchTooWide}
use Rattle.int_search.proofs.FormNumbers.{searchable}
use Rattle.int_search.proofs.OrderLaws.{less_le}
use Rattle.int_search.proofs.PointLaws.{top_first, top_second, counts_end, rounded_length, neighbour_length, neighbour_differs}
use Rattle.int_search.proofs.PointOrder.{below_before}

-- within n visits the search comes to something too wide, here or in the coordinates of the answer
abbrev pub IsTooWide : SearchForm → (List ℤ → List ℤ) → ℕ → Type 0
IsTooWide f image n = IsWide f n ⊎ IsWideIn f image n

-- ---- what is visited counts
pub visited_counts : (f : SearchForm) (q : List ℤ) → IsSearchable f → IsVisited f q → Counts f q
visited_counts f q k w = record { some = w.some; most = w.most; within = by_lt_z (pos (2 ^ 60) *ℤ top f) (low f q) (λ l. absurd (w.kept (out l))) (λ l. l) }
  where
    under : (a b c : ℤ) → a ≤ℤ b → (pos (2 ^ 60) *ℤ b) <ℤ c → (pos (2 ^ 60) *ℤ a) <ℤ c
    under a b c h g = omega (arith, polys)

    out : (pos (2 ^ 60) *ℤ top f) <ℤ low f q → IsLeftOut f q
    out l =
        let first_below : (pos (2 ^ 60) *ℤ value f.p (rounded f f.size)) <ℤ low f q = under (value f.p (rounded f f.size)) (top f) (low f q) (top_first f) l in
        let second_below : (pos (2 ^ 60) *ℤ value f.p (neighbour f)) <ℤ low f q = under (value f.p (neighbour f)) (top f) (low f q) (top_second f) l in
        record {
          one = rounded f f.size;
          two = neighbour f;
          one_size = rounded_length f f.size;
          two_size = neighbour_length f k.some;
          differ = neighbour_differs f k.some;
          one_before = below_before f (rounded f f.size) q k w.most w.some (inl (inl refl)) first_below;
          two_before = below_before f (neighbour f) q k w.most w.some (inl (inr refl)) second_below;
          one_below = first_below;
          two_below = second_below;
        }

-- what is within the second least value is visited
pub second_visited : (f : SearchForm) (p : ℤ) (q : List ℤ) → IsUpToSecond f p → IsWithin f p q → IsVisited f q
second_visited f p q u w = record { some = w.some; most = w.most; kept = λ o. go o (u.each o.one o.two o.one_size o.two_size o.differ) }
  where
    past : (a p l : ℤ) → (pos (2 ^ 60) *ℤ a) <ℤ l → l ≤ℤ (pos (2 ^ 60) *ℤ p) → p ≤ℤ a → ⊥
    past a p l h g i = omega (arith, polys)

    go : (o : IsLeftOut f q) → (p ≤ℤ value f.p o.one) ⊎ (p ≤ℤ value f.p o.two) → ⊥
    go o (inl l) = past (value f.p o.one) p (low f q) o.one_below w.within l
    go o (inr l) = past (value f.p o.two) p (low f q) o.two_below w.within l

-- ---- the ends
pub outrun_over : (f : SearchForm) (im : List ℤ → List ℤ) (n : ℕ) → IsSearchable f → IsOverBudget f im n → IsOver f n
outrun_over f im n k o = record {
  suffixes = o.over.suffixes;
  many = o.over.many;
  different = o.over.different;
  counted = λ j d l. visited_counts f (get_or o.over.suffixes j d) k (o.over.visited j d l);
}

reached_within : (f : SearchForm) (n : ℕ) (q : List ℤ) → IsWithinVisits f n q → IsReachedBy f n q
reached_within f n q w = record { fewer = λ p u qs d h. w.fewer qs d (λ j e l. (second_visited f p (get_or qs j e) u (h j e l).0, (h j e l).1)) }

pub stopped_wide : (f : SearchForm) (im : List ℤ → List ℤ) (n : ℕ) → IsSearchable f → MeetsTooWide f im n → IsTooWide f im n
stopped_wide f im n k (inl s) = start s.wide
  where
    point : (v : List ℤ) → (v ≡ rounded f f.size) ⊎ (v ≡ neighbour f) → Counts f v
    point v (inl e) = counts_end f [] v k (ap length e ∙ rounded_length f f.size) (long (ap length e ∙ rounded_length f f.size)) (subst (λ (u : List ℤ). value f.p u ≤ℤ top f) (sym e) (top_first f))
      where
        long : length v ≡ f.size → 0 < length v
        long i = let some_integers = k.some in omega arith
    point v (inr e) = counts_end f [] v k (ap length e ∙ neighbour_length f k.some) (long (ap length e ∙ neighbour_length f k.some)) (subst (λ (u : List ℤ). value f.p u ≤ℤ top f) (sym e) (top_second f))
      where
        long : length v ≡ f.size → 0 < length v
        long i = let some_integers = k.some in omega arith

    full : (v : List ℤ) → (v ≡ rounded f f.size) ⊎ (v ≡ neighbour f) → length v ≡ f.size
    full v (inl e) = ap length e ∙ rounded_length f f.size
    full v (inr e) = ap length e ∙ neighbour_length f k.some

    ended : (v : List ℤ) → (v ≡ rounded f f.size) ⊎ (v ≡ neighbour f) → (rounded f f.size ≡ v) ⊎ (neighbour f ≡ v)
    ended v (inl e) = inl (sym e)
    ended v (inr e) = inr (sym e)

    large : (v : List ℤ) → (v ≡ rounded f f.size) ⊎ (v ≡ neighbour f) → HasLarge v ⊎ HasLarge (im v) → IsTooWide f im n
    large v p (inl l) = inl (record { wide = inr (v, (point v p, l, inl ([], ended v p))) })
    large v p (inr l) = inr (record { vector = v; full = full v p; counted = point v p; large = l; reached = inl ([], ended v p) })

    start : (pos (2 ^ 62) ≤ℤ top f) ⊎ ((v : List ℤ) × (((v ≡ rounded f f.size) ⊎ (v ≡ neighbour f)) × (HasLarge v ⊎ HasLarge (im v)))) → IsTooWide f im n
    start (inl t) = inl (record { wide = inl t })
    start (inr t) = large t.0 t.1.0 t.1.1
stopped_wide f im n k (inr s) = go s.1.1
  where
    go : IsTooLarge f im s.0 → IsTooWide f im n
    go (inl l) = inl (record { wide = inr (s.0, (visited_counts f s.0 k s.1.0, l, inr (reached_within f n s.0 s.1.2))) })
    go (inr l) = inr (record { vector = s.0; full = l.0.full; counted = visited_counts f s.0 k s.1.0; large = l.1; reached = inr (reached_within f n s.0 s.1.2) })

-- of any two vectors one has at least the second least value
second_up : (f : SearchForm) (im : List ℤ → List ℤ) (one two : List ℤ) → AreTwoLeast f im one two → IsUpToSecond f (value f.p two)
second_up f im one two a = record { each = λ v w g h d. go v w d (a.others v g) (a.others w h) }
  where
    itself : (a : ℤ) → a ≤ℤ a
    itself a = omega (arith, ints)

    at_two : (v : List ℤ) → v ≡ two → value f.p two ≤ℤ value f.p v
    at_two v e = subst (λ (u : List ℤ). value f.p two ≤ℤ value f.p u) (sym e) (itself (value f.p two))

    go : (v w : List ℤ) → (v ≡ w → ⊥) → (v ≡ one) ⊎ ((v ≡ two) ⊎ IsLess f im two v) → (w ≡ one) ⊎ ((w ≡ two) ⊎ IsLess f im two w) → (value f.p two ≤ℤ value f.p v) ⊎ (value f.p two ≤ℤ value f.p w)
    go v w d (inr (inl e)) t = inl (at_two v e)
    go v w d (inr (inr l)) t = inl (less_le f im two v l)
    go v w d (inl e) (inr (inl g)) = inr (at_two w g)
    go v w d (inl e) (inr (inr l)) = inr (less_le f im two w l)
    go v w d (inl e) (inl g) = absurd (d (e ∙ sym g))

pub finished_within : (f : SearchForm) (im : List ℤ → List ℤ) (one two : List ℤ) (n : ℕ) → AreTwoLeast f im one two → EndsByItself f im n → AreAtMost f (value f.p two) n
finished_within f im one two n a h = record { each = λ qs d w. h.few.each qs d (λ j e l. second_visited f (value f.p two) (get_or qs j e) (second_up f im one two a) (w j e l)) }

-- ---- in the form's own coordinates
pub plain_over : (f : Form) (n : ℕ) → 4 < f.columns → IsPlainOverBudget f n → IsPlainCountOver f n
plain_over f n k o = outrun_over (search_form f) (λ v. v) n (searchable f k) o

pub plain_wide : (f : Form) (n : ℕ) → 4 < f.columns → PlainMeetsTooWide f n → IsSearchTooWide f n
plain_wide f n k s = go (stopped_wide (search_form f) (λ v. v) n (searchable f k) s)
  where
    go : IsTooWide (search_form f) (λ v. v) n → IsWide (search_form f) n
    go (inl w) = w
    go (inr w) = record { wide = inr (w.vector, (w.counted, w.large, w.reached)) }
