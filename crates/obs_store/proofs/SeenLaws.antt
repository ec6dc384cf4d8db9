-- What one more satellite adds to the counts.
use Rattle.std.proofs.Common.{◌≡◌, ℕ, ◌+◌, ◌<◌, ◌≤◌, Bool, true, false, true≢false, not, ◌||◌, cond, nat_eq, List, [], ◌∷◌, ◌++◌, length, All, map, filter, set, replicate, refl, sym, ap, subst, ◌∙◌, arith, append_assoc, add-one, length-take, take, get_or, slice_index, zero, suc, inl, inr}
use Rattle.std.specs.List.{list_any, IsDistinct, AllByRecursion}
use Rattle.std.proofs.lemmas.Bool.{eqb-true, eq-eqb, or_parts}
use Rattle.std.proofs.lemmas.Bool.Decides.{eqb_tells}
use Rattle.std.proofs.lemmas.Grind.{flat_map-append}
use Rattle.std.proofs.lemmas.List.{append-nil, map-append, get_or-take, get_or_default, get_or-set_other, get_or-replicate, length-replicate, length-set}
use Rattle.std.proofs.lemmas.List.Elements.{All-push}
use Rattle.std.proofs.lemmas.Grind.{get_or-set_at}
use Rattle.std.proofs.lemmas.List.Folds.{list_any-append, list_any_none}
use Rattle.std.proofs.lemmas.List.Sums.{sum_by-append, sum_by-cons, count_by-le-length}
use Rattle.std.proofs.lemmas.Map.Keys.{IsDistinct-head, IsDistinct-tail, IsDistinct-cons, apart_from_distinct}
use Rattle.std.proofs.lemmas.Map.Views.{any-filter_same}
use Rattle.std.proofs.Math.Seq.{take-suc}
use Rattle.indexmap.specs.IndexMap.{insert_entry}
use Rattle.std.proofs.Math.Bool.{or-false}
use Rattle.obs_store.specs.declared.values.SatObs.{SatObs}
use Rattle.obs_store.specs.declared.series.Epoch.{Epoch}
use Rattle.obs_store.specs.Satellites.{has_satellite, AreSatellites}
use Rattle.obs_store.specs.Counts.{with_number, numbered, IsCountOf}
use Rattle.obs_store.specs.Seen.{first_seen, numbers_of, all_numbers, epochs_with, seen_in}

-- the number added at the end, where it isn't there yet
abbrev put : ℕ → List ℕ → List ℕ
put n [] = n ∷ []
put n (x ∷ xs) = cond (nat_eq n x) (x ∷ xs) (x ∷ put n xs)

others : ℕ → List ℕ → List ℕ
others x xs = filter (λ m. not (nat_eq x m)) xs

flip : (x n : ℕ) → nat_eq n x ≡ false → nat_eq x n ≡ false
flip x n e = elim (eqb_tells x n) [ inl p ↦ absurd (true≢false (sym (eq-eqb n x (sym p.1)) ∙ e)) | inr p ↦ p.0 ]

others-put_same : (n : ℕ) (xs : List ℕ) → others n (put n xs) ≡ others n xs
unfolding others
others-put_same n [] = rw (eq-eqb n n refl) refl
others-put_same n (x ∷ xs) = elim (eqb_tells n x) [ inl p ↦ rw (p.0, p.0) refl | inr p ↦ rw (p.0, p.0) (ap (λ l. x ∷ l) (others-put_same n xs)) ]

others-put : (n x : ℕ) (xs : List ℕ) → nat_eq x n ≡ false → others x (put n xs) ≡ put n (others x xs)
unfolding others
others-put n x [] e = rw e refl
others-put n x (y ∷ ys) e =
    elim (eqb_tells n y) [
      | inl p ↦ subst (λ z. others x (put n (z ∷ ys)) ≡ put n (others x (z ∷ ys))) p.1 (rw (eq-eqb n n refl, e, eq-eqb n n refl) refl)
      | inr p ↦ rw p.0 (elim (eqb_tells x y) [ inl q ↦ rw q.0 (others-put n x ys e) | inr q ↦ rw (q.0, p.0) (ap (λ l. y ∷ l) (others-put n x ys e)) ])
    ]

first_seen-push : (ns : List ℕ) (n : ℕ) → first_seen (ns ++ n ∷ []) ≡ put n (first_seen ns)
unfolding others
first_seen-push [] n = refl
first_seen-push (x ∷ xs) n =
    rw (first_seen-push xs n) (elim (eqb_tells n x) [
      | inl p ↦ rw p.0 (ap (λ l. x ∷ l) (subst (λ z. others x (put z (first_seen xs)) ≡ others x (first_seen xs)) (sym p.1) (others-put_same x (first_seen xs))))
      | inr p ↦ rw p.0 (ap (λ l. x ∷ l) (others-put n x (first_seen xs) (flip x n p.0)))
    ])

any-first_seen : (n : ℕ) (ns : List ℕ) → list_any (nat_eq n) (first_seen ns) ≡ list_any (nat_eq n) ns
any-first_seen n [] = refl
any-first_seen n (x ∷ xs) =
    elim (eqb_tells n x) [
      | inl p ↦ rw p.0 refl
      | inr p ↦ rw p.0 (any-filter_same (nat_eq n) (λ m. not (nat_eq x m)) true (λ k t. rw (← eqb-true n k t, flip x n p.0) refl) (first_seen xs) ∙ any-first_seen n xs)
    ]

has_satellite-numbers : (n : ℕ) (ss : List SatObs) → list_any (nat_eq n) (numbers_of ss) ≡ has_satellite n ss
has_satellite-numbers n [] = refl
has_satellite-numbers n (s ∷ ss) = ap (λ b. nat_eq n s.number || b) (has_satellite-numbers n ss)

has_satellite-push : (n : ℕ) (ss : List SatObs) (s : SatObs) → has_satellite n (ss ++ s ∷ []) ≡ has_satellite n ss || nat_eq n s.number
has_satellite-push n ss s = list_any-append (λ t. nat_eq n t.number) ss (s ∷ []) ∙ ap (λ b. has_satellite n ss || b) (or-false (nat_eq n s.number))

kept_apart : (x : ℕ) (xs : List ℕ) → AllByRecursion (λ y. nat_eq x y ≡ false) (others x xs)
unfolding others
kept_apart x [] = tt
kept_apart x (y ∷ ys) = elim (eqb_tells x y) [ inl p ↦ rw p.0 (kept_apart x ys) | inr p ↦ rw p.0 (p.0, kept_apart x ys) ]

kept_all : (x n : ℕ) (xs : List ℕ) → AllByRecursion (λ y. nat_eq n y ≡ false) xs → AllByRecursion (λ y. nat_eq n y ≡ false) (others x xs)
unfolding others
kept_all x n [] h = tt
kept_all x n (y ∷ ys) h = elim (eqb_tells x y) [ inl p ↦ rw p.0 (kept_all x n ys h.1) | inr p ↦ rw p.0 (h.0, kept_all x n ys h.1) ]

kept_distinct : (x : ℕ) (xs : List ℕ) → IsDistinct nat_eq xs → IsDistinct nat_eq (others x xs)
unfolding others
kept_distinct x [] h = h
kept_distinct x (y ∷ ys) h =
    elim (eqb_tells x y) [
      | inl p ↦ rw p.0 (kept_distinct x ys (IsDistinct-tail nat_eq y ys h))
      | inr p ↦ rw p.0 (IsDistinct-cons nat_eq y (others x ys) (kept_all x y ys (IsDistinct-head nat_eq y ys h)) (kept_distinct x ys (IsDistinct-tail nat_eq y ys h)))
    ]

first_seen-distinct : (ns : List ℕ) → IsDistinct nat_eq (first_seen ns)
unfolding others IsDistinct
first_seen-distinct [] = tt
first_seen-distinct (x ∷ xs) = (kept_apart x (first_seen xs), kept_distinct x (first_seen xs) (first_seen-distinct xs))

epochs_with-push : (n : ℕ) (es : List Epoch) (e : Epoch) → epochs_with n (es ++ e ∷ []) ≡ epochs_with n es + cond (has_satellite n e.sats) 1 0
epochs_with-push n es e = omega (arith, sum_by-append (λ (f : Epoch). cond (has_satellite n f.sats) 1 0) es (e ∷ []))

absent : (n : ℕ) (es : List Epoch) → list_any (nat_eq n) (all_numbers es) ≡ false → epochs_with n es ≡ 0
absent n [] none = refl
absent n (x ∷ xs) none =
    let split : (list_any (nat_eq n) (numbers_of x.sats) || list_any (nat_eq n) (all_numbers xs)) ≡ false = sym (list_any-append (nat_eq n) (numbers_of x.sats) (all_numbers xs)) ∙ none in
    let first : has_satellite n x.sats ≡ false = sym (has_satellite-numbers n x.sats) ∙ (or_parts _ _ split).0 in
    sum_by-cons (λ (f : Epoch). cond (has_satellite n f.sats) 1 0) x xs ∙ rw first (omega (arith, absent n xs (or_parts _ _ split).1))

pub count_few : (n : ℕ) (es : List Epoch) → epochs_with n es ≤ length es
count_few n es = count_by-le-length (λ (e : Epoch). has_satellite n e.sats) es

all_numbers-push : (es : List Epoch) (e : Epoch) → all_numbers (es ++ e ∷ []) ≡ all_numbers es ++ numbers_of e.sats
all_numbers-push es e =
    flat_map-append (λ (f : Epoch). numbers_of f.sats) es (e ∷ []) ∙ ap (λ l. all_numbers es ++ l) (append-nil (numbers_of e.sats))

-- an epoch with these satellites alone
abbrev pub with_sats : Epoch → List SatObs → Epoch
with_sats e ss = record e { sats = ss }

numbers_more : (es : List Epoch) (e : Epoch) (ss : List SatObs) (s : SatObs) → all_numbers (es ++ with_sats e (ss ++ s ∷ []) ∷ []) ≡ all_numbers (es ++ with_sats e ss ∷ []) ++ s.number ∷ []
numbers_more es e ss s =
    all_numbers-push es (with_sats e (ss ++ s ∷ []))
    ∙ ap (λ l. all_numbers es ++ l) (map-append (λ (t : SatObs). t.number) ss (s ∷ []))
    ∙ sym (append_assoc (all_numbers es) (numbers_of ss) (s.number ∷ []))
    ∙ ap (λ l. l ++ s.number ∷ []) (sym (all_numbers-push es (with_sats e ss)))

has_same : (m : ℕ) (ss : List SatObs) (s : SatObs) → nat_eq s.number m ≡ false → has_satellite m (ss ++ s ∷ []) ≡ has_satellite m ss
has_same m ss s apart = has_satellite-push m ss s ∙ rw (flip m s.number apart) (or-false (has_satellite m ss))

-- no satellite before has the number of this one
fresh_at : (ss : List SatObs) (k : ℕ) (z : SatObs) → AreSatellites ss → k < length ss → has_satellite (get_or ss k z).number (take k ss) ≡ false
fresh_at ss k z are inside =
    list_any_none (λ (t : SatObs). nat_eq (get_or ss k z).number t.number) (take k ss) (λ j d h. apart j d (omega (arith, length-take k ss)))
  where
    apart : (j : ℕ) (d : SatObs) → j < k → nat_eq (get_or ss k z).number (get_or (take k ss) j d).number ≡ false
    apart j d short =
        rw get_or-take (elim (eqb_tells (get_or ss k z).number (get_or ss j d).number) [
          | inl p ↦ absurd (are.once j k d short inside (sym p.1 ∙ ap (λ (t : SatObs). t.number) (get_or_default ss k z d inside)))
          | inr p ↦ p.0
        ])

-- the number of a satellite in its place
pub number_in : (ss : List SatObs) (k : ℕ) (z : SatObs) → k < length ss → slice_index (numbers_of ss) k ≡ (get_or ss k z).number
number_in [] k z inside = absurd (omega arith)
number_in (s ∷ ss) zero z inside = refl
number_in (s ∷ ss) (suc k) z inside = number_in ss k z (omega arith)

-- the number stands among these, or goes after them
put_there : (n : ℕ) (xs : List ℕ) → list_any (nat_eq n) xs ≡ true → put n xs ≡ xs
put_there n [] some = absurd (true≢false (sym some))
put_there n (x ∷ xs) some =
    elim (eqb_tells n x) [
      | inl p ↦ rw p.0 refl
      | inr p ↦ rw p.0 (ap (λ l. x ∷ l) (put_there n xs (subst (λ (b : Bool). (b || list_any (nat_eq n) xs) ≡ true) p.0 some)))
    ]

put_new : (n : ℕ) (xs : List ℕ) → list_any (nat_eq n) xs ≡ false → put n xs ≡ xs ++ n ∷ []
put_new n [] none = refl
put_new n (x ∷ xs) none =
    let split = or_parts (nat_eq n x) (list_any (nat_eq n) xs) none in
    rw split.0 (ap (λ l. x ∷ l) (put_new n xs split.1))

-- some epoch has a number that was seen
present : (n : ℕ) (es : List Epoch) → list_any (nat_eq n) (all_numbers es) ≡ true → 1 ≤ epochs_with n es
present n [] some = absurd (true≢false (sym some))
present n (x ∷ xs) some = by (has_satellite n x.sats) refl (λ rest. present n xs rest)
  where
    counts : epochs_with n (x ∷ xs) ≡ cond (has_satellite n x.sats) 1 0 + epochs_with n xs
    counts = sum_by-cons (λ (f : Epoch). cond (has_satellite n f.sats) 1 0) x xs

    by : (t : Bool) → has_satellite n x.sats ≡ t → (list_any (nat_eq n) (all_numbers xs) ≡ true → 1 ≤ epochs_with n xs) → 1 ≤ epochs_with n (x ∷ xs)
    by true has others = let one : epochs_with n (x ∷ xs) ≡ 1 + epochs_with n xs = counts ∙ rw has refl in omega arith
    by false lacks others =
        let split : (list_any (nat_eq n) (numbers_of x.sats) || list_any (nat_eq n) (all_numbers xs)) ≡ true = sym (list_any-append (nat_eq n) (numbers_of x.sats) (all_numbers xs)) ∙ some in
        let first : list_any (nat_eq n) (numbers_of x.sats) ≡ false = has_satellite-numbers n x.sats ∙ lacks in
        let rest : list_any (nat_eq n) (all_numbers xs) ≡ true = subst (λ (b : Bool). (b || list_any (nat_eq n) (all_numbers xs)) ≡ true) first split in
        let none : epochs_with n (x ∷ xs) ≡ 0 + epochs_with n xs = counts ∙ rw lacks refl in
        omega (arith, others rest)

-- the number goes after the others exactly where no epoch has it yet
with_number-put : (n : ℕ) (es : List Epoch) → with_number (epochs_with n es) n (first_seen (all_numbers es)) ≡ put n (first_seen (all_numbers es))
with_number-put n es = by (list_any (nat_eq n) (all_numbers es)) refl
  where
    stays : (count : ℕ) → 1 ≤ count → with_number count n (first_seen (all_numbers es)) ≡ first_seen (all_numbers es)
    stays zero some = absurd (omega arith)
    stays (suc count) some = refl

    by : (t : Bool) → list_any (nat_eq n) (all_numbers es) ≡ t → with_number (epochs_with n es) n (first_seen (all_numbers es)) ≡ put n (first_seen (all_numbers es))
    by true some = stays (epochs_with n es) (present n es some) ∙ sym (put_there n (first_seen (all_numbers es)) (any-first_seen n (all_numbers es) ∙ some))
    by false none =
        ap (λ (count : ℕ). with_number count n (first_seen (all_numbers es))) (absent n es none)
        ∙ sym (put_new n (first_seen (all_numbers es)) (any-first_seen n (all_numbers es) ∙ none))

with_inside : (count n : ℕ) (order : List ℕ) → All (λ m. m ≤ 36) order → n ≤ 36 → All (λ m. m ≤ 36) (with_number count n order)
with_inside zero n order inside small = All-push (λ m. m ≤ 36) order n inside small
with_inside (suc count) n order inside small = inside

-- no epoch was counted
pub none_counted : (counts : List ℕ) → counts ≡ replicate 37 0 → IsCountOf [] [] counts
none_counted counts are = record {
  order_is = refl;
  inside = λ k d lt. absurd (omega arith);
  as_many = rw are (length-replicate {A = ℕ} 37 0);
  counts_are = λ n small. rw are (get_or-replicate 37 n 0 0 (omega arith));
}

-- one more satellite of an epoch
pub one_more : (es : List Epoch) (e : Epoch) (ss : List SatObs) (k : ℕ) (z : SatObs) (n : ℕ) (order counts order₂ counts₂ : List ℕ)
    → AreSatellites ss → k < length ss → n ≡ (get_or ss k z).number → IsCountOf (es ++ with_sats e (take k ss) ∷ []) order counts
    → order₂ ≡ with_number (get_or counts n 0) n order → counts₂ ≡ set counts n (get_or counts n 0 + 1)
    → IsCountOf (es ++ with_sats e (take (k + 1) ss) ∷ []) order₂ counts₂
one_more es e ss k z n order counts order₂ counts₂ are inside number is order_is counts_is =
    subst (λ (l : List SatObs). IsCountOf (es ++ with_sats e l ∷ []) order₂ counts₂) (sym (rw add-one (take-suc ss k z inside))) (record {
      order_is = order_is
          ∙ ap (λ (o : List ℕ). with_number (get_or counts n 0) n o) is.order_is
          ∙ ap (λ (count : ℕ). with_number count n (first_seen (all_numbers before))) (is.counts_are n small)
          ∙ with_number-put n before ∙ sym (first_seen-push (all_numbers before) n) ∙ ap (λ (m : ℕ). first_seen (all_numbers before ++ m ∷ [])) number
          ∙ ap first_seen (sym (numbers_more es e (take k ss) s));
      inside = subst (λ (o : List ℕ). All (λ m. m ≤ 36) o) (sym order_is) (with_inside (get_or counts n 0) n order is.inside small);
      as_many = ap length counts_is ∙ length-set counts n (get_or counts n 0 + 1) ∙ is.as_many;
      counts_are = λ m few. ap (λ (l : List ℕ). get_or l m 0) counts_is ∙ counted m few;
    })
  where
    s : SatObs
    s = get_or ss k z

    before : List Epoch
    before = es ++ with_sats e (take k ss) ∷ []

    behind : List Epoch
    behind = es ++ with_sats e (take k ss ++ s ∷ []) ∷ []

    small : n ≤ 36
    small = subst (λ (m : ℕ). m ≤ 36) (sym number) (are.numbers k z inside).1

    fresh : has_satellite s.number (take k ss) ≡ false
    fresh = fresh_at ss k z are inside

    there : has_satellite s.number (take k ss ++ s ∷ []) ≡ true
    there = has_satellite-push s.number (take k ss) s ∙ rw (fresh, eq-eqb s.number s.number refl) refl

    old : epochs_with s.number before ≡ epochs_with s.number es + 0
    old = epochs_with-push s.number es (with_sats e (take k ss)) ∙ rw fresh refl

    new : epochs_with s.number behind ≡ epochs_with s.number es + 1
    new = epochs_with-push s.number es (with_sats e (take k ss ++ s ∷ [])) ∙ rw there refl

    one : epochs_with n before + 1 ≡ epochs_with n behind
    one = subst (λ (m : ℕ). epochs_with m before + 1 ≡ epochs_with m behind) (sym number) (omega (arith, old, new))

    same : (m : ℕ) → nat_eq n m ≡ false → epochs_with m before ≡ epochs_with m behind
    same m apart =
        epochs_with-push m es (with_sats e (take k ss))
        ∙ sym (epochs_with-push m es (with_sats e (take k ss ++ s ∷ [])) ∙ rw (has_same m (take k ss) s (subst (λ (x : ℕ). nat_eq x m ≡ false) number apart)) refl)

    counted : (m : ℕ) → m ≤ 36 → get_or (set counts n (get_or counts n 0 + 1)) m 0 ≡ epochs_with m behind
    counted m few =
        elim (eqb_tells n m) [
          | inl p ↦ get_or-set_at counts n m (get_or counts n 0 + 1) 0 (sym p.1) (omega (arith, is.as_many, small))
              ∙ ap (λ x. x + 1) (is.counts_are n small) ∙ one ∙ ap (λ (x : ℕ). epochs_with x behind) p.1
          | inr p ↦ get_or-set_other counts n m (get_or counts n 0 + 1) 0 (λ e₂. true≢false (sym (eq-eqb n m (sym e₂)) ∙ p.0)) ∙ is.counts_are m few ∙ same m p.0
        ]

-- ---- the map
-- a number in its place isn't among those before it
pub fresh_number : (order : List ℕ) (k : ℕ) → IsDistinct nat_eq order → k < length order → list_any (nat_eq (get_or order k 0)) (take k order) ≡ false
fresh_number order k distinct inside =
    list_any_none (nat_eq (get_or order k 0)) (take k order) (λ j d h. apart j d (omega (arith, length-take k order)))
  where
    apart : (j : ℕ) (d : ℕ) → j < k → nat_eq (get_or order k 0) (get_or (take k order) j d) ≡ false
    apart j d short =
        rw (get_or-take, get_or_default order j d 0 (omega arith)) (flip (get_or order k 0) (get_or order j 0) (apart_from_distinct nat_eq order j k 0 distinct short inside))

-- a new key goes after the others
insert_new : (counts : List ℕ) (n v : ℕ) (ns : List ℕ) → list_any (nat_eq n) ns ≡ false → insert_entry nat_eq (numbered counts ns) n v ≡ numbered counts ns ++ (n, v) ∷ []
insert_new counts n v [] none = refl
insert_new counts n v (x ∷ xs) none =
    let split = or_parts (nat_eq n x) (list_any (nat_eq n) xs) none in
    rw split.0 (ap (λ l. (x, get_or counts x 0) ∷ l) (insert_new counts n v xs split.1))

pub one_entry : (counts order : List ℕ) (k : ℕ) (held new : List (ℕ × ℕ)) → IsDistinct nat_eq order → k < length order → held ≡ numbered counts (take k order)
    → new ≡ insert_entry nat_eq held (get_or order k 0) (get_or counts (get_or order k 0) 0) → new ≡ numbered counts (take (k + 1) order)
one_entry counts order k held new distinct inside same is =
    let number = get_or order k 0 in
    is ∙ ap (λ l. insert_entry nat_eq l number (get_or counts number 0)) same
    ∙ insert_new counts number (get_or counts number 0) (take k order) (fresh_number order k distinct inside)
    ∙ sym (map-append (λ (m : ℕ). (m, get_or counts m 0)) (take k order) (number ∷ []))
    ∙ ap (λ l. numbered counts l) (sym (rw add-one (take-suc order k 0 inside)))

same_entries : (f g : ℕ → ℕ) (ns : List ℕ) → All (λ n. n ≤ 36) ns → ((n : ℕ) → n ≤ 36 → f n ≡ g n) → map {B = ℕ × ℕ} (λ n. (n, f n)) ns ≡ map (λ n. (n, g n)) ns
same_entries f g [] small same = refl
same_entries f g (n ∷ ns) small same =
    rw (same n (small 0 0 (omega arith))) (ap (λ l. (n, g n) ∷ l) (same_entries f g ns (λ k d lt. small (suc k) d (omega arith)) same))

pub seen_so : (es : List Epoch) (order counts : List ℕ) → IsCountOf es order counts → numbered counts order ≡ seen_in es
seen_so es order counts is =
    same_entries (λ n. get_or counts n 0) (λ n. epochs_with n es) order is.inside is.counts_are ∙ ap (λ l. map (λ n. (n, epochs_with n es)) l) is.order_is

pub order_distinct : (es : List Epoch) (order counts : List ℕ) → IsCountOf es order counts → IsDistinct nat_eq order
order_distinct es order counts is = subst (λ (l : List ℕ). IsDistinct nat_eq l) (sym is.order_is) (first_seen-distinct (all_numbers es))
