-- What a turn does to the state.
use Rattle.std.proofs.Common.{◌≡◌, ℕ, ◌+◌, ◌-◌, ◌*◌, ◌<◌, ◌≤◌, ◌^◌, List, [], ◌∷◌, length, get_or, set, drop, ℤ, pos, ◌+ℤ◌, ◌-ℤ◌, ◌*ℤ◌, neg_ℤ, ◌<ℤ◌, ◌≤ℤ◌, Bool, true, false, arith, add-one}
use Rattle.std.proofs.Common.{unsigned_abs, refl, ap, sym, ◌∙◌, subst, length-set}
use Rattle.std.specs.Bool.{MatchBool}
use Rattle.std.proofs.lemmas.Int.{ints}
use Rattle.whole_math.proofs.Order.{polys}
use Rattle.quadratic_form.specs.Rows.{value}
use Rattle.quadratic_form.specs.declared.sizes.TheConstants.{MOST_INTEGERS}
use Rattle.int_search.specs.Suffixes.{SearchForm, IsSearchable, rest, low, weight}
use Rattle.int_search.specs.PlainCount.{top, HasLarge}
use Rattle.int_search.specs.VisitedSuffixes.{IsStartTooWide, MeetsTooWide, IsOverBudget}
use Rattle.int_search.specs.Order.{IsLess, IsOneToOne}
use Rattle.int_search.specs.Levels.{tail_of, IsLevel, Takes}
use Rattle.int_search.specs.Search.{AreStartPoints, IsSearch, IsOffered}
use Rattle.int_search.specs.LatestLevel.{IsLatest}
use Rattle.int_search.specs.declared.stack.Level.{Level}
use Rattle.int_search.proofs.SuffixLaws.{low-nil, low_from, value_from, weight_from, weight_to}
use Rattle.int_search.proofs.SearchLaws.{search_pop, search_inner, search_leaf, search_outrun, search_stopped, search_stopped_image, search_start, search_done, search_finished}
use Rattle.int_search.specs.Vectors.{IsSmall, Holds, suffix}
use Rattle.int_search.specs.Steps.{IsUntouched, Chooses, Moves, IsTermWithin}
use Rattle.int_search.specs.Best.{HoldsBest, TakesOffer, KeepsBest}
use Rattle.int_search.specs.SearchStates.{here, IsWalk, IsReach, BeginsWith, Offers, IsImageTooLarge, Visits, HasFound}
use Rattle.int_search.specs.declared.best.Best.{Best}
use Rattle.int_search.specs.declared.walk.SearchState.{SearchState}
use Rattle.int_search.specs.declared.walk.NextEntry.{NextEntry}
use Rattle.integer_form.specs.declared.form.Form.{Form}
use Rattle.int_search.specs.SearchedForm.{search_form}
use Rattle.int_search.proofs.FormNumbers.{searchable, weight_is}
use Rattle.int_search.proofs.PointLaws.{small_suffix, held_small}
use Rattle.int_search.proofs.SuffixArrays.{suffix-set, suffix-above, suffix-tail, suffix-length, suffix-none}
use Rattle.int_search.proofs.LevelMoves.{level_untouched, untouched_free, moved_takes, moved_level, chosen_nearest, chosen_offset, chosen_free, low_chosen}

-- ---- the state at its latest level
pub focus : (f : SearchForm) (im : List ℤ → List ℤ) (w : SearchState) (a : Level) (h : IsWalk f im w) → IsLatest w.stack a → IsSearch f im (a ∷ drop 1 w.stack) (here f w) h.one h.two w.visits
focus f im w a h t = subst (λ (fs : List Level). IsSearch f im fs (here f w) h.one h.two w.visits) t.split h.search

pub latest_level : (f : SearchForm) (im : List ℤ → List ℤ) (w : SearchState) (a : Level) → IsWalk f im w → IsLatest w.stack a → IsLevel f a (here f w)
latest_level f im w a h t = (focus f im w a h t).levels.0

pub drop_length : {A : Type 0} (l : List A) → 0 < length l → length (drop 1 l) + 1 ≡ length l
drop_length [] h = absurd (omega arith)
drop_length (x ∷ l) h = add-one (length l)

-- ---- what is kept of the pivot of the latest level's integer
pub record IsWeightHere (f : SearchForm) (w : SearchState) (d : ℤ) : Type 0 where
  pub is : d ≡ weight f (here f w)
  pub from : pos 1 ≤ℤ d
  pub to : d ≤ℤ pos (2 ^ 52)

pub weight_here : (form : Form) (im : List ℤ → List ℤ) (w : SearchState) (a : Level) (l : ℕ) → 4 < form.columns → IsWalk (search_form form) im w → IsLatest w.stack a → 0 < length w.stack →
    l ≡ length w.stack →
    IsWeightHere (search_form form) w (get_or form.d (3 + w.size - l) (pos 0))
weight_here form im w a l k h t n e =
    let f : SearchForm = search_form form in
    let is_level = latest_level f im w a h t in
    let dep = h.depth in
    let size_is = h.size in
    let has_room = h.room in
    let few_columns = form.columns_to in
    let place_is : 3 + w.size - l ≡ 3 + (f.size - length w.stack) = omega arith in
    let place_after : (f.size - length w.stack) + 1 ≡ f.size + 1 - length w.stack = omega arith in
    let weight_is_stored : get_or form.d (3 + w.size - l) (pos 0) ≡ weight f (here f w) =
    ap (λ m. get_or form.d m (pos 0)) place_is ∙ sym (weight_is form w.z (f.size - length w.stack) (omega arith) (omega arith)) ∙ ap (λ m. weight f (suffix w.z m f.size)) place_after in
    record { is = weight_is_stored; from = rw weight_is_stored (weight_from f (here f w) (searchable form k) is_level.shorter); to = rw weight_is_stored (weight_to f (here f w) (searchable form k) is_level.shorter) }

-- ---- a level is left: what is past the room is past the second
pub walk_pop : (f : SearchForm) (im : List ℤ → List ℤ) (w : SearchState) (a : Level) (x c d left : ℤ) (up : Bool) → IsSearchable f → f.size ≤ MOST_INTEGERS → IsLatest w.stack a →
    0 < length w.stack → Chooses a x c up →
    d ≡ weight f (here f w) → left ≡ (pos (2 ^ 60) *ℤ w.best.p2) -ℤ a.low → left <ℤ (d *ℤ (c *ℤ c)) → IsWalk f im w → IsWalk f im (record w { stack = drop 1 w.stack })
walk_pop f im w a x c d left up k mo t n ch e l far h =
    let is_search = focus f im w a h t in
    let left_below_term : left <ℤ (weight f (here f w) *ℤ (c *ℤ c)) = subst (λ (v : ℤ). left <ℤ (v *ℤ (c *ℤ c))) e far in
    let value_below_low : (pos (2 ^ 60) *ℤ value f.p h.two) <ℤ (low f (here f w) +ℤ (weight f (here f w) *ℤ (c *ℤ c))) =
    step w.best.p2 (value f.p h.two) a.low (low f (here f w)) (weight f (here f w) *ℤ (c *ℤ c)) left h.best.p2 is_search.levels.0.low_is l left_below_term in
    let popped_search = search_pop f im a (drop 1 w.stack) (here f w) h.one h.two w.visits c k is_search (chosen_nearest a x c up ch) value_below_low in
    let one_shorter : length (drop 1 w.stack) + 1 ≡ length w.stack = drop_length w.stack n in
    let dep = h.depth in
    let place_after : f.size + 1 - length (drop 1 w.stack) ≡ (f.size + 1 - length w.stack) + 1 = omega arith in
    let tail_is : tail_of (here f w) ≡ suffix w.z (f.size + 1 - length (drop 1 w.stack)) f.size = suffix-tail w.z (f.size + 1 - length w.stack) f.size ∙ ap (λ j. suffix w.z j f.size) (sym place_after) in
    record {
      size = h.size;
      depth = omega arith;
      room = h.room;
      small = h.small;
      top = h.top;
      one = h.one;
      two = h.two;
      best = h.best;
      search = subst (λ (v : List ℤ). IsSearch f im (drop 1 w.stack) v h.one h.two w.visits) tail_is popped_search;
    }
  where
    step : (p v l m q r : ℤ) → p ≡ v → l ≡ m → r ≡ (pos (2 ^ 60) *ℤ p) -ℤ l → r <ℤ q → (pos (2 ^ 60) *ℤ v) <ℤ (m +ℤ q)
    step p v l m q r a b c d = omega (arith, polys)

-- ---- the suffix that is visited
pub walk_reach : (f : SearchForm) (im : List ℤ → List ℤ) (w : SearchState) (r : NextEntry) (d t left : ℤ) → IsSearchable f → IsWalk f im w → IsLatest w.stack r.level → 0 < length w.stack →
    Chooses r.level r.choice.entry r.choice.offset r.choice.is_up →
    d ≡ weight f (here f w) → left ≡ (pos (2 ^ 60) *ℤ w.best.p2) -ℤ r.level.low → IsTermWithin left d r.choice.offset t → r.low ≡ r.level.low +ℤ t → IsReach f w r
walk_reach f im w r d t left k h l n ch e g i j =
    let is_level = latest_level f im w r.level h l in
    record {
      some = n;
      latest = l;
      level = is_level;
      chosen = ch;
      low_is = j ∙ ap (λ v. r.level.low +ℤ v) (i.is ∙ ap (λ v. v *ℤ (r.choice.offset *ℤ r.choice.offset)) e)
          ∙ sym (low_chosen f r.level (here f w) r.choice.entry r.choice.offset r.choice.is_up k is_level ch);
      within = step r.low r.level.low t left w.best.p2 j i.within g;
      offset_small = i.small;
    }
  where
    step : (a b t l p : ℤ) → a ≡ b +ℤ t → t ≤ℤ l → l ≡ (pos (2 ^ 60) *ℤ p) -ℤ b → a ≤ℤ (pos (2 ^ 60) *ℤ p)
    step a b t l p e g h = omega (arith, polys)

pub reach_within : (f : SearchForm) (im : List ℤ → List ℤ) (w : SearchState) (r : NextEntry) (h : IsWalk f im w) → IsReach f w r → low f (r.choice.entry ∷ here f w) ≤ℤ (pos (2 ^ 60) *ℤ value f.p h.two)
reach_within f im w r h v = step r.low (low f (r.choice.entry ∷ here f w)) w.best.p2 (value f.p h.two) v.low_is v.within h.best.p2
  where
    step : (a b p q : ℤ) → a ≡ b → a ≤ℤ (pos (2 ^ 60) *ℤ p) → p ≡ q → b ≤ℤ (pos (2 ^ 60) *ℤ q)
    step a b p q e l g = subst (λ (t : ℤ). b ≤ℤ (pos (2 ^ 60) *ℤ t)) g (subst (λ (t : ℤ). t ≤ℤ (pos (2 ^ 60) *ℤ p)) e l)

-- the entry at its place
set_here : (f : SearchForm) (im : List ℤ → List ℤ) (w : SearchState) (x : ℤ) → f.size ≤ MOST_INTEGERS → IsWalk f im w → 0 < length w.stack →
    suffix (set w.z (f.size - length w.stack) x) (f.size - length w.stack) f.size ≡ x ∷ here f w
set_here f im w x m h n =
    let depth_at_most = h.depth in
    let has_room = h.room in
    let place_after : (f.size - length w.stack) + 1 ≡ f.size + 1 - length w.stack = omega arith in
    suffix-set w.z (f.size - length w.stack) f.size x (omega arith) (omega arith) ∙ ap (λ j. x ∷ suffix w.z j f.size) place_after

-- a visit above the first integer
pub walk_inner : (f : SearchForm) (im : List ℤ → List ℤ) (w : SearchState) (r : NextEntry) (b c : Level) (z : List ℤ) (st : List Level) (e : ℤ) → IsSearchable f → f.size ≤ MOST_INTEGERS →
    IsWalk f im w → IsReach f w r → unsigned_abs r.choice.entry < 2 ^ 30 →
    Moves r.level r.choice.is_up b → 0 < f.size - length w.stack → z ≡ set w.z (f.size - length w.stack) r.choice.entry → st ≡ c ∷ (b ∷ drop 1 w.stack) → IsSmall z →
    e ≡ rest f (suffix z (f.size - length w.stack) f.size) → IsUntouched e r.low c → IsWalk f im (record w { z = z; stack = st; visits = w.visits + 1 })
walk_inner f im w r b c z st e k mo h v sm mv n ez es small ee fr =
    let is_search = focus f im w r.level h v.latest in
    let entry : ℤ = r.choice.entry in
    let takes_entry : Takes r.level entry b = moved_takes r.level b entry r.choice.offset r.choice.is_up is_search.levels.0.apart v.chosen mv in
    let moved_is_level : IsLevel f b (here f w) = moved_level f r.level b (here f w) entry r.choice.offset r.choice.is_up is_search.levels.0 v.chosen mv sm v.offset_small in
    let suffix_with_entry : suffix z (f.size - length w.stack) f.size ≡ entry ∷ here f w = ap (λ q. suffix q (f.size - length w.stack) f.size) ez ∙ set_here f im w entry mo h v.some in
    let low_at_most = reach_within f im w r h v in
    let dep = h.depth in
    let has_room = h.room in
    let some = v.some in
    let suffix_long : length (here f w) ≡ f.size - (f.size + 1 - length w.stack) = suffix-length w.z (f.size + 1 - length w.stack) f.size (omega arith) in
    let fr2 : IsUntouched (rest f (entry ∷ here f w)) (low f (entry ∷ here f w)) c =
    subst (λ (u : ℤ). IsUntouched (rest f (entry ∷ here f w)) u c) v.low_is (subst (λ (u : ℤ). IsUntouched u r.low c) (ee ∙ ap (rest f) suffix_with_entry) fr) in
    let fresh_is_level : IsLevel f c (entry ∷ here f w) = level_untouched f (entry ∷ here f w) c (omega arith) fr2 (bound_top (low f (entry ∷ here f w)) (value f.p h.two) (top f) low_at_most is_search.bound) in
    let inner_search = search_inner f im r.level b c (drop 1 w.stack) entry r.choice.offset (here f w) h.one h.two w.visits is_search (chosen_nearest r.level entry r.choice.offset r.choice.is_up v.chosen)
    (chosen_offset f r.level (here f w) entry r.choice.offset r.choice.is_up is_search.levels.0 v.chosen) (λ l. small_suffix z (f.size - length w.stack) f.size small (subst HasLarge (sym suffix_with_entry) l)) takes_entry moved_is_level fresh_is_level (untouched_free (rest f (entry ∷ here f w)) (low f (entry ∷ here f w)) c fr2) low_at_most in
    let one_shorter : length (drop 1 w.stack) + 1 ≡ length w.stack = drop_length w.stack v.some in
    let depth_is : f.size + 1 - length (c ∷ (b ∷ drop 1 w.stack)) ≡ f.size - length w.stack = omega arith in
    let suffix_is : entry ∷ here f w ≡ suffix z (f.size + 1 - length (c ∷ (b ∷ drop 1 w.stack))) f.size = sym suffix_with_entry ∙ ap (λ j. suffix z j f.size) (sym depth_is) in
    let search_at_suffix : IsSearch f im (c ∷ (b ∷ drop 1 w.stack)) (suffix z (f.size + 1 - length (c ∷ (b ∷ drop 1 w.stack))) f.size) h.one h.two (w.visits + 1) =
    subst (λ (v : List ℤ). IsSearch f im (c ∷ (b ∷ drop 1 w.stack)) v h.one h.two (w.visits + 1)) suffix_is inner_search in
    record {
      size = h.size;
      depth = let stack_length = ap length es in omega arith;
      room = ap length ez ∙ length-set w.z (f.size - length w.stack) entry ∙ h.room;
      small = small;
      top = h.top;
      one = h.one;
      two = h.two;
      best = h.best;
      search = subst (λ (fs : List Level). IsSearch f im fs (suffix z (f.size + 1 - length fs) f.size) h.one h.two (w.visits + 1)) (sym es) search_at_suffix;
    }
  where
    bound_top : (l v t : ℤ) → l ≤ℤ (pos (2 ^ 60) *ℤ v) → v ≤ℤ t → l ≤ℤ (pos (2 ^ 60) *ℤ t)
    bound_top l v t a b = omega (arith, polys)

-- a visit at the first integer, where the vector is offered
pub walk_leaf : (f : SearchForm) (im : List ℤ → List ℤ) (w new : SearchState) (r : NextEntry) (b : Level) (z : List ℤ) (st : List Level) → IsSearchable f → f.size ≤ MOST_INTEGERS → IsWalk f im w →
    IsReach f w r → unsigned_abs r.choice.entry < 2 ^ 30 →
    Moves r.level r.choice.is_up b → f.size - length w.stack ≡ 0 → z ≡ set w.z 0 r.choice.entry → st ≡ b ∷ drop 1 w.stack → IsSmall z →
    Offers f im (record w { z = z; stack = st; visits = w.visits + 1 }) new → IsWalk f im new
walk_leaf f im w new r b z st k mo h v sm mv n ez es small o =
    let is_search = focus f im w r.level h v.latest in
    let entry : ℤ = r.choice.entry in
    let takes_entry : Takes r.level entry b = moved_takes r.level b entry r.choice.offset r.choice.is_up is_search.levels.0.apart v.chosen mv in
    let moved_is_level : IsLevel f b (here f w) = moved_level f r.level b (here f w) entry r.choice.offset r.choice.is_up is_search.levels.0 v.chosen mv sm v.offset_small in
    let low_at_most = reach_within f im w r h v in
    let dep = h.depth in
    let has_room = h.room in
    let some = v.some in
    let suffix_with_entry : suffix z 0 f.size ≡ entry ∷ here f w = ap (λ q. suffix q 0 f.size) ez ∙ subst (λ (j : ℕ). suffix (set w.z j entry) j f.size ≡ entry ∷ here f w) n (set_here f im w entry mo h v.some) in
    let suffix_long : length (here f w) ≡ f.size - (f.size + 1 - length w.stack) = suffix-length w.z (f.size + 1 - length w.stack) f.size (omega arith) in
    let full : length (here f w) + 1 ≡ f.size = omega arith in
    let taken_offer : TakesOffer f im new.best h.one h.two (suffix z 0 f.size) = o.taken h.one h.two is_search.one_size is_search.two_size is_search.ordered h.best in
    let off : IsOffered f im h.one h.two (entry ∷ here f w) taken_offer.new_one taken_offer.new_two = subst (λ (q : List ℤ). IsOffered f im h.one h.two q taken_offer.new_one taken_offer.new_two) suffix_with_entry taken_offer.offered in
    let asked : value f.p (entry ∷ here f w) ≤ℤ value f.p h.two → HasLarge (im (entry ∷ here f w)) → ⊥ =
    (λ g l. o.asked (subst (λ (q : List ℤ). value f.p q ≤ℤ w.best.p2) (sym suffix_with_entry) (subst (λ (p : ℤ). value f.p (entry ∷ here f w) ≤ℤ p) (sym h.best.p2) g))
    (subst (λ (q : List ℤ). HasLarge (im q)) (sym suffix_with_entry) l)) in
    let leaf_search = search_leaf f im r.level b (drop 1 w.stack) entry r.choice.offset (here f w) h.one h.two taken_offer.new_one taken_offer.new_two w.visits k is_search
    (chosen_nearest r.level entry r.choice.offset r.choice.is_up v.chosen) (chosen_offset f r.level (here f w) entry r.choice.offset r.choice.is_up is_search.levels.0 v.chosen)
    (λ l. small_suffix z 0 f.size small (subst HasLarge (sym suffix_with_entry) l)) asked takes_entry moved_is_level full low_at_most off in
    let one_shorter : length (drop 1 w.stack) + 1 ≡ length w.stack = drop_length w.stack v.some in
    let depth_is : f.size + 1 - length (b ∷ drop 1 w.stack) ≡ f.size + 1 - length w.stack = omega arith in
    let one : f.size + 1 - length w.stack ≡ 1 = omega arith in
    let suffix_is : here f w ≡ suffix new.z (f.size + 1 - length (b ∷ drop 1 w.stack)) f.size =
    ap (λ j. suffix w.z j f.size) one ∙ sym (suffix-above w.z 0 1 f.size entry (omega arith)) ∙ ap (λ j. suffix j 1 f.size) (sym (o.z ∙ ez)) ∙ ap (λ j. suffix new.z j f.size) (sym (depth_is ∙ one)) in
    let search_at_suffix : IsSearch f im (b ∷ drop 1 w.stack) (suffix new.z (f.size + 1 - length (b ∷ drop 1 w.stack)) f.size) taken_offer.new_one taken_offer.new_two (w.visits + 1) =
    subst (λ (v : List ℤ). IsSearch f im (b ∷ drop 1 w.stack) v taken_offer.new_one taken_offer.new_two (w.visits + 1)) suffix_is leaf_search in
    let search_of_stack : IsSearch f im new.stack (here f new) taken_offer.new_one taken_offer.new_two (w.visits + 1) =
    subst (λ (fs : List Level). IsSearch f im fs (suffix new.z (f.size + 1 - length fs) f.size) taken_offer.new_one taken_offer.new_two (w.visits + 1)) (sym (o.stack ∙ es)) search_at_suffix in
    record {
      size = o.size ∙ h.size;
      depth = let stack_length = ap length (o.stack ∙ es) in omega arith;
      room = ap length (o.z ∙ ez) ∙ length-set w.z 0 entry ∙ h.room;
      small = subst IsSmall (sym o.z) small;
      top = h.top;
      one = taken_offer.new_one;
      two = taken_offer.new_two;
      best = taken_offer.best;
      search = subst (λ (m : ℕ). IsSearch f im new.stack (here f new) taken_offer.new_one taken_offer.new_two m) (sym o.visits) search_of_stack;
    }

-- the image of the visited vector is too wide
pub walk_wide_image : (f : SearchForm) (im : List ℤ → List ℤ) (w : SearchState) (r : NextEntry) (z : List ℤ) → f.size ≤ MOST_INTEGERS → IsWalk f im w → IsReach f w r → f.size - length w.stack ≡ 0 →
    z ≡ set w.z 0 r.choice.entry →
    HasLarge (im (suffix z 0 f.size)) → value f.p (suffix z 0 f.size) ≤ℤ w.best.p2 → MeetsTooWide f im (w.visits + 1)
walk_wide_image f im w r z mo h v n ez large asked =
    let is_search = focus f im w r.level h v.latest in
    let entry : ℤ = r.choice.entry in
    let dep = h.depth in
    let has_room = h.room in
    let some = v.some in
    let suffix_with_entry : suffix z 0 f.size ≡ entry ∷ here f w = ap (λ q. suffix q 0 f.size) ez ∙ subst (λ (j : ℕ). suffix (set w.z j entry) j f.size ≡ entry ∷ here f w) n (set_here f im w entry mo h v.some) in
    let suffix_long : length (here f w) ≡ f.size - (f.size + 1 - length w.stack) = suffix-length w.z (f.size + 1 - length w.stack) f.size (omega arith) in
    let nearest = chosen_nearest r.level entry r.choice.offset r.choice.is_up v.chosen in
    let offset_is = chosen_offset f r.level (here f w) entry r.choice.offset r.choice.is_up v.level v.chosen in
    let large_image : HasLarge (im (entry ∷ here f w)) = subst (λ (q : List ℤ). HasLarge (im q)) suffix_with_entry large in
    let at_most : value f.p (entry ∷ here f w) ≤ℤ value f.p h.two =
    subst (λ (p : ℤ). value f.p (entry ∷ here f w) ≤ℤ p) h.best.p2 (subst (λ (q : List ℤ). value f.p q ≤ℤ w.best.p2) suffix_with_entry asked) in
    search_stopped_image f im r.level (drop 1 w.stack) entry r.choice.offset (here f w) h.one h.two w.visits (w.visits + 1) is_search nearest offset_is (omega arith) (omega arith) (reach_within f im w r h v) at_most large_image

-- ---- sizes
pub low_size : (f : SearchForm) (im : List ℤ → List ℤ) (w : SearchState) (a : Level) → IsSearchable f → IsWalk f im w → IsLatest w.stack a → unsigned_abs a.low ≤ 2 ^ 122
low_size f im w a k h t =
    let is_level = latest_level f im w a h t in
    let is_shorter = is_level.shorter in
    last a.low (low f (here f w)) f.g (top f) is_level.low_is is_level.within (low_from f (here f w) k (omega arith)) k.g_in h.top
  where
    last : (a l g t : ℤ) → a ≡ l → l ≤ℤ (pos (2 ^ 60) *ℤ t) → (pos (2 ^ 60) *ℤ g) ≤ℤ l → unsigned_abs g < 2 ^ 52 → t <ℤ pos (2 ^ 62) → unsigned_abs a ≤ 2 ^ 122
    last a l g t e u v s p = omega (arith, polys)

pub p2_size : (f : SearchForm) (im : List ℤ → List ℤ) (w : SearchState) → IsSearchable f → IsWalk f im w → unsigned_abs w.best.p2 ≤ 2 ^ 62
p2_size f im w k h = last w.best.p2 (value f.p h.two) (top f) h.best.p2 (value_from f h.two k h.search.two_size) h.search.bound h.top
  where
    last : (p v t : ℤ) → p ≡ v → neg_ℤ (pos (2 ^ 52)) ≤ℤ v → v ≤ℤ t → t <ℤ pos (2 ^ 62) → unsigned_abs p ≤ 2 ^ 62
    last p v t a b c d = omega (arith, ints)

pub chosen_sizes : (f : SearchForm) (a : Level) (s : List ℤ) (x c : ℤ) (up : Bool) → IsLevel f a s → Chooses a x c up → (unsigned_abs x ≤ 2 ^ 61) × (unsigned_abs c ≤ 2 ^ 100)
chosen_sizes f a s x c true h k = let up_fits = h.up_size in let up_offset_fits = h.up_offset_size in (omega (arith, ints), omega (arith, ints))
chosen_sizes f a s x c false h k = let down_fits = h.down_size in let down_offset_fits = h.down_offset_size in (omega (arith, ints), omega (arith, ints))

-- ---- the ends of a turn
pub walk_over : (f : SearchForm) (im : List ℤ → List ℤ) (w : SearchState) (r : NextEntry) → IsWalk f im w → IsReach f w r → IsOverBudget f im w.visits
walk_over f im w r h v = search_outrun f im r.level (drop 1 w.stack) r.choice.entry r.choice.offset (here f w) h.one h.two w.visits (focus f im w r.level h v.latest)
    (chosen_nearest r.level r.choice.entry r.choice.offset r.choice.is_up v.chosen) (chosen_offset f r.level (here f w) r.choice.entry r.choice.offset r.choice.is_up v.level v.chosen)
    (chosen_free r.level r.choice.entry r.choice.offset r.choice.is_up v.chosen) (reach_within f im w r h v)

pub walk_wide : (f : SearchForm) (im : List ℤ → List ℤ) (w : SearchState) (r : NextEntry) (n : ℕ) → IsWalk f im w → IsReach f w r → w.visits < n → 2 ^ 30 ≤ unsigned_abs r.choice.entry → MeetsTooWide f im n
walk_wide f im w r n h v before s = search_stopped f im r.level (drop 1 w.stack) r.choice.entry r.choice.offset (here f w) h.one h.two w.visits n (focus f im w r.level h v.latest)
    (chosen_nearest r.level r.choice.entry r.choice.offset r.choice.is_up v.chosen)
    (chosen_offset f r.level (here f w) r.choice.entry r.choice.offset r.choice.is_up v.level v.chosen) before (reach_within f im w r h v) s

pub walk_end : (f : SearchForm) (im : List ℤ → List ℤ) (w : SearchState) (budget : ℕ) → IsWalk f im w → length w.stack ≡ 0 → w.visits ≤ budget → HasFound f im budget w
walk_end f im w budget h n v = record {
  size = h.size;
  one = h.one;
  two = h.two;
  best = h.best;
  least = search_done f im w.stack (here f w) h.one h.two w.visits n h.search;
  finished = search_finished f im w.stack (here f w) h.one h.two w.visits budget n v h.search;
}

pub left_less : (budget v v' m a b : ℕ) → v' ≡ v + 1 → v < budget → a ≤ b + 1 → 2 ≤ m → (budget - v') * m + a < (budget - v) * m + b
left_less budget v v' m a b e h k n =
    let one_less_left : budget - v ≡ (budget - v') + 1 = omega arith in
    let product_is : (budget - v) * m ≡ (budget - v') * m + m = ap (λ j. j * m) one_less_left ∙ step (budget - v') m in
    omega arith
  where
    step : (x m : ℕ) → (x + 1) * m ≡ x * m + m
    step x m = omega arith

-- ---- the first state
pub walk_begins : (f : SearchForm) (b : Best) (a : Level) (size : ℕ) (z : List ℤ) (st : List Level) (e g : ℤ) → IsSearchable f → size ≡ f.size → length z ≡ MOST_INTEGERS → IsSmall z → st ≡ a ∷ [] →
    e ≡ rest f (suffix z (f.size - 1 + 1) f.size) → g ≡ pos (2 ^ 60) *ℤ f.g → IsUntouched e g a → BeginsWith f b (record { size = size; z = z; stack = st; visits = 0; best = b })
walk_begins f b a size z st e g k es zr zs ss ee ge fr = record { begun = λ im one two p q o bd tp sp nw hb. (begun im one two p q o bd tp sp nw hb, refl) }
  where
    last : (a b v t : ℤ) → a ≤ℤ b → b ≤ℤ (pos (2 ^ 60) *ℤ v) → v ≤ℤ t → a ≤ℤ (pos (2 ^ 60) *ℤ t)
    last a b v t h k l = omega (arith, polys)

    begun : (im : List ℤ → List ℤ) (one two : List ℤ) → length one ≡ f.size → length two ≡ f.size → IsLess f im one two → value f.p two ≤ℤ top f → top f <ℤ pos (2 ^ 62) → AreStartPoints f one two → (IsStartTooWide f im → ⊥) → HoldsBest f im b one two →
        IsWalk f im (record { size = size; z = z; stack = st; visits = 0; best = b })
    begun im one two p q o bd tp sp nw hb =
        let some = k.some in
        let nothing : suffix z (f.size - 1 + 1) f.size ≡ [] = suffix-none z (f.size - 1 + 1) f.size (omega arith) in
        let fr2 : IsUntouched (rest f []) (low f []) a =
        subst (λ (u : ℤ). IsUntouched (rest f []) u a) (ge ∙ sym (low-nil f k.each)) (subst (λ (u : ℤ). IsUntouched u g a) (ee ∙ ap (rest f) nothing) fr) in
        let low_at_most : low f [] ≤ℤ (pos (2 ^ 60) *ℤ top f) = last (low f []) (low f two) (value f.p two) (top f)
        (subst (λ (m : ℤ). m ≤ℤ low f two) (sym (low-nil f k.each)) (low_from f two k (omega arith))) (k.below two q) bd in
        let first_is_level : IsLevel f a [] = level_untouched f [] a (omega arith) fr2 low_at_most in
        let started_search = search_start f im a one two k p q o bd sp nw first_is_level (untouched_free (rest f []) (low f []) a fr2) in
        let one_level : length st ≡ 1 = ap length ss in
        let nothing_taken : [] ≡ suffix z (f.size + 1 - length st) f.size = sym (suffix-none z (f.size + 1 - length st) f.size (omega arith)) in
        record {
          size = es;
          depth = omega arith;
          room = zr;
          small = zs;
          top = tp;
          one = one;
          two = two;
          best = hb;
          search = subst (λ (fs : List Level). IsSearch f im fs (suffix z (f.size + 1 - length st) f.size) one two 0) (sym ss) (subst (λ (v : List ℤ). IsSearch f im (a ∷ []) v one two 0) nothing_taken started_search);
        }

-- ---- an offer
pub offers_best : (f : SearchForm) (im : List ℤ → List ℤ) (w : SearchState) (p : ℤ) (y : List ℤ) (b : Best) → IsOneToOne f.size im → length (suffix w.z 0 f.size) ≡ f.size →
    p ≡ value f.p (suffix w.z 0 f.size) →
    KeepsBest f.size p y w.best b → Holds f.size y (im (suffix w.z 0 f.size)) → Offers f im w (record w { best = b })
offers_best f im w p y b o l e k h = record {
  size = refl;
  z = refl;
  stack = refl;
  visits = refl;
  taken = λ one two a c m g. k.kept f im one two (suffix w.z 0 f.size) refl o a c l m g h e;
  asked = λ g. held_small f.size y (im (suffix w.z 0 f.size)) h;
}

-- a visit at the first integer, by what the offer answers
pub leaf_visit : (f : SearchForm) (im : List ℤ → List ℤ) (w new : SearchState) (r : NextEntry) (b : Level) (z : List ℤ) (st : List Level) (o : Bool) → IsSearchable f → f.size ≤ MOST_INTEGERS →
    IsWalk f im w → IsReach f w r → unsigned_abs r.choice.entry < 2 ^ 30 →
    Moves r.level r.choice.is_up b → f.size - length w.stack ≡ 0 → z ≡ set w.z 0 r.choice.entry → st ≡ b ∷ drop 1 w.stack → IsSmall z →
    MatchBool o (Offers f im (record w { z = z; stack = st; visits = w.visits + 1 }) new) (IsImageTooLarge f im (record w { z = z; stack = st; visits = w.visits + 1 })) →
    MatchBool o (Visits f im w new) (MeetsTooWide f im (w.visits + 1))
leaf_visit f im w new r b z st true k mo h v sm mv n ez es small o = record {
  walk = walk_leaf f im w new r b z st k mo h v sm mv n ez es small o;
  visits = o.visits;
  depth = let one_shorter = drop_length w.stack v.some in let stack_length = ap length (o.stack ∙ es) in omega arith;
}
leaf_visit f im w new r b z st false k mo h v sm mv n ez es small o = walk_wide_image f im w r z mo h v n ez o.0 o.1

pub reach_entry : (f : SearchForm) (w : SearchState) (r : NextEntry) → IsReach f w r → unsigned_abs r.choice.entry ≤ 2 ^ 61
reach_entry f w r v = (chosen_sizes f r.level (here f w) r.choice.entry r.choice.offset r.choice.is_up v.level v.chosen).0
