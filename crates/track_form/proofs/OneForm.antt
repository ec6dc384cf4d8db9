-- The rows of pairs have one sum of fronts, one form and one refusal.
use Rattle.std.proofs.Common.{◌≡◌, ◌⊎◌, ⊎_elim, ℕ, zero, suc, ◌+◌, ◌-◌, ◌*◌, ◌^◌, ◌<◌, ◌≤◌, Err, List, [], ◌∷◌, length, map, take, get_or, ℤ, pos, ◌+ℤ◌, arith, sym, ap, ap₂, ◌∙◌, refl, subst, le_antisymm}
use Rattle.std.proofs.lemmas.List.{get_or_default}
use Rattle.whole_math.specs.Vectors.{scaled}
use Rattle.quadratic_form.specs.Forms.{Column}
use Rattle.quadratic_form.specs.Elimination.{Factor, Refusal, steps, StepsAnswer}
use Rattle.quadratic_form.proofs.Places.{form_same}
use Rattle.obs_rows.specs.declared.arcs.Arc.{Arc}
use Rattle.obs_rows.specs.declared.pair_rows.PairRows.{PairRows}
use Rattle.obs_rows.specs.Integers.{integer_count}
use Rattle.quadratic_form.specs.Tables.{entry}
use Rattle.normal_sum.specs.Values.{form_of}
use Rattle.integer_form.specs.declared.front_form.FrontForm.{FrontForm}
use Rattle.integer_form.specs.declared.faults.LowerFault.{LowerFault}
use Rattle.integer_form.specs.declared.form.Form.{Form}
use Rattle.integer_form.specs.FloatPoint.{solved}
use Rattle.integer_form.specs.Forms.{columns_of}
use Rattle.integer_form.specs.Kept.{form_of_table}
use Rattle.integer_form.specs.ReportedRefusals.{IsReportedAs, fault_of}
use Rattle.elimination.specs.Finish.{finish_of}
use Rattle.lower_form.specs.Fronts.{front_of}
use Rattle.lower_form.proofs.Exponents.{exponent_unique}
use Rattle.lower_form.proofs.OneForm.{same_normal, same_front, one_exponent}
use Rattle.track_form.specs.Fronts.{Front, part, track_entry, track_form, AreExponents}
use Rattle.track_form.specs.Parts.{part_at}
use Rattle.track_form.specs.PairFronts.{IsFrontOfPair, IsRefusedPair, HasFront, AreFronts, IsFirstRefused, brief, move_at}
use Rattle.track_form.specs.SumDecided.{IsSumOfFronts, IsTrackForm, IsFinishRefused}
use Rattle.track_form.proofs.OneFront.{SameFront, one_front, no_front}
use Rattle.track_form.proofs.SumOfForms.{entry_more}
use Rattle.track_form.proofs.TrackEntries.{part_same}
use Rattle.track_form.proofs.FrontLists.{fronts_long, columns_of_front, HasPlace, front_place}

-- ---- two lists of fronts of the same pairs
pub same_parts : (arcs : List Arc) (ss : List ℕ) (p : PairRows) (f g : FrontForm) (n h : ℕ) → IsFrontOfPair arcs ss p f → IsFrontOfPair arcs ss p g → n ≡ 1 + integer_count arcs ss → (r c : ℕ) →
    r ≤ c → c < n →
    part_at n (part h (brief f)) (entry f.p) r c ≡ part_at n (part h (brief g)) (entry g.p) r c
same_parts arcs ss p f g n h a b order r c l m = part_same n (2 ^ (h - f.h)) f.p g.p form r c l m ∙ ap (λ (k : ℕ). part_at n (2 ^ (h - k)) (entry g.p) r c) same.h
  where
    same : SameFront f g
    same = one_front arcs ss p f g a b

    fewer : (k i : ℕ) → k ≡ 4 + i → n ≡ 1 + i → k - 3 ≡ n
    fewer k i e d = omega arith

    form : form_of_table f.p n ≡ form_of_table g.p n
    form = ap (λ (k : ℕ). form_of_table f.p k) (sym (fewer f.columns (integer_count arcs ss) (columns_of_front arcs ss p f a) order)) ∙ same.form
        ∙ ap (λ (k : ℕ). form_of_table g.p k) (fewer g.columns (integer_count arcs ss) (columns_of_front arcs ss p g b) order)

entries_same : (arcs : List Arc) (ss : List ℕ) (n h : ℕ) (pairs : List PairRows) (fs gs : List FrontForm) → n ≡ 1 + integer_count arcs ss → AreFronts arcs ss pairs fs →
    AreFronts arcs ss pairs gs → (r c : ℕ) → r ≤ c → c < n →
    track_entry n h (map brief fs) r c ≡ track_entry n h (map brief gs) r c
entries_same arcs ss n h [] [] [] order a b r c l m = refl
entries_same arcs ss n h [] [] (g ∷ gs) order a b r c l m = absurd b
entries_same arcs ss n h [] (f ∷ fs) gs order a b r c l m = absurd a
entries_same arcs ss n h (p ∷ pairs) [] gs order a b r c l m = absurd a
entries_same arcs ss n h (p ∷ pairs) (f ∷ fs) [] order a b r c l m = absurd b
entries_same arcs ss n h (p ∷ pairs) (f ∷ fs) (g ∷ gs) order a b r c l m = entry_more n h (brief f) (map brief fs) r c
    ∙ ap₂ (λ x y. x +ℤ y) (same_parts arcs ss p f g n h a.0 b.0 order r c l m) (entries_same arcs ss n h pairs fs gs order a.1 b.1 r c l m)
    ∙ sym (entry_more n h (brief g) (map brief gs) r c)

heights_same : (arcs : List Arc) (ss : List ℕ) (pairs : List PairRows) (fs gs : List FrontForm) → AreFronts arcs ss pairs fs → AreFronts arcs ss pairs gs → (k : ℕ) → k < length pairs → (x y : Front) →
    (get_or (map brief fs) k x).h ≡ (get_or (map brief gs) k y).h
heights_same arcs ss [] fs gs a b k l x y = absurd (omega arith)
heights_same arcs ss (p ∷ pairs) [] gs a b k l x y = absurd a
heights_same arcs ss (p ∷ pairs) (f ∷ fs) [] a b k l x y = absurd b
heights_same arcs ss (p ∷ pairs) (f ∷ fs) (g ∷ gs) a b zero l x y = (one_front arcs ss p f g a.0 b.0).h
heights_same arcs ss (p ∷ pairs) (f ∷ fs) (g ∷ gs) a b (suc k) l x y = heights_same arcs ss pairs fs gs a.1 b.1 k (omega arith) x y

exponent_least : (arcs : List Arc) (ss : List ℕ) (pairs : List PairRows) (fs gs : List FrontForm) (e h d g : ℕ) → AreFronts arcs ss pairs fs → AreFronts arcs ss pairs gs →
    AreExponents (map brief fs) e h → AreExponents (map brief gs) d g → h ≤ g
exponent_least arcs ss pairs fs gs e h d g a b s t =
    let k : ℕ = s.attained.0 in
    let front : Front = s.attained.1 in
    let inside : k < length pairs = subst (λ (n : ℕ). k < n) (fronts_long arcs ss pairs fs a) s.attained.2 in
    let least : e ≤ d = s.least d (subst (λ (n : ℕ). 2 * n ≤ 2 ^ d) (fronts_long arcs ss pairs gs b ∙ sym (fronts_long arcs ss pairs fs a)) t.enough) in
    let height : front.h ≡ (get_or (map brief gs) k front).h = ap (λ (f : Front). f.h) (sym s.attained.3) ∙ heights_same arcs ss pairs fs gs a b k inside front front in
    least_of front.h e h (get_or (map brief gs) k front).h d g s.attained.4 height least (t.over k front (subst (λ (n : ℕ). k < n) (sym (fronts_long arcs ss pairs gs b)) inside))
  where
    least_of : (a e h b d g : ℕ) → a + e ≡ h → a ≡ b → e ≤ d → b + d ≤ g → h ≤ g
    least_of a e h b d g i j k l = omega arith

-- ---- one sum
pub record SameSum (s t : FrontForm) : Type 0 where
  pub h : s.h ≡ t.h
  pub columns : s.columns ≡ t.columns
  pub form : form_of_table s.p (s.columns - 3) ≡ form_of_table t.p (t.columns - 3)

pub one_sum : (arcs : List Arc) (ss : List ℕ) (pairs : List PairRows) (fs gs : List FrontForm) (s t : FrontForm) → IsSumOfFronts arcs ss pairs fs s → IsSumOfFronts arcs ss pairs gs t → SameSum s t
one_sum arcs ss pairs fs gs s t a b = record { h = height; columns = columns; form = form }
  where
    height : s.h ≡ t.h
    height = le_antisymm (exponent_least arcs ss pairs fs gs a.e s.h b.e t.h a.of_pairs b.of_pairs a.exponents b.exponents)
        (exponent_least arcs ss pairs gs fs b.e t.h a.e s.h b.of_pairs a.of_pairs b.exponents a.exponents)

    columns : s.columns ≡ t.columns
    columns = a.columns ∙ sym b.columns

    fewer : (k i : ℕ) → k ≡ 4 + i → k - 3 ≡ 1 + i
    fewer k i e = omega arith

    n : ℕ
    n = t.columns - 3

    form : form_of_table s.p (s.columns - 3) ≡ form_of_table t.p (t.columns - 3)
    form = a.form ∙ ap₂ (λ (k h : ℕ). track_form (k - 3) h (map brief fs)) columns height
        ∙ form_same (track_entry n t.h (map brief fs)) (track_entry n t.h (map brief gs)) 0 n
        (λ r c o l m. entries_same arcs ss n t.h pairs fs gs (fewer t.columns (integer_count arcs ss) b.columns) a.of_pairs b.of_pairs r c l (inside c m)) ∙ sym b.form
      where
        inside : (c : ℕ) → c < 0 + n → c < n
        inside c l = omega arith

-- ---- one form
pub record SameForm (f g : Form) : Type 0 where
  pub h : f.h ≡ g.h
  pub columns : f.columns ≡ g.columns
  pub form : columns_of f ≡ columns_of g

pub one_form : (arcs : List Arc) (ss : List ℕ) (pairs : List PairRows) (fs gs : List FrontForm) (f g : Form) → IsTrackForm arcs ss pairs fs f → IsTrackForm arcs ss pairs gs g → SameForm f g
one_form arcs ss pairs fs gs f g a b =
    let same : SameSum a.sum b.sum = one_sum arcs ss pairs fs gs a.sum b.sum a.of_fronts b.of_fronts in
    record {
      h = a.finished.h ∙ same.h ∙ sym b.finished.h;
      columns = a.finished.columns ∙ same.columns ∙ sym b.finished.columns;
      form = ap₂ (λ (p : List (List ℤ)) (c : ℕ). form_of_table p (c - 3)) a.finished.p a.finished.columns ∙ same.form
          ∙ sym (ap₂ (λ (p : List (List ℤ)) (c : ℕ). form_of_table p (c - 3)) b.finished.p b.finished.columns);
    }

-- ---- one list of moves
pub same_move : (arcs : List Arc) (ss : List ℕ) (p : PairRows) (f g : FrontForm) (z : List ℤ) → IsFrontOfPair arcs ss p f → IsFrontOfPair arcs ss p g → move_at z f ≡ move_at z g
same_move arcs ss p f g z a b = ap (λ (s : List Factor). take 3 (solved s (scaled (pos (2 ^ 16)) z))) (one_front arcs ss p f g a b).baseline

pub same_moves : (arcs : List Arc) (ss : List ℕ) (pairs : List PairRows) (fs gs : List FrontForm) (z : List ℤ) → AreFronts arcs ss pairs fs → AreFronts arcs ss pairs gs →
    map (move_at z) fs ≡ map (move_at z) gs
same_moves arcs ss [] [] [] z a b = refl
same_moves arcs ss [] [] (g ∷ gs) z a b = absurd b
same_moves arcs ss [] (f ∷ fs) gs z a b = absurd a
same_moves arcs ss (p ∷ pairs) [] gs z a b = absurd a
same_moves arcs ss (p ∷ pairs) (f ∷ fs) [] z a b = absurd b
same_moves arcs ss (p ∷ pairs) (f ∷ fs) (g ∷ gs) z a b = ap₂ (λ (m : List ℤ) (ms : List (List ℤ)). m ∷ ms) (same_move arcs ss p f g z a.0 b.0) (same_moves arcs ss pairs fs gs z a.1 b.1)

-- ---- one refusal
-- where a pair has none there is no list of fronts
pub no_fronts : (arcs : List Arc) (ss : List ℕ) (pairs : List PairRows) (why : LowerFault) (fs : List FrontForm) → IsFirstRefused arcs ss pairs why → AreFronts arcs ss pairs fs → ⊥
no_fronts arcs ss [] why fs a b = absurd (omega (arith, a.inside))
no_fronts arcs ss (q ∷ rest) why fs a b =
    let pairs : List PairRows = q ∷ rest in
    let pair : PairRows = get_or pairs a.place q in
    let has_place : HasPlace arcs ss pair fs a.place = front_place arcs ss pairs fs a.place pair b a.inside (get_or_default pairs a.place pair q a.inside) in
    no_front arcs ss pair why has_place.front (a.refused q) has_place.is

same_finish : (s t : FrontForm) → SameSum s t → finish_of s ≡ finish_of t
same_finish s t same = ap₂ (λ (k : ℕ) (a : List Column). steps 3 (k - 4) a) same.columns same.form

-- where the finish is refused there is no form
pub no_form : (arcs : List Arc) (ss : List ℕ) (pairs : List PairRows) (why : LowerFault) (fs : List FrontForm) (f : Form) → IsFinishRefused arcs ss pairs why → IsTrackForm arcs ss pairs fs f → ⊥
no_form arcs ss pairs why fs f a b =
    let same = same_finish a.sum b.sum (one_sum arcs ss pairs a.fronts fs a.sum b.sum a.of_fronts b.of_fronts) in
    absurd (cc (a.reported.1.0, same, b.finished.taken))

abbrev refused : Refusal → StepsAnswer
refused x = Err x

one_reported : (a b : LowerFault) (r s : StepsAnswer) → r ≡ s → IsReportedAs a r → IsReportedAs b s → a ≡ b
one_reported a b r s e t u = t.1.1 ∙ ap fault_of (same_refusal t.0 u.0 (sym t.1.0 ∙ e ∙ u.1.0)) ∙ sym u.1.1
  where
    same_refusal : (x y : Refusal) → refused x ≡ refused y → x ≡ y
    same_refusal x y e = cc

one_pair : (arcs : List Arc) (ss : List ℕ) (p : PairRows) (a b : LowerFault) → IsRefusedPair arcs ss p a → IsRefusedPair arcs ss p b → a ≡ b
one_pair arcs ss p a b s t =
    let same = same_normal arcs ss (p ∷ []) s.normal t.normal s.of_rows t.of_rows in
    let same_exponent : s.h ≡ t.h = exponent_unique s.h t.h (form_of t.normal) (one_exponent arcs ss (p ∷ []) s.normal t.normal s.h s.of_rows t.of_rows s.exponent) t.exponent in
    one_reported a b (front_of s.h s.normal) (front_of t.h t.normal) (same_front s.h s.normal t.normal same ∙ ap (λ (e : ℕ). front_of e t.normal) same_exponent) s.reported t.reported

pub one_first : (arcs : List Arc) (ss : List ℕ) (pairs : List PairRows) (a b : LowerFault) → IsFirstRefused arcs ss pairs a → IsFirstRefused arcs ss pairs b → a ≡ b
one_first arcs ss [] a b s t = absurd (omega (arith, s.inside))
one_first arcs ss (q ∷ rest) a b s t = by_order (less_or s.place t.place)
  where
    pairs : List PairRows
    pairs = q ∷ rest

    refused_before : (x : LowerFault) (i j : ℕ) → ((d : PairRows) → IsRefusedPair arcs ss (get_or pairs i d) x) → ((k : ℕ) → k < j → (d : PairRows) → HasFront arcs ss (get_or pairs k d)) → i < j → ⊥
    refused_before x i j refused before l = let has = before i l q in no_front arcs ss (get_or pairs i q) x has.0 (refused q) has.1

    less_or : (i j : ℕ) → (i < j) ⊎ ((j < i) ⊎ (i ≡ j))
    less_or i j = grind arith

    by_order : (s.place < t.place) ⊎ ((t.place < s.place) ⊎ (s.place ≡ t.place)) → a ≡ b
    by_order o = ⊎_elim (λ (l : s.place < t.place). absurd (refused_before a s.place t.place s.refused t.before l))
        (λ (o : (t.place < s.place) ⊎ (s.place ≡ t.place)). ⊎_elim (λ (l : t.place < s.place). absurd (refused_before b t.place s.place t.refused s.before l))
        (λ (e : s.place ≡ t.place). one_pair arcs ss (get_or pairs s.place q) a b (s.refused q) (subst (λ (k : ℕ). IsRefusedPair arcs ss (get_or pairs k q) b) (sym e) (t.refused q))) o) o

pub one_finish : (arcs : List Arc) (ss : List ℕ) (pairs : List PairRows) (a b : LowerFault) → IsFinishRefused arcs ss pairs a → IsFinishRefused arcs ss pairs b → a ≡ b
one_finish arcs ss pairs a b s t =
    one_reported a b (finish_of s.sum) (finish_of t.sum) (same_finish s.sum t.sum (one_sum arcs ss pairs s.fronts t.fronts s.sum t.sum s.of_fronts t.of_fronts)) s.reported t.reported
