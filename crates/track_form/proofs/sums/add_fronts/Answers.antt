use Rattle.std.proofs.Common.{◌≡◌, ℕ, ◌+◌, ◌-◌, ◌*◌, ◌^◌, ◌<◌, ◌≤◌, ℤ, pos, ◌+ℤ◌, unsigned_abs, arith, rules, sym, ap, ap₂, ◌∙◌, refl, subst, lt_of_lt_of_le}
use Rattle.std.proofs.Common.{[], ◌∷◌, ◌++◌, List, length, map, take, drop, get_or, below_more}
use Rattle.std.proofs.lemmas.List.{get_or_default, take_more, take_all, drop_all}
use Rattle.std.proofs.lemmas.Int.{ints}
use Rattle.std.proofs.lemmas.Slice.Zip.{AllZip-long, all_zipped_more}
use Rattle.whole_math.proofs.Order.{lins}
use Rattle.obs_rows.specs.declared.arcs.Arc.{Arc}
use Rattle.obs_rows.specs.declared.pair_rows.PairRows.{PairRows}
use Rattle.obs_rows.specs.Signals.{fine_signals}
use Rattle.obs_rows.specs.Integers.{integer_count}
use Rattle.obs_rows.specs.declared.limits.TheConstants.{MOST_PAIRS}
use Rattle.quadratic_form.specs.declared.sizes.TheConstants.{MOST_COLUMNS}
use Rattle.quadratic_form.specs.Tables.{entry}
use Rattle.quadratic_form.proofs.TableLaws.{zero_entry}
use Rattle.normal_sum.proofs.RowSums.{next_sum}
use Rattle.normal_sum.proofs.NormalLaws.{zero_first}
use Rattle.integer_form.specs.declared.front_form.FrontForm.{FrontForm}
use Rattle.track_form.specs.Fronts.{Front, part, track_entry}
use Rattle.track_form.specs.Parts.{part_at}
use Rattle.track_form.specs.declared.factors.PairFactors.{PairFactors}
use Rattle.track_form.specs.PairFronts.{IsFrontOfPair, IsRefusedPair, HasFront, brief}
use Rattle.track_form.specs.Factors.{AreOfPair, AreFactors}
use Rattle.track_form.proofs.SumOfForms.{entry_more}
use Rattle.track_form.proofs.TrackEntries.{none_entry}
use Rattle.track_form.proofs.FrontLists.{columns_of_front, HasPlace, front_place, fronts_from}
use Rattle.track_form.proofs.OneForm.{same_parts}
use Rattle.track_form.proofs.OneFront.{one_front}
use Rattle.track_form.proofs.sums.add_fronts.Goals as goal

-- ---- one pair more
one_more : (arcs : List Arc) (ss : List ℕ) (p : PairRows) (h shift k : ℕ) (fs : List FrontForm) (f : FrontForm) (w : HasPlace arcs ss p fs k) → IsFrontOfPair arcs ss p f → shift ≡ h - f.h →
    (r c : ℕ) → r ≤ c → c < 1 + integer_count arcs ss → (old new all : ℤ) →
    old +ℤ track_entry (1 + integer_count arcs ss) h (map brief (drop k fs)) r c ≡ all → new ≡ old +ℤ part_at (f.columns - 3) (2 ^ shift) (entry f.p) r c →
    new +ℤ track_entry (1 + integer_count arcs ss) h (map brief (drop (k + 1) fs)) r c ≡ all
one_more arcs ss p h shift k fs f w is e r c l b old new all sums more =
    let n : ℕ = 1 + integer_count arcs ss in
    let rest : List Front = map brief (drop (k + 1) fs) in
    next_sum old new (part_at n (part h (brief w.front)) (entry w.front.p) r c) (track_entry n h rest r c) all
    (ap (λ (x : ℤ). old +ℤ x) (sym (entry_more n h (brief w.front) rest r c)) ∙ ap (λ (gs : List FrontForm). old +ℤ track_entry n h (map brief gs) r c) (sym (fronts_from arcs ss p fs k w)) ∙ sums)
    (more ∙ ap (λ (x : ℤ). old +ℤ x) (places n ∙ same_parts arcs ss p f w.front n h is w.is refl r c l b))
  where
    fewer : (k i : ℕ) → k ≡ 4 + i → k - 3 ≡ 1 + i
    fewer k i e = omega arith

    places : (n : ℕ) → part_at (f.columns - 3) (2 ^ shift) (entry f.p) r c ≡ part_at (1 + integer_count arcs ss) (part h (brief f)) (entry f.p) r c
    places n = ap₂ (λ (m s : ℕ). part_at m (2 ^ s) (entry f.p) r c) (fewer f.columns (integer_count arcs ss) (columns_of_front arcs ss p f is)) e

-- the factors of one front more
factors_more : (arcs : List Arc) (ss : List ℕ) (pairs : List PairRows) (kept more : List PairFactors) (k : ℕ) (p : PairRows) (m : PairFactors) → AreFactors arcs ss (take k pairs) kept →
    k < length pairs → get_or pairs k p ≡ p → AreOfPair arcs ss p m → more ≡ kept ++ m ∷ [] → AreFactors arcs ss (take (k + 1) pairs) more
factors_more arcs ss pairs kept more k p m are inside at is pushed =
    subst (λ (ks : List PairFactors). AreFactors arcs ss (take (k + 1) pairs) ks) (sym pushed)
    (subst (λ (ps : List PairRows). AreFactors arcs ss ps (kept ++ m ∷ [])) (sym (take_more pairs k p inside))
    (all_zipped_more (AreOfPair arcs ss) (take k pairs) kept (get_or pairs k p) m are (subst (λ (x : PairRows). AreOfPair arcs ss x m) (sym at) is)))

within_most : (a b m : ℕ) → a ≡ b → b ≤ m → a ≤ m
within_most a b m e h = omega (arith, e, h)

larger : (a b i : ℕ) → a ≤ b + 2 ^ 64 → b ≤ i * 2 ^ 64 → a ≤ (i + 1) * 2 ^ 64
larger a b i h g = omega arith

few : (a i n : ℕ) → a ≤ i * 2 ^ 64 → i < n → n ≤ MOST_PAIRS → a ≤ MOST_PAIRS * 2 ^ 64
few a i n h g k = omega arith

zero_last : (a b c : ℤ) → b ≡ pos 0 → a +ℤ b ≡ c → a ≡ c
zero_last a b c e h = omega (arith, lins)

size_zero : (x : ℤ) → x ≡ pos 0 → unsigned_abs x ≤ 0 * 2 ^ 64
size_zero x e = omega (arith, ints)

pub loop-pair-init : goal.loop-pair-init
loop-pair-init c =
    let all_zero : (i j : ℕ) → entry c.args.table.now i j ≡ pos 0 = λ i j. ap (λ (t : List (List ℤ)). entry t i j) c.requires.zeros ∙ zero_entry MOST_COLUMNS MOST_COLUMNS i j in
    let none : c.in_ok-kept.kept.items ≡ [] = search rules in
    record {
      sums = λ fs are r k l b. zero_first _ _ (all_zero (3 + r) (3 + k));
      factors = subst (λ (ks : List PairFactors). AreFactors c.args.arcs.now (fine_signals c.args.signals) [] ks) (sym none) tt;
      columns = c.requires.columns;
      fronts = λ j l d. absurd (omega (arith, l));
      above = λ j l d f i. absurd (omega (arith, l));
      sizes = λ r k l b. size_zero _ (all_zero (3 + r) (3 + k));
    }

pub add_front-requires-clause-sizes : goal.add_front-requires-clause-sizes
add_front-requires-clause-sizes c =
    let arcs : List Arc = c.args.arcs.now in
    let fine : List ℕ = fine_signals c.args.signals in
    let pair_front : FrontForm = c.fill.new.self.front in
    let columns : pair_front.columns ≡ 4 + integer_count arcs fine = columns_of_front arcs fine c.pair-item.result pair_front c.in-Ok.ensures.front in
    λ r q l b. few (unsigned_abs (entry c.loop-pair.table (3 + r) (3 + q))) c.loop-pair.pair-index (length c.args.pairs.now)
    (c.loop-pair.invariant.sizes r q l (within q (integer_count arcs fine) pair_front.columns b columns)) c.loop-pair-test.true c.requires.few
  where
    within : (b i k : ℕ) → b < k - 3 → k ≡ 4 + i → b < 1 + i
    within b i k l e = omega arith

pub loop-pair-preserved : goal.loop-pair-preserved
loop-pair-preserved c =
    let pairs : List PairRows = c.args.pairs.now in
    let arcs : List Arc = c.args.arcs.now in
    let fine : List ℕ = fine_signals c.args.signals in
    let k : ℕ = c.loop-pair.pair-index in
    let pair : PairRows = c.pair-item.result in
    let pair_front : FrontForm = c.fill.new.self.front in
    let is_front : IsFrontOfPair arcs fine pair pair_front = c.in-Ok.ensures.front in
    let inside : k < length pairs = search rules in
    let within : (b i : ℕ) → b < 1 + i → pair_front.columns ≡ 4 + i → b < pair_front.columns - 3 = λ b i l e. omega arith in
    let columns : pair_front.columns ≡ 4 + integer_count arcs fine = columns_of_front arcs fine pair pair_front is_front in
    record {
      sums = λ fs are r q l b. one_more arcs fine pair c.args.h (c.args.h - pair_front.h) k fs pair_front (front_place arcs fine pairs fs k pair are inside (sym c.pair-item.is)) is_front refl r q l b _ _ _
          (c.loop-pair.invariant.sums fs are r q l b) (c.add_front.ensures.sums r q l (within q (integer_count arcs fine) b columns));
      factors = factors_more arcs fine pairs c.loop-pair.kept.items c.push.new.self.items k pair c.of.result c.loop-pair.invariant.factors inside (sym c.pair-item.is)
          (record { front = pair_front; is = is_front; columns = c.of.ensures.columns; d = c.of.ensures.d; l = c.of.ensures.l }) c.in_ok-push-in-Ok.ensures.items;
      columns = c.in-Ok.ensures.columns ∙ c.loop-pair.invariant.columns;
      fronts = below_more (λ j. (d : PairRows) → HasFront arcs fine (get_or pairs j d)) k c.loop-pair.invariant.fronts
          (λ d. (pair_front, subst (λ (x : PairRows). IsFrontOfPair arcs fine x pair_front) (c.pair-item.is ∙ sym (get_or_default pairs k d pair inside)) is_front));
      above = below_more (λ j. (d : PairRows) (g : FrontForm) → IsFrontOfPair arcs fine (get_or pairs j d) g → g.h ≤ c.args.most) k c.loop-pair.invariant.above
          (λ d g i. within_most g.h pair_front.h c.args.most (one_front arcs fine pair g pair_front (subst (λ (x : PairRows). IsFrontOfPair arcs fine x g) (get_or_default pairs k d pair inside ∙ sym c.pair-item.is) i) is_front).h
          c.if-front-most.false);
      sizes = λ r q l b. larger _ _ k (c.add_front.ensures.sizes r q l (within q (integer_count arcs fine) b columns)) (c.loop-pair.invariant.sizes r q l b);
    }

-- the first pair whose front is over
pub returns-then-front-most-clause-stopped : goal.returns-then-front-most-clause-stopped
returns-then-front-most-clause-stopped c =
    let pairs : List PairRows = c.args.pairs.now in
    let k : ℕ = c.loop-pair.pair-index in
    let pair : PairRows = c.pair-item.result in
    let pair_front : FrontForm = c.fill.new.self.front in
    let inside : k < length pairs = search rules in
    let is_front : IsFrontOfPair c.args.arcs.now (fine_signals c.args.signals) pair pair_front = c.in-Ok.ensures.front in
    λ are. apart pair_front.h c.args.most c.if-front-most.true
    (are k inside pair pair_front (subst (λ (x : PairRows). IsFrontOfPair c.args.arcs.now (fine_signals c.args.signals) x pair_front) (c.pair-item.is ∙ sym (get_or_default pairs k pair pair inside)) is_front))
  where
    apart : (a b : ℕ) → b < a → a ≤ b → ⊥
    apart a b h g = absurd (omega (arith, h, g))

pub returns-in-Err-clause-stopped : goal.returns-in-Err-clause-stopped
returns-in-Err-clause-stopped c =
    let pairs : List PairRows = c.args.pairs.now in
    let k : ℕ = c.loop-pair.pair-index in
    let inside : k < length pairs = search rules in
    record {
      place = k;
      inside = inside;
      refused = λ d. subst (λ (p : PairRows). IsRefusedPair c.args.arcs.now (fine_signals c.args.signals) p c.in-Err.fault)
          (c.pair-item.is ∙ sym (get_or_default pairs k d c.pair-item.result inside)) c.in-Err.ensures.refused;
      before = c.loop-pair.invariant.fronts;
    }

pub returns-clause-factors : goal.returns-clause-factors
returns-clause-factors c = subst (λ (ps : List PairRows). AreFactors c.args.arcs.now (fine_signals c.args.signals) ps c.loop-pair.kept.items)
    (take_all c.loop-pair.pair-index c.args.pairs.now c.loop-pair-test.false) c.loop-pair.invariant.factors

pub returns-clause-sums : goal.returns-clause-sums
returns-clause-sums c = λ fs are r q l b.
    let n : ℕ = 1 + integer_count c.args.arcs.now (fine_signals c.args.signals) in
    let end : drop c.loop-pair.pair-index fs ≡ [] = drop_all c.loop-pair.pair-index fs
    (past (length fs) (length c.args.pairs.now) c.loop-pair.pair-index (AllZip-long (IsFrontOfPair c.args.arcs.now (fine_signals c.args.signals)) c.args.pairs.now fs are) c.loop-pair-test.false) in
    zero_last _ _ _ (ap (λ (gs : List FrontForm). track_entry n c.args.h (map brief gs) r q) end ∙ none_entry n c.args.h r q) (c.loop-pair.invariant.sums fs are r q l b)
  where
    past : (a b k : ℕ) → a ≡ b → b ≤ k → a ≤ k
    past a b k e h = omega arith

pub returns-clause-above : goal.returns-clause-above
returns-clause-above c = λ k l d f i. c.loop-pair.invariant.above k (lt_of_lt_of_le l c.loop-pair-test.false) d f i
