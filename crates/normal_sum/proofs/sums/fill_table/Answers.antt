use Rattle.std.proofs.Common.{◌≡◌, inl, inr, ℕ, ◌+◌, ◌*◌, ◌^◌, ◌<◌, ◌≤◌, ◌∷◌, [], List, ℤ, ◌+ℤ◌, pos, length, drop, unsigned_abs, slice_index_or, arith, sym, ap, ◌∙◌, subst, rules, le_of_lt}
use Rattle.std.proofs.lemmas.List.{drop_more, drop_all}
use Rattle.std.proofs.lemmas.Int.{ints}
use Rattle.whole_math.proofs.Order.{lins}
use Rattle.quadratic_form.specs.Rows.{SignalGroup, columns, Radii, add_radii, radii}
use Rattle.quadratic_form.specs.MatrixEntries.{matrix_entry}
use Rattle.quadratic_form.proofs.MatrixEntries.{matrix_append, matrix_past}
use Rattle.obs_rows.specs.declared.arcs.Arc.{Arc}
use Rattle.obs_rows.specs.declared.pair_rows.PairRows.{PairRows}
use Rattle.obs_rows.specs.declared.units.TheConstants.{MOST_FREE_ARCS}
use Rattle.obs_rows.specs.Arcs.{free_count}
use Rattle.obs_rows.specs.CountedSignals.{AreCounted}
use Rattle.obs_rows.specs.Pairs.{HasItsArcs}
use Rattle.quadratic_form.specs.declared.sizes.TheConstants.{MOST_COLUMNS}
use Rattle.quadratic_form.specs.Tables.{entry, HasShape}
use Rattle.obs_rows.specs.Integers.{integer_count}
use Rattle.obs_rows.specs.SignalGroups.{signal_groups}
use Rattle.obs_rows.proofs.GroupShapes.{groups_of}
use Rattle.normal_sum.specs.Matrices.{IsRadiusSum, IsMirrored, radius_list}
use Rattle.normal_sum.specs.Pairs.{pair_groups}
use Rattle.normal_sum.specs.RadiusSums.{radii_of}
use Rattle.normal_sum.proofs.PlaceLaws.{count_within}
use Rattle.normal_sum.proofs.RowSums.{next_sum}
use Rattle.normal_sum.proofs.RadiusLaws.{radii_assoc, at_most_wider}
use Rattle.normal_sum.proofs.NormalLaws.{entries_everywhere, mirrored_entries, mirrored_sizes, below_is, radii_start, radii_end, radii_append, radii_within, words_are, four_and, zero_first, zero_last}
use Rattle.obs_rows.specs.declared.limits.TheConstants.{MOST_PAIRS}
use Rattle.normal_sum.proofs.sums.fill_table.Goals as goal

size_zero : (x : ℤ) → x ≡ pos 0 → unsigned_abs x ≤ 0 * 2 ^ 108
size_zero x e = omega (arith, ints)

larger : (a b i : ℕ) → a ≤ b + 2 ^ 108 → b ≤ i * 2 ^ 108 → a ≤ (i + 1) * 2 ^ 108
larger a b i h g = omega arith

one_more : (i : ℕ) → (i * 2 ^ 79) + 2 ^ 79 ≤ (i + 1) * 2 ^ 79
one_more i = omega arith

in_range : (a i n : ℕ) → a ≤ i * 2 ^ 108 → i ≤ n → n ≤ MOST_PAIRS → a < 2 ^ 120
in_range a i n h g k = omega arith

radii_range : (i n : ℕ) → i ≤ n → n ≤ MOST_PAIRS → i * 2 ^ 79 < 2 ^ 100
radii_range i n h k = omega arith

pub loop-pair-init : goal.loop-pair-init
loop-pair-init c =
    record {
      sums = λ i j hi hj. zero_first _ _ (c.requires.zeros i j (inl hi));
      size = λ i j hi hj. size_zero _ (c.requires.zeros i j (inl hi));
      below = λ i j h g. c.requires.zeros i j (inr g);
      radii = radii_start (radii (signal_groups c.args.arcs.now c.args.signals.now c.args.pairs.now));
      radii_size = record {
        u1_from = omega (arith, lins);
        u1_to = omega (arith, lins);
        u2_from = omega (arith, lins);
        u2_to = omega (arith, lins);
        u3_from = omega (arith, lins);
        u3_to =
            omega (arith, lins);
        y_from = omega (arith, lins);
        y_to = omega (arith, lins);
      };
    }

pub add_pair-requires-clause-have_arcs : goal.add_pair-requires-clause-have_arcs
add_pair-requires-clause-have_arcs c =
    λ k d h. (subst (λ (p : PairRows). HasItsArcs c.args.arcs.now p) (sym c.pair-item.is) (c.requires.arcs c.loop-pair.pair-index c.pair-item.result c.loop-pair-test.true) k d h).arc_in

pub loop-pair-preserved : goal.loop-pair-preserved
loop-pair-preserved c =
    let pairs : List PairRows = c.args.pairs.now in
    let k : ℕ = c.loop-pair.pair-index in
    let pair : PairRows = c.pair-item.result in
    let later : List PairRows = drop (k + 1) pairs in
    let groups : List PairRows → List SignalGroup = λ l. signal_groups c.args.arcs.now c.args.signals.now l in
    let mine : List SignalGroup = pair_groups c.args.arcs.now c.args.signals.now pair in
    let rest_is : drop k pairs ≡ pair ∷ later = drop_more pairs k pair c.loop-pair-test.true ∙ ap (λ (y : PairRows). y ∷ later) (sym c.pair-item.is) in
    record {
      sums = λ i j hi hj. next_sum (entry c.loop-pair.table i j) (entry c.add_pair.new.table i j) (matrix_entry mine i j) (matrix_entry (groups later) i j) (matrix_entry (groups pairs) i j)
          (ap (λ z. entry c.loop-pair.table i j +ℤ z) (sym (matrix_append mine (groups later) i j)) ∙ ap (λ (l : List PairRows). entry c.loop-pair.table i j +ℤ matrix_entry (groups l) i j)
          (sym rest_is) ∙ c.loop-pair.invariant.sums i j hi hj)
          (c.add_pair.ensures.added i j hi hj);
      size = λ i j hi hj. larger _ _ k (c.add_pair.ensures.size i j hi hj) (c.loop-pair.invariant.size i j hi hj);
      below = λ i j h g. c.add_pair.ensures.below i j h ∙ c.loop-pair.invariant.below i j h g;
      radii = ap (λ (r : Radii). add_radii r (radii (groups later))) (c.add_pair_radii-radii.ensures.value c.args.arcs.now)
          ∙ radii_assoc (radii_of c.loop-pair.radii) (radii mine) (radii (groups later))
          ∙ ap (λ (r : Radii). add_radii (radii_of c.loop-pair.radii) r) (sym (radii_append mine (groups later)))
          ∙ ap (λ (l : List PairRows). add_radii (radii_of c.loop-pair.radii) (radii (groups l))) (sym rest_is)
          ∙ c.loop-pair.invariant.radii;
      radii_size = at_most_wider ((k * 2 ^ 79) + 2 ^ 79) ((k + 1) * 2 ^ 79) _ (one_more k) (c.add_pair_radii-radii.ensures.size (k * 2 ^ 79) c.loop-pair.invariant.radii_size);
    }

-- each entry is the rows', inside and outside the columns, where u is t with its entries below the diagonal
all_entries : (arcs : List Arc) (ss : List ℕ) (pairs : List PairRows) (k : ℕ) (t u : List (List ℤ)) → AreCounted ss → free_count arcs ≤ MOST_FREE_ARCS → HasShape MOST_COLUMNS MOST_COLUMNS u →
    IsMirrored t u → drop k pairs ≡ [] →
    ((i j : ℕ) → i ≤ j → j < MOST_COLUMNS → entry t i j +ℤ matrix_entry (signal_groups arcs ss (drop k pairs)) i j ≡ matrix_entry (signal_groups arcs ss pairs) i j) →
    (i j : ℕ) → entry u i j ≡ matrix_entry (signal_groups arcs ss pairs) i j
all_entries arcs ss pairs k t u h g s m none e =
    entries_everywhere (integer_count arcs ss) (signal_groups arcs ss pairs) u s (omega (arith, four_and (integer_count arcs ss), count_within arcs ss h g)) (groups_of arcs ss pairs)
    (mirrored_entries t u (signal_groups arcs ss pairs) m
    (λ i j hi hj. zero_last _ _ (ap (λ (l : List PairRows). entry t i j +ℤ matrix_entry (signal_groups arcs ss l) i j) (sym none) ∙ e i j hi hj)))

pub mirror-requires-clause-columns_in : goal.mirror-requires-clause-columns_in
mirror-requires-clause-columns_in c = omega (arith, count_within c.args.arcs.now c.args.signals.now c.requires.counted c.requires.free, c.requires.integers)

-- after the columns the sums are 0
pub mirror-requires-clause-outside : goal.mirror-requires-clause-outside
mirror-requires-clause-outside c =
    let arcs : List Arc = c.args.arcs.now in
    let signals : List ℕ = c.args.signals.now in
    let pairs : List PairRows = c.args.pairs.now in
    let k : ℕ = c.loop-pair.pair-index in
    let last : length pairs ≤ k = search rules in
    let none : drop k pairs ≡ [] = drop_all k pairs last in
    λ i j h g l. zero_last _ _ (ap (λ (p : List PairRows). entry c.loop-pair.table i j +ℤ matrix_entry (signal_groups arcs signals p) i j) (sym none) ∙ c.loop-pair.invariant.sums i j (le_of_lt h) l)
    ∙ matrix_past (integer_count arcs signals) (signal_groups arcs signals pairs) i j (groups_of arcs signals pairs) (after (integer_count arcs signals) c.args.integers j (four_and (integer_count arcs signals)) c.requires.integers g)
  where
    after : (n m j : ℕ) → columns n ≡ 4 + n → m ≡ n → (3 + m) + 1 ≤ j → columns n ≤ j
    after n m j e is h = omega (arith, e, is, h)

pub returns-clause-entries : goal.returns-clause-entries
returns-clause-entries c =
    let k : ℕ = c.loop-pair.pair-index in
    let last : length c.args.pairs.now ≤ k = search rules in
    all_entries c.args.arcs.now c.args.signals.now c.args.pairs.now k c.loop-pair.table c.mirror.new.table c.requires.counted c.requires.free c.at-first.ensures.shape c.mirror.ensures
    (drop_all k c.args.pairs.now last) c.loop-pair.invariant.sums

pub returns-clause-entries_in : goal.returns-clause-entries_in
returns-clause-entries_in c =
    let k : ℕ = c.loop-pair.pair-index in
    let upper : k ≤ length c.args.pairs.now = search rules in
    below_is (2 ^ 120) c.mirror.new.table c.at-first.ensures.shape (omega arith)
    (mirrored_sizes (2 ^ 120) c.loop-pair.table c.mirror.new.table c.mirror.ensures
    (λ i j hi hj. in_range _ k (length c.args.pairs.now) (c.loop-pair.invariant.size i j hi hj) upper c.requires.few))

pub returns-clause-radii : goal.returns-clause-radii
returns-clause-radii c =
    let arcs : List Arc = c.args.arcs.now in
    let signals : List ℕ = c.args.signals.now in
    let pairs : List PairRows = c.args.pairs.now in
    let k : ℕ = c.loop-pair.pair-index in
    let last : length pairs ≤ k = search rules in
    let upper : k ≤ length pairs = search rules in
    let none : drop c.loop-pair.pair-index c.args.pairs.now ≡ [] = drop_all k pairs last in
    let within : k * 2 ^ 79 < 2 ^ 100 = radii_range k (length pairs) upper c.requires.few in
    words_are c.loop-pair.radii (k * 2 ^ 79) c.loop-pair.invariant.radii_size within ∙ ap (λ (r : Radii). radius_list r)
    (sym (radii_end (radii_of c.loop-pair.radii)) ∙ ap (λ (l : List PairRows). add_radii (radii_of c.loop-pair.radii) (radii (signal_groups arcs signals l))) (sym none)
    ∙ c.loop-pair.invariant.radii)

pub returns-clause-radii_in : goal.returns-clause-radii_in
returns-clause-radii_in c =
    let k : ℕ = c.loop-pair.pair-index in
    let upper : k ≤ length c.args.pairs.now = search rules in
    let within : k * 2 ^ 79 < 2 ^ 100 = radii_range k (length c.args.pairs.now) upper c.requires.few in
    let words = words_are c.loop-pair.radii (k * 2 ^ 79) c.loop-pair.invariant.radii_size within in
    λ i d h. subst (λ (r : List ℤ). IsRadiusSum (slice_index_or r i d)) (sym words) (radii_within c.loop-pair.radii (k * 2 ^ 79) c.loop-pair.invariant.radii_size within i d h)
