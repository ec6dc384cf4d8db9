use Rattle.std.proofs.Common.{◌≡◌, ◌⊎◌, inl, inr, ⊎_elim, ℕ, ◌+◌, ◌<◌, ◌≤◌, ◌%◌, List, length, get_or, arith, rules, sym, ap, ◌∙◌, subst, below_more, lt_of_lt_of_le, le_trans, le_of_eq, le_refl}
use Rattle.std.proofs.lemmas.List.{get_or_default}
use Rattle.std.proofs.Math.Numerals.{lt-add-one}
use Rattle.obs_rows.specs.declared.arcs.Arc.{Arc}
use Rattle.obs_rows.specs.declared.pair_rows.PairRows.{PairRows}
use Rattle.obs_rows.specs.Signals.{fine_signals}
use Rattle.integer_form.specs.declared.front_form.FrontForm.{FrontForm}
use Rattle.track_form.specs.PairFronts.{IsFrontOfPair}
use Rattle.track_form.specs.declared.fronts.PairRoom.{PairRoom}
use Rattle.track_form.proofs.fronts.greatest_exponent.Goals as goal
use Rattle.track_form.proofs.fronts.greatest_exponent.Goals.{then-left-eq0, else-left-eq0}

-- no number is left by one, and none of none
by_one : (k : ℕ) → k % 1 ≡ 0
by_one k = omega arith

of_none : (every : ℕ) → 1 ≤ every → 0 % every ≡ 0
of_none every h = omega (arith, h)

-- one pair more: the number after it, and whether it is a new one
record Next (arcs : List Arc) (ss : List ℕ) (pairs : List PairRows) (every k old new : ℕ) : Type 0 where
  from : old ≤ new
  above : (every ≡ 1) ⊎ (k ≡ 0) → (d : PairRows) (g : FrontForm) → IsFrontOfPair arcs ss (get_or pairs k d) g → g.h ≤ new
  one : ((d : PairRows) (g : FrontForm) → IsFrontOfPair arcs ss (get_or pairs k d) g → g.h ≡ new) ⊎ (new ≡ old)
  few : new ≤ 77

never : (every k : ℕ) → 1 ≤ every → (k % every ≡ 0 → ⊥) → (every ≡ 1) ⊎ (k ≡ 0) → ⊥
never every k h not w = ⊎_elim (λ (e : every ≡ 1). not (subst (λ (m : ℕ). k % m ≡ 0) (sym e) (by_one k)))
    (λ (e : k ≡ 0). not (subst (λ (m : ℕ). m % every ≡ 0) (sym e) (of_none every h))) w

same : (a b c : ℕ) → a ≡ b → c ≤ b → c ≤ a
same a b c e h = omega (arith, e, h)

pub loop-k-preserved : goal.loop-k-preserved
loop-k-preserved c =
    let pairs : List PairRows = c.args.pairs.now in
    let arcs : List Arc = c.args.arcs.now in
    let fine : List ℕ = fine_signals c.args.signals in
    let k : ℕ = c.loop-k.k in
    let old : ℕ = c.loop-k.greatest in
    let new : ℕ = c.if-left-eq0.greatest in
    let inside : k < length pairs = search rules in
    let same_pair : (x : PairRows) → x ≡ get_or pairs k x → (d : PairRows) → get_or pairs k d ≡ x = λ x e d. get_or_default pairs k d x inside ∙ sym e in
    let is_front : (x d : PairRows) (g : FrontForm) → x ≡ get_or pairs k x → IsFrontOfPair arcs fine (get_or pairs k d) g → IsFrontOfPair arcs fine x g =
    λ x d g e i. subst (λ (p : PairRows). IsFrontOfPair arcs fine p g) (same_pair x e d) i in
    let next_holds : Next arcs fine pairs c.args.every k old new = elim c.if-left-eq0.branch [
      | then-left-eq0 w ↦ record {
        from = same new w.raised-greatest.result old w.greatest-is w.raised-greatest.ensures.from;
        above = λ v d g i. same new w.raised-greatest.result g.h w.greatest-is (w.raised-greatest.ensures.above g (is_front w.index-pairs-k.result d g w.index-pairs-k.is i));
        one = ⊎_elim (λ own. inl (λ d g i. own g (is_front w.index-pairs-k.result d g w.index-pairs-k.is i) ∙ sym w.greatest-is)) (λ e. inr (w.greatest-is ∙ e)) w.raised-greatest.ensures.one;
        few = le_trans (le_of_eq w.greatest-is) w.raised-greatest.ensures.few;
      }
      | else-left-eq0 w ↦ record {
        from = same new old old w.greatest-is (le_refl old);
        above = λ v. absurd (never c.args.every k c.requires.some w.if-left-eq0.false v);
        one = inr w.greatest-is;
        few = le_trans (le_of_eq w.greatest-is) c.loop-k.invariant.few;
      }
    ] in
    let columns : c.if-left-eq0.room.front.columns ≡ c.loop-k.room.front.columns = elim c.if-left-eq0.branch [
      | then-left-eq0 w ↦ ap (λ (r : PairRoom). r.front.columns) w.room-is ∙ w.raised-greatest.ensures.columns
      | else-left-eq0 w ↦ ap (λ (r : PairRoom). r.front.columns) w.room-is
    ] in
    record {
      above = λ e. below_more (λ j. (d : PairRows) (g : FrontForm) → IsFrontOfPair arcs fine (get_or pairs j d) g → g.h ≤ new) k
          (λ j l d g i. le_trans (c.loop-k.invariant.above e j l d g i) next_holds.from) (λ d g i. next_holds.above (inl e) d g i);
      attained = λ l. ⊎_elim
          (λ own. (k, (lt-add-one k, own)))
          (λ (e : new ≡ old). ⊎_elim
          (λ (none : k ≡ 0). (k, (lt-add-one k, λ d g i. least g.h new old (next_holds.above (inr none) d g i) e (c.loop-k.invariant.none none))))
          (λ (some : 1 ≤ k). let is_attained = c.loop-k.invariant.attained some in (is_attained.0, (later is_attained.0 k is_attained.1.0, λ d g i. is_attained.1.1 d g i ∙ sym e)))
          (either k))
          next_holds.one;
      none = λ e. absurd (omega (arith, e));
      few = next_holds.few;
      columns = columns ∙ c.loop-k.invariant.columns;
    }
  where
    later : (a k : ℕ) → a < k → a < k + 1
    later a k h = omega (arith, h)

    least : (h new old : ℕ) → h ≤ new → new ≡ old → old ≡ 0 → h ≡ new
    least h new old l e z = omega (arith, l, e, z)

    either : (k : ℕ) → (k ≡ 0) ⊎ (1 ≤ k)
    either k = grind arith

pub returns-clause-above : goal.returns-clause-above
returns-clause-above c = λ e k l d f i. c.loop-k.invariant.above e k (omega (arith, c.loop-k-test.false, l)) d f i

pub returns-clause-attained : goal.returns-clause-attained
returns-clause-attained c = λ l.
    let k : ℕ = c.loop-k.k in
    let upper : k ≤ length c.args.pairs.now = search rules in
    let is_attained = c.loop-k.invariant.attained (some k (length c.args.pairs.now) l c.loop-k-test.false) in
    (is_attained.0, (lt_of_lt_of_le is_attained.1.0 upper, is_attained.1.1))
  where
    some : (k n : ℕ) → 1 ≤ n → n ≤ k → 1 ≤ k
    some k n h g = omega (arith, h, g)
