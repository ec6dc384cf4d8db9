use Rattle.std.proofs.Common.{◌≡◌, inl, inr, ℕ, ◌+◌, ◌^◌, ◌≤◌, List, [], ◌∷◌, ℤ, pos, ◌≤ℤ◌, IfSome, unsigned_abs, arith, refl, sym, ap, ◌∙◌, subst}
use Rattle.std.proofs.lemmas.Int.{ints}
use Rattle.std.proofs.lemmas.Option.{IfSome_then}
use Rattle.whole_math.proofs.Words.{as_w128}
use Rattle.obs_rows.specs.declared.arcs.Arc.{Arc}
use Rattle.obs_rows.specs.declared.pair_rows.PairRows.{PairRows}
use Rattle.obs_rows.specs.Signals.{fine_signals}
use Rattle.normal_sum.specs.declared.normal.Normal.{Normal}
use Rattle.fix_decide.specs.UpperSums.{top}
use Rattle.vector_bound.specs.VectorBounds.{IsVectorBound, FitsWords}
use Rattle.vector_bound.specs.PairBounds.{IsPairBound}
use Rattle.vector_bound.proofs.Words.{word}
use Rattle.vector_bound.proofs.PairLaws.{pair_top, pair_near}
use Rattle.vector_bound.proofs.pairs.pair_move_bound.Goals as goal

upper_word : (x : ℤ) → pos 0 ≤ℤ x → x ≤ℤ pos (2 ^ 107) → word x ≡ x
upper_word x h k = as_w128 x (omega (arith, ints, h, k))

smaller : (t u : ℤ) → pos 0 ≤ℤ u → u ≤ℤ pos (2 ^ 107) → unsigned_abs t ≤ unsigned_abs u → unsigned_abs t ≤ 2 ^ 126
smaller t u h g k = omega (arith, ints)

pub bound_of-requires-clause-columns : goal.bound_of-requires-clause-columns
bound_of-requires-clause-columns c = c.sum_pair-normal.ensures.normal.columns ∙ ap (λ (k : ℕ). 4 + k) (sym c.requires.entries)

pub returns-in-Ok : goal.returns-in-Ok
returns-in-Ok c =
    let arcs : List Arc = c.args.arcs.now in
    let ss : List ℕ = fine_signals c.args.signals in
    let p : PairRows = c.args.pair.now in
    let z : List ℤ = c.args.z.now in
    let m : List ℤ = c.args.moved.now in
    let n : Normal = c.sum_pair-normal.result in
    let h : ℕ = c.exponent-h.result in
    let u : ℤ = c.in-Ok.upper in
    let t : ℤ = c.ceil_shift.result in
    let u_word : word u ≡ u = upper_word u c.in-Ok.ensures.from c.in-Ok.ensures.to in
    let t_word : word t ≡ t = as_w128 t (smaller t u c.in-Ok.ensures.from c.in-Ok.ensures.to (subst (λ (x : ℤ). unsigned_abs t ≤ unsigned_abs x) u_word c.ceil_shift.ensures.size)) in
    let t_is : word t ≡ top h arcs ss (p ∷ []) z m = t_word ∙ pair_top h arcs ss p z m (word u) t (u_word ∙ c.in-Ok.ensures.value) c.ceil_shift.ensures.value in
    let found : IfSome c.bound_of.result (λ x. IsPairBound arcs ss p z m x) = IfSome_then c.bound_of.result c.bound_of.ensures.value (λ x is. record {
      h = h;
      bound = record { normal = n; of_rows = c.sum_pair-normal.ensures.normal; bound = subst (λ (y : ℤ). IsVectorBound n h z m y x) t_is is };
      exponent = c.exponent-h.ensures.least;
    }) in
    record {
      near = IfSome_then c.bound_of.result found (λ x is. pair_near arcs ss p z m x c.requires.entries is);
      value = found;
      none = λ none. inr (record {
        h = h;
        lacks = record {
          normal = n;
          of_rows = c.sum_pair-normal.ensures.normal;
          none = λ fits x is. c.bound_of.ensures.none none (subst (λ (y : ℤ). FitsWords n h z m y) (sym t_is) fits) x (subst (λ (y : ℤ). IsVectorBound n h z m y x) (sym t_is) is);
        };
        exponent = c.exponent-h.ensures.least;
      });
    }

pub returns-in-Err-clause-none : goal.returns-in-Err-clause-none
returns-in-Err-clause-none c = λ none. inl (c.in-Err.ensures.refused.0 refl)
