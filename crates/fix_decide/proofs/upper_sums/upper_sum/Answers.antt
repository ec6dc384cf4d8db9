use Rattle.std.proofs.Common.{◌≡◌, ℕ, ◌^◌, ◌≤◌, List, ℤ, pos, ◌*ℤ◌, ◌≤ℤ◌, unsigned_abs, to_z, of_z, arith, sym, ap, ap₂, ◌∙◌, refl, subst}
use Rattle.std.proofs.lemmas.Bool.{false≢true}
use Rattle.std.proofs.lemmas.Int.{ints}
use Rattle.std.specs.Int.{w128}
use Rattle.whole_math.specs.Rounding.{ceil_div}
use Rattle.obs_rows.specs.declared.arcs.Arc.{Arc}
use Rattle.obs_rows.specs.declared.pair_rows.PairRows.{PairRows}
use Rattle.fix_decide.specs.UpperSums.{upper_sum, top}
use Rattle.fix_decide.specs.Bounds.{StaysAtMost}
use Rattle.fix_decide.specs.Widths.{AreWide}
use Rattle.obs_rows.specs.Signals.{fine_signals}
use Rattle.whole_math.proofs.Words.{as_w128}
use Rattle.fix_decide.proofs.Words.{small_w128}
use Rattle.fix_decide.proofs.UpperLaws.{top_stays_at_most, top_fits}
use Rattle.fix_decide.proofs.upper_sums.upper_sum.Goals as goal

smaller : (t u : ℤ) → pos 0 ≤ℤ u → u ≤ℤ pos (2 ^ 119) → unsigned_abs t ≤ unsigned_abs u → unsigned_abs t ≤ 2 ^ 126
smaller t u h g k = omega (arith, ints)

pub returns-in_err-sum-clause-refused : goal.returns-in_err-sum-clause-refused
returns-in_err-sum-clause-refused c =
    let are_wide : List Arc → List ℕ → List PairRows → Type 0 = λ a ss p. AreWide a ss p c.args.z.now c.args.moved.now in
    let fine : List ℕ = c.fine_signals.result.now in
    let wide : are_wide c.as_slice.result.now fine c.as_slice-2.result.now = c.in_err-sum.ensures.refused.0 refl in
    let of_arcs : are_wide c.args.session.now.arcs fine c.as_slice-2.result.now = subst (λ (a : List Arc). are_wide a fine c.as_slice-2.result.now) c.as_slice.ensures wide in
    let of_pairs : are_wide c.args.session.now.arcs fine c.args.session.now.pairs = subst (λ (p : List PairRows). are_wide c.args.session.now.arcs fine p) c.as_slice-2.ensures of_arcs in
    (λ e. subst (λ (x : List ℕ). are_wide c.args.session.now.arcs x c.args.session.now.pairs) c.fine_signals.ensures.value of_pairs, λ w. c.from_residual.ensures.0)

pub returns-clause-above : goal.returns-clause-above
returns-clause-above c =
    let arcs : List Arc = c.args.session.now.arcs in
    let fine : List ℕ = fine_signals c.args.session.now.signals in
    let pairs : List PairRows = c.args.session.now.pairs in
    let z : List ℤ = c.args.z.now in
    let m : List ℤ = c.args.moved.now in
    let h : ℕ = c.args.form.now.h in
    let u : ℤ = c.in_ok-sum.sum in
    let t : ℤ = c.ceil_shift.result in
    let u_word : to_z w128 (of_z w128 u) ≡ u = small_w128 u c.in_ok-sum.ensures.from (top_fits u c.in_ok-sum.ensures.to) in
    let u_is : u ≡ upper_sum arcs fine pairs z m =
    c.in_ok-sum.ensures.value ∙ ap₂ (λ (a : List Arc) (p : List PairRows). upper_sum a c.fine_signals.result.now p z m) c.as_slice.ensures c.as_slice-2.ensures
    ∙ ap (λ (x : List ℕ). upper_sum arcs x pairs z m) c.fine_signals.ensures.value in
    let t_is : t ≡ top h arcs fine pairs z m = c.ceil_shift.ensures.value ∙ ap (λ x. ceil_div x (2 ^ h)) (u_word ∙ u_is) in
    let t_word : to_z w128 (of_z w128 t) ≡ t =
    as_w128 t (smaller t u c.in_ok-sum.ensures.from c.in_ok-sum.ensures.to
    (subst (λ (x : ℤ). unsigned_abs t ≤ unsigned_abs x) u_word c.ceil_shift.ensures.size)) in
    subst (λ (x : ℤ). StaysAtMost arcs fine pairs z m (pos (2 ^ h) *ℤ x)) (sym (t_word ∙ t_is)) (top_stays_at_most h arcs fine pairs z m c.requires.entries)

pub returns-clause-refused : goal.returns-clause-refused
returns-clause-refused c =
    let are_wide : List Arc → List ℕ → List PairRows → Type 0 = λ a ss p. AreWide a ss p c.args.z.now c.args.moved.now in
    let fine : List ℕ = c.fine_signals.result.now in
    let arcs : List Arc = c.args.session.now.arcs in
    let pairs : List PairRows = c.args.session.now.pairs in (
      λ e. absurd (false≢true e),
      λ w.
          let of_signals : are_wide arcs fine pairs = subst (λ (x : List ℕ). are_wide arcs x pairs) (sym c.fine_signals.ensures.value) w in
          let of_arcs : are_wide c.as_slice.result.now fine pairs = subst (λ (a : List Arc). are_wide a fine pairs) (sym c.as_slice.ensures) of_signals in
          c.in_ok-sum.ensures.refused.1 (subst (λ (p : List PairRows). are_wide c.as_slice.result.now fine p) (sym c.as_slice-2.ensures) of_arcs),
    )
