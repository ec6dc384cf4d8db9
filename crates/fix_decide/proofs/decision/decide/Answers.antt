use Rattle.std.proofs.Common.{◌≡◌, ◌^◌, List, All, ℤ, pos, ◌≤ℤ◌, IsTrue, FitsSigned, to_z, of_z, arith, sym, refl, subst, rules}
use Rattle.std.proofs.lemmas.Bool.{false≢true}
use Rattle.std.proofs.lemmas.Int.{ints}
use Rattle.std.proofs.lemmas.Result.{err_from_is_err_and}
use Rattle.std.specs.Int.{w128}
use Rattle.std.specs.Prelude.{IsErrAnd}
use Rattle.obs_rows.specs.Ranges.{IsBelow}
use Rattle.obs_rows.specs.Signals.{fine_signals}
use Rattle.integer_form.specs.declared.faults.Overwidth.{Overwidth}
use Rattle.integer_form.specs.declared.faults.Place.TheVariants.{Sum}
use Rattle.fix_decide.specs.Widths.{AreWide}
use Rattle.fix_decide.specs.Decisions.{IsSeparated, first_of, move_of}
use Rattle.fix_decide.proofs.Words.{small_w128}
use Rattle.fix_decide.proofs.SessionForms.{second_small, first_small, all_narrow, second_fits}
use Rattle.fix_decide.proofs.DecisionLaws.{best_by_ratio, strictly_best}
use Rattle.fix_decide.proofs.decision.decide.Goals as goal
use Rattle.fix_decide.proofs.UpperLaws.{top_fits}

-- a value below 2^54 that fits its word
own_word : (x : ℤ) → FitsSigned w128 x → to_z w128 (of_z w128 x) ≡ x
own_word x h = omega (arith, ints)

pub upper_sum-requires-clause-z_size : goal.upper_sum-requires-clause-z_size
upper_sum-requires-clause-z_size c = first_small c.args.best.now.size c.args.best.now.first c.requires.best.first_small

pub upper_sum-requires-clause-moved_size : goal.upper_sum-requires-clause-moved_size
upper_sum-requires-clause-moved_size c =
    let move : List ℤ = move_of c.args.form.now (first_of c.args.best.now) in
    subst (All (IsBelow (2 ^ 46))) (sym c.in_ok-moved.ensures.ok) (all_narrow move (λ w. false≢true (c.in_ok-moved.ensures.refused.1 w)))

pub returns-in_err-top-clause-sum : goal.returns-in_err-top-clause-sum
returns-in_err-top-clause-sum c =
    let are_wide : List ℤ → Type 0 = AreWide c.args.session.now.arcs (fine_signals c.args.session.now.signals) c.args.session.now.pairs (first_of c.args.best.now) in
    let wide : are_wide (move_of c.args.form.now (first_of c.args.best.now)) = subst are_wide c.in_ok-moved.ensures.ok (c.in_err-top.ensures.refused.0 refl) in
    let of_sum : IsErrAnd c.from_residual-in_err-top.result (λ (e : Overwidth). e.place ≡ Sum) =
    let is_error = err_from_is_err_and c.from_residual-in_err-top.result c.from_residual-in_err-top.ensures.1 in rw (is_error.1, is_error.2) c.in_err-top.ensures.place in
    (λ e. (λ w. false≢true (c.in_ok-moved.ensures.refused.1 w), wide), λ w. of_sum)

pub is_separated-requires-clause-p2_to : goal.is_separated-requires-clause-p2_to
is_separated-requires-clause-p2_to c =
    let fits : FitsSigned w128 c.args.best.now.p2 = search rules in
    subst (λ (x : ℤ). x ≤ℤ pos (2 ^ 62)) (sym (own_word c.args.best.now.p2 fits))
    (second_fits c.args.best.now.p2 (second_small c.args.session.now c.args.form.now c.args.best.now c.requires.form c.requires.fine c.requires.best))

pub returns-clause-fixed : goal.returns-clause-fixed
returns-clause-fixed c =
    let fits : FitsSigned w128 c.args.best.now.p2 = search rules in
    let top : ℤ = to_z w128 (of_z w128 c.in_ok-top.top) in
    subst (λ (x : ℤ). (IsTrue c.is_separated.result → IsSeparated (pos c.args.ratio) top x) × (IsSeparated (pos c.args.ratio) top x → IsTrue c.is_separated.result))
    (own_word c.args.best.now.p2 fits) c.is_separated.ensures

-- the words that are compared are the numbers
in_words : (ratio top p2 : ℤ) → pos 0 ≤ℤ top → top ≤ℤ pos (2 ^ 119) → FitsSigned w128 p2 → IsSeparated ratio (to_z w128 (of_z w128 top)) (to_z w128 (of_z w128 p2)) → IsSeparated ratio top p2
in_words ratio top p2 from to fits far = subst (λ (x : ℤ). IsSeparated ratio x p2) (small_w128 top from (top_fits top to))
    (subst (λ (x : ℤ). IsSeparated ratio (to_z w128 (of_z w128 top)) x) (own_word p2 fits) far)

pub returns-clause-by_ratio : goal.returns-clause-by_ratio
returns-clause-by_ratio c =
    let top = c.in_ok-top.ensures in
    let fits : FitsSigned w128 c.args.best.now.p2 = search rules in
    λ yes. best_by_ratio c.args.session.now c.args.form.now c.args.best.now c.args.ratio c.in_ok-top.top c.in_ok-moved.moved c.requires.fine c.requires.form c.requires.best top.value
    (in_words (pos c.args.ratio) c.in_ok-top.top c.args.best.now.p2 top.from top.to fits (c.is_separated.ensures.0 yes))

pub returns-clause-strictly_best : goal.returns-clause-strictly_best
returns-clause-strictly_best c =
    let top = c.in_ok-top.ensures in
    let fits : FitsSigned w128 c.args.best.now.p2 = search rules in
    λ yes. strictly_best c.args.session.now c.args.form.now c.args.best.now c.args.ratio c.in_ok-top.top c.in_ok-moved.moved c.requires.fine c.requires.form c.requires.best top.value
    c.requires.ratio_from
    (in_words (pos c.args.ratio) c.in_ok-top.top c.args.best.now.p2 top.from top.to fits (c.is_separated.ensures.0 yes))

pub returns-clause-float : goal.returns-clause-float
returns-clause-float c = (λ e. absurd e, λ w. false≢true (c.in_ok-moved.ensures.refused.1 w))

pub returns-clause-sum : goal.returns-clause-sum
returns-clause-sum c =
    let are_wide : List ℤ → Type 0 = AreWide c.args.session.now.arcs (fine_signals c.args.session.now.signals) c.args.session.now.pairs (first_of c.args.best.now) in
    (λ e. absurd e, λ w. false≢true (c.in_ok-top.ensures.refused.1 (subst are_wide (sym c.in_ok-moved.ensures.ok) w.1)))
