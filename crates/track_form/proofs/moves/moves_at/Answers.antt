use Rattle.std.proofs.Common.{◌≡◌, ℕ, ◌+◌, ◌<◌, List, [], ◌∷◌, ◌++◌, length, map, take, get_or, All, ℤ, sym, ap, ap₂, ◌∙◌, refl, subst}
use Rattle.std.proofs.lemmas.Bool.{false≢true}
use Rattle.std.proofs.lemmas.List.{take_more, take_all, map_push}
use Rattle.std.proofs.lemmas.List.Elements.{All-push}
use Rattle.integer_form.specs.FloatPoint.{HasWide}
use Rattle.track_form.specs.declared.factors.PairFactors.{PairFactors}
use Rattle.track_form.specs.Factors.{move_by}
use Rattle.lower_form.proofs.ZeroForms.{zero_symmetric, zero_small, zero_outside}
use Rattle.track_form.proofs.moves.moves_at.Goals as goal

pub of-front-requires-clause-symmetric : goal.of-front-requires-clause-symmetric
of-front-requires-clause-symmetric c = zero_symmetric c.zeros.result c.zeros.ensures.zeros

pub of-front-requires-clause-entries_in : goal.of-front-requires-clause-entries_in
of-front-requires-clause-entries_in c = zero_small c.zeros.result c.zeros.ensures.zeros

pub of-front-requires-clause-nothing_outside : goal.of-front-requires-clause-nothing_outside
of-front-requires-clause-nothing_outside c = zero_outside c.zeros.result _ c.zeros.ensures.zeros

-- one move more
move_more : (z : List ℤ) (pairs : List PairFactors) (moves more : List (List ℤ)) (k : ℕ) (p : PairFactors) (m : List ℤ) → moves ≡ map (move_by z) (take k pairs) → k < length pairs →
    get_or pairs k p ≡ p → m ≡ move_by z p → more ≡ moves ++ m ∷ [] → more ≡ map (move_by z) (take (k + 1) pairs)
move_more z pairs moves more k p m are inside at is pushed = pushed
    ∙ ap₂ (λ (xs : List (List ℤ)) (x : List ℤ). xs ++ x ∷ []) are (is ∙ ap (λ (x : PairFactors). move_by z x) (sym at))
    ∙ sym (ap (λ (ps : List PairFactors). map (move_by z) ps) (take_more pairs k p inside) ∙ map_push (move_by z) (take k pairs) (get_or pairs k p))

pub loop-pair-preserved : goal.loop-pair-preserved
loop-pair-preserved c =
    let z : List ℤ = c.args.z.now in
    let k : ℕ = c.loop-pair.pair-index in
    let factors : PairFactors = c.pair-item.result in
    let m : List ℤ = c.in-Ok.moved in
    let narrow : HasWide m → ⊥ = λ v. false≢true (c.in-Ok.ensures.refused.1 (subst HasWide c.in-Ok.ensures.ok v)) in
    record {
      moves = move_more z c.args.pairs.now c.loop-pair.moves.items c.push.new.self.items k factors m c.loop-pair.invariant.moves c.loop-pair-test.true
          (sym c.pair-item.is) c.in-Ok.ensures.ok c.in_ok-push-in-Ok.ensures.items;
      form = c.move_at.ensures.form ∙ c.loop-pair.invariant.form;
      narrow = subst (λ (ms : List (List ℤ)). All (λ m. HasWide m → ⊥) ms) (sym c.in_ok-push-in-Ok.ensures.items)
          (All-push (λ m. HasWide m → ⊥) c.loop-pair.moves.items m c.loop-pair.invariant.narrow narrow);
    }

pub returns-in-Err-clause-wide : goal.returns-in-Err-clause-wide
returns-in-Err-clause-wide c = (c.loop-pair.pair-index, c.pair-item.result, c.loop-pair-test.true, sym c.pair-item.is, c.in-Err.ensures.refused.0 refl)

pub returns-clause-moves : goal.returns-clause-moves
returns-clause-moves c = c.loop-pair.invariant.moves
    ∙ ap (λ (ps : List PairFactors). map (move_by c.args.z.now) ps) (take_all c.loop-pair.pair-index c.args.pairs.now c.loop-pair-test.false)
