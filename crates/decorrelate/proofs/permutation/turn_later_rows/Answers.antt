use Rattle.std.proofs.Common.{◌≡◌, inl, inr, ⊎_elim, ℕ, ◌+◌, ◌^◌, ◌<◌, ◌≤◌, ℤ, unsigned_abs, arith, refl, subst, sym, to_z, of_z, w64, below_more, ◌∙◌}
use Rattle.std.proofs.lemmas.Int.{to_z-of_z}
use Rattle.quadratic_form.specs.Tables.{entry}
use Rattle.decorrelate.specs.Turning.{IsRowTurned}
use Rattle.decorrelate.proofs.PermutationLaws.{columns_as, row_as}
use Rattle.decorrelate.proofs.permutation.turn_later_rows.Goals as goal

pub turn_row-requires-clause-small : goal.turn_row-requires-clause-small
turn_row-requires-clause-small c = λ m. subst (λ (z : ℤ). unsigned_abs z < 2 ^ 52) (sym (c.loop-i.invariant.rest c.loop-i.i m (inr (omega arith)))) (c.requires.small c.loop-i.i m)

pub turn_row-requires-clause-narrow : goal.turn_row-requires-clause-narrow
turn_row-requires-clause-narrow c =
    let i : ℕ = c.loop-i.i in
    let r_word : to_z w64 (of_z w64 c.args.r) ≡ c.args.r = to_z-of_z w64 c.args.r c.ranges.r in
    let q_word : to_z w64 (of_z w64 c.args.q) ≡ c.args.q = to_z-of_z w64 c.args.q c.ranges.q in
    rw (r_word, q_word) (columns_as c.args.r c.args.q c.args.j (entry c.args.l.now i) (entry c.loop-i.l i) (λ m. sym (c.loop-i.invariant.rest i m (inr (omega arith))))
    (c.requires.narrow i (omega (arith, c.loop-i.auto.i)) (omega arith)))

pub loop-i-preserved : goal.loop-i-preserved
loop-i-preserved c =
    let j : ℕ = c.args.j in
    let i : ℕ = c.loop-i.i in
    let r : ℤ = to_z w64 (of_z w64 c.args.r) in
    let q : ℤ = to_z w64 (of_z w64 c.args.q) in
    let old : (m : ℕ) → entry c.loop-i.l i m ≡ entry c.args.l.now i m = λ m. c.loop-i.invariant.rest i m (inr (omega arith)) in
    let here : IsRowTurned r q j (entry c.args.l.now i) (entry c.turn_row.new.l i) =
    row_as r q j (entry c.loop-i.l i) (entry c.args.l.now i) (entry c.turn_row.new.l i) (entry c.turn_row.new.l i) old (λ m. refl) c.turn_row.ensures.turned in
    record {
      turned = below_more (λ (k : ℕ). j + 1 < k → IsRowTurned r q j (entry c.args.l.now k) (entry c.turn_row.new.l k)) i
          (λ k h g. row_as r q j (entry c.args.l.now k) (entry c.args.l.now k) (entry c.loop-i.l k) (entry c.turn_row.new.l k) (λ m. refl)
          (λ m. c.turn_row.ensures.others k m (omega arith)) (c.loop-i.invariant.turned k h g)) (λ g. here);
      rest = λ k m h. ⊎_elim
          (λ (a : k ≤ j + 1). c.turn_row.ensures.others k m (omega (arith, c.loop-i.auto.i)) ∙ c.loop-i.invariant.rest k m (inl a))
          (λ (a : i + 1 ≤ k). c.turn_row.ensures.others k m (omega arith) ∙ c.loop-i.invariant.rest k m (inr (omega arith))) h;
    }
