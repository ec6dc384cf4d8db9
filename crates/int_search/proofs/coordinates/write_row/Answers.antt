use Rattle.std.proofs.Common.{◌≡◌, inl, inr, ⊎_elim, ℕ, ◌+◌, ◌^◌, ◌<◌, ◌≤◌, ℤ, unsigned_abs, arith, refl, sym, ap, ◌∙◌, subst, to_z, of_z, below_more}
use Rattle.std.proofs.lemmas.Bool.{cases_eq}
use Rattle.std.specs.Int.{w64, w128}
use Rattle.decorrelate.proofs.Words.{narrow_w64}
use Rattle.quadratic_form.specs.Tables.{entry}
use Rattle.int_search.specs.Transformed.{whole_entry}
use Rattle.whole_math.proofs.Words.{as_w128}
use Rattle.int_search.proofs.coordinates.write_row.Goals as goal

pub loop-j-preserved : goal.loop-j-preserved
loop-j-preserved c =
    let i : ℕ = c.args.i in
    let j : ℕ = c.loop-j.j in
    let w : ℕ → ℤ = λ k. whole_entry c.args.n (entry c.args.map.now) (entry c.args.halves.now) c.args.i k in
    let whole_kept : to_z w128 (of_z w128 c.whole-value.result) ≡ c.whole-value.result = as_w128 c.whole-value.result (omega (arith, c.whole-value.ensures.size)) in
    let whole_small : unsigned_abs c.whole-value.result < 2 ^ 52 = rw whole_kept at (c.if-not-is_narrow.ensures.narrow refl) in
    let here : entry c.set.new.self i j ≡ c.whole-value.result = c.set.ensures.there ∙ ap (λ z. to_z w64 (of_z w64 z)) whole_kept ∙ narrow_w64 c.whole-value.result whole_small in
    record {
      row = below_more (λ (k : ℕ). entry c.set.new.self i k ≡ w k) j (λ k h. c.set.ensures.others i k (inr (omega arith)) ∙ c.loop-j.invariant.row k h) (here ∙ c.whole-value.ensures.value);
      others = λ k d n. c.set.ensures.others k d (inl n) ∙ c.loop-j.invariant.others k d n;
      entries = λ k d. ⊎_elim
          (λ (p : k ≡ i). ⊎_elim
          (λ (q : d ≡ j). subst (λ (m : ℕ). unsigned_abs (entry c.set.new.self m d) < 2 ^ 52) (sym p)
          (subst (λ (m : ℕ). unsigned_abs (entry c.set.new.self i m) < 2 ^ 52) (sym q) (subst (λ (z : ℤ). unsigned_abs z < 2 ^ 52) (sym here) whole_small)))
          (λ (q : d ≡ j → ⊥). subst (λ (z : ℤ). unsigned_abs z < 2 ^ 52) (sym (c.set.ensures.others k d (inr q))) (c.loop-j.invariant.entries k d)) (cases_eq d j))
          (λ (p : k ≡ i → ⊥). subst (λ (z : ℤ). unsigned_abs z < 2 ^ 52) (sym (c.set.ensures.others k d (inl p))) (c.loop-j.invariant.entries k d)) (cases_eq k i);
      outside = λ k d h. ⊎_elim
          (λ (a : c.args.n + 1 ≤ k). c.set.ensures.others k d (inl (omega (arith, c.requires.row))) ∙ c.loop-j.invariant.outside k d (inl a))
          (λ (a : c.args.n + 1 ≤ d). c.set.ensures.others k d (inr (omega (arith, c.loop-j-test.true))) ∙ c.loop-j.invariant.outside k d (inr a)) h;
    }
