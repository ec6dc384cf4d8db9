use Rattle.std.proofs.Common.{◌≡◌, ◌≢◌, inl, inr, ℕ, ◌+◌, arith, rules, SFits, w64, below_more, ◌∙◌}
use Rattle.std.proofs.lemmas.Int.{to_z-of_z}
use Rattle.quadratic_form.specs.Tables.{entry, item}
use Rattle.decorrelate.proofs.permutation.permute_rows.Goals as goal

pub loop-m-preserved : goal.loop-m-preserved
loop-m-preserved c =
    let j : ℕ = c.args.j in
    let m : ℕ = c.loop-m.m in
    let fits_word : SFits w64 (item c.args.left.now m) = search rules in
    let here : entry c.set.new.self j m ≡ item c.args.left.now m = c.set.ensures.there ∙ to_z-of_z w64 (item c.args.left.now m) fits_word in
    let there : entry c.set-in-loop-m.new.self (j + 1) m ≡ entry c.args.l.now j m =
    (let set_there = c.set-in-loop-m.ensures.there in let before_is = c.at-before.ensures.value in let rest_is = c.loop-m.invariant.rest j m (omega arith) in grind (arith, to_z-of_z)) in
    let apart : j ≢ j + 1 = omega arith in
    record {
      first = below_more (λ (k : ℕ). entry c.set-in-loop-m.new.self j k ≡ item c.args.left.now k) m
          (λ k h. c.set-in-loop-m.ensures.others j k (inl apart) ∙ c.set.ensures.others j k (inr (omega arith)) ∙ c.loop-m.invariant.first k h) (c.set-in-loop-m.ensures.others j m (inl apart) ∙ here);
      second = below_more (λ (k : ℕ). entry c.set-in-loop-m.new.self (j + 1) k ≡ entry c.args.l.now j k) m
          (λ k h. c.set-in-loop-m.ensures.others (j + 1) k (inr (omega arith)) ∙ c.set.ensures.others (j + 1) k (inr (omega arith)) ∙ c.loop-m.invariant.second k h) there;
      rest = λ i k h. c.set-in-loop-m.ensures.others i k (inr (omega arith)) ∙ c.set.ensures.others i k (inr (omega arith)) ∙ c.loop-m.invariant.rest i k (omega arith);
      others = λ i k a b. c.set-in-loop-m.ensures.others i k (inl b) ∙ c.set.ensures.others i k (inl a) ∙ c.loop-m.invariant.others i k a b;
    }
