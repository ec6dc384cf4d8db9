use Rattle.std.proofs.Common.{◌≡◌, ◌≢◌, inl, inr, ℕ, ◌+◌, ◌-◌, ◌^◌, ◌<◌, ◌≤◌, ℤ, ◌+ℤ◌, unsigned_abs, arith, to_z, of_z, sym, ap₂, ◌∙◌, subst, below_more}
use Rattle.std.specs.Int.{w128}
use Rattle.whole_math.proofs.Words.{as_w128}
use Rattle.quadratic_form.specs.Tables.{entry}
use Rattle.track_form.specs.Parts.{part_at}
use Rattle.track_form.proofs.sums.add_others.Goals as goal

apart : (m k : ℕ) → m < k → (3 + m) ≢ (3 + k)
apart m k h = λ e. absurd (omega (arith, e, h))

after : (m k : ℕ) → k + 1 ≤ m → (3 + m) ≢ (3 + k)
after m k h = λ e. absurd (omega (arith, e, h))

part_word : (x : ℤ) → unsigned_abs x ≤ 2 ^ 64 → to_z w128 (of_z w128 x) ≡ x
part_word x h = as_w128 x (omega arith)

pub add_part-requires-clause-part_size : goal.add_part-requires-clause-part_size
add_part-requires-clause-part_size c = subst (λ (z : ℤ). unsigned_abs z ≤ 2 ^ 64) (sym (part_word c.later_part.result c.later_part.ensures.size)) c.later_part.ensures.size

pub loop-c-preserved : goal.loop-c-preserved
loop-c-preserved c =
    let k : ℕ = c.loop-c.c in
    let r : ℕ = c.args.r in
    let n : ℕ = c.args.front.now.columns - 3 in
    let old : ℕ → ℤ = λ (m : ℕ). entry c.args.table.now (3 + c.args.r) (3 + m) in
    let new : ℕ → ℤ = λ (m : ℕ). entry c.add_part.new.table (3 + c.args.r) (3 + m) in
    let part : ℕ → ℤ = λ (m : ℕ). part_at n (2 ^ c.args.shift) (entry c.args.front.now.p) r m in
    let before : entry c.loop-c.table (3 + c.args.r) (3 + c.loop-c.c) ≡ entry c.args.table.now (3 + c.args.r) (3 + c.loop-c.c) = c.loop-c.invariant.rest k (omega arith) in
    record {
      row = λ m h g. below_more (λ (m : ℕ). r < m → new m ≡ old m +ℤ part m) k
          (λ m g h. c.add_part.ensures.others (3 + r) (3 + m) (inr (apart m k g)) ∙ c.loop-c.invariant.row m h g)
          (λ h. c.add_part.ensures.there ∙ ap₂ (λ (x y : ℤ). x +ℤ y) before (part_word c.later_part.result c.later_part.ensures.size ∙ c.later_part.ensures.value)) m g h;
      sizes = λ m h g. below_more (λ (m : ℕ). r < m → unsigned_abs (new m) ≤ unsigned_abs (old m) + 2 ^ 64) k
          (λ m g h. subst (λ (x : ℤ). unsigned_abs x ≤ unsigned_abs (old m) + 2 ^ 64) (sym (c.add_part.ensures.others (3 + r) (3 + m) (inr (apart m k g)))) (c.loop-c.invariant.sizes m h g))
          (λ h. subst (λ (x : ℤ). unsigned_abs (new k) ≤ unsigned_abs x + 2 ^ 64) before c.add_part.ensures.size) m g h;
      rest = λ m h. c.add_part.ensures.others (3 + r) (3 + m) (inr (after m k h)) ∙ c.loop-c.invariant.rest m (omega arith);
      own = c.add_part.ensures.others (3 + r) (3 + r) (inr (apart r k (omega arith))) ∙ c.loop-c.invariant.own;
      others = λ i m d. c.add_part.ensures.others i m (inl d) ∙ c.loop-c.invariant.others i m d;
    }
