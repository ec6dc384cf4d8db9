use Rattle.std.proofs.Common.{rules, ◌≡◌, ◌≢◌, ◌⊎◌, inl, inr, ⊎_elim, ℕ, ◌+◌, ◌^◌, ◌<◌, ◌≤◌, ℤ, pos, unsigned_abs, slice_index_or, arith, sym, ap₂, ◌∙◌, subst, below_more}
use Rattle.quadratic_form.specs.Tables.{entry, item}
use Rattle.whole_math.proofs.Words.{as_w64}
use Rattle.elimination.proofs.tables.put_row.Goals as goal

-- one of the two places that are written, or another one
place : (r k i j : ℕ) → ((i ≡ r) × (j ≡ k)) ⊎ (((i ≡ k) × (j ≡ r)) ⊎ (((i ≢ r) ⊎ (j ≢ k)) × ((i ≢ k) ⊎ (j ≢ r))))
place r k i j = grind arith

outside_apart : (n r k i j : ℕ) → r < n → k < n → (n ≤ i) ⊎ (n ≤ j) → ((i ≢ r) ⊎ (j ≢ k)) × ((i ≢ k) ⊎ (j ≢ r))
outside_apart n r k i j a b (inl h) = (inl (omega arith), inl (omega arith))
outside_apart n r k i j a b (inr h) = (inr (omega arith), inr (omega arith))

pub loop-c-preserved : goal.loop-c-preserved
loop-c-preserved c =
    let k : ℕ = c.loop-c.c in
    let r : ℕ = c.args.r in
    let low : r ≤ k = search rules in
    let x : ℤ = slice_index_or c.args.row.now (3 + k) (pos 0) in
    let small : unsigned_abs (slice_index_or c.args.row.now (3 + k) (pos 0)) < 2 ^ 52 = c.requires.entries k low c.loop-c-test.true in
    let there : entry c.set_both.new.p r k ≡ item c.args.row.now (3 + k) = c.set_both.ensures.there ∙ as_w64 x (omega arith) in
    let across : entry c.set_both.new.p k r ≡ item c.args.row.now (3 + k) = c.set_both.ensures.symmetric k r ∙ there in
    record {
      done = λ m h g. below_more (λ (m : ℕ). r ≤ m → entry c.set_both.new.p r m ≡ item c.args.row.now (3 + m)) k
          (λ m g h. c.set_both.ensures.others r m (inr (omega arith)) (apart r k m g h) ∙ c.loop-c.invariant.done m h g) (λ h. there) m g h;
      before = λ i m h. c.set_both.ensures.others i m (inl (omega arith)) (inl (omega arith)) ∙ c.loop-c.invariant.before i m h;
      symmetric = c.set_both.ensures.symmetric;
      below = λ i j. ⊎_elim (λ (a : (i ≡ r) × (j ≡ k)). subst (λ (z : ℤ). unsigned_abs z < 2 ^ 52) (sym (ap₂ (λ p q. entry c.set_both.new.p p q) a.0 a.1 ∙ there)) small)
          (λ (o : ((i ≡ k) × (j ≡ r)) ⊎ (((i ≢ r) ⊎ (j ≢ k)) × ((i ≢ k) ⊎ (j ≢ r)))).
          ⊎_elim (λ (a : (i ≡ k) × (j ≡ r)). subst (λ (z : ℤ). unsigned_abs z < 2 ^ 52) (sym (ap₂ (λ p q. entry c.set_both.new.p p q) a.0 a.1 ∙ across)) small)
          (λ (a : ((i ≢ r) ⊎ (j ≢ k)) × ((i ≢ k) ⊎ (j ≢ r))). subst (λ (z : ℤ). unsigned_abs z < 2 ^ 52) (sym (c.set_both.ensures.others i j a.0 a.1)) (c.loop-c.invariant.below i j)) o)
          (place r k i j);
      outside = λ i j h. let a : ((i ≢ r) ⊎ (j ≢ k)) × ((i ≢ k) ⊎ (j ≢ r)) = outside_apart c.args.n r k i j c.requires.row_in c.loop-c-test.true h in
          c.set_both.ensures.others i j a.0 a.1 ∙ c.loop-c.invariant.outside i j h;
    }
  where
    -- a later place of row r isn't across the diagonal either
    apart : (r k m : ℕ) → m < k → r ≤ m → (r ≢ k) ⊎ (m ≢ r)
    apart r k m g h = inl (omega arith)
