use Rattle.std.proofs.Common.{◌≡◌, ◌≢◌, ℕ, ◌<◌, ◌≤◌, List, length, set, ℤ, pos, slice_index_or, get_or-set_same, get_or-set_other, length-set, arith, sym, ◌∙◌, subst, below_more}
use Rattle.whole_math.proofs.Words.{as_w64}
use Rattle.quadratic_form.specs.Tables.{item}
use Rattle.elimination.specs.RowSteps.{IsLeft}
use Rattle.elimination.proofs.RowWords.{word, read, read_size}
use Rattle.elimination.proofs.row_steps.others_through.Goals as goal

pub entry_through-requires-clause-size : goal.entry_through-requires-clause-size
entry_through-requires-clause-size c = read_size (slice_index_or c.loop-c.row c.loop-c.c (pos 0)) (item c.args.row.now c.loop-c.c) (c.loop-c.invariant.rest c.loop-c.c (omega arith))
    (c.requires.entries c.loop-c.c c.loop-c.invariant.from c.loop-c-test.true)

pub entry_through-requires-clause-entries : goal.entry_through-requires-clause-entries
entry_through-requires-clause-entries c = λ j h. c.requires.pivots j c.loop-c.c h c.loop-c.invariant.from c.loop-c-test.true

pub loop-c-preserved : goal.loop-c-preserved
loop-c-preserved c =
    let k : ℕ = c.loop-c.c in
    let r : ℕ = c.args.r in
    let n : ℕ = c.args.columns in
    let q : List (List ℤ) = c.args.rows.now in
    let f : ℤ = c.in-Some.left in
    let x : ℕ → ℤ = item c.args.row.now in
    let ex : word (slice_index_or c.loop-c.row k (pos 0)) ≡ item c.args.row.now k =
    read (slice_index_or c.loop-c.row k (pos 0)) (item c.args.row.now k) (c.loop-c.invariant.rest k (omega arith)) (c.requires.entries k c.loop-c.invariant.from c.loop-c-test.true) in
    let left : IsLeft q n r k c.args.count (item c.args.row.now k) f = rw ex at (c.in-Some.ensures.left n r c.loop-c.invariant.from c.requires.quotients) in
    let room : k < length c.loop-c.row = omega (arith, c.loop-c.invariant.full, c.loop-c-test.true, c.requires.columns_in) in
    let there : item (set c.loop-c.row k (word f)) k ≡ f = get_or-set_same c.loop-c.row k (word f) (pos 0) room ∙ as_w64 f (omega (arith, c.in-Some.ensures.size)) in
    let other : (m : ℕ) → m ≢ k → item (set c.loop-c.row k (word f)) m ≡ item c.loop-c.row m = λ m d. get_or-set_other c.loop-c.row k m (word f) (pos 0) d in
    record {
      full = length-set c.loop-c.row k (word f) ∙ c.loop-c.invariant.full;
      from = omega (arith, c.loop-c.invariant.from);
      left = below_more (λ (m : ℕ). r < m → IsLeft q n r m c.args.count (x m) (item (set c.loop-c.row k (word f)) m)) k
          (λ m h g. subst (λ (z : ℤ). IsLeft q n r m c.args.count (x m) z) (sym (other m (omega arith))) (c.loop-c.invariant.left m h g))
          (λ g. subst (λ (z : ℤ). IsLeft q n r k c.args.count (x k) z) (sym there) left);
      rest = λ m h. other m (omega arith) ∙ c.loop-c.invariant.rest m (omega arith);
      before = λ m h. other m (omega (arith, c.loop-c.invariant.from)) ∙ c.loop-c.invariant.before m h;
    }

before_end : (k n c : ℕ) → k < n → n ≤ c → k < c
before_end k n c h g = omega (arith, h, g)

pub returns-clause-left : goal.returns-clause-left
returns-clause-left c = λ e k h g. c.loop-c.invariant.left k (before_end k c.args.columns c.loop-c.c g c.loop-c-test.false) h
