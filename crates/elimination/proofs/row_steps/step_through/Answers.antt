use Rattle.std.proofs.Common.{◌≡◌, ⊎_elim, ℕ, ◌^◌, ◌<◌, ◌≤◌, List, length, ℤ, pos, true, unsigned_abs, slice_index_or, get_or-set_same, get_or-set_other, arith, sym, ◌∙◌, refl, rules, subst, eq-or-lt_of_le}
use Rattle.whole_math.proofs.Words.{as_w64}
use Rattle.quadratic_form.specs.declared.sizes.TheConstants.{MOST_COLUMNS}
use Rattle.quadratic_form.specs.Tables.{item}
use Rattle.elimination.specs.RowSteps.{IsLeft}
use Rattle.elimination.proofs.RowWords.{word, read, read_size}
use Rattle.elimination.proofs.row_steps.step_through.Goals as goal
use Rattle.elimination.proofs.row_steps.step_through.Goals.{After-others_through}

pub quotients_of-quotients-requires-clause-quotients : goal.quotients_of-quotients-requires-clause-quotients
quotients_of-quotients-requires-clause-quotients c = record {
  positive = c.requires.positive;
  pivots = λ j h. c.requires.pivots j j h (omega arith) (omega (arith, h, c.requires.row, c.requires.row_in));
  entries = λ j h. c.requires.pivots j c.args.r h (omega (arith, h, c.requires.row)) c.requires.row_in;
}

pub own_through-requires-clause-size : goal.own_through-requires-clause-size
own_through-requires-clause-size c = read_size (slice_index_or c.args.row.now c.args.r (pos 0)) (item c.args.row.now c.args.r) refl (c.requires.entries c.args.r (omega arith) c.requires.row_in)

pub others_through-requires-clause-pivots : goal.others_through-requires-clause-pivots
others_through-requires-clause-pivots c = λ j k h a g. c.requires.pivots j k h (omega (arith, h, c.requires.row, a)) g

pub others_through-requires-clause-entries : goal.others_through-requires-clause-entries
others_through-requires-clause-entries c = λ k h g. subst (λ (z : ℤ). unsigned_abs z ≤ 2 ^ 52) (sym (get_or-set_other c.args.row.now c.args.r k (word c.in-Some.own) (pos 0) (omega arith)))
    (c.requires.entries k (omega arith) g)

-- what the steps leave of the row's own entry
own : (c : After-others_through) →
    IsLeft c.args.pivots.now.rows c.args.front.now.columns c.args.r c.args.r c.args.count (item c.args.row.now c.args.r) (item c.others_through.new.row c.args.r)
own c =
    let r : ℕ = c.args.r in
    let f : ℤ = c.in-Some.own in
    let q : List (List ℤ) = c.args.pivots.now.rows in
    let ex : word (slice_index_or c.args.row.now c.args.r (pos 0)) ≡ item c.args.row.now c.args.r =
    read (slice_index_or c.args.row.now c.args.r (pos 0)) (item c.args.row.now c.args.r) refl (c.requires.entries c.args.r (omega arith) c.requires.row_in) in
    let left : IsLeft q c.args.front.now.columns r r c.args.count (item c.args.row.now c.args.r) f = rw ex at (c.in-Some.ensures.left q r c.quotients_of-quotients.ensures) in
    let full : length c.args.row.now ≡ MOST_COLUMNS = search rules in
    let to : c.args.front.now.columns ≤ MOST_COLUMNS = c.args.front.now.columns_to in
    let room : r < length c.args.row.now = omega (arith, full, c.requires.row_in, to) in
    let there : item c.others_through.new.row c.args.r ≡ f = c.others_through.ensures.before r (omega arith) ∙ get_or-set_same c.args.row.now r (word f) (pos 0) room ∙ as_w64 f (omega (arith, c.in-Some.ensures.size)) in
    subst (λ (z : ℤ). IsLeft q c.args.front.now.columns r r c.args.count (item c.args.row.now c.args.r) z) (sym there) left

-- and of each entry from it on
each : (c : After-others_through) → c.others_through.result ≡ true → (k : ℕ) → c.args.r ≤ k → k < c.args.front.now.columns →
    IsLeft c.args.pivots.now.rows c.args.front.now.columns c.args.r k c.args.count (item c.args.row.now k) (item c.others_through.new.row k)
each c e k h g =
    let r : ℕ = c.args.r in
    let n : ℕ = c.args.front.now.columns in
    let q : List (List ℤ) = c.args.pivots.now.rows in
    ⊎_elim (λ (i : r ≡ k). subst (λ (m : ℕ). IsLeft q n r m c.args.count (item c.args.row.now m) (item c.others_through.new.row m)) i (own c))
    (λ (i : r < k). subst (λ (z : ℤ). IsLeft q n r k c.args.count z (item c.others_through.new.row k))
    (get_or-set_other c.args.row.now r k (word c.in-Some.own) (pos 0) (omega arith)) (c.others_through.ensures.left e k i g))
    (eq-or-lt_of_le h)

pub returns-clause-value : goal.returns-clause-value
returns-clause-value c = λ e k h g. (each (goal.at.returns-clause-value c).After-others_through e k h g).value

pub returns-clause-small : goal.returns-clause-small
returns-clause-small c = λ e j k a h g. (each (goal.at.returns-clause-small c).After-others_through e k h g).small j (omega (arith, a))

pub returns-clause-factors : goal.returns-clause-factors
returns-clause-factors c = λ e j a. c.put_factors.ensures.factors c.if-not-put_factors.false c.args.pivots.now.rows c.quotients_of-quotients.ensures j a
