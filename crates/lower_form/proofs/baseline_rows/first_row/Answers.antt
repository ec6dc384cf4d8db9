use Rattle.std.proofs.Common.{◌≡◌, ⊎_elim, ℕ, ◌<◌, ◌≤◌, length, ℤ, pos, true, get_or-set_same, arith, to_z, of_z, sym, ap, ◌∙◌, subst, eq-or-lt_of_le}
use Rattle.std.specs.Int.{w64, w128}
use Rattle.whole_math.proofs.Words.{as_w64}
use Rattle.quadratic_form.specs.declared.sizes.TheConstants.{MOST_COLUMNS}
use Rattle.quadratic_form.specs.Tables.{item}
use Rattle.normal_sum.specs.declared.normal.Normal.{Normal}
use Rattle.elimination.specs.StepEntries.{is_small}
use Rattle.elimination.proofs.SmallEntries.{small_size}
use Rattle.elimination.proofs.Words.{wide_w128}
use Rattle.lower_form.specs.FirstRounding.{first_entry}
use Rattle.lower_form.proofs.baseline_rows.first_row.Goals as goal

pub returns-clause-value : goal.returns-clause-value
returns-clause-value c =
    let r : ℕ = c.args.r in
    let h : ℕ = c.args.h in
    let n : Normal = c.args.normal.now in
    let f : ℤ = c.first_entry-own.result in
    let wf : to_z w128 (of_z w128 f) ≡ f = wide_w128 f c.first_entry-own.ensures.size in
    let s : is_small f ≡ true = ap (λ z. is_small z) (sym wf) ∙ sym c.is_small.ensures ∙ c.if-not-is_small.false in
    let v : ℤ = to_z w64 (of_z w64 (to_z w128 (of_z w128 f))) in
    let wv : v ≡ f = ap (λ z. to_z w64 (of_z w64 z)) wf ∙ as_w64 f (small_size f s) in
    let to : n.columns ≤ MOST_COLUMNS = n.columns_to in
    let room : r < length c.args.row.now = omega (arith, c.requires.row_in, to) in
    let own : item c.first_others.new.row r ≡ f = c.first_others.ensures.before r (omega arith) ∙ get_or-set_same c.args.row.now r v (pos 0) room ∙ wv in
    λ e k a b. ⊎_elim
    (λ (i : r ≡ k). subst (λ (m : ℕ). item c.first_others.new.row m ≡ first_entry n h r m) i (own ∙ c.first_entry-own.ensures.value))
    (λ (i : r < k). c.first_others.ensures.value e k i b)
    (eq-or-lt_of_le a)

pub returns-clause-small : goal.returns-clause-small
returns-clause-small c =
    let r : ℕ = c.args.r in
    let n : Normal = c.args.normal.now in
    let f : ℤ = c.first_entry-own.result in
    let wf : to_z w128 (of_z w128 f) ≡ f = wide_w128 f c.first_entry-own.ensures.size in
    let s : is_small f ≡ true = ap (λ z. is_small z) (sym wf) ∙ sym c.is_small.ensures ∙ c.if-not-is_small.false in
    let v : ℤ = to_z w64 (of_z w64 (to_z w128 (of_z w128 f))) in
    let wv : v ≡ f = ap (λ z. to_z w64 (of_z w64 z)) wf ∙ as_w64 f (small_size f s) in
    let to : n.columns ≤ MOST_COLUMNS = n.columns_to in
    let room : r < length c.args.row.now = omega (arith, c.requires.row_in, to) in
    let own : item c.first_others.new.row r ≡ f = c.first_others.ensures.before r (omega arith) ∙ get_or-set_same c.args.row.now r v (pos 0) room ∙ wv in
    λ e k a b. ⊎_elim
    (λ (i : r ≡ k). subst (λ (m : ℕ). is_small (item c.first_others.new.row m) ≡ true) i (subst (λ (z : ℤ). is_small z ≡ true) (sym own) s))
    (λ (i : r < k). c.first_others.ensures.small e k i b)
    (eq-or-lt_of_le a)
