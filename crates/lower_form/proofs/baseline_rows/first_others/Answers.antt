use Rattle.std.proofs.Common.{◌≡◌, ◌≢◌, ℕ, ◌^◌, ◌<◌, ◌≤◌, Bool, length, set, ℤ, pos, ◌*ℤ◌, ◌-ℤ◌, cond, true, unsigned_abs, get_or-set_same, get_or-set_other, length-set, arith, to_z, of_z, sym, ap, ◌∙◌, refl, subst, rules, below_more}
use Rattle.std.specs.Int.{w64, w128}
use Rattle.whole_math.specs.Rounding.{floor_div, nearest_div}
use Rattle.whole_math.proofs.Words.{as_w64, as_w128}
use Rattle.quadratic_form.specs.declared.sizes.TheConstants.{MOST_COLUMNS}
use Rattle.quadratic_form.specs.Tables.{entry, item}
use Rattle.normal_sum.specs.declared.normal.Normal.{Normal}
use Rattle.elimination.specs.StepEntries.{is_small}
use Rattle.elimination.proofs.NewEntries.{apart}
use Rattle.elimination.proofs.SmallEntries.{small_size}
use Rattle.lower_form.specs.FirstRounding.{own_bound, first_entry, IsRounded}
use Rattle.lower_form.proofs.baseline_rows.first_others.Goals as goal

-- an entry after the diagonal
off_diagonal : (n : Normal) (h r c : ℕ) → r < c → first_entry n h r c ≡ nearest_div (pos 63 *ℤ entry n.c r c) (2 ^ h)
off_diagonal n h r c g = ap (λ (b : Bool). cond b (floor_div (own_bound n c) (2 ^ h) -ℤ pos n.columns) (nearest_div (pos 63 *ℤ entry n.c r c) (2 ^ h))) (apart r c g)

read : (x y : ℤ) → x ≡ y → unsigned_abs y < 2 ^ 120 → to_z w128 (of_z w128 x) ≡ y
read x y e h = ap (λ z. to_z w128 (of_z w128 z)) e ∙ as_w128 y (omega arith)

pub loop-c-init : goal.loop-c-init
loop-c-init c = record {
  full = search rules;
  from = omega arith;
  value = λ k h g. absurd (omega arith);
  small = λ k h g. absurd (omega arith);
  before = λ k h. refl;
  last = c.zero-last.ensures c.args.h;
}

pub round-requires-clause-entry_size : goal.round-requires-clause-entry_size
round-requires-clause-entry_size c =
    let n : Normal = c.args.normal.now in
    let size : unsigned_abs (entry n.c c.args.r c.loop-c.c) < 2 ^ 120 = n.entries_in c.args.r c.loop-c.c in
    subst (λ (z : ℤ). unsigned_abs z < 2 ^ 120) (sym (read c.at.result (entry n.c c.args.r c.loop-c.c) c.at.ensures.value size)) size

pub loop-c-preserved : goal.loop-c-preserved
loop-c-preserved c =
    let k : ℕ = c.loop-c.c in
    let r : ℕ = c.args.r in
    let h : ℕ = c.args.h in
    let n : Normal = c.args.normal.now in
    let to : n.columns ≤ MOST_COLUMNS = n.columns_to in
    let f : ℤ = c.in-Some.rounded in
    let size : unsigned_abs (entry n.c r k) < 2 ^ 120 = n.entries_in r k in
    let there_is : to_z w128 (of_z w128 c.at.result) ≡ entry n.c r k = read c.at.result (entry n.c r k) c.at.ensures.value size in
    let rounded : IsRounded h (entry n.c r k) f = subst (λ (z : ℤ). IsRounded h z f) there_is c.in-Some.ensures.value in
    let s : is_small f ≡ true = rounded.small in
    let v : ℤ = to_z w64 (of_z w64 f) in
    let wv : v ≡ f = as_w64 f (small_size f s) in
    let room : k < length c.loop-c.row = omega (arith, c.loop-c.invariant.full, c.loop-c-test.true, to) in
    let there : item (set c.loop-c.row k v) k ≡ f = get_or-set_same c.loop-c.row k v (pos 0) room ∙ wv in
    let other : (m : ℕ) → m ≢ k → item (set c.loop-c.row k v) m ≡ item c.loop-c.row m = λ m d. get_or-set_other c.loop-c.row k m v (pos 0) d in
    record {
      full = length-set c.loop-c.row k v ∙ c.loop-c.invariant.full;
      from = omega (arith, c.loop-c.invariant.from);
      value = below_more (λ (m : ℕ). r < m → item (set c.loop-c.row k v) m ≡ first_entry c.args.normal.now h r m) k
          (λ m h g. other m (omega arith) ∙ c.loop-c.invariant.value m h g) (λ g. there ∙ rounded.value ∙ sym (off_diagonal n h r k g));
      small = below_more (λ (m : ℕ). r < m → is_small (item (set c.loop-c.row k v) m) ≡ true) k
          (λ m h g. subst (λ (z : ℤ). is_small z ≡ true) (sym (other m (omega arith))) (c.loop-c.invariant.small m h g)) (λ g. subst (λ (z : ℤ). is_small z ≡ true) (sym there) s);
      before = λ m h. other m (omega (arith, c.loop-c.invariant.from)) ∙ c.loop-c.invariant.before m h;
      last = c.round.ensures.last;
    }

before_end : (k n c : ℕ) → k < n → n ≤ c → k < c
before_end k n c h g = omega (arith, h, g)

pub returns-clause-value : goal.returns-clause-value
returns-clause-value c = λ e k h g. c.loop-c.invariant.value k (before_end k c.args.normal.now.columns c.loop-c.c g c.loop-c-test.false) h

pub returns-clause-small : goal.returns-clause-small
returns-clause-small c = λ e k h g. c.loop-c.invariant.small k (before_end k c.args.normal.now.columns c.loop-c.c g c.loop-c-test.false) h
