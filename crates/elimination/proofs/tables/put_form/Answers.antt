use Rattle.std.proofs.Common.{◌≡◌, ℕ, ◌+◌, ◌-◌, ◌^◌, ◌<◌, ◌≤◌, ℤ, unsigned_abs, arith, sym, ap₂, ◌∙◌, subst, zero-add}
use Rattle.quadratic_form.specs.Tables.{entry}
use Rattle.elimination.proofs.TableLaws.{form_moved}
use Rattle.elimination.proofs.tables.put_form.Goals as goal

pub returns-clause-form : goal.returns-clause-form
returns-clause-form c = form_moved (entry c.loop-r.table) (entry c.args.p.now) 3 0 c.args.n
    (λ r k l h. c.loop-r.invariant.done r k (omega (arith, c.loop-r-test.false)) l h ∙ sym (ap₂ (λ p q. entry c.args.p.now p q) (zero-add r) (zero-add k)))

pub returns-clause-entries : goal.returns-clause-entries
returns-clause-entries c = λ r k a l h.
    let i : ℕ = r - 3 in
    let j : ℕ = k - 3 in
    let row_is : 3 + i ≡ r = omega arith in
    let column_is : 3 + j ≡ k = omega arith in
    let small : unsigned_abs (entry c.args.p.now i j) < 2 ^ 52 = c.requires.entries i j in
    let is_stored : entry c.loop-r.table r k ≡ entry c.args.p.now i j = sym (ap₂ (λ p q. entry c.loop-r.table p q) row_is column_is)
    ∙ c.loop-r.invariant.done i j (omega (arith, c.loop-r-test.false)) (omega arith) (omega arith) in
    subst (λ (z : ℤ). unsigned_abs z ≤ 2 ^ 52) (sym is_stored) (omega arith)
