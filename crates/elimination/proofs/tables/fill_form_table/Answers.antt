use Rattle.std.proofs.Common.{◌≡◌, ℕ, ◌+◌, ◌<◌, ℤ, unsigned_abs, arith, sym, subst, ◌^◌, ap₂, ◌∙◌, zero-add}
use Rattle.quadratic_form.specs.Tables.{entry}
use Rattle.elimination.proofs.TableLaws.{form_moved, small_of_form, small_table}
use Rattle.elimination.proofs.tables.fill_form_table.Goals as goal

pub loop-r-init : goal.loop-r-init
loop-r-init c = record { done = λ i k h. absurd (omega arith); symmetric = c.requires.symmetric; outside = c.requires.outside }

pub copy_row-requires-clause-entries : goal.copy_row-requires-clause-entries
copy_row-requires-clause-entries c = λ k l h. small_of_form (entry c.args.table.now) 3 c.args.n c.requires.small (3 + c.loop-r.r) (3 + k) (omega arith) (omega arith) (omega arith)

pub returns-clause-form : goal.returns-clause-form
returns-clause-form c = form_moved (entry c.loop-r.p) (entry c.args.table.now) 0 3 c.args.n (λ r k l h. same r k ∙ c.loop-r.invariant.done r k (omega (arith, c.loop-r-test.false)) l h)
  where
    same : (r k : ℕ) → entry c.loop-r.p (0 + r) (0 + k) ≡ entry c.loop-r.p r k
    same r k = ap₂ (λ p q. entry c.loop-r.p p q) (zero-add r) (zero-add k)

pub returns-clause-entries : goal.returns-clause-entries
returns-clause-entries c = small_table c.loop-r.p c.args.n c.loop-r.invariant.symmetric c.loop-r.invariant.outside
    (λ r k l h. subst (λ (z : ℤ). unsigned_abs z < 2 ^ 52) (sym (c.loop-r.invariant.done r k (omega (arith, c.loop-r-test.false)) l h))
    (small_of_form (entry c.args.table.now) 3 c.args.n c.requires.small (3 + r) (3 + k) (omega arith) (omega arith) (omega arith)))
