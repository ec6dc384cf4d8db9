use Rattle.std.proofs.Common.{◌≡◌, ℕ, arith, refl, ◌∙◌, below_more}
use Rattle.quadratic_form.specs.Tables.{entry}
use Rattle.int_search.specs.Transformed.{whole_entry}
use Rattle.int_search.proofs.coordinates.write_wholes.Goals as goal

pub loop-i-init : goal.loop-i-init
loop-i-init c = record { same = λ k j before inside. absurd (omega arith); entries = c.requires.entries; outside = c.requires.outside }

pub loop-i-preserved : goal.loop-i-preserved
loop-i-preserved c =
    let i : ℕ = c.loop-i.i in
    record {
      same = λ k j before inside. below_more (λ (k : ℕ). entry c.write_row.new.p k j ≡ whole_entry c.args.n (entry c.args.map.now) (entry c.args.halves.now) k j) i
          (λ k before. c.if-not-write_row.ensures.others k j (omega arith) ∙ c.loop-i.invariant.same k j before inside) (c.if-not-write_row.ensures.row refl j inside) k before;
      entries = c.if-not-write_row.ensures.entries;
      outside = c.if-not-write_row.ensures.outside;
    }

pub returns-then-not-write_row-clause-wide : goal.returns-then-not-write_row-clause-wide
returns-then-not-write_row-clause-wide c = λ e small. c.if-not-write_row.ensures.wide refl (λ j inside. small c.loop-i.i j (omega arith) inside)

pub returns-clause-done : goal.returns-clause-done
returns-clause-done c = λ e. record {
  same = λ i j before inside. c.loop-i.invariant.same i j (omega (arith, c.loop-i-test.false)) inside;
  entries = c.loop-i.invariant.entries;
  outside = c.loop-i.invariant.outside;
}
