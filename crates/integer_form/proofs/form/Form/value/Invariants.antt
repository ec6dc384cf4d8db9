use Rattle.std.proofs.Common.{◌≡◌, ◌*◌, ◌-◌, ◌^◌, ◌≤◌, unsigned_abs}
use Rattle.quadratic_form.specs.Forms.{quad}
use Rattle.quadratic_form.specs.Places.{list_from, form_from}
use Rattle.quadratic_form.specs.Tables.{entry, item}
use Rattle.integer_form.proofs.form.Form.value.Given as goal

abbrev pub invariant-loop-k : goal.invariant-loop-k
invariant-loop-k l = record {
  value : l.sum ≡ quad (form_from (entry l.self.p) (l.n - l.k) l.k) (list_from (item l.x) (l.n - l.k) l.k);
  size : unsigned_abs l.sum ≤ l.k * 2 ^ 120;
}
