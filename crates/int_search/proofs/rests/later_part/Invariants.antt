use Rattle.std.proofs.Common.{◌≡◌, ◌+◌, ◌-◌, ◌*◌, ◌^◌, ◌≤◌, [], ◌∷◌, ◌++◌, pos, ◌+ℤ◌, unsigned_abs}
use Rattle.whole_math.specs.Vectors.{dot}
use Rattle.quadratic_form.specs.Places.{list_from}
use Rattle.quadratic_form.specs.Tables.{entry}
use Rattle.integer_form.specs.Forms.{integers_of}
use Rattle.int_search.specs.Suffixes.{rest}
use Rattle.int_search.specs.Vectors.{suffix}
use Rattle.int_search.specs.SearchedForm.{search_form}
use Rattle.int_search.proofs.rests.later_part.Given as goal

abbrev pub invariant-loop-k : goal.invariant-loop-k
invariant-loop-k l = record {
  total : l.sum +ℤ dot (list_from (λ r. entry l.form.l r (3 + l.i)) (3 + l.k) (integers_of l.form - l.k + 1)) (suffix l.z l.k (integers_of l.form) ++ pos 1 ∷ []) ≡ rest (search_form l.form)
      (suffix l.z (l.i + 1) (integers_of l.form));
  small : unsigned_abs l.sum ≤ l.k * 2 ^ 82;
}
