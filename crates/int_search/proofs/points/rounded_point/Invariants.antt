use Rattle.std.proofs.Common.{◌≡◌, ◌-◌, ◌≤◌, length}
use Rattle.quadratic_form.specs.declared.sizes.TheConstants.{MOST_INTEGERS}
use Rattle.integer_form.specs.Forms.{integers_of}
use Rattle.int_search.specs.PlainCount.{rounded}
use Rattle.integer_form.specs.Kept.{IsZeroFrom}
use Rattle.int_search.specs.Vectors.{suffix, IsSmall}
use Rattle.int_search.specs.SearchedForm.{search_form}
use Rattle.int_search.proofs.points.rounded_point.Given as goal

abbrev pub invariant-loop-i : goal.invariant-loop-i
invariant-loop-i l = record {
  within : l.i ≤ integers_of l.form;
  point : suffix l.z l.i (integers_of l.form) ≡ rounded (search_form l.form) (integers_of l.form - l.i);
  small : IsSmall l.z;
  zeros : IsZeroFrom (integers_of l.form) l.z;
  room : length l.z ≡ MOST_INTEGERS;
}

abbrev pub decreases-loop-i : goal.decreases-loop-i
decreases-loop-i l = l.i
