use Rattle.std.proofs.Common.{◌≡◌, ◌+◌, ◌-◌, ◌*◌, ◌^◌, ◌≤◌, List, ℤ, length, drop, ◌+ℤ◌, unsigned_abs, FitsSigned}
use Rattle.std.specs.Int.{w128}
use Rattle.whole_math.specs.Vectors.{dot}
use Rattle.quadratic_form.specs.Places.{list_from}
use Rattle.quadratic_form.specs.Tables.{entry}
use Rattle.vector_bound.specs.VectorBounds.{FitsTerms}
use Rattle.vector_bound.proofs.slopes.integer_part.Given as goal

abbrev pub invariant-loop-i : goal.invariant-loop-i
invariant-loop-i l = record {
  value : l.sum +ℤ dot (list_from (entry l.normal.c l.j) (3 + l.i) (length l.z - l.i)) (drop l.i l.z) ≡ dot (list_from (entry l.normal.c l.j) 3 (length l.z)) l.z;
  fits : FitsSigned w128 l.sum;
  small : (m : List ℤ) → FitsTerms l.normal l.z m l.j → unsigned_abs l.sum ≤ l.i * 2 ^ 96;
}
