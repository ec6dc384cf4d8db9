use Rattle.std.proofs.Common.{◌≡◌, ◌*◌, ◌^◌, ◌≤◌, [], ◌+ℤ◌, unsigned_abs, get_or, drop}
use Rattle.whole_math.specs.Vectors.{dot}
use Rattle.int_search.specs.Vectors.{suffix}
use Rattle.int_search.proofs.images.row_product.Given as goal

abbrev pub invariant-loop-k : goal.invariant-loop-k
invariant-loop-k l = record {
  total : l.sum +ℤ dot (drop l.k (get_or l.map l.row [])) (suffix l.z l.k l.size) ≡ dot (get_or l.map l.row []) (suffix l.z 0 l.size);
  small : unsigned_abs l.sum ≤ l.k * 2 ^ 60;
}
