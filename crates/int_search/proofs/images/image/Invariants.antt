use Rattle.std.proofs.Common.{◌≡◌, ℕ, ◌<◌, [], pos, get_or, length}
use Rattle.whole_math.specs.Vectors.{dot}
use Rattle.quadratic_form.specs.declared.sizes.TheConstants.{MOST_INTEGERS}
use Rattle.integer_form.specs.Kept.{IsZeroFrom}
use Rattle.int_search.specs.Vectors.{suffix, IsSmall}
use Rattle.int_search.proofs.images.image.Given as goal

abbrev pub invariant-loop-i : goal.invariant-loop-i
invariant-loop-i l = record {
  done : (k : ℕ) → k < l.i → get_or l.y k (pos 0) ≡ dot (get_or l.map k []) (suffix l.z 0 l.size);
  small : IsSmall l.y;
  zeros : IsZeroFrom l.size l.y;
  room : length l.y ≡ MOST_INTEGERS;
}
