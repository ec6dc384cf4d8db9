use Rattle.std.proofs.Common.{◌≡◌, ◌≤◌, List, [], ◌∷◌, ℤ, pos, ◌-ℤ◌, unsigned_abs, w64, to_z, of_z, slice_index_or, arith, lit<}
use Rattle.std.proofs.lemmas.Int.{ints}
use Rattle.sim_session.specs.Values.{AreSmall}
use Rattle.sim_session.proofs.Steps.{same_three}
use Rattle.sim_session.specs.declared.drawn.TheConstants.{MOST_CYCLES}
use Rattle.sim_session.proofs.drawn.difference.Goals as goal

plain : (a x : ℤ) → unsigned_abs a ≤ MOST_CYCLES → unsigned_abs x ≤ MOST_CYCLES → to_z w64 (of_z w64 (to_z w64 (of_z w64 a) -ℤ to_z w64 (of_z w64 x))) ≡ a -ℤ x
plain a x h k = omega (arith, ints)

all : (r s : List ℤ) (a b c x y z : ℤ) → r ≡ a ∷ b ∷ c ∷ [] → s ≡ x ∷ y ∷ z ∷ [] → AreSmall r → AreSmall s →
    to_z w64 (of_z w64 (to_z w64 (of_z w64 (slice_index_or r 0 (pos 0))) -ℤ to_z w64 (of_z w64 (slice_index_or s 0 (pos 0)))))
    ∷ to_z w64 (of_z w64 (to_z w64 (of_z w64 (slice_index_or r 1 (pos 0))) -ℤ to_z w64 (of_z w64 (slice_index_or s 1 (pos 0)))))
    ∷ to_z w64 (of_z w64 (to_z w64 (of_z w64 (slice_index_or r 2 (pos 0))) -ℤ to_z w64 (of_z w64 (slice_index_or s 2 (pos 0))))) ∷ [] ≡ (a -ℤ x) ∷ (b -ℤ y) ∷ (c -ℤ z) ∷ []
all r s a b c x y z e f h k =
    let left_are_small : AreSmall (a ∷ b ∷ c ∷ []) = rw e at h in
    let right_are_small : AreSmall (x ∷ y ∷ z ∷ []) = rw f at k in
    rw (e, f) (same_three _ _ _ (a -ℤ x) (b -ℤ y) (c -ℤ z)
    (plain a x (left_are_small 0 (pos 0) (lit< tt)) (right_are_small 0 (pos 0) (lit< tt))) (plain b y (left_are_small 1 (pos 0) (lit< tt)) (right_are_small 1 (pos 0) (lit< tt))) (plain c z (left_are_small 2 (pos 0) (lit< tt)) (right_are_small 2 (pos 0) (lit< tt))))

pub returns : goal.returns
returns c = λ a b d x y z e f. all c.args.rover.now c.args.base.now a b d x y z e f c.requires.rover c.requires.base
