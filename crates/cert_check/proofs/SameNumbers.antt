-- The same numbers of fixes, in a row and turned round.
use Rattle.std.proofs.Common.{ℕ, ℤ, refl, sym, ◌∙◌}
use Rattle.int_search.specs.declared.answer.TwoBest.{TwoBest}
use Rattle.cert_check.specs.SameTails.{AreSameBest, AreSameNumbers}

pub same_numbers : {M : Type 0} (h : ℕ) (m : M) (b : TwoBest) (t : ℤ) → AreSameNumbers h h m m b b t t
same_numbers h m b t = record { h_is = refl; moved_is = refl; best_is = record { first_is = refl; second_is = refl; p1_is = refl; p2_is = refl }; top_is = refl }

pub same_numbers_on : {M : Type 0} (h k j : ℕ) (m n o : M) (b c d : TwoBest) (t u v : ℤ) → AreSameNumbers h k m n b c t u → AreSameNumbers k j n o c d u v → AreSameNumbers h j m o b d t v
same_numbers_on h k j m n o b c d t u v a e = record { h_is = a.h_is ∙ e.h_is; moved_is = a.moved_is ∙ e.moved_is; best_is = both a.best_is e.best_is; top_is = a.top_is ∙ e.top_is }
  where
    both : AreSameBest b c → AreSameBest c d → AreSameBest b d
    both x y = record { first_is = x.first_is ∙ y.first_is; second_is = x.second_is ∙ y.second_is; p1_is = x.p1_is ∙ y.p1_is; p2_is = x.p2_is ∙ y.p2_is }

pub same_numbers_back : {M : Type 0} (h k : ℕ) (m n : M) (b c : TwoBest) (t u : ℤ) → AreSameNumbers h k m n b c t u → AreSameNumbers k h n m c b u t
same_numbers_back h k m n b c t u a = record { h_is = sym a.h_is; moved_is = sym a.moved_is; best_is = back a.best_is; top_is = sym a.top_is }
  where
    back : AreSameBest b c → AreSameBest c b
    back x = record { first_is = sym x.first_is; second_is = sym x.second_is; p1_is = sym x.p1_is; p2_is = sym x.p2_is }
