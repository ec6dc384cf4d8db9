-- One record more.
use Rattle.std.proofs.Common.{◌≡◌, ℕ, suc, ◌+◌, List, [], ◌∷◌, ◌++◌, length, arith, subst, add-zero}
use Rattle.eph_store.specs.declared.ephemeris.Eph.{Eph}
use Rattle.sim_session.specs.Satellites.{IsSatellite, AreNormal, AreSatellites}

pub one_more : (letter k : ℕ) (es : List Eph) (e : Eph) → AreSatellites letter k es → IsSatellite letter (k + length es) e → AreNormal e → AreSatellites letter k (es ++ e ∷ [])
one_more letter k [] e h s n = (subst (λ (i : ℕ). IsSatellite letter i e) (add-zero k) s, n, tt)
one_more letter k (x ∷ es) e h s n = (h.0, h.1, one_more letter (k + 1) es e h.2 (subst (λ (i : ℕ). IsSatellite letter i e) (further k (length es)) s) n)
  where
    further : (k m : ℕ) → k + suc m ≡ k + 1 + m
    further k m = omega arith
