-- The usable records, one record more.
use Rattle.std.proofs.Common.{List, [], ◌∷◌, ◌++◌, inl, inr}
use Rattle.eph_store.specs.declared.record.Raw.{Raw}
use Rattle.eph_store.specs.declared.ephemeris.Eph.{Eph}
use Rattle.eph_store.specs.Profile.{IsUsable}
use Rattle.eph_store.specs.Records.{IsEphOf, AreFit}

pub fit_without : (rs : List Raw) (es : List Eph) (r : Raw) → AreFit rs es → (IsUsable r → ⊥) → AreFit (rs ++ r ∷ []) es
fit_without [] [] r fit not = (not, tt)
fit_without [] (e ∷ es) r fit not = absurd fit
fit_without (q ∷ rs) [] r (out, fit) not = (out, fit_without rs [] r fit not)
fit_without (q ∷ rs) (e ∷ es) r (inl (u, is, fit)) not = inl (u, is, fit_without rs es r fit not)
fit_without (q ∷ rs) (e ∷ es) r (inr (out, fit)) not = inr (out, fit_without rs (e ∷ es) r fit not)

pub fit_with : (rs : List Raw) (es : List Eph) (r : Raw) (e : Eph) → AreFit rs es → IsUsable r → IsEphOf r e → AreFit (rs ++ r ∷ []) (es ++ e ∷ [])
fit_with [] [] r e fit u is = inl (u, is, tt)
fit_with [] (x ∷ xs) r e fit u is = absurd fit
fit_with (q ∷ rs) [] r e (out, fit) u is = inr (out, fit_with rs [] r e fit u is)
fit_with (q ∷ rs) (x ∷ xs) r e (inl (v, as_x, fit)) u is = inl (v, as_x, fit_with rs xs r e fit u is)
fit_with (q ∷ rs) (x ∷ xs) r e (inr (out, fit)) u is = inr (out, fit_with rs (x ∷ xs) r e fit u is)
