-- The records of a list determine the usable ones.
use mathlib.Core.HLevel.{is_prop→PathP}
use Rattle.std.proofs.Common.{◌≡◌, ◌≤◌, ◌<◌, ◌+◌, ◌*◌, ◌/◌, inl, inr, ℕ, ℤ, pos, List, [], ◌∷◌, refl, sym, ap, ◌∙◌}
use Rattle.std.proofs.Props.{props}
use Rattle.std.proofs.Math.Bridge.{le_prop}
use Rattle.std.proofs.Math.Nat.{ℕ_set}
use Rattle.decimal_text.specs.declared.exponent.Dec.{Dec}
use Rattle.eph_store.specs.Decimals.{IsFromTo, IsWithin}
use Rattle.eph_store.specs.Profile.{toe_tick}
use Rattle.eph_store.specs.Records.{IsEphOf, AreFit}
use Rattle.eph_store.specs.declared.record.Raw.{Raw}
use Rattle.eph_store.specs.declared.ephemeris.Eph.{Eph}
use Rattle.eph_store.proofs.ProfileLaws.{whole_once}

range_prop : (least most : ℤ) (places : ℕ) (d : Dec) → IsProp (IsFromTo least most places d)
range_prop least most places d = Prim.hlevel props

within_prop : (bound places : ℕ) (d : Dec) → IsProp (IsWithin bound places d)
within_prop bound places d = Prim.hlevel props

-- two usable records with the same numbers are the same
eph_same : (e f : Eph) → e.sat ≡ f.sat → e.toc ≡ f.toc → e.toe ≡ f.toe → e.toe_second ≡ f.toe_second → e.af0 ≡ f.af0 → e.af1 ≡ f.af1 → e.af2 ≡ f.af2 → e.crs ≡ f.crs → e.dn ≡ f.dn → e.m0 ≡ f.m0 → e.cuc ≡ f.cuc → e.ecc ≡ f.ecc → e.cus ≡ f.cus → e.root_a ≡ f.root_a → e.cic ≡ f.cic → e.node ≡ f.node → e.cis ≡ f.cis → e.incl ≡ f.incl → e.crc ≡ f.crc → e.peri ≡ f.peri → e.node_rate ≡ f.node_rate → e.incl_rate ≡ f.incl_rate → e ≡ f
eph_same e f sat toc toe toe_second af0 af1 af2 crs dn m0 cuc ecc cus root_a cic node cis incl crc peri node_rate incl_rate = λ i. record {
  sat = sat i;
  toc = toc i;
  toe = toe i;
  toe_second = toe_second i;
  af0 = af0 i;
  af1 = af1 i;
  af2 = af2 i;
  crs = crs i;
  dn = dn i;
  m0 = m0 i;
  cuc = cuc i;
  ecc = ecc i;
  cus = cus i;
  root_a = root_a i;
  cic = cic i;
  node = node i;
  cis = cis i;
  incl = incl i;
  crc = crc i;
  peri = peri i;
  node_rate = node_rate i;
  incl_rate = incl_rate i;
  second_in = is_prop→PathP (λ j. toe_second j ≤ 604_799) (λ j. le_prop) e.second_in f.second_in i;
  toe_in = is_prop→PathP (λ j. (toe j).0 < 60_480_000_000_000_000) (λ j. le_prop) e.toe_in f.toe_in i;
  second_of_week = is_prop→PathP (λ j. (toe j).0 ≡ ((toe j).0 / 6_048_000_000_000 * 604_800 + toe_second j) * 10_000_000) (λ j. ℕ_set ((toe j).0) (((toe j).0 / 6_048_000_000_000 * 604_800 + toe_second j) * 10_000_000)) e.second_of_week f.second_of_week i;
  toc_late_enough = is_prop→PathP (λ j. (toe j).0 ≤ (toc j).0 + 72_000_000_000) (λ j. le_prop) e.toc_late_enough f.toc_late_enough i;
  toc_early_enough = is_prop→PathP (λ j. (toc j).0 ≤ (toe j).0 + 72_000_000_000) (λ j. le_prop) e.toc_early_enough f.toc_early_enough i;
  root_a_in = is_prop→PathP (λ j. IsFromTo (pos 4500) (pos 6000) 0 (root_a j)) (λ j. range_prop (pos 4500) (pos 6000) 0 (root_a j)) e.root_a_in f.root_a_in i;
  ecc_in = is_prop→PathP (λ j. IsFromTo (pos 0) (pos 3125) 5 (ecc j)) (λ j. range_prop (pos 0) (pos 3125) 5 (ecc j)) e.ecc_in f.ecc_in i;
  m0_in = is_prop→PathP (λ j. IsWithin 65 1 (m0 j)) (λ j. within_prop 65 1 (m0 j)) e.m0_in f.m0_in i;
  peri_in = is_prop→PathP (λ j. IsWithin 65 1 (peri j)) (λ j. within_prop 65 1 (peri j)) e.peri_in f.peri_in i;
  node_in = is_prop→PathP (λ j. IsWithin 65 1 (node j)) (λ j. within_prop 65 1 (node j)) e.node_in f.node_in i;
  incl_in = is_prop→PathP (λ j. IsWithin 65 1 (incl j)) (λ j. within_prop 65 1 (incl j)) e.incl_in f.incl_in i;
  dn_in = is_prop→PathP (λ j. IsWithin 1 7 (dn j)) (λ j. within_prop 1 7 (dn j)) e.dn_in f.dn_in i;
  node_rate_in = is_prop→PathP (λ j. IsWithin 1 7 (node_rate j)) (λ j. within_prop 1 7 (node_rate j)) e.node_rate_in f.node_rate_in i;
  incl_rate_in = is_prop→PathP (λ j. IsWithin 1 8 (incl_rate j)) (λ j. within_prop 1 8 (incl_rate j)) e.incl_rate_in f.incl_rate_in i;
  cuc_in = is_prop→PathP (λ j. IsWithin 1 3 (cuc j)) (λ j. within_prop 1 3 (cuc j)) e.cuc_in f.cuc_in i;
  cus_in = is_prop→PathP (λ j. IsWithin 1 3 (cus j)) (λ j. within_prop 1 3 (cus j)) e.cus_in f.cus_in i;
  cic_in = is_prop→PathP (λ j. IsWithin 1 3 (cic j)) (λ j. within_prop 1 3 (cic j)) e.cic_in f.cic_in i;
  cis_in = is_prop→PathP (λ j. IsWithin 1 3 (cis j)) (λ j. within_prop 1 3 (cis j)) e.cis_in f.cis_in i;
  crc_in = is_prop→PathP (λ j. IsWithin 10_000 0 (crc j)) (λ j. within_prop 10_000 0 (crc j)) e.crc_in f.crc_in i;
  crs_in = is_prop→PathP (λ j. IsWithin 10_000 0 (crs j)) (λ j. within_prop 10_000 0 (crs j)) e.crs_in f.crs_in i;
  af0_in = is_prop→PathP (λ j. IsWithin 1 2 (af0 j)) (λ j. within_prop 1 2 (af0 j)) e.af0_in f.af0_in i;
  af1_in = is_prop→PathP (λ j. IsWithin 1 7 (af1 j)) (λ j. within_prop 1 7 (af1 j)) e.af1_in f.af1_in i;
  af2_in = is_prop→PathP (λ j. IsWithin 1 12 (af2 j)) (λ j. within_prop 1 12 (af2 j)) e.af2_in f.af2_in i;
}

-- a record is that of at most one usable record
eph_once : (raw : Raw) (e f : Eph) → IsEphOf raw e → IsEphOf raw f → e ≡ f
eph_once raw e f a b =
    let week = whole_once raw.week a.week b.week a.time.week_is b.time.week_is in
    let second = whole_once raw.toe_s e.toe_second f.toe_second a.time.second_is b.time.second_is in
    let moment : e.toe.0 ≡ f.toe.0 = a.toe ∙ ap (λ (w : ℕ). toe_tick w e.toe_second) week ∙ ap (λ (s : ℕ). toe_tick b.week s) second ∙ sym b.toe in
    let toe : e.toe ≡ f.toe = λ i. record { 0 = moment i } in
    eph_same e f (a.sat ∙ sym b.sat) (a.toc ∙ sym b.toc) toe second
    (a.af0 ∙ sym b.af0) (a.af1 ∙ sym b.af1) (a.af2 ∙ sym b.af2) (a.crs ∙ sym b.crs) (a.dn ∙ sym b.dn) (a.m0 ∙ sym b.m0)
    (a.cuc ∙ sym b.cuc) (a.ecc ∙ sym b.ecc) (a.cus ∙ sym b.cus) (a.root_a ∙ sym b.root_a) (a.cic ∙ sym b.cic) (a.node ∙ sym b.node)
    (a.cis ∙ sym b.cis) (a.incl ∙ sym b.incl) (a.crc ∙ sym b.crc) (a.peri ∙ sym b.peri) (a.node_rate ∙ sym b.node_rate) (a.incl_rate ∙ sym b.incl_rate)

pub fit_once : (raws : List Raw) (es fs : List Eph) → AreFit raws es → AreFit raws fs → es ≡ fs
fit_once [] [] [] a b = refl
fit_once [] [] (f ∷ fs) a b = absurd b
fit_once [] (e ∷ es) fs a b = absurd a
fit_once (r ∷ rs) [] [] a b = refl
fit_once (r ∷ rs) [] (f ∷ fs) a (inl b) = absurd (a.0 b.0)
fit_once (r ∷ rs) [] (f ∷ fs) a (inr b) = fit_once rs [] (f ∷ fs) a.1 b.1
fit_once (r ∷ rs) (e ∷ es) [] (inl a) b = absurd (b.0 a.0)
fit_once (r ∷ rs) (e ∷ es) [] (inr a) b = fit_once rs (e ∷ es) [] a.1 b.1
fit_once (r ∷ rs) (e ∷ es) (f ∷ fs) (inl a) (inl b) =
    let first = eph_once r e f a.1 b.1 in
    let others = fit_once rs es fs a.2 b.2 in
    ap (λ (x : Eph). x ∷ es) first ∙ ap (λ (xs : List Eph). f ∷ xs) others
fit_once (r ∷ rs) (e ∷ es) (f ∷ fs) (inl a) (inr b) = absurd (b.0 a.0)
fit_once (r ∷ rs) (e ∷ es) (f ∷ fs) (inr a) (inl b) = absurd (a.0 b.0)
fit_once (r ∷ rs) (e ∷ es) (f ∷ fs) (inr a) (inr b) = fit_once rs (e ∷ es) (f ∷ fs) a.1 b.1
