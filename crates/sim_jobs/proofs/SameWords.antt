-- The texts of two sessions of the same words.
use Rattle.std.proofs.Common.{◌≡◌, ◌∙◌, ℕ, ◌+◌, ℤ, pos, negsuc, List, [], ◌∷◌, ◌++◌, length, refl, sym, ap, arith}
use Rattle.whole_math.specs.Rational.{of_whole}
use Rattle.eph_store.specs.Decimals.{decimal}
use Rattle.eph_store.specs.declared.ephemeris.Eph.{Eph}
use Rattle.orbit_model.specs.Elements.{Constants}
use Rattle.sim_session.specs.declared.signals.Tracking.{Tracking}
use Rattle.sim_session.specs.Navigation.{record_text, record_texts, navigation_header}
use Rattle.sim_session.specs.Satellites.{anomaly, node, root_a_tenths, IsSatellite, AreNormal, AreSatellites}
use Rattle.sim_session.specs.Observations.{IsObservationText}
use Rattle.sim_session.specs.Texts.{tracking_of, IsBaseText, IsRoverText, IsNavigationText}
use Rattle.sim_jobs.specs.SameWords.{AreSized, DifferInSignals}
use Rattle.sim_jobs.proofs.OneSpelling.{one_number}

-- ---- navigation files
-- a satellite has one record, so far as it is written
same_record : (letter k : ℕ) (e f : Eph) → IsSatellite letter k e → IsSatellite letter k f → AreNormal e → AreNormal f → record_text letter e ≡ record_text letter f
unfolding record_text
same_record letter k e f one other n m =
    let sat : e.sat ≡ f.sat = one.sat ∙ sym other.sat in
    let af0 : e.af0 ≡ f.af0 = one_number e.af0 f.af0 (decimal (pos (k + 1)) 5) n.af0 m.af0 one.af0 other.af0 in
    let af1 : e.af1 ≡ f.af1 = one_number e.af1 f.af1 (decimal (pos 1) 12) n.af1 m.af1 one.af1 other.af1 in
    let af2 : e.af2 ≡ f.af2 = one_number e.af2 f.af2 (of_whole (pos 0)) n.af2 m.af2 one.af2 other.af2 in
    let crs : e.crs ≡ f.crs = one_number e.crs f.crs (of_whole (pos 0)) n.crs m.crs one.crs other.crs in
    let same_motion : e.dn ≡ f.dn = one_number e.dn f.dn (decimal (pos 45) 10) n.dn m.dn one.dn other.dn in
    let same_anomaly : e.m0 ≡ f.m0 = one_number e.m0 f.m0 (decimal (anomaly k) 1) n.m0 m.m0 one.m0 other.m0 in
    let cuc : e.cuc ≡ f.cuc = one_number e.cuc f.cuc (decimal (pos 1) 6) n.cuc m.cuc one.cuc other.cuc in
    let ecc : e.ecc ≡ f.ecc = one_number e.ecc f.ecc (decimal (pos (k + 1)) 3) n.ecc m.ecc one.ecc other.ecc in
    let cus : e.cus ≡ f.cus = one_number e.cus f.cus (of_whole (pos 0)) n.cus m.cus one.cus other.cus in
    let root_a : e.root_a ≡ f.root_a = one_number e.root_a f.root_a (decimal (root_a_tenths letter) 1) n.root_a m.root_a one.root_a other.root_a in
    let cic : e.cic ≡ f.cic = one_number e.cic f.cic (of_whole (pos 0)) n.cic m.cic one.cic other.cic in
    let longitude : e.node ≡ f.node = one_number e.node f.node (decimal (node k) 2) n.node m.node one.node other.node in
    let cis : e.cis ≡ f.cis = one_number e.cis f.cis (of_whole (pos 0)) n.cis m.cis one.cis other.cis in
    let incl : e.incl ≡ f.incl = one_number e.incl f.incl (decimal (pos 96) 2) n.incl m.incl one.incl other.incl in
    let crc : e.crc ≡ f.crc = one_number e.crc f.crc (of_whole (pos 200)) n.crc m.crc one.crc other.crc in
    let peri : e.peri ≡ f.peri = one_number e.peri f.peri (of_whole (pos 0)) n.peri m.peri one.peri other.peri in
    let node_rate : e.node_rate ≡ f.node_rate = one_number e.node_rate f.node_rate (decimal (negsuc 7) 9) n.node_rate m.node_rate one.node_rate other.node_rate in
    let incl_rate : e.incl_rate ≡ f.incl_rate = one_number e.incl_rate f.incl_rate (of_whole (pos 0)) n.incl_rate m.incl_rate one.incl_rate other.incl_rate in
    rw (sat, af0, af1, af2, crs, same_motion, same_anomaly, cuc, ecc, cus, root_a, cic, longitude, cis, incl, crc, peri, node_rate, incl_rate) refl

same_records : (letter k : ℕ) (es fs : List Eph) → length es ≡ length fs → AreSatellites letter k es → AreSatellites letter k fs → record_texts letter es ≡ record_texts letter fs
same_records letter k [] [] count one other = refl
same_records letter k [] (f ∷ fs) count one other = absurd (omega (arith, count))
same_records letter k (e ∷ es) [] count one other = absurd (omega (arith, count))
same_records letter k (e ∷ es) (f ∷ fs) count one other =
    let first = same_record letter k e f one.0 other.0 one.1 other.1 in
    let rest = same_records letter (k + 1) es fs (omega (arith, count)) one.2 other.2 in
    ap (λ (t : List ℕ). t ++ record_texts letter es) first ∙ ap (λ (t : List ℕ). record_text letter f ++ t) rest

pub one_navigation : (sats system : ℕ) (one other : List ℕ) → IsNavigationText sats system one → IsNavigationText sats system other → one ≡ other
one_navigation sats system one other is also =
    let same = same_records system 0 is.records also.records (is.count ∙ sym also.count) is.are also.are in
    is.has ∙ ap (λ (t : List ℕ). navigation_header system ++ t) same ∙ sym also.has

-- ---- observation files
sized : (epochs sats : ℕ) (t : Tracking) (world : Constants) (point : List ℤ) (clock : ℤ) (records : List Eph) (cycles : List (List ℤ)) (text : List ℕ) → length records ≡ sats
    → (is : IsObservationText epochs t world point clock records cycles text) → AreSized epochs sats is.values
sized epochs sats t world point clock records cycles text count is = (is.count, λ k d inside. (is.observed k d inside).as_many ∙ count)

pub base_differs : (seed epochs sats bands system : ℕ) (one other : List ℕ) → IsBaseText seed epochs sats bands system one → IsBaseText seed epochs sats bands system other
    → DifferInSignals epochs sats (tracking_of bands system) one other
base_differs seed epochs sats bands system one other is also = record {
  of_one = is.has.values;
  of_other = also.has.values;
  one_sized = sized epochs sats _ _ _ _ is.records _ one is.count is.has;
  other_sized = sized epochs sats _ _ _ _ also.records _ other also.count also.has;
  one_is = is.has.text_is;
  other_is = also.has.text_is;
}

pub rover_differs : (seed epochs sats bands system : ℕ) (one other : List ℕ) → IsRoverText seed epochs sats bands system one → IsRoverText seed epochs sats bands system other
    → DifferInSignals epochs sats (tracking_of bands system) one other
rover_differs seed epochs sats bands system one other is also = record {
  of_one = is.has.values;
  of_other = also.has.values;
  one_sized = sized epochs sats _ _ _ _ is.records _ one is.count is.has;
  other_sized = sized epochs sats _ _ _ _ also.records _ other also.count also.has;
  one_is = is.has.text_is;
  other_is = also.has.text_is;
}
