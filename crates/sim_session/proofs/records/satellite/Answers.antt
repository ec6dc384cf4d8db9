use Rattle.std.proofs.Common.{refl, inl, inr, lit≤, lit<, arith}
use Rattle.std.proofs.lemmas.Int.{ints}
use Rattle.sim_session.proofs.records.satellite.Goals as goal

pub invariant_of-result-clause-root_a_in : goal.invariant_of-result-clause-root_a_in
invariant_of-result-clause-root_a_in c = c.root_of_axis.ensures.range

pub invariant_of-result-clause-incl_in : goal.invariant_of-result-clause-incl_in
invariant_of-result-clause-incl_in c = record { low = omega (arith, ints); high = omega (arith, ints) }

pub invariant_of-result-clause-peri_in : goal.invariant_of-result-clause-peri_in
invariant_of-result-clause-peri_in c = record { low = omega (arith, ints); high = omega (arith, ints) }

pub invariant_of-result-clause-dn_in : goal.invariant_of-result-clause-dn_in
invariant_of-result-clause-dn_in c = record { low = omega (arith, ints); high = omega (arith, ints) }

pub invariant_of-result-clause-node_rate_in : goal.invariant_of-result-clause-node_rate_in
invariant_of-result-clause-node_rate_in c = record { low = omega (arith, ints); high = omega (arith, ints) }

pub invariant_of-result-clause-incl_rate_in : goal.invariant_of-result-clause-incl_rate_in
invariant_of-result-clause-incl_rate_in c = record { low = omega (arith, ints); high = omega (arith, ints) }

pub invariant_of-result-clause-cuc_in : goal.invariant_of-result-clause-cuc_in
invariant_of-result-clause-cuc_in c = record { low = omega (arith, ints); high = omega (arith, ints) }

pub invariant_of-result-clause-cus_in : goal.invariant_of-result-clause-cus_in
invariant_of-result-clause-cus_in c = record { low = omega (arith, ints); high = omega (arith, ints) }

pub invariant_of-result-clause-cic_in : goal.invariant_of-result-clause-cic_in
invariant_of-result-clause-cic_in c = record { low = omega (arith, ints); high = omega (arith, ints) }

pub invariant_of-result-clause-cis_in : goal.invariant_of-result-clause-cis_in
invariant_of-result-clause-cis_in c = record { low = omega (arith, ints); high = omega (arith, ints) }

pub invariant_of-result-clause-crc_in : goal.invariant_of-result-clause-crc_in
invariant_of-result-clause-crc_in c = record { low = omega (arith, ints); high = omega (arith, ints) }

pub invariant_of-result-clause-crs_in : goal.invariant_of-result-clause-crs_in
invariant_of-result-clause-crs_in c = record { low = omega (arith, ints); high = omega (arith, ints) }

pub invariant_of-result-clause-af1_in : goal.invariant_of-result-clause-af1_in
invariant_of-result-clause-af1_in c = record { low = omega (arith, ints); high = omega (arith, ints) }

pub invariant_of-result-clause-af2_in : goal.invariant_of-result-clause-af2_in
invariant_of-result-clause-af2_in c = record { low = omega (arith, ints); high = omega (arith, ints) }

pub returns-clause-values : goal.returns-clause-values
returns-clause-values c = record {
  sat = refl;
  toc = refl;
  toe = refl;
  toe_second = refl;
  root_a = c.root_of_axis.ensures.value;
  ecc = c.eccentricity.ensures.value;
  m0 = c.mean_anomaly.ensures.value;
  node = c.ascending_node.ensures.value;
  incl = refl;
  peri = refl;
  dn = refl;
  node_rate = refl;
  incl_rate = refl;
  cuc = refl;
  cus = refl;
  cic = refl;
  cis = refl;
  crc = refl;
  crs = refl;
  af0 = c.clock_offset.ensures.value;
  af1 = refl;
  af2 = refl;
}

pub returns-clause-normal : goal.returns-clause-normal
returns-clause-normal c = record {
  af0 = c.clock_offset.ensures.normal;
  af1 = inl (lit≤ tt, lit< tt);
  af2 = inr (refl, refl);
  crs = inr (refl, refl);
  dn = inl (lit≤ tt, lit< tt);
  m0 = c.mean_anomaly.ensures.normal;
  cuc = inl (lit≤ tt, lit< tt);
  ecc = c.eccentricity.ensures.normal;
  cus = inr (refl, refl);
  root_a = c.root_of_axis.ensures.normal;
  cic = inr (refl, refl);
  node = c.ascending_node.ensures.normal;
  cis = inr (refl, refl);
  incl = inl (lit≤ tt, lit< tt);
  crc = inl (lit≤ tt, lit< tt);
  peri = inr (refl, refl);
  node_rate = inl (lit≤ tt, lit< tt);
  incl_rate = inr (refl, refl);
}
