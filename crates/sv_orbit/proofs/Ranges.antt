-- The numbers of a usable record lie in the ranges in which solutions exist.
use Rattle.std.proofs.Common.{◌≡◌, ℕ, ◌^◌, ◌≤◌, [], ◌∷◌, ℤ, pos, ◌*ℤ◌, ◌≤ℤ◌, arith, refl, lit≤}
use Rattle.std.proofs.lemmas.Int.{ints}
use Rattle.std.specs.Int.{abs_diff}
use Rattle.whole_math.proofs.Ring.{va, ◌⊕◌, ◌⊖◌}
use Rattle.whole_math.proofs.Order.{le_pos}
use Rattle.whole_math.specs.Rational.{Rational, ◌≈◌, ◌≤ʳ◌, of_whole, ◌+ʳ◌, ◌-ʳ◌, IsAtMostInSize}
use Rattle.whole_math.proofs.RationalLaws.{of_whole-le}
use Rattle.whole_math.proofs.RationalOrders.{equal_r}
use Rattle.whole_math.proofs.RationalSizes.{size_add, size_along, size_looser}
use Rattle.decimal_text.specs.declared.exponent.Dec.{Dec}
use Rattle.eph_store.specs.Decimals.{decimal, value_of, IsFromTo}
use Rattle.eph_store.specs.declared.ephemeris.Eph.{Eph}
use Rattle.orbit_model.specs.Elements.{sent_at, elements_of, seconds}
use Rattle.sv_orbit.specs.declared.world.World.{World}
use Rattle.sv_orbit.specs.Records.{constants_of}
use Rattle.sv_orbit.proofs.FirstBounds.{size_of_decimal, relativity_size, sent_limit, sent_size, epochs_size}
use Rattle.sv_orbit.proofs.RootOfMu.{bounded, AreBounded}
use Rattle.sv_orbit.proofs.Values.{zero_value}
use Rattle.sv_orbit.specs.Usable.{AreUsable, HasSolution}
use Rattle.orbit_model.specs.Solution.{HasNearSolution}
use Rattle.sv_orbit.proofs.Solutions.{near_solution_exists, solution_exists}

-- a second of a week
second_size : (n : ℕ) → n ≤ 604799 → IsAtMostInSize (of_whole (pos 604800)) (of_whole (pos n))
second_size n h = (omega (arith, ints), omega (arith, ints))

since_toc : (s toe toc : Rational) → s -ʳ toe +ʳ (toe -ʳ toc) ≈ s -ʳ toc
since_toc s toe toc = equal_r (s ∷ toe ∷ toc ∷ []) [] [] ((va 0 ⊖ va 1) ⊕ (va 1 ⊖ va 2)) (va 0 ⊖ va 2) refl tt

low_end : (n : ℕ) (d : Dec) (most : ℤ) → IsFromTo (pos n) most 0 d → of_whole (pos n) ≤ʳ value_of d
low_end n d most h = h.low

pub usable : (eph : Eph) (world : World) (tag : ℕ) (code : ℤ) → abs_diff tag eph.toe.0 ≤ 72010000000 → pos 0 ≤ℤ code → code ≤ℤ pos (10 ^ 11) →
    AreUsable (constants_of world) (elements_of eph) (sent_at tag code)
usable eph world tag code near low high =
    let are_bounded : AreBounded world.mu world.rel = bounded world.mu world.rel world.known in
    let sent : Rational = sent_at tag code in
    let toe : Rational = seconds eph.toe.0 in
    let toc : Rational = seconds eph.toc.0 in
    let since = sent_size tag eph.toe.0 code near low high in
    let apart = epochs_size eph.toe.0 eph.toc.0 eph.toc_late_enough eph.toc_early_enough in
    record {
      mu_low = of_whole-le (pos 398600441800000) world.mu are_bounded.mu_low;
      mu_high = of_whole-le world.mu (pos 398600500000000) are_bounded.mu_high;
      relativity = relativity_size world.rel are_bounded.rel_low are_bounded.rel_high;
      root_low = eph.root_a_in.low;
      root_high = eph.root_a_in.high;
      ecc_low = zero_low (value_of eph.ecc) eph.ecc_in.low;
      ecc_high = eph.ecc_in.high;
      m0 = size_of_decimal 65 1 eph.m0 eph.m0_in;
      peri = size_of_decimal 65 1 eph.peri eph.peri_in;
      node = size_of_decimal 65 1 eph.node eph.node_in;
      incl = size_of_decimal 65 1 eph.incl eph.incl_in;
      dn = size_of_decimal 1 7 eph.dn eph.dn_in;
      node_rate = size_of_decimal 1 7 eph.node_rate eph.node_rate_in;
      incl_rate = size_of_decimal 1 8 eph.incl_rate eph.incl_rate_in;
      cuc = size_of_decimal 1 3 eph.cuc eph.cuc_in;
      cus = size_of_decimal 1 3 eph.cus eph.cus_in;
      cic = size_of_decimal 1 3 eph.cic eph.cic_in;
      cis = size_of_decimal 1 3 eph.cis eph.cis_in;
      af0 = size_of_decimal 1 2 eph.af0 eph.af0_in;
      af1 = size_of_decimal 1 7 eph.af1 eph.af1_in;
      af2 = size_of_decimal 1 12 eph.af2 eph.af2_in;
      toe_second = second_size eph.toe_second eph.second_in;
      from_toe = size_looser sent_limit (of_whole (pos 7202)) (sent -ʳ toe) (le_pos _ _ (lit≤ tt)) since;
      from_toc = size_looser (sent_limit +ʳ of_whole (pos 7200)) (of_whole (pos 14402)) (sent -ʳ toc) (le_pos _ _ (lit≤ tt))
          (size_along (sent_limit +ʳ of_whole (pos 7200)) (sent -ʳ toe +ʳ (toe -ʳ toc)) (sent -ʳ toc) (since_toc sent toe toc) (size_add sent_limit (of_whole (pos 7200)) (sent -ʳ toe) (toe -ʳ toc) since apart));
    }
  where
    zero_low : (q : Rational) → decimal (pos 0) 5 ≤ʳ q → of_whole (pos 0) ≤ʳ q
    zero_low q h = go q.num (pos q.den) h
      where
        go : (n d : ℤ) → (pos 0 *ℤ d) ≤ℤ (n *ℤ pos (10 ^ 5)) → (pos 0 *ℤ d) ≤ℤ (n *ℤ pos 1)
        go n d h = omega (arith, ints)

pub near : (eph : Eph) (world : World) (tag : ℕ) (code : ℤ) → abs_diff tag eph.toe.0 ≤ 72010000000 → pos 0 ≤ℤ code → code ≤ℤ pos (10 ^ 11) →
    HasNearSolution (constants_of world) (elements_of eph) (sent_at tag code)
near eph world tag code n l h = near_solution_exists (constants_of world) (elements_of eph) (sent_at tag code) (usable eph world tag code n l h)

pub exact : (eph : Eph) (world : World) (tag : ℕ) (code : ℤ) → abs_diff tag eph.toe.0 ≤ 72010000000 → pos 0 ≤ℤ code → code ≤ℤ pos (10 ^ 11) → eph.af2.mant ≡ pos 0 →
    HasSolution (constants_of world) (elements_of eph) (sent_at tag code)
exact eph world tag code n l h e = solution_exists (constants_of world) (elements_of eph) (sent_at tag code) (usable eph world tag code n l h) (zero_value eph.af2 e)
