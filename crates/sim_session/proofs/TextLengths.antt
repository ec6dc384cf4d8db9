-- How long the lines of an observation file are.
use Rattle.std.proofs.Common.{◌≡◌, ℕ, ◌+◌, ◌-◌, ◌*◌, ◌/◌, ◌%◌, ◌^◌, ◌<◌, ◌≤◌, List, [], ◌∷◌, length, ℤ, pos, negsuc, ◌<ℤ◌, All, arith, refl, length-append, lit<, lit≤}
use Rattle.std.proofs.lemmas.Int.{ints}
use Rattle.std.proofs.lemmas.List.{length-replicate}
use Rattle.std.proofs.lemmas.List.Elements.{All-head, All-tail}
use Rattle.std.specs.Prelude.{decimal, replicate}
use Rattle.std.proofs.lemmas.Fmt.{length-decimal-le}
use Rattle.decimal_text.specs.Write.{part_text, fixed_text}
use Rattle.sim_session.specs.declared.signals.Signals.{Signals}
use Rattle.sim_session.specs.declared.signals.Tracking.{Tracking}
use Rattle.sim_session.specs.declared.signals.Tracking.TheVariants.{GpsL1L2, GpsL1L2L5, GalileoE1E5a}
use Rattle.sim_session.specs.Columns.{right_in, fixed_in}
use Rattle.sim_session.specs.ObservationText.{version_line, types_line, header_text, epoch_line, satellite_line, satellite_lines, AreInColumns, IsInColumns}

pub length-right_in : (width : ℕ) (text : List ℕ) → length text ≤ width → length (right_in width text) ≡ width
unfolding right_in
length-right_in width text h = omega (arith, length-append (replicate (width - length text) 32) text, length-replicate {A = ℕ} (width - length text) 32)

-- a whole number of at most w digits, a point and three places
pub length-thousandths : (z : ℤ) → IsInColumns z → length (fixed_in 14 z 3) ≡ 14
unfolding fixed_in
length-thousandths (pos n) h = length-right_in 14 (fixed_text (pos n) 3)
    (omega (arith, length-append (decimal (n / 10 ^ 3)) (part_text 3 n), length-decimal-le 10 (n / 10 ^ 3) (lit< tt) (small n (under n h.1)) (tiny n (under n h.1))))
  where
    under : (n : ℕ) → pos n <ℤ pos (10 ^ 13) → n < 10 ^ 13
    under n h = omega (arith, ints)

    small : (n : ℕ) → n < 10 ^ 13 → n / 10 ^ 3 < 10 ^ 10
    small n h = omega arith

    tiny : (n : ℕ) → n < 10 ^ 13 → n / 10 ^ 3 < 2 ^ 64
    tiny n h = omega arith
length-thousandths (negsuc n) h = absurd (omega (arith, ints, h.0))

pub length-second : (s : ℕ) → length (fixed_in 11 (pos (s % 60 * 10000000)) 7) ≡ 11
unfolding fixed_in
length-second s = length-right_in 11 (fixed_text (pos (s % 60 * 10000000)) 7)
    (omega (arith, length-append (decimal (s % 60 * 10000000 / 10 ^ 7)) (part_text 7 (s % 60 * 10000000)), length-decimal-le 2 (s % 60 * 10000000 / 10 ^ 7) (lit< tt) (small s) (tiny s)))
  where
    small : (s : ℕ) → s % 60 * 10000000 / 10 ^ 7 < 10 ^ 2
    small s = omega arith

    tiny : (s : ℕ) → s % 60 * 10000000 / 10 ^ 7 < 2 ^ 64
    tiny s = omega arith

pub length-count : (n : ℕ) → n ≤ 99 → length (fixed_in 3 (pos n) 0) ≡ 3
unfolding fixed_in
length-count n h = length-right_in 3 (fixed_text (pos n) 0) (omega (arith, length-append (decimal (n / 10 ^ 0)) [], length-decimal-le 2 (n / 10 ^ 0) (lit< tt) (small n h) (tiny n h)))
  where
    small : (n : ℕ) → n ≤ 99 → n / 10 ^ 0 < 10 ^ 2
    small n h = omega arith

    tiny : (n : ℕ) → n ≤ 99 → n / 10 ^ 0 < 2 ^ 64
    tiny n h = omega arith

pub length-epoch_line : (s n : ℕ) → n ≤ 99 → length (epoch_line s n) ≡ 36
unfolding epoch_line
length-epoch_line s n h =
    let second = length-second s in
    let count = length-count n h in
    simp (length-append, second, count) refl

-- as many with E1 and E5a as with L1 and L2
pub length-satellite_line : (t : Tracking) (n : ℕ) (s : Signals) → AreInColumns s → length (satellite_line t n s) ≤ 98
unfolding satellite_line
length-satellite_line GpsL1L2 n s h =
    let code = length-thousandths s.code h.code in
    let first_length = length-thousandths s.l1 h.l1 in
    let second_length = length-thousandths s.l2 h.l2 in
    simp (length-append, code, first_length, second_length) (lit≤ tt)
length-satellite_line GpsL1L2L5 n s h =
    let code = length-thousandths s.code h.code in
    let first_length = length-thousandths s.l1 h.l1 in
    let second_length = length-thousandths s.l2 h.l2 in
    let third_length = length-thousandths s.l5 h.l5 in
    simp (length-append, code, first_length, second_length, third_length) (lit≤ tt)
length-satellite_line GalileoE1E5a n s h =
    let code = length-thousandths s.code h.code in
    let first_length = length-thousandths s.l1 h.l1 in
    let third_length = length-thousandths s.l5 h.l5 in
    simp (length-append, code, first_length, third_length) (lit≤ tt)

pub length-satellite_lines : (t : Tracking) (n : ℕ) (sats : List Signals) → All AreInColumns sats → length (satellite_lines t n sats) ≤ 98 * length sats
length-satellite_lines t n [] h = lit≤ tt
length-satellite_lines t n (s ∷ sats) h =
    omega (
      arith,
      length-append (satellite_line t (n + 1) s) (satellite_lines t (n + 1) sats),
      length-satellite_line t (n + 1) s (All-head AreInColumns s sats h),
      length-satellite_lines t (n + 1) sats (All-tail AreInColumns s sats h),
    )

pub length-header_text : (t : Tracking) → length (header_text t) ≡ 474
unfolding header_text version_line types_line
length-header_text GpsL1L2 = refl
length-header_text GpsL1L2L5 = refl
length-header_text GalileoE1E5a = refl
