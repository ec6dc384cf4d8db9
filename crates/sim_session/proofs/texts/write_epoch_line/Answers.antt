use Rattle.std.proofs.Common.{◌≡◌, ◌*◌, ◌%◌, ◌<◌, ◌^◌, ℕ, pos, ◌*ℤ◌, w64, to_z, of_z, arith, append_assoc}
use Rattle.std.proofs.lemmas.Int.{ints}
use Rattle.gps_time.specs.declared.TheConstants.{TICKS_IN_SECOND}
use Rattle.sim_session.specs.ObservationText.{epoch_line}
use Rattle.sim_session.proofs.texts.write_epoch_line.Goals as goal

second : (s : ℕ) → to_z w64 (of_z w64 (to_z w64 (s % 60) *ℤ to_z w64 TICKS_IN_SECOND)) ≡ pos (s % 60 * 10000000)
second s = omega (arith, ints)

count : (n : ℕ) → n < 2 ^ 32 → to_z w64 n ≡ pos n
count n h = omega (arith, ints)

pub returns : goal.returns
unfolding epoch_line
returns c =
    let second_is = second c.args.seconds in
    let count_is = count c.args.sats c.ranges.sats.fits in
    rw (
      c.in_ok-extend_from_slice-4.ensures.items,
      c.in_ok-push_fixed-2.ensures,
      c.in_ok-extend_from_slice-3.ensures.items,
      c.in_ok-push_fixed.ensures,
      c.in_ok-push_digits-2.ensures,
      c.in_ok-extend_from_slice-2.ensures.items,
      c.in_ok-push_digits.ensures,
      c.in_ok-extend_from_slice.ensures.items,
      second_is,
      count_is,
    ) (simp append_assoc)
