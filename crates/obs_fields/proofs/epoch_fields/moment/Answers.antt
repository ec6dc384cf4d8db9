use Rattle.std.proofs.Common.{◌≡◌, ℕ, ℤ, pos, Ok, refl, sym, ap, ◌∙◌, arith, of_z, to_z, w64, unsigned_abs}
use Rattle.std.proofs.lemmas.Int.{ints}
use Rattle.gps_time.specs.declared.Tick.{Tick}
use Rattle.rinex_head.specs.declared.place.Flaw.{Flaw}
use Rattle.std.specs.declared.result.Result.{Result}
use Rattle.obs_fields.specs.EpochFields.{moment_of}
use Rattle.obs_fields.proofs.Moments.{same_part, no_moment, a_moment, below_zero, too_late}
use Rattle.obs_fields.proofs.epoch_fields.moment.Goals as goal

pub returns-then-part-lt0 : goal.returns-then-part-lt0
returns-then-part-lt0 c = rw c.date_column.ensures (sym (below_zero c.args.layout c.args.year c.args.month c.args.day c.args.hour c.args.minute c.args.part (omega (arith, ints))))

pub returns-then-part-gt599999999 : goal.returns-then-part-gt599999999
returns-then-part-gt599999999 c = rw c.date_column.ensures (sym (too_late c.args.layout c.args.year c.args.month c.args.day c.args.hour c.args.minute c.args.part (omega (arith, ints))))

pub returns-in-Ok : goal.returns-in-Ok
returns-in-Ok c =
    let n = unsigned_abs (to_z w64 (of_z w64 c.args.part)) in
    let part_is : c.args.part ≡ pos n = same_part c.args.part c.ranges.part (omega (arith, ints)) in
    let tick : Tick → Result Tick Flaw = λ t. Ok t in
    sym (ap (λ (z : ℤ). moment_of c.args.layout c.args.year c.args.month c.args.day c.args.hour c.args.minute z) part_is
    ∙ a_moment c.args.layout c.args.year c.args.month c.args.day c.args.hour c.args.minute n (c.in-Ok.ensures.exact.0 refl)
    ∙ ap (λ (n : ℕ). tick (record { 0 = n })) (sym c.in-Ok.ensures.value))

pub returns-in-Err : goal.returns-in-Err
returns-in-Err c =
    let n = unsigned_abs (to_z w64 (of_z w64 c.args.part)) in
    let part_is : c.args.part ≡ pos n = same_part c.args.part c.ranges.part (omega (arith, ints)) in
    rw c.date_column.ensures (sym (ap (λ (z : ℤ). moment_of c.args.layout c.args.year c.args.month c.args.day c.args.hour c.args.minute z) part_is
    ∙ no_moment c.args.layout c.args.year c.args.month c.args.day c.args.hour c.args.minute n (λ are. absurd (cc (c.in-Err.ensures.exact.1 are)))))
