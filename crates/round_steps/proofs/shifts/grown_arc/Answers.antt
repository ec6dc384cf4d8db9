use Rattle.std.proofs.Common.{◌≡◌, ◌≢◌, ◌+◌, ◌^◌, ◌<◌, ℕ, ℤ, pos, length, arith, ap, ◌∙◌, sym, subst, below_more, get_or-set_other, get_or-set_same}
use Rattle.std.proofs.Math.ListN.{length-set}
use Rattle.std.proofs.lemmas.List.Elements.{All-from_get_or}
use Rattle.obs_rows.specs.declared.units.TheConstants.{PHASES}
use Rattle.obs_rows.specs.Ranges.{IsBelow}
use Rattle.round_steps.specs.Shifts.{grown_shift}
use Rattle.round_steps.proofs.StepLaws.{word}
use Rattle.round_steps.proofs.ShiftLaws.{three_are}
use Rattle.round_steps.proofs.shifts.grown_arc.Goals as goal

pub loop-band-preserved : goal.loop-band-preserved
loop-band-preserved c =
    let band : ℕ = c.loop-band.band in
    let grown : ℕ → ℤ = grown_shift c.args.arcs.now c.args.signals.now c.args.numbers.now c.args.k c.args.arc.now in
    let whole : length c.loop-band.shift ≡ PHASES = c.loop-band.invariant.whole in
    let within : band < length c.loop-band.shift = omega (arith, whole) in
    let small : IsBelow (2 ^ 40 + 2 ^ 30) c.grown_shift.result = c.grown_shift.ensures.below (2 ^ 40) c.requires.shifts (omega arith) in
    let same = word c.grown_shift.result (omega (arith, small)) in
    let value = c.grown_shift.ensures.value ∙ ap grown c.phase_of-phase.ensures.signal in
    record {
      whole = rw length-set whole;
      grown = below_more _ band (λ b before. let other : b ≢ band = omega arith in rw get_or-set_other (c.loop-band.invariant.grown b before)) (rw get_or-set_same (same ∙ value));
      below = λ m below some. below_more _ band (λ b before. let other : b ≢ band = omega arith in rw get_or-set_other (c.loop-band.invariant.below m below some b before))
          (rw get_or-set_same (subst (IsBelow (m + 2 ^ 30)) (sym same) (c.grown_shift.ensures.below m below some)));
    }

pub returns-clause-grown : goal.returns-clause-grown
returns-clause-grown c =
    let grown : ℕ → ℤ = grown_shift c.args.arcs.now c.args.signals.now c.args.numbers.now c.args.k c.args.arc.now in
    ap (λ shift. record c.args.arc.now { shift = shift }) (three_are c.loop-band.shift (grown 0) (grown 1) (grown 4) c.loop-band.invariant.whole
    (c.loop-band.invariant.grown 0 (omega arith)) (c.loop-band.invariant.grown 1 (omega arith)) (c.loop-band.invariant.grown 2 (omega arith)))

pub returns-clause-below : goal.returns-clause-below
returns-clause-below c = λ m below some.
    let whole : length c.loop-band.shift ≡ PHASES = c.loop-band.invariant.whole in
    All-from_get_or (IsBelow (m + 2 ^ 30)) c.loop-band.shift (pos 0) (λ b inside. c.loop-band.invariant.below m below some b (omega (arith, whole)))
