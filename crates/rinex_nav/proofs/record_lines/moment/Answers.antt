-- A date and a time of the calendar, or none.
use Rattle.std.proofs.Common.{ℕ, Ok, refl, sym, ap, ◌∙◌}
use Rattle.std.specs.declared.result.Result.{Result}
use Rattle.gps_time.specs.declared.Tick.{Tick}
use Rattle.rinex_head.specs.declared.place.Flaw.{Flaw}
use Rattle.rinex_nav.proofs.Moments.{no_moment, a_moment}
use Rattle.rinex_nav.proofs.record_lines.moment.Goals as goal

pub returns-in-Ok : goal.returns-in-Ok
returns-in-Ok c =
    let tick : Tick → Result Tick Flaw = λ t. Ok t in
    sym (a_moment c.args.year c.args.month c.args.day c.args.hour c.args.minute c.args.second (c.in-Ok.ensures.exact.0 refl)
    ∙ ap (λ (n : ℕ). tick (record { 0 = n })) (sym c.in-Ok.ensures.value))

pub returns-in-Err : goal.returns-in-Err
returns-in-Err c = sym (no_moment c.args.year c.args.month c.args.day c.args.hour c.args.minute c.args.second (λ are. absurd (cc (c.in-Err.ensures.exact.1 are))))
