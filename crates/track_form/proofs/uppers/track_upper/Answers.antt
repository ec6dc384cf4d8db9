use Rattle.std.proofs.Common.{refl}
use Rattle.std.specs.List.{AllZip}
use Rattle.obs_rows.specs.Signals.{fine_signals}
use Rattle.fix_decide.specs.Widths.{IsWide}
use Rattle.fix_decide.proofs.Wide.{on_err}
use Rattle.track_form.specs.Uppers.{IsSomeWide}
use Rattle.track_form.proofs.Found.{over_track}
use Rattle.track_form.proofs.uppers.track_upper.Goals as goal

pub returns-in_err-sum-clause-wide : goal.returns-in_err-sum-clause-wide
returns-in_err-sum-clause-wide c = on_err c.from_residual.result
    (over_track (λ ar ss ps. IsSomeWide ar ss c.args.z.now ps c.args.moves.now) c.args.track.now.arcs c.as_slice.result.now (fine_signals c.args.track.now.signals) (fine_signals c.args.track.now.signals)
    c.args.track.now.pairs c.as_slice-2.result.now
    c.as_slice.ensures refl c.as_slice-2.ensures c.in_err-sum.ensures.wide)

pub returns-clause-bounded : goal.returns-clause-bounded
returns-clause-bounded c =
    over_track (λ ar ss ps. AllZip (λ p m. IsWide ar ss c.args.z.now m p → ⊥) ps c.args.moves.now) c.args.track.now.arcs c.as_slice.result.now (fine_signals c.args.track.now.signals)
    (fine_signals c.args.track.now.signals) c.args.track.now.pairs c.as_slice-2.result.now
    c.as_slice.ensures refl c.as_slice-2.ensures c.in_ok-sum.ensures.bounded
