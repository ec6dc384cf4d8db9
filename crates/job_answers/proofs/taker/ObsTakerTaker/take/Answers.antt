use Rattle.std.proofs.Common.{◌≡◌, ◌++◌, Option, length, length-append, ap, subst, arith}
use Rattle.std.specs.Prelude.{IfNone}
use Rattle.rinex_obs.specs.Started.{GoesOn}
use Rattle.job_answers.specs.declared.taker.Source.{Source}
use Rattle.job_answers.specs.Taking.{IsKeptOf}
use Rattle.job_answers.proofs.taker.ObsTakerTaker.take.Goals as goal

pub invariant_of-self : goal.invariant_of-self
invariant_of-self c =
    let held = subst (λ (s : Source). IsKeptOf s c.args.self.now.taken) c.in-FirstLine.is c.args.self.now.kept in
    let line = subst (λ (o : Option Source). IfNone o (c.go_on.new.line ≡ c.in-FirstLine.line ++ c.args.piece.now)) c.in-Ok-None.field-0-is c.in-Ok-None.ensures.line in
    let goes = subst (λ (o : Option Source). IfNone o (GoesOn c.go_on.new.line)) c.in-Ok-None.field-0-is c.in-Ok-None.ensures.goes_on in
    let longer = ap length line in
    record { few = c.requires; kept = (omega (arith, longer, length-append c.in-FirstLine.line c.args.piece.now, held.0), goes) }
