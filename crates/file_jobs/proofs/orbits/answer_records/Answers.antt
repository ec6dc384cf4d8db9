use Rattle.std.proofs.Common.{inl}
use Rattle.std.proofs.lemmas.Result.{IfOk-weaker}
use Rattle.file_jobs.specs.Orbits.{IsPlacedBy, IsFound}
use Rattle.job_answers.specs.Answers.{ending_of}
use Rattle.file_jobs.proofs.orbits.answer_records.Goals as goal

pub returns-in-Some-clause-answer : goal.returns-in-Some-clause-answer
returns-in-Some-clause-answer c =
    IfOk-weaker c.answer_placed.result (λ a. IsPlacedBy c.args.system _ c.args.tag.0 (ending_of a)) (λ a. IsFound c.args.file.now.fit c.args.system c.args.sat c.args.tag.0 (ending_of a))
    (λ a placed. inl (record { eph = _; chosen = c.in-Some.ensures; placed = placed })) c.answer_placed.ensures.answer
