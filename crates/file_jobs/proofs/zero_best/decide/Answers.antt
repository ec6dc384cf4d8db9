use Rattle.file_jobs.proofs.Bounds.{small_diffs}
use Rattle.file_jobs.proofs.zero_best.decide.Goals as goal

pub verdict_on-requires-clause-diffs : goal.verdict_on-requires-clause-diffs
verdict_on-requires-clause-diffs c = small_diffs c.diffs.result.now c.diffs.ensures.in_range
