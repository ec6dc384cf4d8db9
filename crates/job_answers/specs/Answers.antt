-- What the program's own answers stand for.
use Rattle.std.specs.Prelude.{Result, Ok, Err}
use Rattle.job_answers.specs.declared.output.JobOutput.{JobOutput}
use Rattle.job_answers.specs.declared.stop.JobStop.{JobStop}
use Rattle.job_answers.specs.declared.stop.JobStop.TheVariants.{Ended, NoMemory}
use Rattle.job_answers.specs.Endings.{Ending, ending}

abbrev pub ending_of : JobOutput → Ending
ending_of a = ending a.status a.out.items a.err.items

-- what holds of the end of a job that stops, and of one that stops or not; running out of memory is free
abbrev pub IfEnds : JobStop → (Ending → Type 0) → Type 0
IfEnds (Ended a) P = P (ending_of a)
IfEnds NoMemory P = Unit {0}

abbrev pub IfStopped : {T : Type 0} → Result T JobStop → (Ending → Type 0) → Type 0
IfStopped (Ok x) P = Unit {0}
IfStopped (Err stop) P = IfEnds stop P

abbrev pub IfEnded : Result JobOutput JobStop → (Ending → Type 0) → Type 0
IfEnded (Ok a) P = P (ending_of a)
IfEnded (Err stop) P = IfEnds stop P
