-- The exit statuses of the process.
use Rattle.std.specs.Prelude.{ℕ, Bool, if◌then◌else◌}
use Rattle.job_answers.specs.declared.status.Status.{Status}
use Rattle.job_answers.specs.declared.status.Status.TheVariants.{Done, Declined, Usage, Refused, ReadFault, WriteFault, NoMemory}

abbrev pub number_of : Status → ℕ
number_of Done = 0
number_of Declined = 1
number_of Usage = 2
number_of Refused = 3
number_of ReadFault = 4
number_of WriteFault = 5
number_of NoMemory = 6

-- the job has an answer, yes or no
abbrev pub IsVerdictStatus : Status → Type 0
IsVerdictStatus Done = Unit {0}
IsVerdictStatus Declined = Unit {0}
IsVerdictStatus _ = ⊥

-- the status of an answer, by whether what was asked for holds
abbrev pub verdict_status : Bool → Status
verdict_status holds = if holds then Done else Declined

-- The statuses of jobs. A usage error, a fault of a sink and running out of memory come of no job.
abbrev pub IsJobStatus : Status → Type 0
IsJobStatus Done = Unit {0}
IsJobStatus Declined = Unit {0}
IsJobStatus Refused = Unit {0}
IsJobStatus ReadFault = Unit {0}
IsJobStatus _ = ⊥
