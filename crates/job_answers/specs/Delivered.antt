-- What is written of an answer, whatever the job.
use Rattle.std.specs.Prelude.{◌≡◌, ◌⊎◌, ℕ, Bool, List, Some}
use Rattle.std.specs.declared.option.Option.{Option}
use Rattle.std.specs.Io.KnownBytes.{Appends}
use Rattle.line_source.specs.declared.Sink.{Ghosts}
use Rattle.line_source.specs.Causes.{StopsAtFault}
use Rattle.line_source.specs.Reports.{AppendsPrefix}
use Rattle.job_answers.specs.declared.status.Status.{Status}
use Rattle.job_answers.specs.declared.status.Status.TheVariants.{WriteFault}
use Rattle.job_answers.specs.Statuses.{IsVerdictStatus}
use Rattle.job_answers.specs.Texts.{write_fault_line}
use Rattle.job_answers.specs.Endings.{Ending}

-- The bytes that a sink's calls answered to have taken, before and now, which are always known; what it held and holds, where it
-- reports that; its count of faults before and now, and whether its last call failed.
pub record SinkChange : Type 0 where
  pub old : Option (List ℕ)
  pub new : Option (List ℕ)
  pub held : Option (List ℕ)
  pub holds : Option (List ℕ)
  pub before : ℕ
  pub now : ℕ
  pub failed : Bool

abbrev pub sink_change : {S : Type 0} → Ghosts S → S → S → SinkChange
sink_change sink old new = record {
  old = Some (sink.taken old);
  new = Some (sink.taken new);
  held = sink.contents old;
  holds = sink.contents new;
  before = sink.faults old;
  now = sink.faults new;
  failed = sink.has_failed new;
}

-- the sink has taken the text, and had no fault
pub record GainsWhole (sink : SinkChange) (text : List ℕ) : Type 0 where
  pub whole : Appends sink.old sink.new text
  pub held : Appends sink.held sink.holds text
  pub steady : sink.now ≡ sink.before

-- The sink has taken a first part of the text, and then had one fault. Nothing was tried after it.
pub record GainsPart (sink : SinkChange) (text : List ℕ) : Type 0 where
  pub prefix : AppendsPrefix sink.old sink.new text
  pub held : AppendsPrefix sink.held sink.holds text
  pub stops : StopsAtFault sink.before sink.now sink.failed

abbrev pub GainsUnlessFault : SinkChange → List ℕ → Type 0
GainsUnlessFault sink text = GainsWhole sink text ⊎ GainsPart sink text

-- Both texts were written. Only a line about a failure may be cut off, by a fault of err.
pub record EndsWritten (end : Ending) (result : Status) (out err : SinkChange) : Type 0 where
  pub same : result ≡ end.status
  pub out_whole : GainsWhole out end.out
  pub err_gains : GainsUnlessFault err end.err
  pub err_whole : IsVerdictStatus end.status → GainsWhole err end.err

-- out had a fault, where a verdict's text was wanted whole, which was reported on err, once
pub record EndsByOut (end : Ending) (result : Status) (out err : SinkChange) : Type 0 where
  pub fault : result ≡ WriteFault
  pub verdict : IsVerdictStatus end.status
  pub out_part : GainsPart out end.out
  pub err_gains : GainsUnlessFault err write_fault_line

-- err had a fault, where its text was wanted whole
pub record EndsByErr (end : Ending) (result : Status) (out err : SinkChange) : Type 0 where
  pub fault : result ≡ WriteFault
  pub verdict : IsVerdictStatus end.status
  pub out_whole : GainsWhole out end.out
  pub err_part : GainsPart err end.err

-- what is written of an ending, out first
abbrev pub IsDelivered : Ending → Status → SinkChange → SinkChange → Type 0
IsDelivered end result out err = EndsWritten end result out err ⊎ (EndsByOut end result out err ⊎ EndsByErr end result out err)
