-- A read fault names the file that had it.
use Rattle.std.proofs.Common.{◌≡◌, ◌≢◌, ◌⊎◌, inl, inr, ℕ, List, [], ◌∷◌, ◌++◌, Option, ap}
use Rattle.rinex_head.specs.declared.system.System.{System}
use Rattle.job_answers.specs.Formats.{any_of, HasObservation}
use Rattle.rinex_nav.specs.NavForm.{HasNavFile}
use Rattle.rinex_nav.specs.NavRules.{nav_of}
use Rattle.job_answers.specs.declared.stop.JobStop.{JobStop}
use Rattle.job_answers.specs.declared.stop.JobStop.TheVariants as stop
use Rattle.job_answers.specs.declared.status.Status.TheVariants.{Refused, ReadFault}
use Rattle.job_answers.specs.Answers.{ending_of, IfEnds}
use Rattle.job_answers.specs.Texts.{read_fault_line}
use Rattle.job_answers.specs.Endings.{Ending, ending, EndsByFile, IsRefusal}
use Rattle.job_answers.specs.Works.{FileWork, AreOpened, IsFaultOf}
use Rattle.job_answers.specs.SessionFiles.{StopsAtObs, StopsAtNav}

pub refused_no_fault : (end : Ending) (line : List ℕ) → end ≡ ending Refused [] line → end.status ≢ ReadFault
refused_no_fault end line same = λ is. let status_is = ap (λ (e : Ending). e.status) same in absurd (cc (status_is, is))

-- ---- the line of a fault
pub fault_line : (text_of : List ℕ → Option (List ℕ)) (name : List ℕ) (ends : List ℕ → Ending → Type 0) (end : Ending) → ((text : List ℕ) → ends text end → end.status ≢ ReadFault)
    → EndsByFile text_of name ends end → end.status ≡ ReadFault → end.err ≡ read_fault_line name
fault_line text_of name ends end none (inl by_text) is = absurd (none by_text.text by_text.ends_so is)
fault_line text_of name ends end none (inr (inl large)) is = absurd (refused_no_fault end _ large.end_is is)
fault_line text_of name ends end none (inr (inr fault)) is = ap (λ (e : Ending). e.err) fault

pub obs_fault_line : (system : System) (text_of : List ℕ → Option (List ℕ)) (name : List ℕ) (end : Ending) → StopsAtObs system text_of name end → end.status ≡ ReadFault → end.err ≡ read_fault_line name
obs_fault_line system text_of name end stops is =
    fault_line text_of name (IsRefusal (any_of system) (HasObservation system) name) end (λ text refusal. refused_no_fault end _ refusal.end_is) stops is

pub nav_fault_line : (system : System) (text_of : List ℕ → Option (List ℕ)) (name : List ℕ) (end : Ending) → StopsAtNav system text_of name end → end.status ≡ ReadFault → end.err ≡ read_fault_line name
nav_fault_line system text_of name end stops is =
    fault_line text_of name (IsRefusal (nav_of system) (HasNavFile system) name) end (λ text refusal. refused_no_fault end _ refusal.end_is) stops is

-- a fault of a file names it
pub fault_at : (why : JobStop) (work : FileWork) (names earlier : List (List ℕ)) (name : List ℕ) (later : List (List ℕ)) (stops : Ending → Type 0) → names ≡ earlier ++ name ∷ later
    → AreOpened earlier work.openings work.left.openings ⊎ AreOpened (earlier ++ name ∷ []) work.openings work.left.openings
    → ((end : Ending) → stops end → end.status ≡ ReadFault → end.err ≡ read_fault_line name) → IfEnds why stops → (work.sure name → IfEnds why (λ end. end.status ≢ ReadFault))
    → IfEnds why (IsFaultOf work names)
fault_at (stop.Ended answer) work names earlier name later stops among opened line given never = λ is. record {
  earlier = earlier;
  name = name;
  later = later;
  among = among;
  opened = opened;
  line_is = line (ending_of answer) given is;
  unsure = λ s. never s is;
}
fault_at stop.NoMemory work names earlier name later stops among opened line given never = tt
