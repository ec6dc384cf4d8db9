-- What files hold after others were read, and what files that are admitted end with.
use Rattle.std.proofs.Common.{◌≡◌, ◌≢◌, inl, inr, ◌<◌, ℕ, List, [], ◌∷◌, ◌++◌, Option, length, IfSome, IfOk, Result, Ok, Err, sym, subst, ◌∙◌}
use Rattle.std.specs.Prelude.{Some}
use Rattle.line_source.specs.Openings.{Unread, unread, IsReadToEnd}
use Rattle.obs_store.specs.declared.file.ObsFile.{ObsFile}
use Rattle.rinex_head.specs.declared.system.System.{System}
use Rattle.rinex_head.specs.declared.place.TextFault.{TextFault}
use Rattle.job_answers.specs.Formats.{any_of, IsObservation, HasObservation}
use Rattle.job_answers.specs.Taking.{IsAnswer}
use Rattle.rinex_nav.specs.NavForm.{IsNavFile, HasNavFile}
use Rattle.rinex_nav.specs.NavRules.{nav_of}
use Rattle.line_source.specs.Lines.{lines_of}
use Rattle.line_source.specs.Reports.{Unchanged}
use Rattle.line_source.specs.Pieces.{IsTakenWhole}
use Rattle.line_source.specs.Givens.{Given, GivesWhole, IsKnownFrom}
use Rattle.line_source.specs.declared.transfer.TheConstants.{MAX_FILE}
use Rattle.job_answers.specs.declared.status.Status.TheVariants.{ReadFault}
use Rattle.job_answers.specs.declared.stop.JobStop.{JobStop}
use Rattle.job_answers.specs.Answers.{IfStopped}
use Rattle.job_answers.specs.Statuses.{IsJobStatus}
use Rattle.job_answers.specs.Endings.{Ending, IsTextOf, EndsUnloaded, IsRefusal, IsAdmitted, HasTooManyBytes, IsRefusedFile, IsRefusalOf}
use Rattle.job_answers.specs.Works.{FileWork, AreGivenWhole, IsRefusalAmong}
use Rattle.job_answers.proofs.EndingLaws.{admitted_ends, job_status_at, file_status, stopped_weaker, refusal_whole}
use Rattle.job_answers.proofs.KnownLaws.{whole_known}
use Rattle.eph_store.specs.File.{Records}
use Rattle.eph_store.specs.Records.{AreFit}
use Rattle.job_answers.specs.SessionFiles.{IsObsOf, IsNavOf, IsObsGiven, IsNavGiven, StopsAtObs, StopsAtNav, StopsAtFiles}

-- a file that was given is one whose text is known
pub obs_known : (system : System) (known told : List ℕ → Option (List ℕ)) (name : List ℕ) (before now : List Given) (file : ObsFile) → IsKnownFrom known told before now
    → IsObsGiven system told name before now file → IsObsOf system known name file
obs_known system known told name before now file from given = record {
  text = given.text;
  is = record { told_is = whole_known known told before now name given.text from given.is.told_is given.given; fits = given.is.fits };
  is_file = given.is_file;
}

pub nav_known : (system : System) (known told : List ℕ → Option (List ℕ)) (name : List ℕ) (before now : List Given) (records : Records) → IsKnownFrom known told before now
    → IsNavGiven system told name before now records → IsNavOf system known name records
nav_known system known told name before now records from given = record {
  text = given.text;
  is = record { told_is = whole_known known told before now name given.text from given.is.told_is given.given; fits = given.is.fits };
  is_file = given.is_file;
  are_fit = given.are_fit;
}

-- ---- statuses
stop_status : (system : System) (text_of : List ℕ → Option (List ℕ)) (name : List ℕ) (end : Ending) → StopsAtObs system text_of name end → IsJobStatus end.status
stop_status system text_of name end stops = file_status text_of name (IsRefusal (any_of system) (HasObservation system) name) end (λ text refusal. job_status_at end _ refusal.end_is tt) stops

nav_stop_status : (system : System) (text_of : List ℕ → Option (List ℕ)) (name : List ℕ) (end : Ending) → StopsAtNav system text_of name end → IsJobStatus end.status
nav_stop_status system text_of name end stops = file_status text_of name (IsRefusal (nav_of system) (HasNavFile system) name) end (λ text refusal. job_status_at end _ refusal.end_is tt) stops

pub files_status : (system : System) (text_of : List ℕ → Option (List ℕ)) (base rover nav : List ℕ) (end : Ending) → StopsAtFiles system text_of base rover nav end → IsJobStatus end.status
files_status system text_of base rover nav end (inl stops) = stop_status system text_of base end stops
files_status system text_of base rover nav end (inr (inl stops)) = stop_status system text_of rover end stops.stops
files_status system text_of base rover nav end (inr (inr stops)) = nav_stop_status system text_of nav end stops.stops

-- ---- files that are admitted are none at which it stops
pub no_stop : (system : System) (text_of : List ℕ → Option (List ℕ)) (base rover nav : List ℕ) (end : Ending) → IsAdmitted text_of base (HasObservation system)
    → IsAdmitted text_of rover (HasObservation system) → IsAdmitted text_of nav (HasNavFile system) → end.status ≢ ReadFault
    → StopsAtFiles system text_of base rover nav end → ⊥
no_stop system text_of base rover nav end b r n no_fault (inl stops) =
    (admitted_ends text_of base (HasObservation system) (IsRefusal (any_of system) (HasObservation system) base) end b no_fault stops).none b.file
no_stop system text_of base rover nav end b r n no_fault (inr (inl stops)) =
    (admitted_ends text_of rover (HasObservation system) (IsRefusal (any_of system) (HasObservation system) rover) end r no_fault stops.stops).none r.file
no_stop system text_of base rover nav end b r n no_fault (inr (inr stops)) =
    (admitted_ends text_of nav (HasNavFile system) (IsRefusal (nav_of system) (HasNavFile system) nav) end n no_fault stops.stops).none n.file

-- ---- reading one after the other
pub answer_as : (system of : System) (text : List ℕ) (answer : Result ObsFile TextFault) → system ≡ of → IsAnswer of text answer → IsAnswer system text answer
answer_as system of text answer same is = subst (λ (s : System). IsAnswer s text answer) (sym same) is

-- A file of which all was taken is what its reader answered of each text for which the taker stands, and stops a job where
-- that is a refusal.
pub taken_is : (system : System) (told : List ℕ → Option (List ℕ)) (name : List ℕ) (before now : List Given) (taken : ℕ) (stands_for : List ℕ → Type 0) (answer : Result ObsFile TextFault) (r : Result ObsFile JobStop)
    → IsTakenWhole (told name) name before now taken stands_for → ((text : List ℕ) → stands_for text → IsAnswer system text answer)
    → ((s : System) (text : List ℕ) → IsAnswer s text answer → IfOk r (λ file. IsObservation s (lines_of text) file)) → IfOk r (λ file. IsObsGiven system told name before now file)
taken_is system told name before now taken stands_for answer (Ok file) whole answers is = record {
  text = whole.text;
  is = record { told_is = whole.told_is; fits = whole.fits };
  given = whole.given;
  is_file = is system whole.text (answers whole.text whole.stands);
}
taken_is system told name before now taken stands_for answer (Err stop) whole answers is = tt

pub taken_stops : (system : System) (known told : List ℕ → Option (List ℕ)) (name : List ℕ) (before now : List Given) (taken : ℕ) (stands_for : List ℕ → Type 0) (answer : Result ObsFile TextFault) (r : Result ObsFile JobStop)
    → IsKnownFrom known told before now → IsTakenWhole (told name) name before now taken stands_for → ((text : List ℕ) → stands_for text → IsAnswer system text answer)
    → ((s : System) (text : List ℕ) → IsAnswer s text answer → IfStopped r (λ end. IsRefusal (any_of s) (HasObservation s) name text end)) → IfStopped r (λ end. StopsAtObs system known name end)
taken_stops system known told name before now taken stands_for answer r from whole answers stops = stopped_weaker r _ _ (λ end refusal. inl (record {
  text = whole.text;
  is = record { told_is = whole_known known told before now name whole.text from whole.told_is whole.given; fits = whole.fits };
  ends_so = refusal;
})) (stops system whole.text (answers whole.text whole.stands))

-- and its refusal is that of a file that was read to its end
pub taken_refused : (system : System) (told : List ℕ → Option (List ℕ)) (openings : List (List ℕ × ℕ)) (bytes : ℕ → Option (List ℕ)) (name : List ℕ) (before now : List Given) (taken : ℕ)
    (stands_for : List ℕ → Type 0) (answer : Result ObsFile TextFault) (r : Result ObsFile JobStop)
    → IsTakenWhole (told name) name before now taken stands_for → IsReadToEnd told (unread openings bytes now) name → ((text : List ℕ) → stands_for text → IsAnswer system text answer)
    → ((s : System) (text : List ℕ) → IsAnswer s text answer → IfStopped r (λ end. IsRefusal (any_of s) (HasObservation s) name text end)) → IfStopped r (IsRefusalOf told before (unread openings bytes now) name)
taken_refused system told openings bytes name before now taken stands_for answer r whole read answers stops =
    stopped_weaker r _ _ (λ end refusal. refusal_whole told before (unread openings bytes now) name whole.text end read whole.given refusal) (stops system whole.text (answers whole.text whole.stands))

-- the text of the satellites' file, which stops a job where it is refused
pub nav_stops : {X : Type 0} (system : System) (known : List ℕ → Option (List ℕ)) (name text : List ℕ) (r : Result X JobStop)
    → IsTextOf known name text → IfStopped r (λ end. IsRefusal (nav_of system) (HasNavFile system) name text end) → IfStopped r (λ end. StopsAtNav system known name end)
nav_stops system known name text r is stops = stopped_weaker r _ _ (λ end refusal. inl (record { text = text; is = is; ends_so = refusal })) stops

-- a file that can't be had stops it
pub obs_unloaded : {X : Type 0} (system : System) (known : List ℕ → Option (List ℕ)) (name : List ℕ) (r : Result X JobStop) → IfStopped r (λ end. EndsUnloaded known name end)
    → IfStopped r (λ end. StopsAtObs system known name end)
obs_unloaded system known name r stops = stopped_weaker r _ _ (λ end unloaded. inr unloaded) stops

pub at_rover : (system : System) (text_of : List ℕ → Option (List ℕ)) (base rover nav : List ℕ) (b : ObsFile) (end : Ending)
    → IsObsOf system text_of base b → StopsAtObs system text_of rover end → StopsAtFiles system text_of base rover nav end
at_rover system text_of base rover nav b end is stops = inr (inl (record { base_file = b; base_is = is; stops = stops }))

pub at_third : (system : System) (text_of : List ℕ → Option (List ℕ)) (base rover nav : List ℕ) (b r : ObsFile) (end : Ending)
    → IsObsOf system text_of base b → IsObsOf system text_of rover r → StopsAtNav system text_of nav end → StopsAtFiles system text_of base rover nav end
at_third system text_of base rover nav b r end is also stops = inr (inr (record { base_file = b; base_is = is; rover_file = r; rover_is = also; stops = stops }))

-- ---- a refusal among the files
pub read_along : (text_of later : List ℕ → Option (List ℕ)) (left : Unread) (name : List ℕ) → Unchanged text_of later → IsReadToEnd later left name → IsReadToEnd text_of left name
read_along text_of later left name same read = record {
  earlier = read.earlier;
  id = read.id;
  last = read.last;
  at_end = read.at_end;
  whole = subst (λ (o : Option (List ℕ)). IfSome o (λ text. left.bytes read.id ≡ Some [])) (same name) read.whole;
  met = read.met;
}

refused_along : (text_of later : List ℕ → Option (List ℕ)) (before : List Given) (left : Unread) (name : List ℕ) (end : Ending) → Unchanged text_of later
    → IsRefusedFile later before left name end → IsRefusedFile text_of before left name end
refused_along text_of later before left name end same (inl refused) =
    inl (record { at = refused.at; end_is = refused.end_is; read = read_along text_of later left name same refused.read; text = refused.text; given = refused.given })
refused_along text_of later before left name end same (inr large) =
    let here : HasTooManyBytes text_of name = subst (λ (o : Option (List ℕ)). IfSome o (λ bytes. MAX_FILE < length bytes)) (same name) large.large.large in
    inr (record { large = record { large = here; end_is = large.large.end_is }; given = large.given })

-- the refusal of a file, after others were read, is that of one among all
pub refused_at : (work : FileWork) (later : List ℕ → Option (List ℕ)) (names earlier : List (List ℕ)) (name : List ℕ) (rest : List (List ℕ)) (given : List Given) (end : Ending)
    → names ≡ earlier ++ name ∷ rest → Unchanged work.told later → AreGivenWhole earlier work.given given → IsRefusalOf later given work.left name end → IsRefusalAmong work names end
refused_at work later names earlier name rest given end among same whole refused = λ is. record {
  earlier = earlier;
  name = name;
  later = rest;
  among = among;
  given = given;
  whole = whole;
  refused = refused_along work.told later given work.left name end same (refused is);
}

pub unchanged_twice : (text_of later last : List ℕ → Option (List ℕ)) → Unchanged text_of later → Unchanged later last → Unchanged text_of last
unchanged_twice text_of later last same again = λ name. again name ∙ same name

-- the records of a file that was given
pub nav_is : (system : System) (told : List ℕ → Option (List ℕ)) (name text : List ℕ) (before now : List Given) (r : Result Records JobStop) → IsTextOf told name text → GivesWhole name text before now
    → IfOk r (λ file. IsNavFile system (lines_of text) file.all) → IfOk r (λ file. AreFit file.all file.fit) → IfOk r (λ file. IsNavGiven system told name before now file)
nav_is system told name text before now (Ok file) is given so fit = record { text = text; is = is; given = given; is_file = so; are_fit = fit }
nav_is system told name text before now (Err why) is given so fit = tt
