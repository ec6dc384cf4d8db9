use Rattle.std.proofs.Common.{inl, arith, refl, sym, append-nil, [], ◌∷◌}
use Rattle.std.proofs.lemmas.Result.{err_from_is_err_and}
use Rattle.job_answers.proofs.EndingLaws.{ends_weaker}
use Rattle.job_answers.proofs.FileLaws.{obs_known, nav_known, at_rover, at_third, refused_at, unchanged_twice, read_along}
use Rattle.job_answers.specs.SessionFiles.{StopsAtObs, StopsAtFiles}
use Rattle.line_source.specs.Givens.{known_text}
use Rattle.job_answers.specs.Works.{file_work}
use Rattle.job_answers.proofs.KnownLaws.{known_from, from_front, from_back, none_given, one_given, one_more_given, one_gives, next_gives, fewer_gives}
use Rattle.line_source.proofs.OpeningLaws.{fewer_first, next_first}
use Rattle.job_answers.proofs.WorkLaws.{none_opened, one_more, at_most_one_more}
use Rattle.job_answers.proofs.FaultLaws.{obs_fault_line, nav_fault_line, fault_at}
use Rattle.job_answers.proofs.session_reading.read_session.Goals as goal

pub returns-in_err-records-clause-sure : goal.returns-in_err-records-clause-sure
returns-in_err-records-clause-sure g c = λ all.
    let answered = err_from_is_err_and c.from_residual-in_err-records.result c.from_residual-in_err-records.ensures.1 in
    rw (answered.1, answered.2)
    (c.in_err-records.ensures.sure (c.in_ok-rover_file.ensures.uses.sure_names _ (c.in_ok-base_file.ensures.uses.sure_names _ (all 2 c.args.nav.now (omega arith)))))

pub returns-in_err-base_file-clause-refused : goal.returns-in_err-base_file-clause-refused
returns-in_err-base_file-clause-refused g c =
    let answered = err_from_is_err_and c.from_residual.result c.from_residual.ensures.1 in
    let stop = c.in_err-base_file.field-0.0 in
    let files = c.args.files.now in
    let given = g.F.Files.given in
    let work = file_work g.F.Files files c.obs_file.new.files in
    rw (answered.1, answered.2)
    (ends_weaker stop _ _
    (λ end refused. refused_at work (g.F.Files.text_of files) (c.args.base.now ∷ c.args.rover.now ∷ c.args.nav.now ∷ []) [] c.args.base.now (c.args.rover.now ∷ c.args.nav.now ∷ []) (given files) end
    refl (λ name. refl) (none_given (given files) (given files) (sym (append-nil (given files)))) refused) c.in_err-base_file.ensures.refused)

pub returns-in_err-rover_file-clause-refused : goal.returns-in_err-rover_file-clause-refused
returns-in_err-rover_file-clause-refused g c =
    let answered = err_from_is_err_and c.from_residual-in_err-rover_file.result c.from_residual-in_err-rover_file.ensures.1 in
    let stop = c.in_err-rover_file.field-0.0 in
    let files = c.args.files.now in
    let one = c.obs_file.new.files in
    let given = g.F.Files.given in
    let b = c.in_ok-base_file.ensures.read in
    let work = file_work g.F.Files files c.obs_file-2.new.files in
    rw (answered.1, answered.2)
    (ends_weaker stop _ _
    (λ end refused. refused_at work (g.F.Files.text_of one) (c.args.base.now ∷ c.args.rover.now ∷ c.args.nav.now ∷ []) (c.args.base.now ∷ []) c.args.rover.now (c.args.nav.now ∷ []) (given one) end
    refl c.in_ok-base_file.ensures.uses.texts (one_given c.args.base.now b.text (given files) (given one) b.given) refused) c.in_err-rover_file.ensures.refused)

pub returns-in_err-records-clause-refused : goal.returns-in_err-records-clause-refused
returns-in_err-records-clause-refused g c =
    let answered = err_from_is_err_and c.from_residual-in_err-records.result c.from_residual-in_err-records.ensures.1 in
    let stop = c.in_err-records.field-0.0 in
    let files = c.args.files.now in
    let one = c.obs_file.new.files in
    let two = c.obs_file-2.new.files in
    let given = g.F.Files.given in
    let b = c.in_ok-base_file.ensures.read in
    let r = c.in_ok-rover_file.ensures.read in
    let work = file_work g.F.Files files c.nav_file.new.files in
    rw (answered.1, answered.2)
    (ends_weaker stop _ _
    (λ end refused. refused_at work (g.F.Files.text_of two) (c.args.base.now ∷ c.args.rover.now ∷ c.args.nav.now ∷ []) (c.args.base.now ∷ c.args.rover.now ∷ []) c.args.nav.now [] (given two) end
    refl (unchanged_twice _ _ _ c.in_ok-base_file.ensures.uses.texts c.in_ok-rover_file.ensures.uses.texts)
    (one_more_given (c.args.base.now ∷ []) c.args.rover.now r.text (given files) (given one) (given two) (one_given c.args.base.now b.text (given files) (given one) b.given) r.given) refused)
    c.in_err-records.ensures.refused)

pub returns-in_err-base_file-clause-opened : goal.returns-in_err-base_file-clause-opened
returns-in_err-base_file-clause-opened g c = fewer_first c.args.base.now (c.args.rover.now ∷ c.args.nav.now ∷ []) _ _ c.in_err-base_file.ensures.uses.opened

pub returns-in_err-rover_file-clause-opened : goal.returns-in_err-rover_file-clause-opened
returns-in_err-rover_file-clause-opened g c =
    next_first c.args.base.now (c.args.rover.now ∷ c.args.nav.now ∷ []) _ _ _ c.in_ok-base_file.ensures.reads.opens
    (fewer_first c.args.rover.now (c.args.nav.now ∷ []) _ _ c.in_err-rover_file.ensures.uses.opened)

pub returns-in_err-records-clause-opened : goal.returns-in_err-records-clause-opened
returns-in_err-records-clause-opened g c =
    next_first c.args.base.now (c.args.rover.now ∷ c.args.nav.now ∷ []) _ _ _ c.in_ok-base_file.ensures.reads.opens
    (next_first c.args.rover.now (c.args.nav.now ∷ []) _ _ _ c.in_ok-rover_file.ensures.reads.opens c.in_err-records.ensures.uses.opened)

pub returns-clause-opened : goal.returns-clause-opened
returns-clause-opened g c =
    next_first c.args.base.now (c.args.rover.now ∷ c.args.nav.now ∷ []) _ _ _ c.in_ok-base_file.ensures.reads.opens
    (next_first c.args.rover.now (c.args.nav.now ∷ []) _ _ _ c.in_ok-rover_file.ensures.reads.opens c.in_ok-records.ensures.uses.opened)

pub returns-in_err-base_file-clause-named : goal.returns-in_err-base_file-clause-named
returns-in_err-base_file-clause-named g c =
    let answered = err_from_is_err_and c.from_residual.result c.from_residual.ensures.1 in
    let stop = c.in_err-base_file.field-0.0 in
    rw (answered.1, answered.2)
    (fault_at stop _ _ [] c.args.base.now (c.args.rover.now ∷ c.args.nav.now ∷ []) _ refl
    (at_most_one_more [] c.args.base.now _ _ _ (none_opened _) c.in_err-base_file.ensures.uses.opened)
    (λ end stops. obs_fault_line c.args.system _ c.args.base.now end stops) (c.in_err-base_file.ensures.stopped (g.F.Files.text_of c.args.files.now) (λ name bytes is. inl is)) c.in_err-base_file.ensures.sure)

pub returns-in_err-rover_file-clause-named : goal.returns-in_err-rover_file-clause-named
returns-in_err-rover_file-clause-named g c =
    let answered = err_from_is_err_and c.from_residual-in_err-rover_file.result c.from_residual-in_err-rover_file.ensures.1 in
    let stop = c.in_err-rover_file.field-0.0 in
    rw (answered.1, answered.2)
    (fault_at stop _ _ (c.args.base.now ∷ []) c.args.rover.now (c.args.nav.now ∷ []) _ refl
    (at_most_one_more (c.args.base.now ∷ []) c.args.rover.now _ _ _ (one_more [] c.args.base.now _ _ _ (none_opened _) c.in_ok-base_file.ensures.reads.opens) c.in_err-rover_file.ensures.uses.opened)
    (λ end stops. obs_fault_line c.args.system _ c.args.rover.now end stops) (c.in_err-rover_file.ensures.stopped (g.F.Files.text_of c.obs_file.new.files) (λ name bytes is. inl is)) (λ s. c.in_err-rover_file.ensures.sure (c.in_ok-base_file.ensures.uses.sure_names _ s)))

pub returns-in_err-records-clause-named : goal.returns-in_err-records-clause-named
returns-in_err-records-clause-named g c =
    let answered = err_from_is_err_and c.from_residual-in_err-records.result c.from_residual-in_err-records.ensures.1 in
    let stop = c.in_err-records.field-0.0 in
    rw (answered.1, answered.2)
    (fault_at stop _ _ (c.args.base.now ∷ c.args.rover.now ∷ []) c.args.nav.now [] _ refl
    (at_most_one_more (c.args.base.now ∷ c.args.rover.now ∷ []) c.args.nav.now _ _ _
    (one_more (c.args.base.now ∷ []) c.args.rover.now _ _ _ (one_more [] c.args.base.now _ _ _ (none_opened _) c.in_ok-base_file.ensures.reads.opens) c.in_ok-rover_file.ensures.reads.opens)
    c.in_err-records.ensures.uses.opened)
    (λ end stops. nav_fault_line c.args.system _ c.args.nav.now end stops) (c.in_err-records.ensures.stopped (g.F.Files.text_of c.obs_file-2.new.files) (λ name bytes is. inl is))
    (λ s. c.in_err-records.ensures.sure (c.in_ok-rover_file.ensures.uses.sure_names _ (c.in_ok-base_file.ensures.uses.sure_names _ s))))

pub returns-in_err-base_file-clause-stopped : goal.returns-in_err-base_file-clause-stopped
returns-in_err-base_file-clause-stopped g c =
    let answered = err_from_is_err_and c.from_residual.result c.from_residual.ensures.1 in
    let stop = c.in_err-base_file.field-0.0 in
    let files = c.args.files.now in
    let one = c.obs_file.new.files in
    let told = g.F.Files.text_of in
    let given = g.F.Files.given in
    let known = known_text (told files) (given files) (given one) in
    rw (answered.1, answered.2)
    (ends_weaker stop (StopsAtObs c.args.system known c.args.base.now) (StopsAtFiles c.args.system known c.args.base.now c.args.rover.now c.args.nav.now) (λ end stops. inl stops)
    (c.in_err-base_file.ensures.stopped known (known_from (told files) (given files) (given one))))

pub returns-in_err-rover_file-clause-stopped : goal.returns-in_err-rover_file-clause-stopped
returns-in_err-rover_file-clause-stopped g c =
    let answered = err_from_is_err_and c.from_residual-in_err-rover_file.result c.from_residual-in_err-rover_file.ensures.1 in
    let stop = c.in_err-rover_file.field-0.0 in
    let files = c.args.files.now in
    let one = c.obs_file.new.files in
    let two = c.obs_file-2.new.files in
    let told = g.F.Files.text_of in
    let given = g.F.Files.given in
    let known = known_text (told files) (given files) (given two) in
    let from = known_from (told files) (given files) (given two) in
    let b = c.in_ok-base_file.ensures.read in
    let rest = c.in_err-rover_file.ensures.uses.gives in
    let from_rover = from_back known (told files) (told one) (given files) (given one) (given two) _ c.in_ok-base_file.ensures.uses.texts b.given.now_is from in
    let base_is = obs_known c.args.system known (told files) c.args.base.now (given files) (given one) c.in_ok-base_file.base_file
    (from_front known (told files) (given files) (given one) (given two) rest.more rest.now_is from) b in
    rw (answered.1, answered.2)
    (ends_weaker stop _ _
    (λ end stops. at_rover c.args.system known c.args.base.now c.args.rover.now c.args.nav.now c.in_ok-base_file.base_file end base_is stops)
    (c.in_err-rover_file.ensures.stopped known from_rover))

pub returns-in_err-records-clause-stopped : goal.returns-in_err-records-clause-stopped
returns-in_err-records-clause-stopped g c =
    let answered = err_from_is_err_and c.from_residual-in_err-records.result c.from_residual-in_err-records.ensures.1 in
    let stop = c.in_err-records.field-0.0 in
    let files = c.args.files.now in
    let one = c.obs_file.new.files in
    let two = c.obs_file-2.new.files in
    let told = g.F.Files.text_of in
    let given = g.F.Files.given in
    let three = c.nav_file.new.files in
    let known = known_text (told files) (given files) (given three) in
    let from = known_from (told files) (given files) (given three) in
    let b = c.in_ok-base_file.ensures.read in
    let r = c.in_ok-rover_file.ensures.read in
    let last = c.in_err-records.ensures.uses.gives in
    let rest = next_gives c.args.rover.now r.text (c.args.nav.now ∷ []) (given one) (given two) (given three) r.given last in
    let from_rover = from_back known (told files) (told one) (given files) (given one) (given three) _ c.in_ok-base_file.ensures.uses.texts b.given.now_is from in
    let from_nav = from_back known (told one) (told two) (given one) (given two) (given three) _ c.in_ok-rover_file.ensures.uses.texts r.given.now_is from_rover in
    let base_is = obs_known c.args.system known (told files) c.args.base.now (given files) (given one) c.in_ok-base_file.base_file
    (from_front known (told files) (given files) (given one) (given three) rest.more rest.now_is from) b in
    let rover_is = obs_known c.args.system known (told one) c.args.rover.now (given one) (given two) c.in_ok-rover_file.rover_file
    (from_front known (told one) (given one) (given two) (given three) last.more last.now_is from_rover) r in
    rw (answered.1, answered.2)
    (ends_weaker stop _ _
    (λ end stops. at_third c.args.system known c.args.base.now c.args.rover.now c.args.nav.now c.in_ok-base_file.base_file c.in_ok-rover_file.rover_file end base_is rover_is stops)
    (c.in_err-records.ensures.stopped known from_nav))

pub returns-clause-read : goal.returns-clause-read
returns-clause-read g c =
    let files = c.args.files.now in
    let one = c.obs_file.new.files in
    let two = c.obs_file-2.new.files in
    let told = g.F.Files.text_of in
    let given = g.F.Files.given in
    let three = c.nav_file.new.files in
    let known = known_text (told files) (given files) (given three) in
    let from = known_from (told files) (given files) (given three) in
    let b = c.in_ok-base_file.ensures.read in
    let r = c.in_ok-rover_file.ensures.read in
    let n = c.in_ok-records.ensures.read in
    let last = one_gives c.args.nav.now n.text [] (given two) (given three) n.given in
    let rest = next_gives c.args.rover.now r.text (c.args.nav.now ∷ []) (given one) (given two) (given three) r.given last in
    let from_rover = from_back known (told files) (told one) (given files) (given one) (given three) _ c.in_ok-base_file.ensures.uses.texts b.given.now_is from in
    let from_nav = from_back known (told one) (told two) (given one) (given two) (given three) _ c.in_ok-rover_file.ensures.uses.texts r.given.now_is from_rover in
    record {
      base_is = obs_known c.args.system known (told files) c.args.base.now (given files) (given one) c.in_ok-base_file.base_file
          (from_front known (told files) (given files) (given one) (given three) rest.more rest.now_is from) b;
      rover_is = obs_known c.args.system known (told one) c.args.rover.now (given one) (given two) c.in_ok-rover_file.rover_file
          (from_front known (told one) (given one) (given two) (given three) last.more last.now_is from_rover) r;
      nav_is = nav_known c.args.system known (told two) c.args.nav.now (given two) (given three) _ from_nav n;
    }

pub returns-clause-whole : goal.returns-clause-whole
returns-clause-whole g c =
    let files = c.args.files.now in
    let one = c.obs_file.new.files in
    let two = c.obs_file-2.new.files in
    let told = g.F.Files.text_of in
    let given = g.F.Files.given in
    let three = c.nav_file.new.files in
    let b = c.in_ok-base_file.ensures.read in
    let r = c.in_ok-rover_file.ensures.read in
    let n = c.in_ok-records.ensures.read in
    record {
      opened = one_more (c.args.base.now ∷ c.args.rover.now ∷ []) c.args.nav.now _ _ _
          (one_more (c.args.base.now ∷ []) c.args.rover.now _ _ _ (one_more [] c.args.base.now _ _ _ (none_opened _) c.in_ok-base_file.ensures.reads.opens) c.in_ok-rover_file.ensures.reads.opens)
          c.in_ok-records.ensures.reads.opens;
      last = read_along _ _ _ c.args.nav.now (unchanged_twice _ _ _ c.in_ok-base_file.ensures.uses.texts c.in_ok-rover_file.ensures.uses.texts) c.in_ok-records.ensures.reads.whole;
      whole = one_more_given (c.args.base.now ∷ c.args.rover.now ∷ []) c.args.nav.now n.text (given files) (given two) (given three)
          (one_more_given (c.args.base.now ∷ []) c.args.rover.now r.text (given files) (given one) (given two) (one_given c.args.base.now b.text (given files) (given one) b.given) r.given) n.given;
    }

pub returns-in_err-base_file-clause-gives : goal.returns-in_err-base_file-clause-gives
returns-in_err-base_file-clause-gives g c = fewer_gives c.args.base.now (c.args.rover.now ∷ c.args.nav.now ∷ []) _ _ c.in_err-base_file.ensures.uses.gives

pub returns-in_err-rover_file-clause-gives : goal.returns-in_err-rover_file-clause-gives
returns-in_err-rover_file-clause-gives g c =
    next_gives c.args.base.now _ (c.args.rover.now ∷ c.args.nav.now ∷ []) _ _ _ c.in_ok-base_file.ensures.read.given
    (fewer_gives c.args.rover.now (c.args.nav.now ∷ []) _ _ c.in_err-rover_file.ensures.uses.gives)

pub returns-in_err-records-clause-gives : goal.returns-in_err-records-clause-gives
returns-in_err-records-clause-gives g c =
    next_gives c.args.base.now _ (c.args.rover.now ∷ c.args.nav.now ∷ []) _ _ _ c.in_ok-base_file.ensures.read.given
    (next_gives c.args.rover.now _ (c.args.nav.now ∷ []) _ _ _ c.in_ok-rover_file.ensures.read.given c.in_err-records.ensures.uses.gives)

pub returns-clause-gives : goal.returns-clause-gives
returns-clause-gives g c =
    next_gives c.args.base.now _ (c.args.rover.now ∷ c.args.nav.now ∷ []) _ _ _ c.in_ok-base_file.ensures.read.given
    (next_gives c.args.rover.now _ (c.args.nav.now ∷ []) _ _ _ c.in_ok-rover_file.ensures.read.given c.in_ok-records.ensures.uses.gives)
