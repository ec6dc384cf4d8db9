use Rattle.std.proofs.Common.{◌≡◌, List, subst}
use Rattle.std.specs.Prelude.{String}
use Rattle.std.specs.declared.alloc.Global.{Global}
use Rattle.job_answers.specs.Delivered.{sink_change}
use Rattle.job_answers.specs.Works.{file_work}
use Rattle.command_words.specs.Words.{texts_of}
use Rattle.baseline_app.specs.Runs.{IsStarted}
use Rattle.baseline_app.proofs.top.start.Goals as goal

pub returns-in-Ok-clause-started : goal.returns-in-Ok-clause-started
returns-in-Ok-clause-started g c =
    let work = file_work g.F.Files c.args.files.now c.run.new.files in
    let out = sink_change g.O.Sink c.args.out.now c.run.new.out in
    let err = sink_change g.E.Sink c.args.err.now c.run.new.err in
    let same = (c.run.new.files ≡ c.args.files.now) in
    let started : IsStarted (texts_of c.in-Ok.words.items) work same c.number.result out err =
    subst (λ (words : List (String Global)). IsStarted (texts_of words) work same c.number.result out err) c.deref.ensures.value
    (record {
      status = c.run.result;
      number = c.number.ensures;
      run = c.run.ensures.run;
      files = c.run.ensures.files;
      untouched = c.run.ensures.untouched;
      read = c.run.ensures.read;
      write = c.run.ensures.write;
      steady = c.run.ensures.steady;
      usage = c.run.ensures.usage;
      output = c.run.ensures.output;
      complete = c.run.ensures.complete;
    }) in
    rw c.in-Ok.is started

pub returns-in-Err-clause-no_words : goal.returns-in-Err-clause-no_words
returns-in-Err-clause-no_words g c = λ failed. record { status = c.deliver.result; number = c.number-in-Err.ensures; written = c.deliver.ensures }
