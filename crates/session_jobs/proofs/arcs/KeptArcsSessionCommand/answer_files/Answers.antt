use Rattle.std.proofs.Common.{◌≡◌, ℕ, List, ◌++◌, ap, ◌∙◌}
use Rattle.job_answers.specs.Endings.{ending}
use Rattle.job_answers.specs.declared.status.Status.TheVariants.{Done}
use Rattle.report_text.specs.ArcLines.{arcs_text}
use Rattle.session_jobs.proofs.arcs.KeptArcsSessionCommand.answer_files.Goals as goal

pub returns-clause-answered : goal.returns-clause-answered
returns-clause-answered c =
    let begun = c.in_ok-begun.begun in
    let begun_holds = c.in_ok-begun.ensures in
    let cut = c.in_ok-cut.cut in
    let are = c.in_ok-cut.ensures.screened in
    let text = arcs_text c.args.options.now.system cut.arcs.kept cut.arcs.short in
    let out : c.write_arcs.new.out.items ≡ text = c.in_ok-write_arcs.ensures ∙ ap (λ (before : List ℕ). before ++ text) c.new-out.ensures.items in
    record {
      verdict = tt;
      answer = record {
        kept = cut.arcs.kept;
        short = cut.arcs.short;
        are = record {
          position = begun.position;
          position_is = begun_holds.position;
          signals = begun.signals;
          signals_are = begun_holds.signals;
          sparse = begun_holds.sparse;
          taken = begun.taken.items;
          taken_are = begun_holds.taken;
          used = cut.screened.used;
          used_are = are.used_are;
          kept_are = are.kept_are;
          datums = are.datums;
        };
        end_is = λ i. ending Done (out i) (c.new.ensures.items i);
      };
    }
