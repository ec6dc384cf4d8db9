use Rattle.std.proofs.Common.{inl, inr}
use Rattle.baseline_app.proofs.Completes.{run_complete, run_says, run_steady, run_usage, run_write}
use Rattle.baseline_app.proofs.top.run.Goals as goal

pub returns-clause-write : goal.returns-clause-write
returns-clause-write g c = run_write _ _ _ _ _ c.write_answer.ensures.run

pub returns-clause-steady : goal.returns-clause-steady
returns-clause-steady g c = run_steady _ _ _ _ _ c.write_answer.ensures.run

pub returns-clause-usage : goal.returns-clause-usage
returns-clause-usage g c = run_usage _ _ _ _ _ c.write_answer.ensures.run

pub returns-clause-output : goal.returns-clause-output
returns-clause-output g c = λ job asked verdict. run_says _ _ job _ _ _ c.write_answer.ensures.run asked verdict

pub returns-clause-complete : goal.returns-clause-complete
returns-clause-complete g c = λ job asked readable quiet.
    run_complete job _ _ _ _ _ c.write_answer.ensures.run asked readable (elim (quiet) [
      | inl sure ↦ (c.write_answer.ensures.files job asked).sure sure
      | inr stays ↦ λ e. stays (c.write_answer.ensures.read e)
    ])
