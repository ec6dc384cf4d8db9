use Rattle.std.proofs.Common.{ℕ, List, ap}
use Rattle.job_answers.specs.declared.status.Status.TheVariants.{Done}
use Rattle.job_answers.specs.Endings.{ending}
use Rattle.sim_jobs.proofs.files.sim.Goals as goal

pub returns : goal.returns
returns c = let session = c.in_ok-made.ensures in record {
  session = c.in_ok-made.made;
  made = record { base = session.base; rover = session.rover; nav = session.nav; truth = session.truth; offset = session.offset };
  text = c.text_of-out.result.items;
  is_file = c.text_of-out.ensures;
  end_is = ap (λ (err : List ℕ). ending Done c.text_of-out.result.items err) c.new.ensures.items;
}
