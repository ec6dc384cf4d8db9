use Rattle.std.proofs.Common.{◌++◌, ◌∙◌, ◌≤◌, ℕ, List, pos, ap, ap₂, subst, arith}
use Rattle.std.proofs.lemmas.Int.{ints}
use Rattle.std.specs.Int.{abs_diff}
use Rattle.orbit_model.specs.Elements.{Constants, sent_at, elements_of}
use Rattle.orbit_model.specs.Solution.{Quantities, IsNearSolution, HasNearSolution}
use Rattle.sv_orbit.proofs.Ranges.{near}
use Rattle.sv_orbit.specs.Solutions.{HoldsSolution}
use Rattle.report_text.specs.Orbit.{orbit_lines}
use Rattle.report_text.proofs.OrbitLaws.{numbers_hold, numbers_narrow}
use Rattle.job_answers.specs.declared.status.Status.TheVariants.{Done}
use Rattle.job_answers.specs.Endings.{ending}
use Rattle.file_jobs.proofs.orbits.answer_placed.Goals as goal

pub returns-clause-answer : goal.returns-clause-answer
returns-clause-answer c =
    let written = c.in_ok-write_orbit.ensures in
    let box = c.sv_with-held.result in
    let of_record = subst (λ (k : Constants). (q : Quantities) → IsNearSolution k (elements_of c.args.eph.now) (sent_at c.args.tag.0 (pos 0)) q
    → HoldsSolution box q) c.world_of.ensures c.sv_with-held.ensures in
    let chosen = c.requires in
    let in_time : abs_diff c.args.tag.0 c.args.eph.now.toe.0 ≤ 72010000000 = omega (arith, chosen) in
    record {
      box = box;
      of_record = of_record;
      numbers = written.numbers;
      are = written.are;
      holds = record {
        exists = subst (λ (k : Constants). HasNearSolution k (elements_of c.args.eph.now) (sent_at c.args.tag.0 (pos 0))) c.world_of.ensures
            (near c.args.eph.now c.world_of.result c.args.tag.0 (pos 0) in_time (omega (arith, ints)) (omega (arith, ints)));
        every = λ q solves. numbers_hold box written.numbers q written.are (of_record q solves);
      };
      narrow = numbers_narrow box written.numbers written.are;
      end_is = ap₂ (λ (out err : List ℕ). ending Done out err) (written.new_is ∙ ap (λ (before : List ℕ). before ++ orbit_lines written.numbers) c.new-out.ensures.items) c.new.ensures.items;
    }
