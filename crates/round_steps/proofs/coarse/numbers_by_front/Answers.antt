use Rattle.std.proofs.Common.{ℕ, List, ℤ, refl, sym, ap, ◌∙◌, subst, inl, inr}
use Rattle.std.proofs.lemmas.Bool.{false≢true}
use Rattle.integer_form.specs.FloatPoint.{item, HasWide}
use Rattle.lower_form.specs.CleanSteps.{IsClean}
use Rattle.round_steps.proofs.StepLaws.{refused_elimination}
use Rattle.round_steps.proofs.FrontNumbers.{HasNumbers, numbers_of_front, reported_by_front}
use Rattle.round_steps.proofs.coarse.numbers_by_front.Goals as goal

pub refill_front-requires-clause-clean : goal.refill_front-requires-clause-clean
refill_front-requires-clause-clean c = subst (λ (k : ℕ). IsClean k c.args.tables.now.steps) (sym c.requires.no_integers) c.args.tables.now.clean

pub refill_front-requires-clause-columns : goal.refill_front-requires-clause-columns
refill_front-requires-clause-columns c = c.args.tables.now.columns ∙ sym c.requires.no_integers

pub invariant_of-tables : goal.invariant_of-tables
invariant_of-tables c = record {
  clean = subst (λ (k : ℕ). IsClean k c.refill_front.new.steps) c.requires.no_integers c.refill_front.ensures.clean;
  columns = c.refill_front.ensures.columns ∙ c.requires.no_integers;
}

pub returns-in-Err-clause-refused : goal.returns-in-Err-clause-refused
returns-in-Err-clause-refused c = λ last. refused_elimination last c.args.session.now c.in-Err.fault c.tail_of.result c.tail_of.ensures
    (record { normal = c.args.tables.now.normal; of_rows = c.requires.of_rows; reported = reported_by_front c.args.tables.now.normal c.in-Err.fault c.requires.no_integers c.in-Err.ensures.refused })

pub returns-in-Err-baseline_of-clause-refused : goal.returns-in-Err-baseline_of-clause-refused
returns-in-Err-baseline_of-clause-refused c =
    let has_numbers : HasNumbers c.args.tables.now.normal _ = numbers_of_front c.args.tables.now.normal c.refill_front.new.front c.in-Ok.ensures.front c.requires.no_integers in
    λ last. inr (inl (
      c.in-Err-baseline_of.ensures.place,
      record {
        form = has_numbers.form;
        of_rows = record { normal = c.args.tables.now.normal; of_rows = c.requires.of_rows; lowered = has_numbers.lowered };
        wide = subst HasWide (sym has_numbers.numbers) (c.in-Err-baseline_of.ensures.refused.0 refl);
      },
    ))

pub returns-in-Ok-baseline_of-clause-float : goal.returns-in-Ok-baseline_of-clause-float
returns-in-Ok-baseline_of-clause-float c =
    let has_numbers : HasNumbers c.args.tables.now.normal _ = numbers_of_front c.args.tables.now.normal c.refill_front.new.front c.in-Ok.ensures.front c.requires.no_integers in
    record {
      form = has_numbers.form;
      of_rows = record { normal = c.args.tables.now.normal; of_rows = c.requires.of_rows; lowered = has_numbers.lowered };
      narrow = λ w. false≢true (c.in-Ok-baseline_of.ensures.refused.1 (subst HasWide has_numbers.numbers w));
      numbers = λ j. c.padded.ensures j ∙ ap (λ (x : List ℤ). item x j) (c.in-Ok-baseline_of.ensures.ok ∙ sym has_numbers.numbers);
    }
