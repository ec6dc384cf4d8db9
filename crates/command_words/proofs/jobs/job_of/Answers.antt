use Rattle.std.proofs.Common.{rules, ◌≡◌, ℕ, List, IfOk, IsErrOf, subst, sym}
use Rattle.command_words.specs.declared.fault.WordFault.TheVariants.{Usage}
use Rattle.command_words.specs.declared.jobs.Job.{Job}
use Rattle.command_words.specs.Words.{IsJobOf, name_of_command}
use Rattle.command_words.proofs.CommandLaws.{named_so, no_command}
use Rattle.command_words.proofs.jobs.job_of.Goals as goal

pub returns-in-Some-clause-job : goal.returns-in-Some-clause-job
returns-in-Some-clause-job c =
    let named : c.args.name.now ≡ name_of_command c.in-Some.command = named_so c.args.name.now c.in-Some.command (sym c.in-Some.ensures) in
    subst (λ (n : List ℕ). IfOk c.job_of_command.result (λ j. IsJobOf n c.args.parted.now.plain.items c.args.parted.now.given.items j)) (sym named) (search rules)

pub returns-in-Some-clause-usage : goal.returns-in-Some-clause-usage
returns-in-Some-clause-usage c =
    let named : c.args.name.now ≡ name_of_command c.in-Some.command = named_so c.args.name.now c.in-Some.command (sym c.in-Some.ensures) in
    subst (λ (n : List ℕ). IsErrOf c.job_of_command.result Usage → (j : Job) → IsJobOf n c.args.parted.now.plain.items c.args.parted.now.given.items j → ⊥) (sym named) (search rules)

pub returns-in-None-clause-usage : goal.returns-in-None-clause-usage
returns-in-None-clause-usage c = λ is job asked. no_command c.args.name.now c.args.parted.now.plain.items c.args.parted.now.given.items c.in-None.ensures job asked
