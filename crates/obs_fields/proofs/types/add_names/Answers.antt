use Rattle.std.proofs.Common.{refl, ◌≡◌, length, true, false, [], ◌∷◌, sym, ap, ◌∙◌, arith, length-append, ℕ, List}
use Rattle.obs_fields.specs.Layouts.{name_in}
use Rattle.obs_fields.specs.Types.{is_listed}
use Rattle.obs_fields.proofs.TypeLists.{names_again, names_more, names_done, name_step-high}
use Rattle.obs_fields.proofs.types.add_names.Goals as goal

pub returns-then-has-clause-err : goal.returns-then-has-clause-err
returns-then-has-clause-err c =
    let already_listed : is_listed c.names.names (name_in c.args.layout c.args.line.now c.names.first) ≡ true = rw (← c.name_at-name.ensures) (sym c.has.ensures ∙ c.if-has.true) in
    rw c.types_flaw.ensures (c.names.invariant.value ∙ names_again c.args.layout c.args.line.now c.names.first c.names.left c.names.names c.names-test.true already_listed)

pub names-preserved : goal.names-preserved
names-preserved c =
    let not_listed : is_listed c.names.names (name_in c.args.layout c.args.line.now c.names.first) ≡ false = rw (← c.name_at-name.ensures) (sym c.has.ensures ∙ c.if-has.false) in
    let longer = ap (λ (l : List (List ℕ)). length l) c.push.ensures ∙ length-append c.names.names (c.name_at-name.result ∷ []) in
    record {
      value = c.names.invariant.value ∙ names_more c.args.layout c.args.line.now c.names.first c.names.left c.names.names c.names-test.true not_listed
          ∙ rw (c.push.ensures, c.name_at-name.ensures, c.name_step-step.ensures) refl;
      room = omega (arith, longer);
      near = omega (arith, name_step-high c.args.layout, c.name_step-step.ensures);
      from = omega arith;
    }

pub returns-clause-ok : goal.returns-clause-ok
returns-clause-ok c = c.names.invariant.value ∙ names_done c.args.layout c.args.line.now c.names.first c.names.left c.names.names c.names-test.false
