use Rattle.std.proofs.Common.{◌≡◌, ◌∙◌, List, ℕ, Some, ap, sym, subst}
use Rattle.sim_session.specs.Texts.{IsBaseText, IsRoverText, IsNavigationText}
use Rattle.sim_jobs.proofs.SameWords.{one_navigation, base_differs, rover_differs}
use Rattle.baseline_app.proofs.laws.one_session_law.Goals as goal

pub returns-clause-session : goal.returns-clause-session
returns-clause-session c = λ seed epochs sats bands system one other third text_of base rover nav base_told rover_told nav_told. record {
  session = record (base.session) { rover = rover.session.rover; nav = nav.session.nav };
  made = record { base = base.made.base; rover = rover.made.rover; nav = nav.made.nav; truth = base.made.truth; offset = base.made.offset };
  base_told = base_told ∙ ap Some base.is_file;
  rover_told = rover_told ∙ ap Some rover.is_file;
  nav_told = nav_told ∙ ap Some nav.is_file;
}

pub returns-clause-nav : goal.returns-clause-nav
returns-clause-nav c = λ seed epochs sats bands system fixed one other nav run.
    let text : run.made.session.nav.items ≡ nav.text =
    one_navigation sats system run.made.session.nav.items nav.text run.made.made.nav (subst (λ (t : List ℕ). IsNavigationText sats system t) (sym nav.is_file) nav.made.nav) in
    run.made.nav_told ∙ ap Some text

pub returns-clause-base : goal.returns-clause-base
returns-clause-base c = λ seed epochs sats bands system fixed one other base run.
    base_differs seed epochs sats bands system base.text run.made.session.base.items
    (subst (λ (t : List ℕ). IsBaseText seed epochs sats bands system t) (sym base.is_file) base.made.base) run.made.made.base

pub returns-clause-rover : goal.returns-clause-rover
returns-clause-rover c = λ seed epochs sats bands system fixed one other rover run.
    rover_differs seed epochs sats bands system rover.text run.made.session.rover.items
    (subst (λ (t : List ℕ). IsRoverText seed epochs sats bands system t) (sym rover.is_file) rover.made.rover) run.made.made.rover
