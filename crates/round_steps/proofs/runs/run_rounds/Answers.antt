use Rattle.std.proofs.Common.{◌≤◌, List, length, sym, ◌∙◌, subst}
use Rattle.std.proofs.lemmas.Result.{IfOk-weaker}
use Rattle.obs_rows.specs.declared.arcs.Arc.{Arc}
use Rattle.obs_rows.specs.Arcs.{free_count}
use Rattle.obs_rows.specs.declared.units.TheConstants.{MOST_FREE_ARCS}
use Rattle.obs_rows.specs.declared.limits.TheConstants.{MOST_ARCS}
use Rattle.round_steps.specs.Runs.{Rules, SettlesAt, IsCoarseEnd}
use Rattle.round_steps.proofs.SameRules.{stayed, settles, ends}
use Rattle.round_steps.proofs.runs.run_rounds.Goals as goal

pub fine_rounds-requires-clause-first : goal.fine_rounds-requires-clause-first
fine_rounds-requires-clause-first g c =
    let old : Rules = g.R.Rounds.rules c.args.rounds.now in
    let settles_at : SettlesAt old c.in-Settled.made c.in-Settled.point = subst (IsCoarseEnd old) c.in-Settled.is c.in_ok-made.ensures.end in
    settles old (g.R.Rounds.rules c.coarse_rounds.new.rounds) c.coarse_rounds.ensures.rules c.in-Settled.made c.in-Settled.point settles_at

pub fine_rounds-requires-clause-few : goal.fine_rounds-requires-clause-few
fine_rounds-requires-clause-few g c =
    subst (λ (arcs : List Arc). length arcs ≤ MOST_ARCS) (c.requires.begins.arcs_are ∙ sym c.coarse_rounds.ensures.rules.arcs) c.requires.few

pub fine_rounds-requires-clause-free : goal.fine_rounds-requires-clause-free
fine_rounds-requires-clause-free g c =
    subst (λ (arcs : List Arc). free_count arcs ≤ MOST_FREE_ARCS) (c.requires.begins.arcs_are ∙ sym c.coarse_rounds.ensures.rules.arcs) c.requires.free

pub returns-in-Settled-clause-end : goal.returns-in-Settled-clause-end
returns-in-Settled-clause-end g c =
    let old : Rules = g.R.Rounds.rules c.args.rounds.now in
    let new : Rules = g.R.Rounds.rules c.coarse_rounds.new.rounds in
    IfOk-weaker c.fine_rounds.result _ _ (ends new old (stayed old new c.coarse_rounds.ensures.rules) c.args.ratio c.args.budget) c.fine_rounds.ensures.end
