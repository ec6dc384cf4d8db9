use Rattle.std.proofs.Common.{◌≡◌, ◌<◌, ℕ, ℤ, List, length, get_or, IsTrue, to_z, of_z, rules, refl, sym, ◌∙◌, subst, below_more}
use Rattle.std.specs.Int.{w128}
use Rattle.std.proofs.lemmas.List.{get_or_default}
use Rattle.obs_rows.specs.Signals.{is_phase}
use Rattle.sim_jobs.specs.Matches.{found, wanted}
use Rattle.std.proofs.lemmas.Int.{to_z-of_z}
use Rattle.sim_jobs.proofs.matches.agrees_with.Goals as goal

pub loop-signal-preserved : goal.loop-signal-preserved
loop-signal-preserved c =
    let signals : List ℕ = c.args.signals.now in
    let signal_place : ℕ = c.loop-signal.signal-index in
    let signal : ℕ = get_or signals signal_place 0 in
    let inside : signal_place < length signals = search rules in
    let cycles : ℕ → ℤ = found c.args.arcs.now signals c.args.z.now c.args.k c.args.arc.now c.args.datum.now in
    let is_wanted : ℕ → ℤ → Type 0 = λ t n. n ≡ wanted c.args.made.now.of_arc c.args.made.now.of_datum t in
    let cycle_as_made : ℕ → Type 0 = λ t. IsTrue (is_phase t) → is_wanted t (cycles t) in
    let word : to_z w128 (of_z w128 c.found-cycles.result) ≡ cycles signal = to_z-of_z w128 c.found-cycles.result (record { sfits = c.found-cycles.type_inv }) ∙ c.found-cycles.ensures in
    let here : cycle_as_made signal = λ phase. subst (is_wanted signal) word (c.if-not-is_as_made.ensures.0 refl phase) in
    below_more (λ j. (d : ℕ) → cycle_as_made (get_or signals j d)) signal_place c.loop-signal.invariant (λ d. subst cycle_as_made (sym (get_or_default signals signal_place d 0 inside)) here)
