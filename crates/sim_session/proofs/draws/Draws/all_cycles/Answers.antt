use Rattle.std.proofs.Common.{◌≡◌, ℕ, Bool, ◌+◌, ◌*◌, List, ℤ, All, ap, ap₂, sym, subst, ◌∙◌, arith, le_antisymm}
use Rattle.std.proofs.lemmas.List.Elements.{All-push}
use Rattle.sim_session.specs.Sequence.{state_after, drawn_within}
use Rattle.sim_session.specs.Values.{l5_cycles, cycles_from, base_cycles, rover_cycles, truth_of, first_of, AreSmall}
use Rattle.sim_session.proofs.Steps.{counted, one_more}
use Rattle.sim_session.specs.declared.drawn.TheConstants.{MOST_CYCLES}
use Rattle.sim_session.proofs.draws.Draws.all_cycles.Goals as goal

-- the rover's draws are two further on, and that on L5 one
further_on : (c : List ℤ) (seed sats : ℕ) (l5 : Bool) (k : ℕ) → c ≡ cycles_from l5 seed (5 + 4 * k + 1 + 1) (5 + 4 * sats + 2 * k + 1) → c ≡ rover_cycles seed sats l5 k
further_on c seed sats l5 k e =
    let first_count_is : 5 + 4 * k + 1 + 1 ≡ 7 + 4 * k = omega arith in
    let later_count_is : 5 + 4 * sats + 2 * k + 1 ≡ 6 + 4 * sats + 2 * k = omega arith in
    e ∙ ap₂ (λ (i j : ℕ). cycles_from l5 seed i j) first_count_is later_count_is

pub loop-k-preserved : goal.loop-k-preserved
loop-k-preserved c =
    let satellite = c.loop-k._k in
    let sats = c.args.sats in
    let with_third = c.args.l5 in
    let now = c.loop-k.invariant in
    let base = c.cycles-base in
    let rover = c.cycles-rover in
    let is_base = λ (seed : ℕ) (e : c.args.self.now.state ≡ state_after seed 5). base.ensures.value seed (5 + 4 * satellite) (5 + 4 * sats + 2 * satellite) (now.state seed e) (now.later seed e) in
    let is_rover = λ (seed : ℕ) (e : c.args.self.now.state ≡ state_after seed 5). further_on rover.result seed sats with_third satellite
    (rover.ensures.value seed (5 + 4 * satellite + 1 + 1) (5 + 4 * sats + 2 * satellite + 1) (base.ensures.moves seed (5 + 4 * satellite) (now.state seed e))
    (base.ensures.later_moves seed (5 + 4 * sats + 2 * satellite) (now.later seed e))) in
    record {
      state = λ seed e. counted rover.new.self.state seed (5 + 4 * satellite + 1 + 1 + 1 + 1) (5 + 4 * (satellite + 1)) (omega arith)
          (rover.ensures.moves seed (5 + 4 * satellite + 1 + 1) (base.ensures.moves seed (5 + 4 * satellite) (now.state seed e)));
      later = λ seed e. counted rover.new.later.state seed (5 + 4 * sats + 2 * satellite + 1 + 1) (5 + 4 * sats + 2 * (satellite + 1)) (omega arith)
          (rover.ensures.later_moves seed (5 + 4 * sats + 2 * satellite + 1) (base.ensures.later_moves seed (5 + 4 * sats + 2 * satellite) (now.later seed e)));
      base = λ seed e. c.in_ok-push.ensures.items ∙ one_more (base_cycles seed sats with_third) satellite c.loop-k.all.base.items base.result (now.base seed e) (is_base seed e);
      rover = λ seed e. c.in_ok-push-2.ensures.items ∙ one_more (rover_cycles seed sats with_third) satellite c.loop-k.all.rover.items rover.result (now.rover seed e) (is_rover seed e);
      truth = λ seed e. c.in_ok-push-3.ensures.items ∙ one_more (truth_of seed sats with_third) satellite c.loop-k.all.truth.items c.difference.result (now.truth seed e)
          (c.difference.ensures
          (drawn_within MOST_CYCLES seed (7 + 4 * satellite)) (drawn_within MOST_CYCLES seed (7 + 4 * satellite + 1)) (l5_cycles with_third seed (6 + 4 * sats + 2 * satellite))
          (drawn_within MOST_CYCLES seed (5 + 4 * satellite)) (drawn_within MOST_CYCLES seed (5 + 4 * satellite + 1)) (l5_cycles with_third seed (5 + 4 * sats + 2 * satellite)) (is_rover seed e) (is_base seed e));
      base_size = subst (λ (t : List (List ℤ)). All AreSmall t) (sym c.in_ok-push.ensures.items) (All-push AreSmall c.loop-k.all.base.items base.result now.base_size base.ensures.size);
      rover_size = subst (λ (t : List (List ℤ)). All AreSmall t) (sym c.in_ok-push-2.ensures.items) (All-push AreSmall c.loop-k.all.rover.items rover.result now.rover_size rover.ensures.size);
    }

pub returns-clause-base : goal.returns-clause-base
returns-clause-base c = λ seed e. c.loop-k.invariant.base seed e
    ∙ ap (λ (n : ℕ). first_of (base_cycles seed c.args.sats c.args.l5) n) (le_antisymm c.loop-k.auto._k-end c.loop-k-test.false)

pub returns-clause-rover : goal.returns-clause-rover
returns-clause-rover c = λ seed e. c.loop-k.invariant.rover seed e
    ∙ ap (λ (n : ℕ). first_of (rover_cycles seed c.args.sats c.args.l5) n) (le_antisymm c.loop-k.auto._k-end c.loop-k-test.false)

pub returns-clause-truth : goal.returns-clause-truth
returns-clause-truth c = λ seed e. c.loop-k.invariant.truth seed e
    ∙ ap (λ (n : ℕ). first_of (truth_of seed c.args.sats c.args.l5) n) (le_antisymm c.loop-k.auto._k-end c.loop-k-test.false)
