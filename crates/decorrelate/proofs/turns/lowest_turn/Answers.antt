use Rattle.std.proofs.Common.{ℕ, ◌+◌, ◌-◌, ◌<◌, ◌≤◌, arith, refl, sym, subst, ◌∙◌}
use Rattle.decorrelate.specs.States.{State}
use Rattle.decorrelate.specs.Turning.{IsPossible, IsTurned}
use Rattle.decorrelate.specs.TurnedStates.{state_of}
use Rattle.decorrelate.proofs.ReducingLaws.{none_up_to}
use Rattle.decorrelate.proofs.turns.lowest_turn.Goals as goal

before : (k n : ℕ) → 1 ≤ k → k < n → k - 1 + 1 < n
before k n h g = omega arith

pub turn-requires : goal.turn-requires
turn-requires c = record {
  place = subst (λ (n : ℕ). c.loop-next.next - 1 + 1 < n) (sym c.loop-next.invariant.size) (before c.loop-next.next c.args.now.now.change.size (omega arith) c.loop-next-test.true);
}

pub returns-then-turn-clause-next : goal.returns-then-turn-clause-next
returns-then-turn-clause-next c =
    let n : ℕ = c.args.now.now.change.size in
    let state : State = state_of c.args.now.now in
    let next_state : State = state_of c.turn.new.now in
    let j : ℕ = c.loop-next.next - 1 in
    let is_turned = c.if-turn.ensures.turned refl in
    let possible : IsPossible n j state = subst (λ (k : ℕ). IsPossible k j state) c.loop-next.invariant.size
    (subst (λ (x : State). IsPossible c.loop-next.now.change.size j x) c.loop-next.invariant.same is_turned.possible) in
    let turned : IsTurned n j state next_state = subst (λ (k : ℕ). IsTurned k j state next_state) c.loop-next.invariant.size
    (subst (λ (x : State). IsTurned c.loop-next.now.change.size j x next_state) c.loop-next.invariant.same is_turned.turned) in
    λ e. record {
      size = is_turned.size ∙ c.loop-next.invariant.size;
      next = record {
        place = j;
        next = record {
          within = before c.loop-next.next n (omega arith) c.loop-next-test.true;
          possible = possible;
          lowest = λ i h. c.loop-next.invariant.none i (omega arith);
          turned = turned;
        };
      };
    }

pub loop-next-preserved : goal.loop-next-preserved
loop-next-preserved c =
    let n : ℕ = c.args.now.now.change.size in
    let state : State = state_of c.args.now.now in
    let j : ℕ = c.loop-next.next - 1 in
    let not : IsPossible n j state → ⊥ = λ p. c.if-turn.ensures.impossible refl (subst (λ (k : ℕ). IsPossible k j (state_of c.loop-next.now)) (sym c.loop-next.invariant.size)
    (subst (λ (x : State). IsPossible n j x) (sym c.loop-next.invariant.same) p)) in
    record {
      size = c.if-turn.ensures.size ∙ c.loop-next.invariant.size;
      same = c.if-turn.ensures.stays refl ∙ c.loop-next.invariant.same;
      none = none_up_to n c.loop-next.next state c.loop-next.invariant.none not;
    }
