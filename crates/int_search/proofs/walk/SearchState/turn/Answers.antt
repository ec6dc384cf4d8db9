use Rattle.std.proofs.Common.{rules, ◌≡◌, ◌<◌, ◌+◌, ◌-◌, ◌*◌, ℕ, List, length, drop, ℤ, arith, ap, sym, ◌∙◌, subst}
use Rattle.std.proofs.lemmas.Int.{ints}
use Rattle.int_search.specs.Suffixes.{SearchForm}
use Rattle.int_search.specs.declared.stack.Level.{Level}
use Rattle.int_search.specs.VisitedSuffixes.{IsOverBudget}
use Rattle.int_search.proofs.TraceLaws.{stopped_more}
use Rattle.int_search.specs.SearchedForm.{search_form}
use Rattle.int_search.specs.SearchStates.{search_image, IsWalk, Visits}
use Rattle.int_search.specs.declared.walk.SearchState.{SearchState}
use Rattle.int_search.proofs.SearchStateLaws.{walk_end, walk_over, walk_wide, left_less, drop_length, reach_entry}
use Rattle.int_search.proofs.walk.SearchState.turn.Goals as goal

some_of : (n m : ℕ) → n ≡ m → (n ≡ 0 → ⊥) → 0 < m
some_of n m e h = omega arith

pub returns-then-len-eq0 : goal.returns-then-len-eq0
returns-then-len-eq0 c = walk_end (search_form c.args.form.now) (search_image c.args.form.now c.args.map.now) c.args.self.now c.args.budget c.requires.walk
    (sym c.len.ensures ∙ c.if-len-eq0.true) c.requires.visits

pub returns-then-self-budget : goal.returns-then-self-budget
returns-then-self-budget c = subst (λ (m : ℕ). IsOverBudget (search_form c.args.form.now) (search_image c.args.form.now c.args.map.now) m) c.if-self-budget.true
    (walk_over (search_form c.args.form.now) (search_image c.args.form.now c.args.map.now) c.args.self.now c.in-Some.reach c.requires.walk c.in-Some.ensures)

pub returns-then-is_large : goal.returns-then-is_large
returns-then-is_large c =
    let entry_small = reach_entry (search_form c.args.form.now) c.args.self.now c.in-Some.reach c.in-Some.ensures in
    let is_large_entry = c.is_large.ensures.yes (rw c.if-is_large.true (search rules)) in
    let spent = c.if-self-budget.false in
    let visits = c.requires.visits in
    walk_wide (search_form c.args.form.now) (search_image c.args.form.now c.args.map.now) c.args.self.now c.in-Some.reach c.args.budget c.requires.walk c.in-Some.ensures (omega arith) (omega (arith, ints))

pub visit-requires-clause-small : goal.visit-requires-clause-small
visit-requires-clause-small c =
    let entry_small = reach_entry (search_form c.args.form.now) c.args.self.now c.in-Some.reach c.in-Some.ensures in
    let not_large = c.is_large.ensures.no c.if-is_large.false in
    omega (arith, ints)

pub returns-then-visit : goal.returns-then-visit
returns-then-visit c =
    let form : SearchForm = search_form c.args.form.now in
    let state : SearchState = c.args.self.now in
    let new : SearchState = c.visit.new.self in
    let visits_entry : Visits form (search_image c.args.form.now c.args.map.now) state new = c.if-visit.ensures in
    let visits_at_most = c.requires.visits in
    let below_budget = c.if-self-budget.false in
    let one_more_visit = visits_entry.visits in
    let same_size : new.size ≡ state.size = visits_entry.walk.size ∙ sym c.requires.walk.size in
    let fewer_left : (c.args.budget - new.visits) * (state.size + 2) + length new.stack < (c.args.budget - state.visits) * (state.size + 2) + length state.stack =
    left_less c.args.budget state.visits new.visits (state.size + 2) (length new.stack) (length state.stack) one_more_visit (omega arith) visits_entry.depth (omega arith) in
    (visits_entry.walk, omega arith, subst (λ (m : ℕ). (c.args.budget - new.visits) * (m + 2) + length new.stack < (c.args.budget - state.visits) * (state.size + 2) + length state.stack) (sym same_size) fewer_left)

pub returns-in_default : goal.returns-in_default
returns-in_default c =
    let state : SearchState = c.args.self.now in
    let form : SearchForm = search_form c.args.form.now in
    let im : List ℤ → List ℤ = search_image c.args.form.now c.args.map.now in
    let some_levels : 0 < length state.stack = some_of c.len.result (length state.stack) c.len.ensures c.if-len-eq0.false in
    let popped_walk : IsWalk form im (record state { stack = drop 1 state.stack }) = c.in_default.ensures.popped im c.requires.walk in
    let one_shorter : length (drop 1 state.stack) + 1 ≡ length state.stack = drop_length state.stack some_levels in
    let popped_length : length c.pop.new.self ≡ length (drop 1 state.stack) = ap length c.pop.ensures in
    (subst (λ (fs : List Level). IsWalk form im (record state { stack = fs })) (sym c.pop.ensures) popped_walk, c.requires.visits, omega arith)

pub returns-else-visit : goal.returns-else-visit
returns-else-visit c =
    let spent = c.if-self-budget.false in
    let visits = c.requires.visits in
    stopped_more (search_form c.args.form.now) (search_image c.args.form.now c.args.map.now) (c.args.self.now.visits + 1) c.args.budget (omega arith) c.if-visit.ensures
