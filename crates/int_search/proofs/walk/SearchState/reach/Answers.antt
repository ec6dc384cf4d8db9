use Rattle.std.proofs.Common.{◌≡◌, ℤ, ◌≤◌, ◌+◌, ◌-◌, ◌^◌, get_or, pos, ◌+ℤ◌, ◌-ℤ◌, ◌*ℤ◌, ◌<ℤ◌, arith, unsigned_abs, to_z, of_z, w64}
use Rattle.std.specs.Int.{w128}
use Rattle.std.proofs.lemmas.Int.{ints, to_z-of_z}
use Rattle.integer_form.specs.declared.form.Form.{Form}
use Rattle.int_search.specs.Suffixes.{SearchForm}
use Rattle.int_search.specs.declared.stack.Level.{Level}
use Rattle.int_search.specs.SearchedForm.{search_form}
use Rattle.int_search.specs.Steps.{IsTermWithin}
use Rattle.int_search.specs.declared.walk.SearchState.{SearchState}
use Rattle.int_search.specs.declared.steps.Choice.{Choice}
use Rattle.int_search.proofs.FormNumbers.{searchable}
use Rattle.int_search.proofs.SearchStateLaws.{IsWeightHere, low_size, p2_size, weight_here, walk_pop, walk_reach, chosen_sizes, latest_level}
use Rattle.int_search.proofs.walk.SearchState.reach.Goals as goal
use Rattle.int_search.proofs.walk.SearchState.reach.Goals.{After-bound_left}

pub bound_left-requires-clause-p_size : goal.bound_left-requires-clause-p_size
bound_left-requires-clause-p_size c =
    let value_small : unsigned_abs c.args.self.now.best.p2 ≤ 2 ^ 62 = p2_size (search_form c.args.form.now) c.requires.walk.image c.args.self.now
    (searchable c.args.form.now c.requires.some) c.requires.walk.walk in
    omega (arith, ints)

pub bound_left-requires-clause-low_size : goal.bound_left-requires-clause-low_size
bound_left-requires-clause-low_size c =
    let low_small : unsigned_abs c.top-level.result.low ≤ 2 ^ 122 = low_size (search_form c.args.form.now) c.requires.walk.image c.args.self.now c.top-level.result
    (searchable c.args.form.now c.requires.some) c.requires.walk.walk c.top-level.ensures in
    omega (arith, ints)

pub term_within-requires-clause-d_from : goal.term_within-requires-clause-d_from
term_within-requires-clause-d_from c =
    let weight = weight_here c.args.form.now c.requires.walk.image c.args.self.now c.top-level.result c.len.result c.requires.some c.requires.walk.walk c.top-level.ensures c.requires.level c.len.ensures in
    let weight_from_one = weight.from in
    let weight_at_most = weight.to in
    omega (arith, ints)

pub term_within-requires-clause-d_to : goal.term_within-requires-clause-d_to
term_within-requires-clause-d_to c =
    let weight = weight_here c.args.form.now c.requires.walk.image c.args.self.now c.top-level.result c.len.result c.requires.some c.requires.walk.walk c.top-level.ensures c.requires.level c.len.ensures in
    let weight_from_one = weight.from in
    let weight_at_most = weight.to in
    omega (arith, ints)

-- the numbers at the latest level, and that their words keep them
record IsMeasured (form : Form) (state : SearchState) (level : Level) (offset left d : ℤ) : Type 0 where
  weight_is : IsWeightHere (search_form form) state d
  low_small : unsigned_abs level.low ≤ 2 ^ 122
  left_is : left ≡ (pos (2 ^ 60) *ℤ state.best.p2) -ℤ level.low
  weight_kept : to_z w64 (of_z w64 d) ≡ d
  offset_kept : to_z w128 (of_z w128 offset) ≡ offset
  left_kept : to_z w128 (of_z w128 left) ≡ left

measured : (c : After-bound_left) → IsMeasured c.args.form.now c.args.self.now c.top-level.result c.nearest-choice.result.offset c.bound_left.result
    (get_or c.args.form.now.d (3 + c.args.self.now.size - c.len.result) (pos 0))
measured c =
    let form : SearchForm = search_form c.args.form.now in
    let state : SearchState = c.args.self.now in
    let level : Level = c.top-level.result in
    let choice : Choice = c.nearest-choice.result in
    let is_searchable = searchable c.args.form.now c.requires.some in
    let weight = weight_here c.args.form.now c.requires.walk.image state level c.len.result c.requires.some c.requires.walk.walk c.top-level.ensures c.requires.level c.len.ensures in
    let weight_from_one = weight.from in
    let weight_at_most = weight.to in
    let is_level = latest_level form c.requires.walk.image state level c.requires.walk.walk c.top-level.ensures in
    let sizes = chosen_sizes form level _ choice.entry choice.offset choice.is_up is_level c.nearest-choice.ensures in
    let offset_small : unsigned_abs choice.offset ≤ 2 ^ 100 = sizes.1 in
    let value_small : unsigned_abs state.best.p2 ≤ 2 ^ 62 = p2_size form c.requires.walk.image state is_searchable c.requires.walk.walk in
    let low_small : unsigned_abs level.low ≤ 2 ^ 122 = low_size form c.requires.walk.image state level is_searchable c.requires.walk.walk c.top-level.ensures in
    let left : c.bound_left.result ≡ (pos (2 ^ 60) *ℤ state.best.p2) -ℤ level.low = grind (arith, to_z-of_z) in
    let room_small = c.bound_left.ensures.size in
    record {
      weight_is = weight;
      low_small = low_small;
      left_is = left;
      weight_kept = omega (arith, ints);
      offset_kept = omega (arith, ints);
      left_kept = omega (arith, ints);
    }

pub returns-in_err-term : goal.returns-in_err-term
returns-in_err-term c =
    let numbers = measured (goal.at.returns-in_err-term c).After-bound_left in
    let form : SearchForm = search_form c.args.form.now in
    let state : SearchState = c.args.self.now in
    let level : Level = c.top-level.result in
    let choice : Choice = c.nearest-choice.result in
    let few_columns = c.args.form.now.columns_to in
    let far : c.bound_left.result <ℤ (get_or c.args.form.now.d (3 + state.size - c.len.result) (pos 0) *ℤ (choice.offset *ℤ choice.offset)) =
    rw (numbers.weight_kept, numbers.offset_kept, numbers.left_kept) at c.in_err-term.ensures in
    rw c.from_residual.ensures (record {
      popped = λ im h. walk_pop form im state level choice.entry choice.offset (get_or c.args.form.now.d (3 + state.size - c.len.result) (pos 0)) c.bound_left.result choice.is_up
          (searchable c.args.form.now c.requires.some)
          (omega arith) c.top-level.ensures c.requires.level c.nearest-choice.ensures numbers.weight_is.is numbers.left_is far h;
    })

pub low_with-requires-clause-low_size : goal.low_with-requires-clause-low_size
low_with-requires-clause-low_size c =
    let low_small : unsigned_abs c.top-level.result.low ≤ 2 ^ 122 = low_size (search_form c.args.form.now) c.requires.walk.image c.args.self.now c.top-level.result
    (searchable c.args.form.now c.requires.some) c.requires.walk.walk c.top-level.ensures in
    omega (arith, ints)

pub returns : goal.returns
returns c =
    let numbers = measured (goal.at.returns c).After-bound_left in
    let low_small = numbers.low_small in
    let level : Level = c.top-level.result in
    let choice : Choice = c.nearest-choice.result in
    let term_within : IsTermWithin c.bound_left.result (get_or c.args.form.now.d (3 + c.args.self.now.size - c.len.result) (pos 0)) choice.offset c.in_ok-term.term =
    rw (numbers.weight_kept, numbers.offset_kept, numbers.left_kept) at c.in_ok-term.ensures in
    let term_small = term_within.size in
    let low_is : to_z w128 (of_z w128 c.low_with.result) ≡ level.low +ℤ c.in_ok-term.term =
    (let low_is_sum : c.low_with.result ≡ level.low +ℤ c.in_ok-term.term = grind (arith, to_z-of_z) in
    omega (arith, ints)) in
    walk_reach (search_form c.args.form.now) c.requires.walk.image c.args.self.now _ (get_or c.args.form.now.d (3 + c.args.self.now.size - c.len.result)
    (pos 0)) c.in_ok-term.term c.bound_left.result (searchable c.args.form.now c.requires.some) c.requires.walk.walk c.top-level.ensures c.requires.level c.nearest-choice.ensures
    numbers.weight_is.is numbers.left_is term_within low_is
