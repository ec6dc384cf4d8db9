use Rattle.std.proofs.Common.{◌≡◌, ◌<◌, ◌+◌, ◌-◌, List, ◌∷◌, length, set, drop, ℤ, arith, refl, ap, ap₂, sym, ◌∙◌, to_z, of_z, w64}
use Rattle.std.specs.Int.{w128}
use Rattle.std.proofs.lemmas.Int.{ints, to_z-of_z}
use Rattle.decorrelate.proofs.Words.{small_w64}
use Rattle.int_search.specs.Suffixes.{SearchForm, rest}
use Rattle.int_search.specs.Vectors.{suffix}
use Rattle.int_search.specs.SearchedForm.{search_form}
use Rattle.int_search.specs.SearchStates.{search_image}
use Rattle.int_search.specs.declared.walk.SearchState.{SearchState}
use Rattle.int_search.specs.declared.walk.NextEntry.{NextEntry}
use Rattle.int_search.proofs.FormNumbers.{searchable}
use Rattle.int_search.proofs.PointLaws.{small_set}
use Rattle.int_search.proofs.SearchStateLaws.{walk_inner, leaf_visit, drop_length}
use Rattle.int_search.proofs.walk.SearchState.visit.Goals as goal

pub offer-requires-clause-small : goal.offer-requires-clause-small
offer-requires-clause-small c = small_set c.args.self.now.z _ _ c.requires.walk.small (rw (small_w64 c.args.reach.now.choice.entry c.requires.small) c.requires.small)

pub later_part-requires-clause-small : goal.later_part-requires-clause-small
later_part-requires-clause-small c = small_set c.args.self.now.z _ _ c.requires.walk.small (rw (small_w64 c.args.reach.now.choice.entry c.requires.small) c.requires.small)

pub returns-then-i-eq0 : goal.returns-then-i-eq0
returns-then-i-eq0 c =
    let form : SearchForm = search_form c.args.form.now in
    let state : SearchState = c.args.self.now in
    let next : NextEntry = c.args.reach.now in
    let few_columns = c.args.form.now.columns_to in
    let size_is = c.requires.walk.size in
    let depth_is = c.len.ensures in
    let entry_kept = small_w64 next.choice.entry c.requires.small in
    let place_is_first : state.size - c.len.result ≡ 0 = omega arith in
    let none_left : form.size - length state.stack ≡ 0 = omega arith in
    let same_entry : next.choice.entry ≡ to_z w64 (of_z w64 next.choice.entry) = sym entry_kept in
    let small = small_set state.z (state.size - c.len.result) (to_z w64 (of_z w64 next.choice.entry)) c.requires.walk.small (rw entry_kept c.requires.small) in
    leaf_visit form (search_image c.args.form.now c.args.map.now) state c.offer.new.self next c.level_after.result
    (set state.z (state.size - c.len.result) (to_z w64 (of_z w64 next.choice.entry))) c.replace.new.self c.offer.result
    (searchable c.args.form.now c.requires.can.some) (omega arith) c.requires.walk c.requires.reach c.requires.small c.level_after.ensures none_left
    (ap₂ (λ a b. set state.z a b) place_is_first entry_kept) c.replace.ensures small c.offer.ensures

pub returns : goal.returns
returns c =
    let form : SearchForm = search_form c.args.form.now in
    let state : SearchState = c.args.self.now in
    let next : NextEntry = c.args.reach.now in
    let few_columns = c.args.form.now.columns_to in
    let is_walk = c.requires.walk in
    let size_is = is_walk.size in
    let depth_is = c.len.ensures in
    let some = c.requires.reach.some in
    let dep = is_walk.depth in
    let entry_kept = small_w64 next.choice.entry c.requires.small in
    let place_is : state.size - c.len.result ≡ form.size - length state.stack = omega arith in
    let above : 0 < form.size - length state.stack = omega arith in
    let z : List ℤ = set state.z (state.size - c.len.result) (to_z w64 (of_z w64 next.choice.entry)) in
    let stack_is : c.push.new.self ≡ c.untouched_level.result ∷ (c.level_after.result ∷ drop 1 state.stack) = c.push.ensures ∙ ap (λ t. c.untouched_level.result ∷ t) c.replace.ensures in
    let rest_small = c.later_part.ensures.size in
    let place_after : state.size - c.len.result - 1 + 1 ≡ form.size - length state.stack = omega arith in
    let rest_kept : to_z w128 (of_z w128 c.later_part.result) ≡ c.later_part.result = omega (arith, ints) in
    let rest_is : to_z w128 (of_z w128 c.later_part.result) ≡ rest form (suffix z (form.size - length state.stack) form.size) = rest_kept ∙ c.later_part.ensures.value ∙ ap (λ m. rest form (suffix z m form.size)) place_after in
    let small = small_set state.z (state.size - c.len.result) (to_z w64 (of_z w64 next.choice.entry)) is_walk.small (rw entry_kept c.requires.small) in
    let low_kept : to_z w128 (of_z w128 next.low) ≡ next.low = grind (arith, to_z-of_z) in
    let one_shorter : length (drop 1 state.stack) + 1 ≡ length state.stack = drop_length state.stack some in
    record {
      walk = walk_inner form (search_image c.args.form.now c.args.map.now) state next c.level_after.result c.untouched_level.result z c.push.new.self _ (searchable c.args.form.now c.requires.can.some)
          (omega arith) is_walk c.requires.reach c.requires.small
          c.level_after.ensures above (ap₂ (λ a b. set state.z a b) place_is entry_kept) stack_is small rest_is (rw low_kept at c.untouched_level.ensures);
      visits = refl;
      depth = let stack_length = ap length stack_is in omega arith;
    }
