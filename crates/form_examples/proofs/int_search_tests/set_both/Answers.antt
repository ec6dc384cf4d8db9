use Rattle.std.proofs.Common.{◌≡◌, ◌^◌, arith, to_z, of_z, w64}
use Rattle.std.proofs.lemmas.Int.{to_z-of_z}
use Rattle.quadratic_form.specs.Tables.{entry}
use Rattle.int_search.proofs.TableLaws.{set_twice, both_below}
use Rattle.form_examples.proofs.int_search_tests.set_both.Goals as goal

pub returns-clause-entries : goal.returns-clause-entries
returns-clause-entries c =
    let value_is : to_z w64 (of_z w64 c.args.value) ≡ c.args.value = to_z-of_z w64 c.args.value c.ranges.value in
    let upper_is_set : entry c.set.new.self c.args.r c.args.c ≡ c.args.value = grind (arith, to_z-of_z) in
    let lower_is_set : entry c.set-2.new.self c.args.c c.args.r ≡ c.args.value = grind (arith, to_z-of_z) in
    both_below c.args.p.now c.set-2.new.self c.args.r c.args.c (2 ^ 52) c.args.value
    (set_twice c.args.p.now c.set.new.self c.set-2.new.self c.args.r c.args.c c.args.value upper_is_set c.set.ensures.others lower_is_set c.set-2.ensures.others) c.requires.small c.requires.entries
