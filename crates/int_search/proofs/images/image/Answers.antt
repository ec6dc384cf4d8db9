use Rattle.std.proofs.Common.{◌≡◌, ◌<◌, ◌≤◌, ◌^◌, List, get_or, ℤ, pos, arith, rules, refl, sym, ◌∙◌, unsigned_abs, to_z, of_z, w64, length-set}
use Rattle.std.specs.Int.{w128}
use Rattle.std.proofs.lemmas.Int.{ints}
use Rattle.quadratic_form.specs.declared.sizes.TheConstants.{MOST_INTEGERS}
use Rattle.int_search.specs.Vectors.{suffix}
use Rattle.int_search.specs.Images.{image_of}
use Rattle.int_search.proofs.PointLaws.{small_zero, small_set, zeros_start, zeros_set}
use Rattle.int_search.proofs.ImageLaws.{image_at, done_set, image_done}
use Rattle.int_search.proofs.images.image.Goals as goal

pub loop-i-init : goal.loop-i-init
loop-i-init c = record { done = λ k h. absurd (omega arith); small = small_zero MOST_INTEGERS; zeros = zeros_start MOST_INTEGERS c.args.size; room = refl }

pub returns-then-is_large : goal.returns-then-is_large
returns-then-is_large c =
    let m : List (List ℤ) = c.args.map.now in
    let vector : List ℤ = suffix c.args.z.now 0 c.args.size in
    let is_large_entry = c.is_large.ensures.yes (rw c.if-is_large.true (search rules)) in
    let entry_small = c.row_product-entry.ensures.size in
    let row_count = c.requires.map.shape.rows in
    let entry_is : get_or (image_of m c.args.size vector) c.loop-i.i (pos 0) ≡ c.row_product-entry.result = image_at m c.args.size c.loop-i.i vector (omega arith) (omega arith)
    ∙ sym c.row_product-entry.ensures.value in
    let entry_too_large : 2 ^ 30 ≤ unsigned_abs c.row_product-entry.result = omega (arith, ints) in
    (c.loop-i.i, rw entry_is entry_too_large)

pub loop-i-preserved : goal.loop-i-preserved
loop-i-preserved c =
    let vector : List ℤ = suffix c.args.z.now 0 c.args.size in
    let y : List ℤ = c.loop-i.y in
    let not_large = c.is_large.ensures.no c.if-is_large.false in
    let entry_small = c.row_product-entry.ensures.size in
    let entry_below : unsigned_abs c.row_product-entry.result < 2 ^ 30 = omega (arith, ints) in
    let entry_kept : to_z w64 (of_z w64 (to_z w128 (of_z w128 c.row_product-entry.result))) ≡ c.row_product-entry.result = omega (arith, ints) in
    let has_room = c.loop-i.invariant.room in
    record {
      done = done_set c.args.map.now vector y c.loop-i.i _ (omega arith) c.loop-i.invariant.done (entry_kept ∙ c.row_product-entry.ensures.value);
      small = small_set y c.loop-i.i _ c.loop-i.invariant.small (rw entry_kept entry_below);
      zeros = zeros_set y c.args.size c.loop-i.i _ (omega arith) c.loop-i.invariant.zeros;
      room = length-set y c.loop-i.i _ ∙ has_room;
    }

pub returns : goal.returns
returns c =
    let vector : List ℤ = suffix c.args.z.now 0 c.args.size in
    let has_room = c.loop-i.invariant.room in
    let row_count = c.requires.map.shape.rows in
    record {
      room = has_room;
      small = c.loop-i.invariant.small;
      zeros = c.loop-i.invariant.zeros;
      is = image_done c.args.map.now vector c.loop-i.y c.args.size (omega arith) (omega arith) (λ k h. c.loop-i.invariant.done k (omega arith));
    }
