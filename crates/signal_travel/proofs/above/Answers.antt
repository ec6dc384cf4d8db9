use Rattle.std.proofs.Common.{◌≡◌, [], ◌∷◌, List, ℤ, pos, IsTrue, Bool, false, get_or, to_z, of_z, ap, ap₂, sym, ◌∙◌, ◌↔◌, lit≤, arith}
use Rattle.std.proofs.lemmas.Int.{to_z-of_z}
use Rattle.std.proofs.lemmas.Bool.{false≢true}
use Rattle.std.specs.Int.{w64}
use Rattle.iv_core.specs.declared.Iv.{Iv}
use Rattle.signal_travel.specs.Grid.{offset, IsAboveWhole}
use Rattle.obs_rows.proofs.ReceiverPointLaws.{plain}
use Rattle.signal_travel.proofs.AboveLaws.{coordinate, cast_size, near_places, plain_answer, lo_fits, has_above, has_below}
use Rattle.signal_travel.proofs.above.Goals as goal
use Rattle.obs_rows.specs.declared.limits.TheConstants.{MOST_COORDINATE}

pub offset_of-requires-clause-size : goal.offset_of-requires-clause-size
offset_of-requires-clause-size c = cast_size (get_or c.args.point.now 0 (pos 0)) MOST_COORDINATE (lit≤ tt) (coordinate c.args.point.now 0 (omega arith) c.requires.point)

pub offset_of-requires-2-clause-size : goal.offset_of-requires-2-clause-size
offset_of-requires-2-clause-size c = cast_size (get_or c.args.point.now 1 (pos 0)) MOST_COORDINATE (lit≤ tt) (coordinate c.args.point.now 1 (omega arith) c.requires.point)

pub offset_of-requires-3-clause-size : goal.offset_of-requires-3-clause-size
offset_of-requires-3-clause-size c = cast_size (get_or c.args.point.now 2 (pos 0)) MOST_COORDINATE (lit≤ tt) (coordinate c.args.point.now 2 (omega arith) c.requires.point)

pub is_above-requires-clause-p_size : goal.is_above-requires-clause-p_size
is_above-requires-clause-p_size c = cast_size (get_or c.args.point.now 0 (pos 0)) 6100000000000000 (lit≤ tt) (coordinate c.args.point.now 0 (omega arith) c.requires.point)

pub is_above-requires-clause-q_size : goal.is_above-requires-clause-q_size
is_above-requires-clause-q_size c = cast_size (get_or c.args.point.now 1 (pos 0)) 6100000000000000 (lit≤ tt) (coordinate c.args.point.now 1 (omega arith) c.requires.point)

pub is_above-requires-clause-r_size : goal.is_above-requires-clause-r_size
is_above-requires-clause-r_size c = cast_size (get_or c.args.point.now 2 (pos 0)) 6100000000000000 (lit≤ tt) (coordinate c.args.point.now 2 (omega arith) c.requires.point)

not_true : (b : Bool) → b ≡ false → IsTrue b → ⊥
not_true b f t = false≢true (sym f ∙ t)

answer : (c : goal.After-is_above) (p q r : ℤ) → c.args.point.now ≡ p ∷ q ∷ r ∷ [] →
    IsTrue c.is_above.result ↔ IsAboveWhole c.args.mask (offset c.index-seen-0.result.lo p) (offset c.index-seen-1.result.lo q) (offset c.index-seen-2.result.lo r) p q r
answer c p q r e =
    let first_box : Iv 36 = c.index-seen-0.result in
    let second_box : Iv 36 = c.index-seen-1.result in
    let third_box : Iv 36 = c.index-seen-2.result in
    let first_is : to_z w64 (of_z w64 (get_or c.args.point.now 0 (pos 0))) ≡ p =
    plain (get_or c.args.point.now 0 (pos 0)) (coordinate c.args.point.now 0 (omega arith) c.requires.point) ∙ ap (λ (s : List ℤ). get_or s 0 (pos 0)) e in
    let second_is : to_z w64 (of_z w64 (get_or c.args.point.now 1 (pos 0))) ≡ q =
    plain (get_or c.args.point.now 1 (pos 0)) (coordinate c.args.point.now 1 (omega arith) c.requires.point) ∙ ap (λ (s : List ℤ). get_or s 1 (pos 0)) e in
    let third_is : to_z w64 (of_z w64 (get_or c.args.point.now 2 (pos 0))) ≡ r =
    plain (get_or c.args.point.now 2 (pos 0)) (coordinate c.args.point.now 2 (omega arith) c.requires.point) ∙ ap (λ (s : List ℤ). get_or s 2 (pos 0)) e in
    let first_low_is : to_z w64 (of_z w64 (get_or c.args.seen.now.place 0 first_box).lo) ≡ first_box.lo = ap (λ (b : Iv 36). to_z w64 (of_z w64 b.lo)) (sym c.index-seen-0.is) ∙ lo_fits first_box in
    let second_low_is : to_z w64 (of_z w64 (get_or c.args.seen.now.place 1 second_box).lo) ≡ second_box.lo = ap (λ (b : Iv 36). to_z w64 (of_z w64 b.lo)) (sym c.index-seen-1.is) ∙ lo_fits second_box in
    let third_low_is : to_z w64 (of_z w64 (get_or c.args.seen.now.place 2 third_box).lo) ≡ third_box.lo = ap (λ (b : Iv 36). to_z w64 (of_z w64 b.lo)) (sym c.index-seen-2.is) ∙ lo_fits third_box in
    plain_answer (IsTrue c.is_above.result) c.args.mask (offset first_box.lo p) (offset second_box.lo q) (offset third_box.lo r) p q r
    (to_z w64 (of_z w64 c.offset_of.result)) (to_z w64 (of_z w64 c.offset_of-2.result)) (to_z w64 (of_z w64 c.offset_of-3.result))
    (to_z w64 (of_z w64 (get_or c.args.point.now 0 (pos 0)))) (to_z w64 (of_z w64 (get_or c.args.point.now 1 (pos 0)))) (to_z w64 (of_z w64 (get_or c.args.point.now 2 (pos 0))))
    (to_z-of_z w64 c.offset_of.result (record { sfits = c.offset_of.type_inv }) ∙ c.offset_of.ensures.value ∙ ap₂ offset first_low_is first_is)
    (to_z-of_z w64 c.offset_of-2.result (record { sfits = c.offset_of-2.type_inv }) ∙ c.offset_of-2.ensures.value ∙ ap₂ offset second_low_is second_is)
    (to_z-of_z w64 c.offset_of-3.result (record { sfits = c.offset_of-3.type_inv }) ∙ c.offset_of-3.ensures.value ∙ ap₂ offset third_low_is third_is)
    first_is second_is third_is c.is_above.ensures

pub returns-clause-kept : goal.returns-clause-kept
returns-clause-kept c = λ t p q r e. has_above c.args.seen.now.place c.index-seen-0.result c.index-seen-1.result c.index-seen-2.result c.args.mask p q r
    (near_places c.args.seen.now.place c.index-seen-0.result c.index-seen-1.result c.index-seen-2.result c.index-seen-0.is c.index-seen-1.is c.index-seen-2.is c.args.seen.now.narrow)
    ((answer c p q r e).0 t)

pub returns-clause-left_out : goal.returns-clause-left_out
returns-clause-left_out c = λ f p q r e. has_below c.args.seen.now.place c.index-seen-0.result c.index-seen-1.result c.index-seen-2.result c.args.mask p q r (IsTrue c.is_above.result)
    (near_places c.args.seen.now.place c.index-seen-0.result c.index-seen-1.result c.index-seen-2.result c.index-seen-0.is c.index-seen-1.is c.index-seen-2.is c.args.seen.now.narrow)
    (not_true c.is_above.result f) (answer c p q r e).1
