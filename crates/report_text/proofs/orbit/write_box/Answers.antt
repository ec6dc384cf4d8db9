use Rattle.std.proofs.Common.{◌≡◌, length, get_or, append_assoc, refl, arith}
use Rattle.whole_math.proofs.Lists.{three_items}
use Rattle.iv_core.specs.declared.Iv.{Iv}
use Rattle.report_text.specs.Orbit.{ends_of}
use Rattle.report_text.proofs.orbit.write_box.Goals as goal

pub returns : goal.returns
returns c =
    let three : length c.args.found.now.place ≡ 3 = omega arith in
    let x : Iv 36 = get_or c.args.found.now.place 0 c.index-found-0.result in
    let y : Iv 36 = get_or c.args.found.now.place 1 c.index-found-1.result in
    let z : Iv 36 = get_or c.args.found.now.place 2 c.index-found-2.result in
    record {
      numbers = record { x = ends_of 6 x; y = ends_of 6 y; z = ends_of 6 z; clock = ends_of 15 c.args.found.now.clock };
      are = record {
        first = x;
        second = y;
        third = z;
        place = three_items c.args.found.now.place _ _ _ three;
        x = refl;
        y = refl;
        z = refl;
        clock = refl;
      };
      new_is = rw (c.in_ok-write_clock.ensures, c.in_ok-write_axis-3.ensures, c.in_ok-write_axis-2.ensures, c.in_ok-write_axis.ensures) (simp append_assoc refl);
    }
