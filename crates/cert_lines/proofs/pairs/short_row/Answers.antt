use Rattle.std.proofs.Common.{◌≡◌, ◌≤◌, ℕ, pos, length, take, slice_get, Some, w64, to_z, of_z, sym, ◌∙◌, subst, arith}
use Rattle.std.proofs.lemmas.Bool.Decides.{nat_tests}
use Rattle.obs_rows.specs.declared.arcs.Arc.{Arc}
use Rattle.obs_rows.specs.declared.units.TheConstants.{SIGNALS}
use Rattle.obs_rows.specs.Unused.{IsZeroOff}
use Rattle.cert_words.proofs.ShortLaws.{short_word}
use Rattle.cert_lines.proofs.Spreading.{spread_off}
use Rattle.cert_lines.proofs.Spelled.{row_put}
use Rattle.cert_lines.proofs.pairs.short_row.Goals as goal

pub returns-clause-spelled : goal.returns-clause-spelled
returns-clause-spelled c =
    let row = c.in_ok-row.row in
    let number = c.in_ok-number.number in
    let radius = c.in_ok-ry.ry in
    let direction = c.in_ok-u.u in
    let radii = c.in_ok-ru.ru in
    let seen = c.in_ok-seen.seen in
    let number_word : to_z w64 (of_z w64 number) ≡ number = short_word number c.in_ok-number.ensures.small in
    let ry_word : to_z w64 (of_z w64 radius) ≡ radius = short_word radius c.in_ok-ry.ensures.small in
    let arc_number_is : number ≡ pos row.arc = cc (number_word, c.in_ok-arc.ensures.exact, c.in_ok-row.ensures.arc) in
    let ry_is : row.ry ≡ radius = cc (ry_word, c.in_ok-row.ensures.ry) in
    let many : length seen ≡ SIGNALS = c.in_ok-seen.ensures.count in
    let three : length direction ≡ 3 = c.in_ok-u.ensures.count in
    let three_too : length radii ≡ 3 = c.in_ok-ru.ensures.count in
    let none : length c.in_ok-ru.end.now ≡ 0 = grind (arith, nat_tests, c.is_empty.ensures, c.if-not-is_empty.false) in
    row_put c.args.counted.now c.args.line.now c.in_ok-numbers.numbers.now c.in_ok-number.behind_arc.now c.in_ok-seen.behind_y.now c.in_ok-ry.behind_ry.now c.in_ok-u.behind_u.now c.in_ok-ru.end.now
    number radius seen c.spread-y.result direction radii row c.requires.good many three three_too c.in_ok-numbers.ensures.cases.0 c.in_ok-numbers.ensures.cases.1 c.in_ok-number.ensures.spelled arc_number_is
    c.in_ok-seen.ensures.spelled c.in_ok-ry.ensures.spelled c.in_ok-u.ensures.spelled c.in_ok-ru.ensures.spelled none
    c.spread-y.ensures c.in_ok-row.ensures.y ry_is c.in_ok-row.ensures.u c.in_ok-row.ensures.ru

pub returns-clause-of_pair : goal.returns-clause-of_pair
returns-clause-of_pair c =
    let same : c.in_ok-arc.arc ≡ c.in_ok-row.row.arc = sym c.in_ok-row.ensures.arc in
    record {
      arc_in = omega (arith, same, c.in_ok-arc.ensures.inside);
      from_first = subst (λ (k : ℕ). (a : Arc) → slice_get c.args.arcs.now k ≡ Some a → a.first ≤ c.args.pair) same c.in_ok-arc.ensures.from_first;
      to_last = subst (λ (k : ℕ). (a : Arc) → slice_get c.args.arcs.now k ≡ Some a → c.args.pair ≤ a.last) same c.in_ok-arc.ensures.to_last;
    }

pub returns-clause-used : goal.returns-clause-used
returns-clause-used c =
    let own = take (length c.args.counted.now) c.in_ok-seen.seen in
    subst (IsZeroOff c.args.counted.now) (sym (c.in_ok-row.ensures.y ∙ c.spread-y.ensures)) (spread_off SIGNALS c.args.counted.now own)
