use Rattle.std.proofs.Common.{◌≡◌, ℤ, rules, to_z, of_z, sym, ap, subst}
use Rattle.std.specs.Int.{w128}
use Rattle.std.proofs.lemmas.Int.{to_z-of_z}
use mir.Val.{SFits}
use Rattle.cert_data.specs.declared.tails.Tail.{Tail}
use Rattle.cert_migrate.specs.declared.old_tails.OldTail.TheVariants.{Fixed, Unseparated}
use Rattle.cert_migrate.specs.Carriers.{IsEndOf}
use Rattle.cert_migrate.proofs.moved_tails.old_tail.Goals as goal

pub returns-in-Fixed : goal.returns-in-Fixed
returns-in-Fixed c =
    let fits : SFits w128 c.in-Fixed.top = search rules in
    let same : to_z w128 (of_z w128 c.in-Fixed.top) ≡ c.in-Fixed.top = to_z-of_z w128 c.in-Fixed.top fits in
    subst (λ (t : Tail). IsEndOf t (Fixed c.in-Fixed.h c.in-Fixed.moved c.old_best.result (to_z w128 (of_z w128 c.in-Fixed.top)))) (sym c.in-Fixed.is)
    (c.old_best.result, (c.old_best.ensures, ap (λ (x : ℤ). Fixed c.in-Fixed.h c.in-Fixed.moved c.old_best.result x) same))

pub returns-in-Unseparated : goal.returns-in-Unseparated
returns-in-Unseparated c =
    let fits : SFits w128 c.in-Unseparated.top = search rules in
    let same : to_z w128 (of_z w128 c.in-Unseparated.top) ≡ c.in-Unseparated.top = to_z-of_z w128 c.in-Unseparated.top fits in
    subst (λ (t : Tail). IsEndOf t (Unseparated c.in-Unseparated.h c.in-Unseparated.moved c.old_best-in-Unseparated.result (to_z w128 (of_z w128 c.in-Unseparated.top)))) (sym c.in-Unseparated.is)
    (c.old_best-in-Unseparated.result, (c.old_best-in-Unseparated.ensures, ap (λ (x : ℤ). Unseparated c.in-Unseparated.h c.in-Unseparated.moved c.old_best-in-Unseparated.result x) same))
