-- The columns are bytes of the line.
use Rattle.std.proofs.Common.{◌≡◌, ◌+◌, ◌≤◌, ℕ, List, length, IfSome, Ok, sym, subst, arith}
use Rattle.decimal_text.specs.Fixed.{fixed_of}
use Rattle.obs_fields.proofs.AmountLaws.{columns_slice}
use Rattle.obs_fields.proofs.sat_fields.usual_amount_at.Goals as goal

pub returns : goal.returns
returns c =
    let few : c.args.first + 13 ≤ length c.args.line.now = omega (arith, c.if-line-first.false) in
    subst (λ (text : List ℕ). IfSome c.usual_amount.result (λ z. fixed_of text 3 ≡ Ok z)) (sym (columns_slice c.args.line.now c.args.first c.requires.from_one few)) c.usual_amount.ensures
