use Rattle.std.proofs.Common.{◌≡◌, ℕ, List, Ok, sym, subst}
use Rattle.cert_lines.specs.Forms.{row_in}
use Rattle.cert_lines.proofs.LineSpells.{row_spells}
use Rattle.cert_lines.proofs.pairs.row_of.Goals as goal

pub returns-in-Some-clause-value : goal.returns-in-Some-clause-value
returns-in-Some-clause-value c =
    let row = c.in-Some.row in
    subst (λ (l : List ℕ). row_in c.args.counted.now c.args.arcs.now c.args.pair c.args.least l ≡ Ok row.arc) (sym c.in-Some.ensures.spelled)
    (row_spells c.args.counted.now c.args.arcs.now c.args.pair c.args.least row c.requires.few c.in-Some.ensures.of_pair c.in-Some.ensures.whole c.in-Some.ensures.least)
