use Rattle.std.proofs.lemmas.Result.{IfOk-weaker}
use Rattle.session.proofs.CutLaws.{cut_along}
use Rattle.row_examples.proofs.files.with_shifts.Goals as goal

pub returns : goal.returns
returns c =
    let rounds = c.args.files.now.rounds in
    IfOk-weaker c.first_shifts.result _ _ (λ arcs same. cut_along rounds.screened.used rounds.kept arcs.items same c.requires.cut) c.first_shifts.ensures.arcs

pub first_shifts-requires-clause-ready : goal.first_shifts-requires-clause-ready
first_shifts-requires-clause-ready c =
    let files = c.args.files.now in
    (c.requires.cut, (files.arcs_in, files.base_in), (c.requires.base_pseudoranges, files.system_in), c.none.ensures files.rounds.screened.boxes)
