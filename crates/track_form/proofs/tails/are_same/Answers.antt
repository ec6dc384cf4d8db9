use Rattle.std.proofs.Common.{refl}
use Rattle.std.proofs.lemmas.Bool.Decides.{Decides-int_eq}
use Rattle.std.proofs.lemmas.Slice.Eq.{slice_eq-Decides}
use Rattle.track_form.proofs.tails.are_same.Goals as goal

pub returns : goal.returns
returns c = slice_eq-Decides (λ a b. slice_eq-Decides Decides-int_eq a b _ refl) c.args.moves.now c.args.others.now c.eq.result c.eq.ensures
