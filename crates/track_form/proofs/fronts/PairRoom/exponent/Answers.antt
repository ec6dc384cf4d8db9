use Rattle.std.proofs.Common.{[], ◌∷◌}
use Rattle.normal_sum.specs.Values.{form_of}
use Rattle.obs_rows.specs.Signals.{fine_signals}
use Rattle.lower_form.proofs.Exponents.{exponent_unique}
use Rattle.lower_form.proofs.OneForm.{one_exponent}
use Rattle.track_form.proofs.fronts.PairRoom.exponent.Goals as goal

pub returns-clause-exponent : goal.returns-clause-exponent
returns-clause-exponent c = λ f is. exponent_unique f.h c.exponent.result (form_of c.refill_pair.new.normal)
    (one_exponent c.args.arcs.now (fine_signals c.args.signals) (c.args.pair.now ∷ []) is.normal c.refill_pair.new.normal f.h is.of_rows c.refill_pair.ensures is.front.exponent) c.exponent.ensures.least
