use Rattle.lower_form.proofs.ZeroForms.{zero_symmetric, zero_small, zero_outside}
use Rattle.round_steps.proofs.coarse.CoarseTables.empty.Goals as goal

pub of-front-requires-clause-symmetric : goal.of-front-requires-clause-symmetric
of-front-requires-clause-symmetric c = zero_symmetric c.zeros.result c.zeros.ensures.zeros

pub of-front-requires-clause-entries_in : goal.of-front-requires-clause-entries_in
of-front-requires-clause-entries_in c = zero_small c.zeros.result c.zeros.ensures.zeros

pub of-front-requires-clause-nothing_outside : goal.of-front-requires-clause-nothing_outside
of-front-requires-clause-nothing_outside c = zero_outside c.zeros.result _ c.zeros.ensures.zeros

pub invariant_of-result : goal.invariant_of-result
invariant_of-result c = record { clean = c.empty-steps.ensures 4; columns = c.of-front.ensures.columns }
