use Rattle.integer_form.specs.declared.front_form.FrontForm.{FrontForm}
use Rattle.track_form.specs.declared.factors.PairFactors.{PairFactors}
use Rattle.lower_form.proofs.ZeroForms.{zero_outside}
use Rattle.track_form.proofs.factors.PairFactors.put_in.Goals as goal

pub invariant_of-front : goal.invariant_of-front
invariant_of-front c =
    let factors : PairFactors = c.args.self.now in
    let front : FrontForm = c.args.front.now in
    record {
      columns_from = factors.columns_from;
      columns_to = factors.columns_to;
      h_in = front.h_in;
      factors_in = factors.factors_in;
      factors_outside = factors.factors_outside;
      symmetric = front.symmetric;
      entries_in = front.entries_in;
      nothing_outside = zero_outside front.p _ c.requires;
    }
