use Rattle.std.proofs.Common.{◌≡◌, length, rules}
use Rattle.quadratic_form.specs.declared.sizes.TheConstants.{MOST_COLUMNS}
use Rattle.normal_sum.proofs.CoefficientPlaces.{zeros_again}
use Rattle.normal_sum.proofs.coefficients.clear_coefficients.Goals as goal

pub returns : goal.returns
returns c =
    let full : length c.args.values.now ≡ MOST_COLUMNS = search rules in
    record { zeros = zeros_again c.put_integer.new.values c.args.values.now c.args.integers c.args.place c.put_integer.ensures.value full c.requires.others }
