use Rattle.baseline_app.proofs.PrintedVectors.{fix_near, check_near}
use Rattle.baseline_app.proofs.printed_laws.near_vector_law.Goals as goal

pub returns : goal.returns
returns c = record { fix = fix_near; check = check_near }
