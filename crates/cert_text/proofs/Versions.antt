-- The second version can say every certificate.
use Rattle.std.proofs.Common.{ℕ, List, get_or, arith}
use Rattle.obs_rows.specs.declared.arcs.Arc.{Arc}
use Rattle.cert_lines.specs.declared.version.Version.TheVariants.{Two}
use Rattle.cert_data.specs.declared.certs.Cert.{Cert}
use Rattle.cert_data.specs.declared.tails.Tail.{Tail}
use Rattle.cert_data.specs.declared.tails.Tail.TheVariants.{Fixed, Unseparated, Weak, Overwidth, Unsettled, Spent}
use Rattle.cert_data.specs.Tails.{IsTailOf}
use Rattle.cert_lines.proofs.LetterLaws.{not_one}
use Rattle.cert_text.specs.Editions.{IsColumnOf, IsOfVersion}

column_of_two : (ss : List ℕ) (arcs : List Arc) (budget : ℕ) (t : Tail) → IsTailOf ss arcs budget t → IsColumnOf Two t
column_of_two ss arcs budget (Fixed h moved best top) fits = tt
column_of_two ss arcs budget (Unseparated h moved best top) fits = tt
column_of_two ss arcs budget (Weak column pivot) fits = omega (arith, fits.column_to)
column_of_two ss arcs budget (Overwidth place) fits = tt
column_of_two ss arcs budget (Unsettled entry) fits = tt
column_of_two ss arcs budget (Spent spent) fits = tt

pub of_two : (c : Cert) → IsOfVersion Two c
of_two c = record {
  system = λ e. absurd (not_one e);
  bands = λ e. absurd (not_one e);
  sats = λ k d inside. (c.session.arcs_in.ranges k d inside).sat_to;
  groups = λ k d inside. (get_or c.session.pairs k d).group_in;
  column = column_of_two _ c.session.arcs c.budget c.tail c.tail_fits;
}
