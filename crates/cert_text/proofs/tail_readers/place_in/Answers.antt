use Rattle.std.proofs.Common.{ℕ, List, Result, sym, ap}
use Rattle.std.proofs.lemmas.Result.{err_from_is_err_and}
use Rattle.rinex_head.specs.declared.place.Flaw.{Flaw}
use Rattle.rinex_head.specs.Places.{and_then}
use Rattle.cert_data.specs.Places.{place_of_name}
use Rattle.cert_text.specs.TailParts.{at_place}
use Rattle.cert_text.proofs.PlaceLaws.{place_read}
use Rattle.cert_text.proofs.tail_readers.place_in.Goals as goal

pub returns-in_err-name-clause-value : goal.returns-in_err-name-clause-value
returns-in_err-name-clause-value c =
    let err_parts = err_from_is_err_and c.from_residual.result c.from_residual.ensures.1 in
    rw (err_parts.1, err_parts.2) (sym (ap (λ (r : Result (List ℕ) Flaw). and_then r (λ name. at_place (place_of_name name))) c.in_err-name.ensures.value))

pub returns-in-Some-clause-spelled : goal.returns-in-Some-clause-spelled
returns-in-Some-clause-spelled c = place_read c.args.words.now c.args.line.now c.in_ok-name.name.now c.in-Some.place c.in_ok-name.ensures.spelled c.in-Some.ensures
