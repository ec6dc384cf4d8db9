use Rattle.std.proofs.Common.{Ok, [], refl, sym, ap, ◌∙◌, Result}
use Rattle.std.proofs.lemmas.Result.{err_from_is_err_and}
use Rattle.obs_store.specs.declared.file.ObsFile.{ObsFile}
use Rattle.rinex_head.specs.declared.place.What.{What}
use Rattle.rinex_head.specs.declared.place.Flaw.{Flaw}
use Rattle.rinex_head.specs.Places.{flawed}
use Rattle.rinex_head.proofs.LineRuleLaws.{goes_on, stops, has_none}
use Rattle.obs_fields.specs.declared.layout.Layout.TheVariants.{Rinex2}
use Rattle.obs_fields.specs.HeaderRules.{Inside, Whole, admit_header}
use Rattle.obs_fields.specs.OpenHeaders.{expected_in_header}
use Rattle.rinex2_obs.specs.Obs2Rules.{Head, Body, after_header, obs2_rules}
use Rattle.rinex2_obs.proofs.header.read_header.Goals as goal

pub returns-in_err-line : goal.returns-in_err-line
returns-in_err-line c =
    let refused : What → Result ObsFile Flaw = λ what. flawed 1 what in
    let refusal = err_from_is_err_and c.from_residual.result c.from_residual.ensures.1 in
    rw (refusal.1, refusal.2) (c.header.invariant ∙ has_none obs2_rules (Head (expected_in_header c.header.header)) _ _ c.missing.result _ (ap refused (sym c.missing.ensures)) c.in_err-line.ensures)

pub header-preserved : goal.header-preserved
header-preserved c =
    let bytes = c.in_ok-line.line.bytes.now in
    let before = expected_in_header c.header.header in
    let after = expected_in_header c.take_line.new.self in
    let taken = rw c.in-Ok-None.field-0-is at c.in-Ok-None.ensures.ok in
    c.header.invariant ∙ goes_on obs2_rules (Head before) (Head after) (admit_header Rinex2 before bytes) (λ l. Ok (after_header l)) (Inside after) _ _ _ bytes c.in_ok-line.ensures refl (sym taken) refl

pub returns-in-Ok-Some : goal.returns-in-Ok-Some
returns-in-Ok-Some c =
    let bytes = c.in_ok-line.line.bytes.now in
    let before = expected_in_header c.header.header in
    let whole = c.in-Ok-Some.whole in
    let taken = rw c.in-Ok-Some.field-0-is at c.in-Ok-Some.ensures.ok in
    rw c.in-Ok-Some.field-0-is (c.header.invariant ∙ goes_on obs2_rules (Head before) (Body whole []) (admit_header Rinex2 before bytes) (λ l. Ok (after_header l)) (Whole whole) _ _ _ bytes c.in_ok-line.ensures refl (sym taken) refl)

pub returns-in-Err : goal.returns-in-Err
returns-in-Err c =
    let bytes = c.in_ok-line.line.bytes.now in
    let before = expected_in_header c.header.header in
    rw c.at.ensures (c.header.invariant
    ∙ stops obs2_rules (Head before) (admit_header Rinex2 before bytes) (λ l. Ok (after_header l)) _ _ _ _ bytes c.in_ok-line.ensures refl (sym c.in-Err.ensures.err))
