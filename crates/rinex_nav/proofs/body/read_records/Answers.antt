-- One line or record more.
use Rattle.std.proofs.Common.{◌≡◌, [], Ok, true, refl, sym, ap, ◌∙◌, length, List}
use Rattle.rinex_head.proofs.LineRuleLaws.{goes_on, stops, has_long, ends_well}
use Rattle.eph_store.specs.declared.record.Raw.{Raw}
use Rattle.rinex_nav.specs.RecordLines.{body_line_of}
use Rattle.rinex_nav.specs.declared.record_lines.BodyLine.TheVariants as line
use Rattle.rinex_nav.specs.NavRules.{Body, Further, after_body, nav_rules}
use Rattle.rinex_nav.proofs.body.read_records.Goals as goal

pub returns-in-Ok-None : goal.returns-in-Ok-None
returns-in-Ok-None c =
    let end = rw c.in-Ok-None.field-0-is at c.in-Ok-None.ensures in
    c.records.invariant ∙ ends_well (nav_rules c.args.system) (Body c.records.file.all c.records.skipping) _ _ c.records.file.all end refl

pub returns-in-Err : goal.returns-in-Err
returns-in-Err c = c.records.invariant ∙ has_long (nav_rules c.args.system) (Body c.records.file.all c.records.skipping) _ _ _ c.in-Err.ensures

pub records-preserved-in-Ok-Passed : goal.records-preserved-in-Ok-Passed
records-preserved-in-Ok-Passed c =
    let raws = c.records.file.all in
    let skipping = c.records.skipping in
    let bytes = c.in-Ok-Some.line.bytes.now in
    let gives = rw c.in-Ok-Some.field-0-is at c.in-Ok-Some.ensures in
    let count : length raws ≡ length c.all.result.now = ap (λ (rs : List Raw). length rs) (sym c.all.ensures) in
    c.records.invariant ∙ goes_on (nav_rules c.args.system) (Body raws skipping) (Body raws skipping) (body_line_of c.args.system (length raws) skipping bytes)
    (λ l. Ok (after_body raws skipping l)) line.Passed _ _ _ bytes gives refl (rw count (rw c.in-Ok-Passed.field-0-is at c.in-Ok-Passed.ensures)) refl

pub records-preserved-in-Ok-Other : goal.records-preserved-in-Ok-Other
records-preserved-in-Ok-Other c =
    let raws = c.records.file.all in
    let skipping = c.records.skipping in
    let bytes = c.in-Ok-Some.line.bytes.now in
    let gives = rw c.in-Ok-Some.field-0-is at c.in-Ok-Some.ensures in
    let count : length raws ≡ length c.all.result.now = ap (λ (rs : List Raw). length rs) (sym c.all.ensures) in
    c.records.invariant ∙ goes_on (nav_rules c.args.system) (Body raws skipping) (Body raws true) (body_line_of c.args.system (length raws) skipping bytes)
    (λ l. Ok (after_body raws skipping l)) line.Other _ _ _ bytes gives refl (rw count (rw c.in-Ok-Other.field-0-is at c.in-Ok-Other.ensures)) refl

pub records-preserved : goal.records-preserved
records-preserved c =
    let raws = c.records.file.all in
    let skipping = c.records.skipping in
    let bytes = c.in-Ok-Some.line.bytes.now in
    let gives = rw c.in-Ok-Some.field-0-is at c.in-Ok-Some.ensures in
    let count : length raws ≡ length c.all.result.now = ap (λ (rs : List Raw). length rs) (sym c.all.ensures) in
    let start = c.in-Ok-Record.start in
    let added = c.in-Ok-push.ensures.added in
    rw added (c.records.invariant
    ∙ goes_on (nav_rules c.args.system) (Body raws skipping) (Further raws start []) (body_line_of c.args.system (length raws) skipping bytes) (λ l.
    Ok (after_body raws skipping l)) (line.Record start) _ _ _ bytes gives refl (rw count (rw c.in-Ok-Record.field-0-is at c.in-Ok-Record.ensures)) refl
    ∙ (rw c.in-Ok-Record.field-0-is at (c.in-Ok.ensures.reads c.args.system raws)))

pub returns-in-Err-read_record : goal.returns-in-Err-read_record
returns-in-Err-read_record c =
    let raws = c.records.file.all in
    let skipping = c.records.skipping in
    let bytes = c.in-Ok-Some.line.bytes.now in
    let gives = rw c.in-Ok-Some.field-0-is at c.in-Ok-Some.ensures in
    let count : length raws ≡ length c.all.result.now = ap (λ (rs : List Raw). length rs) (sym c.all.ensures) in
    let start = c.in-Ok-Record.start in
    c.records.invariant ∙ goes_on (nav_rules c.args.system) (Body raws skipping) (Further raws start []) (body_line_of c.args.system (length raws) skipping bytes)
    (λ l. Ok (after_body raws skipping l)) (line.Record start) _ _ _ bytes gives refl (rw count (rw c.in-Ok-Record.field-0-is at c.in-Ok-Record.ensures)) refl
    ∙ (rw c.in-Ok-Record.field-0-is at (c.in-Err-read_record.ensures.reads c.args.system raws))

pub returns-in-Err-body_line : goal.returns-in-Err-body_line
returns-in-Err-body_line c =
    let raws = c.records.file.all in
    let skipping = c.records.skipping in
    let bytes = c.in-Ok-Some.line.bytes.now in
    let gives = rw c.in-Ok-Some.field-0-is at c.in-Ok-Some.ensures in
    let count : length raws ≡ length c.all.result.now = ap (λ (rs : List Raw). length rs) (sym c.all.ensures) in
    rw c.at.ensures (c.records.invariant ∙ stops (nav_rules c.args.system) (Body raws skipping) (body_line_of c.args.system (length raws) skipping bytes) (λ l.
    Ok (after_body raws skipping l)) _ _ _ _ bytes gives refl (rw count c.in-Err-body_line.ensures))
