use Rattle.std.proofs.Common.{◌*◌, Ok, refl, ◌∙◌}
use Rattle.std.proofs.lemmas.Result.{err_from_is_err_and}
use Rattle.rinex_head.proofs.LineRuleLaws.{goes_on, stops, has_long, ends_well, handed_on}
use Rattle.rinex2_obs.specs.Rows.{rows_of, further_lines_of}
use Rattle.rinex2_obs.specs.EpochLines.{epoch_line_of}
use Rattle.rinex2_obs.specs.declared.epoch_lines.EpochLine.TheVariants as line
use Rattle.rinex2_obs.specs.Obs2Rules.{Body, file_of, more_names, more_lines, more_slips, after_epoch, obs2_rules}
use Rattle.rinex2_obs.proofs.body.read_epochs.Goals as goal

pub returns-in-Ok-None : goal.returns-in-Ok-None
returns-in-Ok-None c =
    let header = c.args.header.now in
    let end = rw c.in-Ok-None.field-0-is at c.in-Ok-None.ensures in
    c.epochs.invariant ∙ ends_well obs2_rules (Body header c.epochs.epochs) _ _ (file_of header c.epochs.epochs) end refl

pub returns-in-Err : goal.returns-in-Err
returns-in-Err c = c.epochs.invariant ∙ has_long obs2_rules (Body c.args.header.now c.epochs.epochs) _ _ _ c.in-Err.ensures

pub epochs-preserved-in-Ok-Blank : goal.epochs-preserved-in-Ok-Blank
epochs-preserved-in-Ok-Blank c =
    let header = c.args.header.now in
    let epochs = c.epochs.epochs in
    let bytes = c.in-Ok-Some.line.bytes.now in
    let gives = rw c.in-Ok-Some.field-0-is at c.in-Ok-Some.ensures in
    let answer = rw c.in-Ok-Blank.field-0-is at c.in-Ok-Blank.ensures.value in
    c.epochs.invariant ∙ goes_on obs2_rules (Body header epochs) (Body header epochs) (epoch_line_of epochs bytes) (λ l. Ok (after_epoch header epochs l)) line.Blank _ _ _ bytes gives refl answer refl

pub epochs-preserved-in-Ok : goal.epochs-preserved-in-Ok
epochs-preserved-in-Ok c =
    let header = c.args.header.now in
    let epochs = c.epochs.epochs in
    let bytes = c.in-Ok-Some.line.bytes.now in
    let changes = c.in-Ok-Event.changes in
    let count = c.in-Ok-Event.count in
    let gives = rw c.in-Ok-Some.field-0-is at c.in-Ok-Some.ensures in
    let answer = rw c.in-Ok-Event.field-0-is at c.in-Ok-Event.ensures.value in
    c.epochs.invariant ∙ goes_on obs2_rules (Body header epochs) (more_lines header epochs changes count) (epoch_line_of epochs bytes) (λ l.
    Ok (after_epoch header epochs l)) (line.Event changes count) _ _ _ bytes gives refl answer refl
    ∙ (rw c.in-Ok-Event.field-0-is at (c.in-Ok.ensures.reads header epochs))

pub returns-in-Err-skip_lines : goal.returns-in-Err-skip_lines
returns-in-Err-skip_lines c =
    let header = c.args.header.now in
    let epochs = c.epochs.epochs in
    let bytes = c.in-Ok-Some.line.bytes.now in
    let changes = c.in-Ok-Event.changes in
    let count = c.in-Ok-Event.count in
    let gives = rw c.in-Ok-Some.field-0-is at c.in-Ok-Some.ensures in
    let answer = rw c.in-Ok-Event.field-0-is at c.in-Ok-Event.ensures.value in
    c.epochs.invariant ∙ goes_on obs2_rules (Body header epochs) (more_lines header epochs changes count) (epoch_line_of epochs bytes) (λ l.
    Ok (after_epoch header epochs l)) (line.Event changes count) _ _ _ bytes gives refl answer refl
    ∙ (rw c.in-Ok-Event.field-0-is at (c.in-Err-skip_lines.ensures.reads header epochs))

pub epochs-preserved-in-Ok-skip_slips : goal.epochs-preserved-in-Ok-skip_slips
epochs-preserved-in-Ok-skip_slips c =
    let header = c.args.header.now in
    let epochs = c.epochs.epochs in
    let bytes = c.in-Ok-Some.line.bytes.now in
    let count = c.in-Ok-Slips.count in
    let gives = rw c.in-Ok-Some.field-0-is at c.in-Ok-Some.ensures in
    let answer = rw c.in-Ok-Slips.field-0-is at c.in-Ok-Slips.ensures.value in
    let behind = more_slips header epochs (further_lines_of count) (count * rows_of header.types) in
    c.epochs.invariant ∙ goes_on obs2_rules (Body header epochs) behind (epoch_line_of epochs bytes) (λ l. Ok (after_epoch header epochs l)) (line.Slips count) _ _ _ bytes gives refl answer refl
    ∙ (rw c.in-Ok-Slips.field-0-is at (c.in-Ok-skip_slips.ensures.reads epochs))

pub returns-in-Err-skip_slips : goal.returns-in-Err-skip_slips
returns-in-Err-skip_slips c =
    let header = c.args.header.now in
    let epochs = c.epochs.epochs in
    let bytes = c.in-Ok-Some.line.bytes.now in
    let count = c.in-Ok-Slips.count in
    let gives = rw c.in-Ok-Some.field-0-is at c.in-Ok-Some.ensures in
    let answer = rw c.in-Ok-Slips.field-0-is at c.in-Ok-Slips.ensures.value in
    let behind = more_slips header epochs (further_lines_of count) (count * rows_of header.types) in
    c.epochs.invariant ∙ goes_on obs2_rules (Body header epochs) behind (epoch_line_of epochs bytes) (λ l. Ok (after_epoch header epochs l)) (line.Slips count) _ _ _ bytes gives refl answer refl
    ∙ (rw c.in-Ok-Slips.field-0-is at (c.in-Err-skip_slips.ensures.reads epochs))

pub returns-in_err-sats-in-Ok-Epoch : goal.returns-in_err-sats-in-Ok-Epoch
returns-in_err-sats-in-Ok-Epoch c =
    let header = c.args.header.now in
    let epochs = c.epochs.epochs in
    let bytes = c.in-Ok-Some.line.bytes.now in
    let tag = c.in-Ok-Epoch.tag in
    let power = c.in-Ok-Epoch.power in
    let list = c.in-Ok-Epoch.list in
    let gives = rw c.in-Ok-Some.field-0-is at c.in-Ok-Some.ensures in
    let answer = rw c.in-Ok-Epoch.field-0-is at c.in-Ok-Epoch.ensures.value in
    let refusal = err_from_is_err_and c.from_residual.result c.from_residual.ensures.1 in
    rw (refusal.1, refusal.2) (handed_on _ _ c.in_err-sats-in-Ok-Epoch.field-0.0 (c.epochs.invariant ∙ goes_on obs2_rules (Body header epochs) (more_names header epochs tag power list.names list.left)
    (epoch_line_of epochs bytes) (λ l. Ok (after_epoch header epochs l)) (line.Epoch tag power list) _ _ _ bytes gives refl answer refl)
    (rw c.in-Ok-Epoch.field-0-is at (c.in_err-sats-in-Ok-Epoch.ensures.reads epochs tag power)))

pub epochs-preserved : goal.epochs-preserved
epochs-preserved c =
    let header = c.args.header.now in
    let epochs = c.epochs.epochs in
    let bytes = c.in-Ok-Some.line.bytes.now in
    let tag = c.in-Ok-Epoch.tag in
    let power = c.in-Ok-Epoch.power in
    let list = c.in-Ok-Epoch.list in
    let gives = rw c.in-Ok-Some.field-0-is at c.in-Ok-Some.ensures in
    let answer = rw c.in-Ok-Epoch.field-0-is at c.in-Ok-Epoch.ensures.value in
    let added = rw c.in-Ok-Epoch.field-0-is at c.in-Ok-push.ensures.added in
    rw added (c.epochs.invariant ∙ goes_on obs2_rules (Body header epochs) (more_names header epochs tag power list.names list.left)
    (epoch_line_of epochs bytes) (λ l. Ok (after_epoch header epochs l)) (line.Epoch tag power list) _ _ _ bytes gives refl answer refl
    ∙ (rw c.in-Ok-Epoch.field-0-is at (c.in_ok-sats-in-Ok-Epoch.ensures.reads epochs tag power)))

pub returns-in-Err-epoch_line : goal.returns-in-Err-epoch_line
returns-in-Err-epoch_line c =
    let header = c.args.header.now in
    let epochs = c.epochs.epochs in
    let bytes = c.in-Ok-Some.line.bytes.now in
    let gives = rw c.in-Ok-Some.field-0-is at c.in-Ok-Some.ensures in
    rw c.at.ensures (c.epochs.invariant ∙ stops obs2_rules (Body header epochs) (epoch_line_of epochs bytes) (λ l. Ok (after_epoch header epochs l)) _ _ _ _ bytes gives refl c.in-Err-epoch_line.ensures.value)
