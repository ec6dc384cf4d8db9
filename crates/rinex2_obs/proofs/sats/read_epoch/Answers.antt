use Rattle.std.proofs.Common.{◌++◌, ◌∷◌, [], ℕ, List, Option, sym, ap, ◌∙◌}
use Rattle.obs_store.specs.Epochs.{epoch_of}
use Rattle.rinex_head.specs.LineRules.{rest_gives}
use Rattle.rinex2_obs.specs.Obs2Rules.{Body, more_names, more_sats, obs2_rules}
use Rattle.rinex2_obs.proofs.Steps.{reads_after}
use Rattle.rinex2_obs.proofs.sats.read_epoch.Goals as goal

pub returns-in-Ok-clause-reads : goal.returns-in-Ok-clause-reads
returns-in-Ok-clause-reads c = λ epochs tag power.
    let header = c.args.header.now in
    let same = ap (λ (l : List (Option ℕ)). rest_gives obs2_rules c.read_names.new.lines (more_sats header epochs tag power [] l)) (sym c.as_slice.ensures.value) in
    reads_after (more_names header epochs tag power c.args.list.names c.args.list.left) (more_sats header epochs tag power [] c.as_slice.result.now) (λ sats. Body header (epochs ++ epoch_of tag power sats ∷ []))
    c.args.lines.now c.read_names.new.lines c.read_satellites.new.lines c.read_satellites.result (c.in-Ok.ensures.reads header epochs tag power ∙ same) (c.read_satellites.ensures.reads epochs tag power)
