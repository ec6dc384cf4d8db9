-- Each session that has the rows of the files stands for them.
use Rattle.std.proofs.Common.{List, length, ℤ, ◌∙◌}
use Rattle.obs_rows.specs.declared.bands.Signals.{Signals}
use Rattle.obs_rows.specs.declared.sessions.Session.{Session}
use Rattle.obs_store.specs.declared.file.ObsFile.{ObsFile}
use Rattle.eph_store.specs.File.{Records}
use Rattle.epoch_pair.specs.declared.pairs.PairOf.{PairOf}
use Rattle.obs_rows.specs.BandSets.{bands_of}
use Rattle.row_build.proofs.StandsLaws.{session_stands}
use Rattle.obs_rows.specs.declared.options.Options.{Options}
use Rattle.session.specs.declared.file_rounds.FileRounds.{FileRounds}
use Rattle.session.specs.FileRules.{HasRowsOf}
use Rattle.session.specs.Origins.{origin_of}
use Rattle.session.specs.Outcomes.{AreScreened, StandsAsItIs}
use Rattle.session.proofs.CutLaws.{kept_along, datums_along}

pub rows_stand : (base rover : ObsFile) (nav : Records) (o : Options) (position : List ℤ) (signals : Signals) (taken : List PairOf) (f : FileRounds) →
    AreScreened base rover nav o position signals taken f →
    (s : Session) → HasRowsOf f.screened.boxes (length f.screened.used) f.kept f.position f.signals f.system s → StandsAsItIs base rover nav o position signals taken s
rows_stand base rover nav o position signals taken f h s r =
    session_stands (origin_of base rover nav o position signals taken) h.short f.screened.used f.screened.boxes s
    h.arcs_are.used_are h.arcs_are.boxes_are
    (kept_along (bands_of o.bands) o.jump o.arc h.short f.screened.used f.kept s.arcs r.arcs_are h.arcs_are.kept_are)
    (datums_along f.kept s.arcs r.arcs_are h.arcs_are.datums)
    (r.system_is ∙ h.system_is) (r.base_is ∙ h.position_is) (r.signals_are ∙ h.signals_are) r.rows
