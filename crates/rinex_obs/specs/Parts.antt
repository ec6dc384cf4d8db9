-- The part of a body in which a line stands.
use Rattle.std.specs.Prelude.{◌<◌, List, length, IfSome}
use Rattle.std.proofs.Props.{props}
use Rattle.obs_store.specs.declared.series.Epoch.{Epoch}
use Rattle.obs_store.specs.Epochs.{last_tag_of}
use Rattle.rinex_obs.specs.declared.open_body.Part.{Part}
use Rattle.rinex_obs.specs.declared.open_body.Part.TheVariants as part

-- Lines are due in it, and an epoch may stand after these ones.
abbrev pub FitsBehind : List Epoch → Part → Type 0
FitsBehind epochs part.Between = Unit {0}
FitsBehind epochs (part.Epoch e) = (0 < e.left) × (length epochs < 20_000) × IfSome (last_tag_of epochs) (λ last. last.0 < e.tag.0)
FitsBehind epochs (part.Event changes left) = 0 < left

pub FitsBehind-prop : (epochs : List Epoch) (p : Part) → IsProp (FitsBehind epochs p)
FitsBehind-prop epochs part.Between = Prim.hlevel props
FitsBehind-prop epochs (part.Epoch e) = Prim.hlevel props
FitsBehind-prop epochs (part.Event changes left) = Prim.hlevel props
