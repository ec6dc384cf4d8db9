-- The rules have a header in them, so that the laws of headers apply.
use Rattle.std.proofs.Common.{refl}
use Rattle.obs_store.specs.declared.file.ObsFile.{ObsFile}
use Rattle.rinex_head.specs.declared.system.System.{System}
use Rattle.obs_fields.specs.declared.layout.Layout.TheVariants.{Rinex3}
use Rattle.obs_fields.proofs.HeaderLaws.{HeaderReader}
use Rattle.rinex_obs.specs.ObsRules.{Expected, after_header, obs_rules}

abbrev pub header_reader : System → HeaderReader Expected ObsFile
header_reader system = record {
  rules = obs_rules system;
  layout = Rinex3;
  after = λ l. after_header l;
  admits = λ s bytes. refl;
  missing = λ s. refl;
}
