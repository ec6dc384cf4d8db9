-- The rules have a header in them, so that the laws of headers apply.
use Rattle.std.proofs.Common.{refl}
use Rattle.obs_store.specs.declared.file.ObsFile.{ObsFile}
use Rattle.obs_fields.specs.declared.layout.Layout.TheVariants.{Rinex2}
use Rattle.obs_fields.proofs.HeaderLaws.{HeaderReader}
use Rattle.rinex2_obs.specs.Obs2Rules.{Expected, after_header, obs2_rules}

abbrev pub header_reader : HeaderReader Expected ObsFile
header_reader = record {
  rules = obs2_rules;
  layout = Rinex2;
  after = λ l. after_header l;
  admits = λ s bytes. refl;
  missing = λ s. refl;
}
