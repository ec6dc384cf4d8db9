-- What each line of a certificate of the first version must be in its place: the rules of the present form, from its own first line on.
use Rattle.cert_lines.specs.declared.version.Version.TheVariants.{One}
use Rattle.rinex_head.specs.LineRules.{Rules}
use Rattle.cert_text.specs.Rules.{Expected, Form, cert_rules}

abbrev pub old_rules : Rules Expected (Unit {0})
old_rules = record { start = Form One; admit = cert_rules.admit; finish = cert_rules.finish }
