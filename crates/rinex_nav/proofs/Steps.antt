-- A refusal of a part is that of the whole.
use Rattle.std.proofs.Common.{◌≡◌, Result, Ok, Err, ap, sym, ◌∙◌, List}
use Rattle.std.specs.Result.{IsErrAnd}
use Rattle.line_source.specs.Lines.{Reading}
use Rattle.eph_store.specs.declared.record.Raw.{Raw}
use Rattle.rinex_head.specs.declared.place.At.{At}
use Rattle.rinex_head.specs.declared.system.System.{System}
use Rattle.rinex_head.specs.LineRules.{rest_gives, ReadsFree}
use Rattle.rinex_nav.specs.NavRules.{Expected, nav_rules}

pub hands_on : {X : Type 0} (system : System) (s : Expected) (next : X → Expected) (old new : Reading) (r : Result X At) (at : At) → IsErrAnd r (λ e. e ≡ at)
    → rest_gives (nav_rules system) old s ≡ Err at → ReadsFree (nav_rules system) old new s next r
hands_on system s next old new (Ok x) at is given = absurd is
hands_on system s next old new (Err e) at is given = let err : At → Result (List Raw) At = λ a. Err a in given ∙ ap err (sym is)
