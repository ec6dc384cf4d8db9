-- The seven further lines, one after the other.
use Rattle.std.proofs.Common.{◌++◌, ◌∙◌, ◌∷◌, [], false, refl}
use Rattle.rinex_nav.specs.NavRules.{Further, Body}
use Rattle.rinex_nav.proofs.Steps.{hands_on}
use Rattle.rinex_nav.proofs.body.read_record.Goals as goal

pub returns-in_err-second-clause-reads : goal.returns-in_err-second-clause-reads
returns-in_err-second-clause-reads c = λ system raws. hands_on system (Further raws c.args.start []) (λ raw. Body (raws ++ raw ∷ []) false) _ _
    c.from_residual.result _ c.from_residual.ensures.1 (c.in_err-second.ensures.reads system raws c.args.start [] refl)

pub returns-in_err-third-clause-reads : goal.returns-in_err-third-clause-reads
returns-in_err-third-clause-reads c = λ system raws. hands_on system (Further raws c.args.start []) (λ raw. Body (raws ++ raw ∷ []) false) _ _
    c.from_residual-in_err-third.result _ c.from_residual-in_err-third.ensures.1
    (c.in_ok-second.ensures.reads system raws c.args.start [] refl ∙ c.in_err-third.ensures.reads system raws c.args.start (c.in_ok-second.second ∷ []) refl)

pub returns-in_err-fourth-clause-reads : goal.returns-in_err-fourth-clause-reads
returns-in_err-fourth-clause-reads c = λ system raws. hands_on system (Further raws c.args.start []) (λ raw. Body (raws ++ raw ∷ []) false) _ _
    c.from_residual-in_err-fourth.result _ c.from_residual-in_err-fourth.ensures.1
    (c.in_ok-second.ensures.reads system raws c.args.start [] refl ∙ c.in_ok-third.ensures.reads system raws c.args.start (c.in_ok-second.second ∷ []) refl
    ∙ c.in_err-fourth.ensures.reads system raws c.args.start (c.in_ok-second.second ∷ c.in_ok-third.third ∷ []) refl)

pub returns-in_err-fifth-clause-reads : goal.returns-in_err-fifth-clause-reads
returns-in_err-fifth-clause-reads c = λ system raws. hands_on system (Further raws c.args.start []) (λ raw. Body (raws ++ raw ∷ []) false) _ _
    c.from_residual-in_err-fifth.result _ c.from_residual-in_err-fifth.ensures.1
    (c.in_ok-second.ensures.reads system raws c.args.start [] refl ∙ c.in_ok-third.ensures.reads system raws c.args.start (c.in_ok-second.second ∷ []) refl
    ∙ c.in_ok-fourth.ensures.reads system raws c.args.start (c.in_ok-second.second ∷ c.in_ok-third.third ∷ []) refl
    ∙ c.in_err-fifth.ensures.reads system raws c.args.start (c.in_ok-second.second ∷ c.in_ok-third.third ∷ c.in_ok-fourth.fourth ∷ []) refl)

pub returns-in_err-sixth-clause-reads : goal.returns-in_err-sixth-clause-reads
returns-in_err-sixth-clause-reads c = λ system raws. hands_on system (Further raws c.args.start []) (λ raw. Body (raws ++ raw ∷ []) false) _ _
    c.from_residual-in_err-sixth.result _ c.from_residual-in_err-sixth.ensures.1
    (c.in_ok-second.ensures.reads system raws c.args.start [] refl ∙ c.in_ok-third.ensures.reads system raws c.args.start (c.in_ok-second.second ∷ []) refl
    ∙ c.in_ok-fourth.ensures.reads system raws c.args.start (c.in_ok-second.second ∷ c.in_ok-third.third ∷ []) refl ∙ c.in_ok-fifth.ensures.reads
    system raws c.args.start (c.in_ok-second.second ∷ c.in_ok-third.third ∷ c.in_ok-fourth.fourth ∷ []) refl ∙ c.in_err-sixth.ensures.reads
    system raws c.args.start (c.in_ok-second.second ∷ c.in_ok-third.third ∷ c.in_ok-fourth.fourth ∷ c.in_ok-fifth.fifth ∷ []) refl)

pub returns-in_err-seventh-clause-reads : goal.returns-in_err-seventh-clause-reads
returns-in_err-seventh-clause-reads c = λ system raws. hands_on system (Further raws c.args.start []) (λ raw. Body (raws ++ raw ∷ []) false) _ _
    c.from_residual-in_err-seventh.result _ c.from_residual-in_err-seventh.ensures.1
    (c.in_ok-second.ensures.reads system raws c.args.start [] refl ∙ c.in_ok-third.ensures.reads system raws c.args.start (c.in_ok-second.second ∷ []) refl
    ∙ c.in_ok-fourth.ensures.reads system raws c.args.start (c.in_ok-second.second ∷ c.in_ok-third.third ∷ []) refl ∙ c.in_ok-fifth.ensures.reads
    system raws c.args.start (c.in_ok-second.second ∷ c.in_ok-third.third ∷ c.in_ok-fourth.fourth ∷ []) refl ∙ c.in_ok-sixth.ensures.reads system
    raws c.args.start (c.in_ok-second.second ∷ c.in_ok-third.third ∷ c.in_ok-fourth.fourth ∷ c.in_ok-fifth.fifth ∷ []) refl ∙ c.in_err-seventh.ensures.reads
    system raws c.args.start (c.in_ok-second.second ∷ c.in_ok-third.third ∷ c.in_ok-fourth.fourth ∷ c.in_ok-fifth.fifth ∷ c.in_ok-sixth.sixth ∷ []) refl)

pub returns-in_err-_unread-clause-reads : goal.returns-in_err-_unread-clause-reads
returns-in_err-_unread-clause-reads c = λ system raws. hands_on system (Further raws c.args.start []) (λ raw. Body (raws ++ raw ∷ []) false) _ _
    c.from_residual-in_err-_unread.result _ c.from_residual-in_err-_unread.ensures.1
    (c.in_ok-second.ensures.reads system raws c.args.start [] refl ∙ c.in_ok-third.ensures.reads system raws c.args.start (c.in_ok-second.second ∷ []) refl
    ∙ c.in_ok-fourth.ensures.reads system raws c.args.start (c.in_ok-second.second ∷ c.in_ok-third.third ∷ []) refl
    ∙ c.in_ok-fifth.ensures.reads system raws c.args.start (c.in_ok-second.second ∷ c.in_ok-third.third ∷ c.in_ok-fourth.fourth ∷ []) refl
    ∙ c.in_ok-sixth.ensures.reads system raws c.args.start (c.in_ok-second.second ∷ c.in_ok-third.third ∷ c.in_ok-fourth.fourth ∷ c.in_ok-fifth.fifth ∷ [])
    refl ∙ c.in_ok-seventh.ensures.reads system raws c.args.start (c.in_ok-second.second ∷ c.in_ok-third.third ∷ c.in_ok-fourth.fourth
    ∷ c.in_ok-fifth.fifth ∷ c.in_ok-sixth.sixth ∷ []) refl ∙ c.in_err-_unread.ensures.reads system raws c.args.start (c.in_ok-second.second
    ∷ c.in_ok-third.third ∷ c.in_ok-fourth.fourth ∷ c.in_ok-fifth.fifth ∷ c.in_ok-sixth.sixth ∷ c.in_ok-seventh.seventh ∷ []) refl)

pub returns-clause-reads : goal.returns-clause-reads
returns-clause-reads c = λ system raws. c.in_ok-second.ensures.reads system raws c.args.start [] refl
    ∙ c.in_ok-third.ensures.reads system raws c.args.start (c.in_ok-second.second ∷ []) refl
    ∙ c.in_ok-fourth.ensures.reads system raws c.args.start (c.in_ok-second.second ∷ c.in_ok-third.third ∷ []) refl
    ∙ c.in_ok-fifth.ensures.reads system raws c.args.start (c.in_ok-second.second ∷ c.in_ok-third.third ∷ c.in_ok-fourth.fourth ∷ []) refl
    ∙ c.in_ok-sixth.ensures.reads system raws c.args.start (c.in_ok-second.second ∷ c.in_ok-third.third ∷ c.in_ok-fourth.fourth ∷ c.in_ok-fifth.fifth ∷ []) refl
    ∙ c.in_ok-seventh.ensures.reads system raws c.args.start (c.in_ok-second.second ∷ c.in_ok-third.third ∷ c.in_ok-fourth.fourth
    ∷ c.in_ok-fifth.fifth ∷ c.in_ok-sixth.sixth ∷ []) refl ∙ c.in_ok-_unread.ensures.reads system raws c.args.start (c.in_ok-second.second
    ∷ c.in_ok-third.third ∷ c.in_ok-fourth.fourth ∷ c.in_ok-fifth.fifth ∷ c.in_ok-sixth.sixth ∷ c.in_ok-seventh.seventh ∷ []) refl
