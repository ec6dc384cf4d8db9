-- What a run keeps to stays the same while its sessions are made, so what is said of it before is so after, and the other
-- way round.
use Rattle.std.proofs.Common.{◌≡◌, ℕ, Option, Some, None, inl, inr, List, [], ◌∷◌, ℤ, sym, ◌∙◌, refl, subst}
use Rattle.obs_rows.specs.declared.arcs.Arc.{Arc}
use Rattle.obs_rows.specs.declared.sessions.Session.{Session}
use Rattle.cert_data.specs.declared.outcomes.RoundCounts.{RoundCounts}
use Rattle.cert_data.specs.declared.outcomes.Stage.{Stage}
use Rattle.cert_data.specs.declared.tails.Tail.{Tail}
use Rattle.round_steps.specs.declared.runs.RunEnd.{RunEnd}
use Rattle.round_steps.specs.Runs.{Rules, AreSameRules, IsSessionAt, LeadsTo, IsRunTo, Reaches, EndsAt, EndsEarly, EndsFull, SettlesAt, IsEnd}
use Rattle.obs_rows.specs.Rounds.{Round, round_of, coarse}

pub stays : (rules : Rules) → AreSameRules rules rules
stays rules = record { base = refl; arcs = refl; signals = refl; stands = λ s. (λ h. h, λ h. h); begins = λ point arcs. (λ h. h, λ h. h); may_be_wide = λ r. (λ h. h, λ h. h) }

pub stays_on : (first old new : Rules) → AreSameRules first old → AreSameRules old new → AreSameRules first new
stays_on first old new before then = record {
  base = then.base ∙ before.base;
  arcs = then.arcs ∙ before.arcs;
  signals = then.signals ∙ before.signals;
  stands = λ s. (λ h. (before.stands s).0 ((then.stands s).0 h), λ h. (then.stands s).1 ((before.stands s).1 h));
  begins = λ point arcs. (λ h. (before.begins point arcs).0 ((then.begins point arcs).0 h), λ h. (then.begins point arcs).1 ((before.begins point arcs).1 h));
  may_be_wide = λ r. (λ h. (before.may_be_wide r).0 ((then.may_be_wide r).0 h), λ h. (then.may_be_wide r).1 ((before.may_be_wide r).1 h));
}

pub stayed : (old new : Rules) → AreSameRules old new → AreSameRules new old
stayed old new same = record {
  base = sym same.base;
  arcs = sym same.arcs;
  signals = sym same.signals;
  stands = λ s. ((same.stands s).1, (same.stands s).0);
  begins = λ point arcs. ((same.begins point arcs).1, (same.begins point arcs).0);
  may_be_wide = λ r. ((same.may_be_wide r).1, (same.may_be_wide r).0);
}

-- a session of the run as it is now is one of the run as it began
pub same_session : (first now : Rules) → AreSameRules first now → (r : Round) (o : Option Session) → IsSessionAt now r o → IsSessionAt first r o
same_session first now same r (Some s) at = record { stands = (same.stands s).0 at.stands; signals_are = at.signals_are ∙ same.signals; round_is = at.round_is }
same_session first now same r None at = (same.may_be_wide r).0 at

leads : (old new : Rules) → AreSameRules old new → (s : Session) (r : Round) → LeadsTo old s r → LeadsTo new s r
leads old new same s r (inl moves) = inl moves
leads old new same s r (inr (inl begun)) = inr (inl (record {
  is_coarse = begun.is_coarse;
  form = begun.form;
  settled = begun.settled;
  arcs = begun.arcs;
  begins = (same.begins s.point begun.arcs).1 begun.begins;
  next_is = begun.next_is;
}))
leads old new same s r (inr (inr moves)) = inr (inr moves)

runs : (old new : Rules) → AreSameRules old new → (before : List Session) (r : Round) → IsRunTo old before r → IsRunTo new before r
runs old new same [] r first =
    subst (λ (base : List ℤ). r ≡ coarse base new.arcs) (sym same.base) (subst (λ (arcs : List Arc). r ≡ coarse old.base arcs) (sym same.arcs) first)
runs old new same (s ∷ before) r run =
    (runs old new same before (round_of s) run.0, ((same.stands s).1 run.1.0, leads old new same s r run.1.1))

reaches : (old new : Rules) → AreSameRules old new → (made : RoundCounts) (before : List Session) (r : Round) → Reaches old made before r → Reaches new made before r
reaches old new same made before r reached = record {
  run = runs old new same before r reached.run;
  coarse_made = reached.coarse_made;
  fine_made = reached.fine_made;
  few_coarse = reached.few_coarse;
  few_fine = reached.few_fine;
}

pub settles : (old new : Rules) → AreSameRules old new → (made : ℕ) (point : List ℤ) → SettlesAt old made point → SettlesAt new made point
settles old new same made point at = record {
  before = at.before;
  session = at.session;
  is_coarse = at.is_coarse;
  point_is = at.point_is;
  reached = reaches old new same _ at.before (round_of at.session) at.reached;
  stands = (same.stands at.session).1 at.stands;
  form = at.form;
  settled = at.settled;
  in_reach = at.in_reach;
}

ends_at : (old new : Rules) → AreSameRules old new → (made : RoundCounts) (s : Session) (tail : Tail) → EndsAt old made s tail → EndsAt new made s tail
ends_at old new same made s tail at = record {
  before = at.before;
  reached = reaches old new same made at.before (round_of s) at.reached;
  stands = (same.stands s).1 at.stands;
  declined = at.declined;
}

ends_early : (old new : Rules) → AreSameRules old new → (made : RoundCounts) (stage : Stage) (tail : Tail) → EndsEarly old made stage tail → EndsEarly new made stage tail
ends_early old new same made stage tail (inl wide) = inl (
  wide.0,
  record {
    before = wide.1.before;
    round = wide.1.round;
    scale_is = wide.1.scale_is;
    reached = reaches old new same made wide.1.before wide.1.round wide.1.reached;
    wide = (same.may_be_wide wide.1.round).1 wide.1.wide;
  },
)
ends_early old new same made stage tail (inr declined) = inr (
  declined.0,
  record {
    session = declined.1.session;
    is_coarse = declined.1.is_coarse;
    ends = ends_at old new same made declined.1.session tail declined.1.ends;
  },
)

ends_full : (old new : Rules) → AreSameRules old new → (ratio budget : ℕ) (made : RoundCounts) (s : Session) (tail : Tail)
    → EndsFull old ratio budget made s tail → EndsFull new ratio budget made s tail
ends_full old new same ratio budget made s tail (fine, inl declined) = (fine, inl (ends_at old new same made s tail declined))
ends_full old new same ratio budget made s tail (fine, inr decided) = (
  fine,
  inr (record {
    before = decided.before;
    reached = reaches old new same made decided.before (round_of s) decided.reached;
    stands = (same.stands s).1 decided.stands;
    decided = decided.decided;
  }),
)

pub ends : (old new : Rules) → AreSameRules old new → (ratio budget : ℕ) (end : RunEnd) → IsEnd old ratio budget end → IsEnd new ratio budget end
ends old new same ratio budget (RunEnd.Early made stage tail) h = ends_early old new same made stage tail h
ends old new same ratio budget (RunEnd.Full made s tail) h = ends_full old new same ratio budget made s tail h
