use Rattle.std.proofs.Common.{◌↔◌, ◌∙◌, inl, List, ℤ, IsTrue, subst}
use Rattle.session_jobs.proofs.FixSays.{proved_outcome}
use Rattle.sim_jobs.specs.Matches.{IsMatched}
use Rattle.sim_jobs.proofs.RunArcs.{marked}
use Rattle.sim_jobs.proofs.runs.answer_files.Goals as goal

pub is_matched-matched-requires : goal.is_matched-matched-requires
is_matched-matched-requires c = marked _ _ _ _ _ c.in-Ok.ensures.outcome

pub returns-in_ok-answer_match-in-Ok : goal.returns-in_ok-answer_match-in-Ok
returns-in_ok-answer_match-in-Ok c = inl (record {
  outcome = c.in-Ok.outcome;
  holds = proved_outcome _ _ _ _ c.in-Ok.outcome c.in-Ok.ensures.outcome c.in-Ok.ensures.by_ratio;
  matched = c.is_matched-matched.result;
  matched_is = subst (λ (t : List (List ℤ)). IsTrue c.is_matched-matched.result ↔ IsMatched t c.in-Ok.outcome.answer) (c.deref.ensures.value ∙ c.requires) c.is_matched-matched.ensures;
  end_is = c.in_ok-answer_match-in-Ok.ensures;
})
