-- However a run ends, it had no more rounds than are allowed.
use Rattle.std.proofs.Common.{◌≡◌, ◌≤◌, inl, inr, ℕ, arith}
use Rattle.obs_rows.specs.declared.sessions.Session.{Session}
use Rattle.obs_rows.specs.declared.units.TheConstants.{COARSE_SCALE}
use Rattle.cert_data.specs.declared.tails.Tail.{Tail}
use Rattle.cert_data.specs.declared.outcomes.Answer.{Answer}
use Rattle.cert_data.specs.declared.outcomes.Answer.TheVariants.{Few, Arcs, Early, Full}
use Rattle.cert_data.specs.declared.outcomes.RoundCounts.{RoundCounts}
use Rattle.cert_data.specs.declared.outcomes.Stage.{Stage}
use Rattle.round_steps.specs.Runs.{Rules, most_rounds, EndsEarly, EndsFull}
use Rattle.obs_rows.specs.declared.options.Options.{Options}
use Rattle.session.specs.Answers.{AreAllowed, AreNone, IsAnswer}

none_allowed : (rounds : RoundCounts) → AreNone rounds → AreAllowed rounds
none_allowed rounds none = (zero_most rounds.coarse (most_rounds COARSE_SCALE) none.0, zero_most rounds.fine (most_rounds 0) none.1)
  where
    zero_most : (n most : ℕ) → n ≡ 0 → n ≤ most
    zero_most n most none = omega arith

early_allowed : (rules : Rules) (rounds : RoundCounts) (stage : Stage) (tail : Tail) → EndsEarly rules rounds stage tail → AreAllowed rounds
early_allowed rules rounds stage tail ends = elim ends [
  | inl at_y ↦ (at_y.1.reached.few_coarse, at_y.1.reached.few_fine)
  | inr coarse ↦ (coarse.1.ends.reached.few_coarse, coarse.1.ends.reached.few_fine)
]

full_allowed : (rules : Rules) (ratio budget : ℕ) (rounds : RoundCounts) (s : Session) (tail : Tail) → EndsFull rules ratio budget rounds s tail → AreAllowed rounds
full_allowed rules ratio budget rounds s tail full = elim (full.1) [
  | inl ends ↦ (ends.reached.few_coarse, ends.reached.few_fine)
  | inr decides ↦ (decides.reached.few_coarse, decides.reached.few_fine)
]

pub answer_allowed : (rules : Rules) (taken : ℕ) (o : Options) (rounds : RoundCounts) (a : Answer) → IsAnswer rules taken o rounds a → AreAllowed rounds
answer_allowed rules taken o rounds (Few pairs) is = none_allowed rounds is.1.1
answer_allowed rules taken o rounds (Arcs free) is = none_allowed rounds is.1.1.1
answer_allowed rules taken o rounds (Early stage tail) is = early_allowed rules rounds stage tail is.1
answer_allowed rules taken o rounds (Full cert) is = full_allowed rules o.ratio o.budget rounds cert.session cert.tail is.1.ends
