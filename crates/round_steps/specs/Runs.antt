-- Runs of rounds, from the first coarse round to the end. What a session has to stand for is given by the files; here it
-- is a part of the rules.
use Rattle.std.specs.Prelude.{◌≡◌, ℕ, Option, Some, None, ◌+◌, ◌≤◌, ◌⊎◌, ◌↔◌, ◌^◌, ◌==◌, Bool, if◌then◌else◌, List, [], ◌∷◌, count_by, All, ℤ}
use Rattle.obs_rows.specs.declared.arcs.Arc.{Arc}
use Rattle.obs_rows.specs.declared.bands.Signals.{Signals}
use Rattle.obs_rows.specs.declared.sessions.Session.{Session}
use Rattle.obs_rows.specs.declared.units.TheConstants.{COARSE_SCALE}
use Rattle.obs_rows.specs.Signals.{fine_signals}
use Rattle.obs_rows.specs.Unused.{HasUsedShifts}
use Rattle.integer_form.specs.declared.form.Form.{Form}
use Rattle.cert_data.specs.Tails.{IsTailOf}
use Rattle.cert_data.specs.declared.tails.Tail.{Tail}
use Rattle.cert_data.specs.declared.outcomes.RoundCounts.{RoundCounts}
use Rattle.cert_data.specs.declared.outcomes.Stage.{Stage}
use Rattle.cert_data.specs.declared.outcomes.Stage.TheVariants.{Coarse, Fine}
use Rattle.round_steps.specs.declared.runs.RunEnd.{RunEnd}
use Rattle.round_steps.specs.declared.runs.CoarseEnd.{CoarseEnd}
use Rattle.round_steps.specs.Shifts.{AreGrown, AreShiftsBelow}
use Rattle.obs_rows.specs.ReceiverPoints.{IsReceiverPoint}
use Rattle.cert_check.specs.Settled.{IsBestByRatioWhereFixed}
use Rattle.round_steps.specs.Steps.{IsSettledForm, IsMoved, IsRoundDeclined, IsRoundDecided}
use Rattle.obs_rows.specs.Rounds.{Round, round_of, fine, coarse}
use Rattle.integer_form.specs.declared.faults.Place.TheVariants as Place

-- what a run of these files and options keeps to: where it begins, which bands it uses, which sessions stand for the files,
-- which shifts its first fine round may have at a point, and in which rounds a centre of y may be out of range
pub record Rules : Type 1 where
  pub base : List ℤ
  pub arcs : List Arc
  pub signals : Signals
  pub stands : Session → Type 0
  pub begins : List ℤ → List Arc → Type 0
  pub may_be_wide : Round → Type 0

-- a run that keeps to these rules may begin with these arcs at this base: none of its sessions was made, and they are those of the
-- rules, in their ranges
pub record MayBegin (rules : Rules) (made : ℕ) (arcs : List Arc) (base : List ℤ) : Type 0 where
  pub fresh : made ≡ 0
  pub base_is : base ≡ rules.base
  pub arcs_are : arcs ≡ rules.arcs
  pub base_in : IsReceiverPoint base
  pub shifts_in : AreShiftsBelow (2 ^ 40) arcs
  pub used : All (HasUsedShifts (fine_signals rules.signals)) arcs

-- what a run keeps to, before and after one of its sessions was made
pub record AreSameRules (old new : Rules) : Type 0 where
  pub base : new.base ≡ old.base
  pub arcs : new.arcs ≡ old.arcs
  pub signals : new.signals ≡ old.signals
  pub stands : (s : Session) → new.stands s ↔ old.stands s
  pub begins : (point : List ℤ) (arcs : List Arc) → new.begins point arcs ↔ old.begins point arcs
  pub may_be_wide : (r : Round) → new.may_be_wide r ↔ old.may_be_wide r

-- this session stands for the files in this round, or there is none, where a centre of y may be out of range
pub record IsSessionOf (rules : Rules) (r : Round) (s : Session) : Type 0 where
  pub stands : rules.stands s
  pub signals_are : s.signals ≡ rules.signals
  pub round_is : round_of s ≡ r

abbrev pub IsSessionAt : Rules → Round → Option Session → Type 0
IsSessionAt rules r (Some s) = IsSessionOf rules r s
IsSessionAt rules r None = rules.may_be_wide r

abbrev pub round_at : ℕ → List ℤ → List Arc → Round
round_at scale point arcs = record { scale = scale; point = point; arcs = arcs }

-- a coarse round that isn't settled moves the point
pub record MovesCoarse (s : Session) (next : Round) : Type 0 where
  pub is_coarse : s.scale ≡ COARSE_SCALE
  pub numbers : List ℤ
  pub point : List ℤ
  pub moved : IsMoved s numbers point
  pub next_is : next ≡ coarse point s.arcs

-- a settled coarse round leaves the point, and the fine rounds begin
pub record BeginsFine (rules : Rules) (s : Session) (next : Round) : Type 0 where
  pub is_coarse : s.scale ≡ COARSE_SCALE
  pub form : Form
  pub settled : IsSettledForm s form
  pub arcs : List Arc
  pub begins : rules.begins s.point arcs
  pub next_is : next ≡ fine s.point arcs

-- a fine round that isn't settled moves the point, and the shifts grow
pub record MovesFine (s : Session) (next : Round) : Type 0 where
  pub is_fine : s.scale ≡ 0
  pub numbers : List ℤ
  pub point : List ℤ
  pub arcs : List Arc
  pub moved : IsMoved s numbers point
  pub grown : AreGrown s.arcs (fine_signals s.signals) numbers arcs
  pub next_is : next ≡ fine point arcs

abbrev pub LeadsTo : Rules → Session → Round → Type 0
LeadsTo rules s next = MovesCoarse s next ⊎ (BeginsFine rules s next ⊎ MovesFine s next)

-- These sessions, the latest first, are those of the rounds before this one: the first round is coarse and at the base,
-- each session stands for the files, and each round leads to the next
abbrev pub IsRunTo : Rules → List Session → Round → Type 0
IsRunTo rules [] r = r ≡ coarse rules.base rules.arcs
IsRunTo rules (s ∷ before) r = IsRunTo rules before (round_of s) × (rules.stands s × LeadsTo rules s r)

-- how many of these rounds are at a scale
abbrev pub rounds_at : ℕ → List Session → ℕ
rounds_at scale before = count_by (λ s. s.scale == scale) before

-- how many rounds are at a scale in a run up to this round
abbrev pub rounds_with : ℕ → List Session → Round → ℕ
rounds_with scale before r = rounds_at scale before + (if r.scale == scale then 1 else 0)

-- at most ten rounds are coarse and at most six fine
abbrev pub most_rounds : ℕ → ℕ
most_rounds scale = if scale == 0 then 6 else 10

-- no further round at this scale is allowed
abbrev pub is_last : ℕ → List Session → Bool
is_last scale before = (rounds_at scale before + 1) == most_rounds scale

-- a run reaches this round after these others: `made` counts the coarse and the fine rounds with it, which are no more
-- than are allowed
pub record Reaches (rules : Rules) (made : RoundCounts) (before : List Session) (r : Round) : Type 0 where
  pub run : IsRunTo rules before r
  pub coarse_made : made.coarse ≡ rounds_with COARSE_SCALE before r
  pub fine_made : made.fine ≡ rounds_with 0 before r
  pub few_coarse : made.coarse ≤ most_rounds COARSE_SCALE
  pub few_fine : made.fine ≤ most_rounds 0

-- the run ends in a round without a session, since a centre of y may be out of range
pub record EndsAtY (rules : Rules) (made : RoundCounts) (scale : ℕ) : Type 0 where
  pub before : List Session
  pub round : Round
  pub scale_is : round.scale ≡ scale
  pub reached : Reaches rules made before round
  pub wide : rules.may_be_wide round

-- the run ends in the round of this session
pub record EndsAt (rules : Rules) (made : RoundCounts) (s : Session) (tail : Tail) : Type 0 where
  pub before : List Session
  pub reached : Reaches rules made before (round_of s)
  pub stands : rules.stands s
  pub declined : IsRoundDeclined (is_last s.scale before) s tail

-- the run is decided in the round of this session
pub record DecidesAt (rules : Rules) (ratio budget : ℕ) (made : RoundCounts) (s : Session) (tail : Tail) : Type 0 where
  pub before : List Session
  pub reached : Reaches rules made before (round_of s)
  pub stands : rules.stands s
  pub decided : IsRoundDecided s ratio budget tail

abbrev pub scale_of : Stage → ℕ
scale_of Coarse = COARSE_SCALE
scale_of Fine = 0

-- a coarse round that is declined
pub record EndsCoarse (rules : Rules) (made : RoundCounts) (tail : Tail) : Type 0 where
  pub session : Session
  pub is_coarse : session.scale ≡ COARSE_SCALE
  pub ends : EndsAt rules made session tail

-- the run ends without a session to print: at a centre of y, or in a coarse round
abbrev pub EndsEarly : Rules → RoundCounts → Stage → Tail → Type 0
EndsEarly rules made stage tail = ((tail ≡ Tail.Overwidth Place.Y) × EndsAtY rules made (scale_of stage)) ⊎ ((stage ≡ Coarse) × EndsCoarse rules made tail)

-- the run ends on a fine session
abbrev pub EndsFull : Rules → ℕ → ℕ → RoundCounts → Session → Tail → Type 0
EndsFull rules ratio budget made s tail = (s.scale ≡ 0) × (EndsAt rules made s tail ⊎ DecidesAt rules ratio budget made s tail)

-- the end of a run, with how many rounds it had
abbrev pub IsEnd : Rules → ℕ → ℕ → RunEnd → Type 0
IsEnd rules ratio budget (RunEnd.Early made stage tail) = EndsEarly rules made stage tail
IsEnd rules ratio budget (RunEnd.Full made s tail) = EndsFull rules ratio budget made s tail

-- the tail is one of a certificate of this budget
abbrev pub FitsEnd : ℕ → RunEnd → Type 0
FitsEnd budget (RunEnd.Early made stage tail) = Unit {0}
FitsEnd budget (RunEnd.Full made s tail) = IsTailOf (fine_signals s.signals) s.arcs budget tail

-- where the integers are fixed, they are with their move best by the ratio
abbrev pub IsBestEnd : ℕ → RunEnd → Type 0
IsBestEnd ratio (RunEnd.Early made stage tail) = Unit {0}
IsBestEnd ratio (RunEnd.Full made s tail) = IsBestByRatioWhereFixed ratio s tail

-- `made` coarse rounds, and no fine one
abbrev pub coarse_alone : ℕ → RoundCounts
coarse_alone made = record { coarse = made; fine = 0 }

-- a run reaches a coarse round that is settled at this point, and with it `made` rounds are coarse
pub record SettlesAt (rules : Rules) (made : ℕ) (point : List ℤ) : Type 0 where
  pub before : List Session
  pub session : Session
  pub is_coarse : session.scale ≡ COARSE_SCALE
  pub point_is : session.point ≡ point
  pub reached : Reaches rules (coarse_alone made) before (round_of session)
  pub stands : rules.stands session
  pub form : Form
  pub settled : IsSettledForm session form
  pub in_reach : IsReceiverPoint point

-- the end of the coarse rounds, with how many there were
abbrev pub IsCoarseEnd : Rules → CoarseEnd → Type 0
IsCoarseEnd rules (CoarseEnd.Settled made point) = SettlesAt rules made point
IsCoarseEnd rules (CoarseEnd.Declined made tail) = EndsEarly rules (coarse_alone made) Coarse tail

-- how many sessions the coarse rounds made that end so, one for each
abbrev pub coarse_sessions : CoarseEnd → ℕ
coarse_sessions (CoarseEnd.Settled made point) = made
coarse_sessions (CoarseEnd.Declined made tail) = made

-- how many sessions a run made that ends so, one for each of its rounds
abbrev pub sessions_of : RunEnd → ℕ
sessions_of (RunEnd.Early made stage tail) = made.coarse + made.fine
sessions_of (RunEnd.Full made s tail) = made.coarse + made.fine
