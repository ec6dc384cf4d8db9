-- Runs, round by round.
use Rattle.std.proofs.Common.{◌≡◌, ℕ, ◌+◌, ◌-◌, ◌*◌, ◌^◌, ◌<◌, ◌≤◌, inl, inr, true, false, Bool, cond, nat_eq, Option, Some, List, [], ◌∷◌, All, ℤ, arith, sym, ap, ◌∙◌, refl, subst}
use Rattle.std.proofs.lemmas.Bool.Decides.{nat_tests}
use Rattle.std.proofs.lemmas.List.Sums.{sum_by-cons}
use Rattle.obs_rows.specs.declared.arcs.Arc.{Arc}
use Rattle.obs_rows.specs.declared.sessions.Session.{Session}
use Rattle.obs_rows.specs.declared.units.TheConstants.{COARSE_SCALE}
use Rattle.obs_rows.specs.Signals.{fine_signals}
use Rattle.obs_rows.specs.Unused.{HasUsedShifts}
use Rattle.integer_form.specs.declared.form.Form.{Form}
use Rattle.integer_form.specs.declared.faults.Place.TheVariants as Place
use Rattle.cert_data.specs.declared.tails.Tail.{Tail}
use Rattle.cert_data.specs.declared.outcomes.RoundCounts.{RoundCounts}
use Rattle.cert_data.specs.declared.outcomes.Stage.TheVariants.{Coarse, Fine}
use Rattle.obs_rows.specs.ReceiverPoints.{IsReceiverPoint}
use Rattle.round_steps.specs.Shifts.{AreGrown, AreSameArcs, AreShiftsBelow}
use Rattle.cert_check.specs.Settled.{IsDecision}
use Rattle.round_steps.specs.Steps.{IsSettledForm, IsMoved, IsRoundDeclined}
use Rattle.round_steps.specs.Runs.{Rules, IsSessionOf, IsSessionAt, MayBegin, IsRunTo, rounds_at, rounds_with, most_rounds, is_last, Reaches, EndsEarly, EndsFull, coarse_alone, SettlesAt}
use Rattle.obs_rows.specs.Rounds.{Round, round_of, coarse, fine}
use Rattle.round_steps.proofs.ShiftLaws.{grown_same}
use Rattle.round_steps.proofs.UsedShifts.{grown_used}

-- ---- counts
with_one : (scale : ℕ) (s : Session) (before : List Session) → rounds_at scale (s ∷ before) ≡ cond (nat_eq s.scale scale) 1 0 + rounds_at scale before
with_one scale s before = sum_by-cons (λ (x : Session). cond (nat_eq x.scale scale) 1 0) s before

-- the round of a session counts as the session does
pub with_session : (scale : ℕ) (s : Session) (before : List Session) → rounds_with scale before (round_of s) ≡ rounds_at scale (s ∷ before)
with_session scale s before = turned (rounds_at scale (s ∷ before)) (cond (nat_eq s.scale scale) 1 0) (rounds_at scale before) (with_one scale s before)
  where
    turned : (m b n : ℕ) → m ≡ b + n → n + b ≡ m
    turned m b n sum = omega arith

pub more_at : (scale : ℕ) (s : Session) (before : List Session) → s.scale ≡ scale → nat_eq scale scale ≡ true → rounds_at scale (s ∷ before) ≡ rounds_at scale before + 1
more_at scale s before scaled same = turned (rounds_at scale (s ∷ before)) (rounds_at scale before)
    (with_one scale s before ∙ ap (λ (b : Bool). cond b 1 0 + rounds_at scale before) (ap (λ (n : ℕ). nat_eq n scale) scaled ∙ same))
  where
    turned : (m n : ℕ) → m ≡ 1 + n → m ≡ n + 1
    turned m n one = omega arith

no_more_at : (scale other : ℕ) (s : Session) (before : List Session) → s.scale ≡ other → nat_eq other scale ≡ false → rounds_at scale (s ∷ before) ≡ rounds_at scale before
no_more_at scale other s before scaled apart = without_zero (rounds_at scale (s ∷ before)) (rounds_at scale before)
    (with_one scale s before ∙ ap (λ (b : Bool). cond b 1 0 + rounds_at scale before) (ap (λ (n : ℕ). nat_eq n scale) scaled ∙ apart))
  where
    without_zero : (a b : ℕ) → a ≡ 0 + b → a ≡ b
    without_zero a b none = omega arith

-- a round that isn't the last that is allowed leaves one more
pub one_more : (made most : ℕ) → made ≤ most → nat_eq made most ≡ false → made + 1 ≤ most
one_more made most few not_last = grind (arith, nat_tests)

plus_zero : (a b : ℕ) → b ≡ a → a ≡ b + 0
plus_zero a b same = omega arith

pub session_at : (rules : Rules) (r : Round) (o : Option Session) (s : Session) → o ≡ Some s → IsSessionAt rules r o → IsSessionOf rules r s
session_at rules r o s found at = subst (IsSessionAt rules r) found at

scale_is : (rules : Rules) (r : Round) (s : Session) → IsSessionOf rules r s → s.scale ≡ r.scale
scale_is rules r s session_is = ap (λ (q : Round). q.scale) session_is.round_is

point_is : (rules : Rules) (r : Round) (s : Session) → IsSessionOf rules r s → s.point ≡ r.point
point_is rules r s session_is = ap (λ (q : Round). q.point) session_is.round_is

arcs_are : (rules : Rules) (r : Round) (s : Session) → IsSessionOf rules r s → s.arcs ≡ r.arcs
arcs_are rules r s session_is = ap (λ (q : Round). q.arcs) session_is.round_is

-- ---- coarse rounds
-- `made` coarse rounds were made, with the one at this point
pub record CoarseSoFar (rules : Rules) (point : List ℤ) (arcs : List Arc) (made : ℕ) : Type 0 where
  pub before : List Session
  pub run : IsRunTo rules before (coarse point arcs)
  pub count : rounds_at COARSE_SCALE before + 1 ≡ made
  pub few : made ≤ most_rounds COARSE_SCALE
  pub none_fine : rounds_at 0 before ≡ 0
  pub in_reach : IsReceiverPoint point

-- the first of them is at the base
pub coarse_begins : (rules : Rules) (made : ℕ) (arcs : List Arc) (base : List ℤ) → MayBegin rules made arcs base → CoarseSoFar rules base arcs 1
coarse_begins rules made arcs base begins = record {
  before = [];
  run = ap (λ (point : List ℤ). coarse point arcs) begins.base_is ∙ ap (λ (others : List Arc). coarse rules.base others) begins.arcs_are;
  count = refl;
  few = omega arith;
  none_fine = refl;
  in_reach = begins.base_in;
}

coarse_reached : (rules : Rules) (point : List ℤ) (arcs : List Arc) (made : ℕ) (so_far : CoarseSoFar rules point arcs made) → Reaches rules (coarse_alone made) so_far.before (coarse point arcs)
coarse_reached rules point arcs made so_far = record {
  run = so_far.run;
  coarse_made = sym so_far.count;
  fine_made = plus_zero 0 (rounds_at 0 so_far.before) so_far.none_fine;
  few_coarse = so_far.few;
  few_fine = omega arith;
}

coarse_session : (rules : Rules) (point : List ℤ) (arcs : List Arc) (made : ℕ) (so_far : CoarseSoFar rules point arcs made) (s : Session)
    → IsSessionOf rules (coarse point arcs) s → Reaches rules (coarse_alone made) so_far.before (round_of s)
coarse_session rules point arcs made so_far s session_is = subst (Reaches rules (coarse_alone made) so_far.before) (sym session_is.round_is) (coarse_reached rules point arcs made so_far)

coarse_last : (rules : Rules) (point : List ℤ) (arcs : List Arc) (made : ℕ) (so_far : CoarseSoFar rules point arcs made) (s : Session)
    → IsSessionOf rules (coarse point arcs) s → is_last s.scale so_far.before ≡ nat_eq made (most_rounds COARSE_SCALE)
coarse_last rules point arcs made so_far s session_is =
    ap (λ (n : ℕ). is_last n so_far.before) (scale_is rules (coarse point arcs) s session_is) ∙ ap (λ (n : ℕ). nat_eq n (most_rounds COARSE_SCALE)) so_far.count

pub coarse_at_y : (rules : Rules) (point : List ℤ) (arcs : List Arc) (made : ℕ) → CoarseSoFar rules point arcs made
    → rules.may_be_wide (coarse point arcs) → EndsEarly rules (coarse_alone made) Coarse (Tail.Overwidth Place.Y)
coarse_at_y rules point arcs made so_far wide = inl
    (refl, record { before = so_far.before; round = coarse point arcs; scale_is = refl; reached = coarse_reached rules point arcs made so_far; wide = wide })

pub coarse_declines : (rules : Rules) (point : List ℤ) (arcs : List Arc) (made : ℕ) (s : Session) (tail : Tail) → CoarseSoFar rules point arcs made
    → IsSessionOf rules (coarse point arcs) s → IsRoundDeclined (nat_eq made (most_rounds COARSE_SCALE)) s tail → EndsEarly rules (coarse_alone made) Coarse tail
coarse_declines rules point arcs made s tail so_far session_is declined = inr (
  refl,
  record {
    session = s;
    is_coarse = scale_is rules (coarse point arcs) s session_is;
    ends = record {
      before = so_far.before;
      reached = coarse_session rules point arcs made so_far s session_is;
      stands = session_is.stands;
      declined = subst (λ (b : Bool). IsRoundDeclined b s tail) (sym (coarse_last rules point arcs made so_far s session_is)) declined;
    };
  },
)

pub coarse_settles : (rules : Rules) (point : List ℤ) (arcs : List Arc) (made : ℕ) (s : Session) (form : Form) → CoarseSoFar rules point arcs made
    → IsSessionOf rules (coarse point arcs) s → IsSettledForm s form → SettlesAt rules made point
coarse_settles rules point arcs made s form so_far session_is settled_form = record {
  before = so_far.before;
  session = s;
  is_coarse = scale_is rules (coarse point arcs) s session_is;
  point_is = point_is rules (coarse point arcs) s session_is;
  reached = coarse_session rules point arcs made so_far s session_is;
  stands = session_is.stands;
  form = form;
  settled = settled_form;
  in_reach = so_far.in_reach;
}

pub coarse_moves : (rules : Rules) (point : List ℤ) (arcs : List Arc) (made : ℕ) (s : Session) (numbers next : List ℤ) → CoarseSoFar rules point arcs made
    → IsSessionOf rules (coarse point arcs) s → nat_eq made (most_rounds COARSE_SCALE) ≡ false → IsMoved s numbers next → CoarseSoFar rules next arcs (made + 1)
coarse_moves rules point arcs made s numbers next so_far session_is not_last moves =
    let scaled : s.scale ≡ COARSE_SCALE = scale_is rules (coarse point arcs) s session_is in
    record {
      before = s ∷ so_far.before;
      run = (
        (coarse_session rules point arcs made so_far s session_is).run,
        (
          session_is.stands,
          inl (record {
            is_coarse = scaled;
            numbers = numbers;
            point = next;
            moved = moves;
            next_is = ap (coarse next) (sym (arcs_are rules (coarse point arcs) s session_is));
          }),
        ),
      );
      count = ap (λ (n : ℕ). n + 1) (more_at COARSE_SCALE s so_far.before scaled refl ∙ so_far.count);
      few = one_more made (most_rounds COARSE_SCALE) so_far.few not_last;
      none_fine = no_more_at 0 COARSE_SCALE s so_far.before scaled refl ∙ so_far.none_fine;
      in_reach = moves.in_reach;
    }

-- ---- fine rounds
-- `made` fine rounds were made, with the one at this point, after `coarse_made` coarse ones
pub record FineSoFar (rules : Rules) (point : List ℤ) (arcs : List Arc) (coarse_made made : ℕ) : Type 0 where
  pub before : List Session
  pub run : IsRunTo rules before (fine point arcs)
  pub coarse_count : rounds_at COARSE_SCALE before ≡ coarse_made
  pub few_coarse : coarse_made ≤ most_rounds COARSE_SCALE
  pub count : rounds_at 0 before + 1 ≡ made
  pub few : made ≤ most_rounds 0
  pub in_reach : IsReceiverPoint point
  pub same : AreSameArcs rules.arcs arcs
  pub below : AreShiftsBelow (2 ^ 39 + 2 ^ 30 * (made - 1)) arcs
  pub used : All (HasUsedShifts (fine_signals rules.signals)) arcs

pub fine_begins : (rules : Rules) (point : List ℤ) (arcs : List Arc) (coarse_made : ℕ) → SettlesAt rules coarse_made point → rules.begins point arcs →
    AreSameArcs rules.arcs arcs → AreShiftsBelow (2 ^ 39) arcs →
    All (HasUsedShifts (fine_signals rules.signals)) arcs → FineSoFar rules point arcs coarse_made 1
fine_begins rules point arcs coarse_made settles first_shifts same below used = record {
  before = settles.session ∷ settles.before;
  run = (
    settles.reached.run,
    (
      settles.stands,
      inr (inl (record {
        is_coarse = settles.is_coarse;
        form = settles.form;
        settled = settles.settled;
        arcs = arcs;
        begins = subst (λ (p : List ℤ). rules.begins p arcs) (sym settles.point_is) first_shifts;
        next_is = ap (λ (p : List ℤ). fine p arcs) (sym settles.point_is);
      })),
    ),
  );
  coarse_count = sym (settles.reached.coarse_made ∙ with_session COARSE_SCALE settles.session settles.before);
  few_coarse = settles.reached.few_coarse;
  count = ap (λ (n : ℕ). n + 1) (sym (settles.reached.fine_made ∙ with_session 0 settles.session settles.before));
  few = omega arith;
  in_reach = settles.in_reach;
  same = same;
  below = below;
  used = used;
}

abbrev made_of : ℕ → ℕ → RoundCounts
made_of coarse_made made = record { coarse = coarse_made; fine = made }

fine_reached : (rules : Rules) (point : List ℤ) (arcs : List Arc) (coarse_made made : ℕ) (so_far : FineSoFar rules point arcs coarse_made made)
    → Reaches rules (made_of coarse_made made) so_far.before (fine point arcs)
fine_reached rules point arcs coarse_made made so_far = record {
  run = so_far.run;
  coarse_made = plus_zero coarse_made (rounds_at COARSE_SCALE so_far.before) so_far.coarse_count;
  fine_made = sym so_far.count;
  few_coarse = so_far.few_coarse;
  few_fine = so_far.few;
}

fine_session : (rules : Rules) (point : List ℤ) (arcs : List Arc) (coarse_made made : ℕ) (so_far : FineSoFar rules point arcs coarse_made made) (s : Session)
    → IsSessionOf rules (fine point arcs) s → Reaches rules (made_of coarse_made made) so_far.before (round_of s)
fine_session rules point arcs coarse_made made so_far s session_is =
    subst (Reaches rules (made_of coarse_made made) so_far.before) (sym session_is.round_is) (fine_reached rules point arcs coarse_made made so_far)

fine_last : (rules : Rules) (point : List ℤ) (arcs : List Arc) (coarse_made made : ℕ) (so_far : FineSoFar rules point arcs coarse_made made) (s : Session)
    → IsSessionOf rules (fine point arcs) s → is_last s.scale so_far.before ≡ nat_eq made (most_rounds 0)
fine_last rules point arcs coarse_made made so_far s session_is =
    ap (λ (n : ℕ). is_last n so_far.before) (scale_is rules (fine point arcs) s session_is) ∙ ap (λ (n : ℕ). nat_eq n (most_rounds 0)) so_far.count

pub fine_at_y : (rules : Rules) (point : List ℤ) (arcs : List Arc) (coarse_made made : ℕ) → FineSoFar rules point arcs coarse_made made
    → rules.may_be_wide (fine point arcs) → EndsEarly rules (made_of coarse_made made) Fine (Tail.Overwidth Place.Y)
fine_at_y rules point arcs coarse_made made so_far wide =
    inl (refl, record { before = so_far.before; round = fine point arcs; scale_is = refl; reached = fine_reached rules point arcs coarse_made made so_far; wide = wide })

pub fine_declines : (rules : Rules) (point : List ℤ) (arcs : List Arc) (coarse_made made ratio budget : ℕ) (s : Session) (tail : Tail)
    → FineSoFar rules point arcs coarse_made made → IsSessionOf rules (fine point arcs) s → IsRoundDeclined (nat_eq made (most_rounds 0)) s tail
    → EndsFull rules ratio budget (made_of coarse_made made) s tail
fine_declines rules point arcs coarse_made made ratio budget s tail so_far session_is declined = (
  scale_is rules (fine point arcs) s session_is,
  inl (record {
    before = so_far.before;
    reached = fine_session rules point arcs coarse_made made so_far s session_is;
    stands = session_is.stands;
    declined = subst (λ (b : Bool). IsRoundDeclined b s tail) (sym (fine_last rules point arcs coarse_made made so_far s session_is)) declined;
  }),
)

pub fine_decides : (rules : Rules) (point : List ℤ) (arcs : List Arc) (coarse_made made ratio budget : ℕ) (s : Session) (form : Form) (tail : Tail)
    → FineSoFar rules point arcs coarse_made made → IsSessionOf rules (fine point arcs) s → IsSettledForm s form → IsDecision s form ratio budget tail
    → EndsFull rules ratio budget (made_of coarse_made made) s tail
fine_decides rules point arcs coarse_made made ratio budget s form tail so_far session_is settled_form decided = (
  scale_is rules (fine point arcs) s session_is,
  inr (record {
    before = so_far.before;
    reached = fine_session rules point arcs coarse_made made so_far s session_is;
    stands = session_is.stands;
    decided = record { form = form; settled = settled_form; decision = decided };
  }),
)

pub fine_moves : (rules : Rules) (point : List ℤ) (arcs : List Arc) (coarse_made made : ℕ) (s : Session) (numbers next : List ℤ) (after : List Arc) →
    FineSoFar rules point arcs coarse_made made → IsSessionOf rules (fine point arcs) s → nat_eq made (most_rounds 0) ≡ false → IsMoved s numbers next →
    AreGrown arcs (fine_signals s.signals) numbers after → ((m : ℕ) → AreShiftsBelow m arcs → 0 < m → AreShiftsBelow (m + 2 ^ 30) after) → FineSoFar rules next after coarse_made (made + 1)
fine_moves rules point arcs coarse_made made s numbers next after so_far session_is not_last moves grow below =
    let scaled : s.scale ≡ 0 = scale_is rules (fine point arcs) s session_is in
    record {
      before = s ∷ so_far.before;
      run = (
        (fine_session rules point arcs coarse_made made so_far s session_is).run,
        (
          session_is.stands,
          inr (inr (record {
            is_fine = scaled;
            numbers = numbers;
            point = next;
            arcs = after;
            moved = moves;
            grown = subst (λ (a : List Arc). AreGrown a (fine_signals s.signals) numbers after) (sym (arcs_are rules (fine point arcs) s session_is)) grow;
            next_is = refl;
          })),
        ),
      );
      coarse_count = no_more_at COARSE_SCALE 0 s so_far.before scaled refl ∙ so_far.coarse_count;
      few_coarse = so_far.few_coarse;
      count = ap (λ (n : ℕ). n + 1) (more_at 0 s so_far.before scaled refl ∙ so_far.count);
      few = one_more made (most_rounds 0) so_far.few not_last;
      in_reach = moves.in_reach;
      same = grown_same arcs (fine_signals s.signals) numbers after grow ∙ so_far.same;
      below = subst (λ (n : ℕ). AreShiftsBelow n after) (one_wider made (rounds_at 0 so_far.before) so_far.count) (below (2 ^ 39 + 2 ^ 30 * (made - 1)) so_far.below (omega arith));
      used = let same : fine_signals s.signals ≡ fine_signals rules.signals = ap fine_signals session_is.signals_are in
          grown_used arcs (fine_signals rules.signals) numbers after (subst (λ (ss : List ℕ). AreGrown arcs ss numbers after) same grow) so_far.used;
    }
  where
    one_wider : (m n : ℕ) → n + 1 ≡ m → 2 ^ 39 + 2 ^ 30 * (m - 1) + 2 ^ 30 ≡ 2 ^ 39 + 2 ^ 30 * (m + 1 - 1)
    one_wider m n counted = omega arith
