-- The flags of the arcs that have begun.
use Rattle.std.proofs.Common.{◌≡◌, ◌⊎◌, ◌↔◌, inl, inr, ⊎_elim, ℕ, zero, suc, ◌+◌, ◌<◌, ◌||◌, Bool, true, false, Some, List, [], ◌∷◌, ◌++◌, length, replicate, arith, sym, ap, ◌∙◌, refl, subst}
use Rattle.std.specs.Prelude.{slice_get}
use Rattle.std.proofs.lemmas.Bool.{cases_eq, false≢true, or_cases, or_left, or_right}
use Rattle.std.proofs.lemmas.Option.{none-some, same_Some, slice_get_within}
use Rattle.std.proofs.lemmas.List.Quantifiers.{Any-push}
use Rattle.std.proofs.lemmas.List.{length_push}
use Rattle.obs_rows.specs.declared.arcs.Arc.{Arc}
use Rattle.obs_rows.specs.declared.pair_rows.PairRows.{PairRows}
use Rattle.row_build.specs.HeldArcs.{holds_pair, IsHeld}
use Rattle.round_steps.specs.Shifts.{AreSameArcs}
use Rattle.track_rows.specs.Tracks.{HasRow}
use Rattle.track_rows.specs.Walks.{AreFlags, AreMarked}
use Rattle.whole_math.proofs.Lists.{any_more, any_in, push_get, push_before, last_push}
use Rattle.track_rows.proofs.SameArcs.{held_in}

-- the flags of the first n arcs
pub record AreMarkedTo (n : ℕ) (begun : List Bool) (arcs : List Arc) (pair : ℕ) (flags : List Bool) : Type 0 where
  pub count : length flags ≡ n
  pub each : (k : ℕ) → (slice_get flags k ≡ Some true) ↔ ((k < n) × ((slice_get begun k ≡ Some true) ⊎ IsHeld arcs pair k))

pub none_marked : (begun : List Bool) (arcs : List Arc) (pair : ℕ) → AreMarkedTo 0 begun arcs pair []
none_marked begun arcs pair = record { count = refl; each = λ k. (λ flag. absurd (none-some true flag), λ held. absurd (omega (arith, held.0))) }

pub more_marked : (n : ℕ) (begun : List Bool) (arcs : List Arc) (pair : ℕ) (flags more : List Bool) (a : Arc) (b m : Bool) → AreMarkedTo n begun arcs pair flags →
    slice_get arcs n ≡ Some a → slice_get begun n ≡ Some b → m ≡ (b || holds_pair a pair) → more ≡ flags ++ m ∷ [] → AreMarkedTo (n + 1) begun arcs pair more
more_marked n begun arcs pair flags more a b m so_far is_a is_b m_is pushed = subst (AreMarkedTo (n + 1) begun arcs pair) (sym pushed) (record {
  count = length_push flags m ∙ ap (λ (x : ℕ). x + 1) so_far.count;
  each = λ k. (λ p. forth k p, λ p. back k p.0 p.1);
})
  where
    wider : (k : ℕ) → k < n → k < n + 1
    wider k less = omega (arith, less)

    own : (k : ℕ) → k ≡ n → k < n + 1
    own k last = omega (arith, last)

    earlier : (k : ℕ) → k < n + 1 → (k ≡ n → ⊥) → k < n
    earlier k within other = omega (arith, within, other)

    held : (k : ℕ) → k ≡ n → holds_pair a pair ≡ true → IsHeld arcs pair k
    held k last holds = record { arc = a; is = subst (λ (i : ℕ). slice_get arcs i ≡ Some a) (sym last) is_a; held = holds }

    forth : (k : ℕ) → slice_get (flags ++ m ∷ []) k ≡ Some true → (k < n + 1) × ((slice_get begun k ≡ Some true) ⊎ IsHeld arcs pair k)
    forth k flag = ⊎_elim
        (λ (old : slice_get flags k ≡ Some true). let was_held = (so_far.each k).0 old in (wider k was_held.0, was_held.1))
        (λ (new : (k ≡ length flags) × (m ≡ true)). let last : k ≡ n = new.0 ∙ so_far.count in (
          own k last,
          ⊎_elim
              (λ (before : b ≡ true). inl (subst (λ (i : ℕ). slice_get begun i ≡ Some true) (sym last) (subst (λ (x : Bool). slice_get begun n ≡ Some x) before is_b)))
              (λ (holds : holds_pair a pair ≡ true). inr (held k last holds))
              (or_cases b (holds_pair a pair) (sym m_is ∙ new.1)),
        ))
        (push_get flags m true k flag)

    is_marked : (k : ℕ) → k ≡ n → (slice_get begun k ≡ Some true) ⊎ IsHeld arcs pair k → m ≡ true
    is_marked k last (inl before) = m_is ∙ or_left b (holds_pair a pair) (same_Some b true (sym is_b ∙ subst (λ (i : ℕ). slice_get begun i ≡ Some true) last before))
    is_marked k last (inr h) = m_is ∙ or_right b (holds_pair a pair)
        (subst (λ (x : Arc). holds_pair x pair ≡ true) (same_Some h.arc a (sym h.is ∙ subst (λ (i : ℕ). slice_get arcs i ≡ Some a) (sym last) is_a)) h.held)

    marked_last : (k : ℕ) → k ≡ length flags → slice_get (flags ++ m ∷ []) k ≡ Some m
    marked_last k last = subst (λ (i : ℕ). slice_get (flags ++ m ∷ []) i ≡ Some m) (sym last) (last_push flags m)

    back : (k : ℕ) → k < n + 1 → (slice_get begun k ≡ Some true) ⊎ IsHeld arcs pair k → slice_get (flags ++ m ∷ []) k ≡ Some true
    back k within p = ⊎_elim
        (λ (last : k ≡ n). marked_last k (last ∙ sym so_far.count) ∙ ap (λ (x : Bool). Some x) (is_marked k last p))
        (λ (other : k ≡ n → ⊥). push_before flags m true k ((so_far.each k).1 (earlier k within other, p)))
        (cases_eq k n)

pub all_marked : (n : ℕ) (begun : List Bool) (arcs : List Arc) (pair : ℕ) (flags : List Bool) →
    AreMarkedTo n begun arcs pair flags → length begun ≡ n → length arcs ≡ n → AreMarked begun arcs pair flags
all_marked n begun arcs pair flags so_far all_flags all_arcs = record {
  count = so_far.count ∙ sym all_flags;
  each = λ k. (λ p. ((so_far.each k).0 p).1, λ p. (so_far.each k).1 (inside k p, p));
}
  where
    inside : (k : ℕ) → (slice_get begun k ≡ Some true) ⊎ IsHeld arcs pair k → k < n
    inside k (inl before) = subst (λ (i : ℕ). k < i) all_flags (slice_get_within begun k true before)
    inside k (inr h) = subst (λ (i : ℕ). k < i) all_arcs (slice_get_within arcs k h.arc h.is)

-- ---- flags of a track
no_flag : (n k : ℕ) → slice_get (replicate n false) k ≡ Some true → ⊥
no_flag zero k flag = none-some true flag
no_flag (suc n) zero flag = false≢true (same_Some false true flag)
no_flag (suc n) (suc k) flag = no_flag n k flag

pub no_flags : (kept : List Arc) (begun : List Bool) → begun ≡ replicate (length kept) false → length begun ≡ length kept → AreFlags kept [] begun
no_flags kept begun all_false long = record {
  count = long;
  each = λ k. (λ p. absurd (no_flag (length kept) k (subst (λ (xs : List Bool). slice_get xs k ≡ Some true) all_false p)), λ (some : HasRow kept [] k). absurd (omega (arith, some.2)));
}

pub flags_more : (kept arcs : List Arc) (tracked : List PairRows) (new : PairRows) (begun flags : List Bool) →
    AreSameArcs kept arcs → AreFlags kept tracked begun → AreMarked begun arcs new.number flags → AreFlags kept (tracked ++ new ∷ []) flags
flags_more kept arcs tracked new begun flags same f m = record {
  count = m.count ∙ f.count;
  each = λ k. (λ p. forth k ((m.each k).0 p), λ p. (m.each k).1 (back k p));
}
  where
    forth : (k : ℕ) → (slice_get begun k ≡ Some true) ⊎ IsHeld arcs new.number k → HasRow kept (tracked ++ new ∷ []) k
    forth k (inl t) = any_more (λ (p : PairRows). IsHeld kept p.number k) tracked new ((f.each k).0 t)
    forth k (inr t) = Any-push (λ (p : PairRows). IsHeld kept p.number k) tracked new (held_in kept arcs new.number k t.arc same t.is t.held)

    back : (k : ℕ) → HasRow kept (tracked ++ new ∷ []) k → (slice_get begun k ≡ Some true) ⊎ IsHeld arcs new.number k
    back k some = ⊎_elim (λ (old : HasRow kept tracked k). inl ((f.each k).1 old)) (λ (h : IsHeld kept new.number k). inr (held_in arcs kept new.number k h.arc (sym same) h.is h.held))
        (any_in (λ (p : PairRows). IsHeld kept p.number k) tracked new some)
