-- One satellite more at an epoch, and one epoch more in a file.
use Rattle.std.proofs.Common.{◌≡◌, ℕ, ◌+◌, ◌*◌, ◌<◌, List, [], ◌∷◌, ◌++◌, length, get_or, ℤ, arith, refl, ap, sym, subst, ◌∙◌, append_assoc, below_more}
use Rattle.std.proofs.lemmas.List.{get_or_push, get_or_append_left, length_push, append-nil}
use Rattle.eph_store.specs.declared.ephemeris.Eph.{Eph}
use Rattle.orbit_model.specs.Elements.{Constants}
use Rattle.sim_session.specs.declared.signals.Signals.{Signals}
use Rattle.sim_session.specs.declared.signals.Tracking.{Tracking}
use Rattle.sim_session.specs.ObservationText.{header_text, epoch_text, epochs_text}
use Rattle.sim_session.specs.Observations.{tag_of, AreObserved}

-- ---- one element more, where P relates it to its number
pub one_more : {X : Type 0} (P : ℕ → X → Type 0) (xs : List X) (x : X) (n : ℕ) → length xs ≡ n → ((k : ℕ) (d : X) → k < n → P k (get_or xs k d)) → P n x →
    (k : ℕ) (d : X) → k < n + 1 → P k (get_or (xs ++ x ∷ []) k d)
one_more {X} P xs x n e all here k d h = below_more (λ (j : ℕ). P j (get_or (xs ++ x ∷ []) j d)) n
    (λ j l. let inside : j < length xs = omega (arith, e) in subst (λ (y : X). P j y) (sym (get_or_append_left xs (x ∷ []) d j inside)) (all j d l))
    (subst (λ (y : X). P n y) (sym (get_or_push xs x d n e)) here) k h

-- ---- epochs
epochs_text-push : (t : Tracking) (step i : ℕ) (es : List (List Signals)) (e : List Signals) → epochs_text t step i (es ++ e ∷ []) ≡ epochs_text t step i es ++ epoch_text t (step * (i + length es)) e
epochs_text-push t step i [] e =
    let same : i + 0 ≡ i = omega arith in
    rw (same, append-nil) refl
epochs_text-push t step i (x ∷ es) e =
    let same : i + 1 + length es ≡ i + length (x ∷ es) = omega arith in
    ap (λ (text : List ℕ). epoch_text t (step * i) x ++ text) (epochs_text-push t step (i + 1) es e)
    ∙ sym (append_assoc (epoch_text t (step * i) x) (epochs_text t step (i + 1) es) (epoch_text t (step * (i + 1 + length es)) e))
    ∙ ap (λ (n : ℕ). (epoch_text t (step * i) x ++ epochs_text t step (i + 1) es) ++ epoch_text t (step * n) e) same

-- the text so far, of i epochs
pub record IsBegun (t : Tracking) (world : Constants) (step i : ℕ) (point : List ℤ) (clock : ℤ) (records : List Eph) (cycles : List (List ℤ)) (text : List ℕ) : Type 0 where
  pub values : List (List Signals)
  pub count : length values ≡ i
  pub text_is : text ≡ header_text t ++ epochs_text t step 0 values
  pub observed : (j : ℕ) (d : List Signals) → j < i → AreObserved world (tag_of step j) point clock records cycles (get_or values j d)

pub one_epoch : (t : Tracking) (world : Constants) (step i : ℕ) (point : List ℤ) (clock : ℤ) (records : List Eph) (cycles : List (List ℤ))
    (text further : List ℕ) (sats : List Signals) → IsBegun t world step i point clock records cycles text →
    AreObserved world (tag_of step i) point clock records cycles sats → further ≡ text ++ epoch_text t (step * i) sats → IsBegun t world step (i + 1) point clock records cycles further
one_epoch t world step i point clock records cycles text further sats b o e = record {
  values = b.values ++ sats ∷ [];
  count = length_push b.values sats ∙ ap (λ (n : ℕ). n + 1) b.count;
  text_is = e ∙ ap (λ (own : List ℕ). own ++ epoch_text t (step * i) sats) b.text_is ∙ append_assoc (header_text t) (epochs_text t step 0 b.values) (epoch_text t (step * i) sats)
      ∙ ap (λ (own : List ℕ). header_text t ++ own) (ap (λ (n : ℕ). epochs_text t step 0 b.values ++ epoch_text t (step * n) sats) (counted b.values i b.count)
      ∙ sym (epochs_text-push t step 0 b.values sats));
  observed = one_more (λ j s. AreObserved world (tag_of step j) point clock records cycles s) b.values sats i b.count b.observed o;
}
  where
    counted : (vs : List (List Signals)) (i : ℕ) → length vs ≡ i → i ≡ 0 + length vs
    counted vs i e = omega (arith, e)
