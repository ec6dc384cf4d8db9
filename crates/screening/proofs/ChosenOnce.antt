-- A satellite has one chosen record at a time, and a pair sees it in one way.
use Rattle.std.proofs.Common.{◌≡◌, ℕ, ◌<◌, ◌≤◌, ℤ, List, [], ◌∷◌, ◌++◌, refl, sym, ◌∙◌, subst, arith, Some, All}
use Rattle.std.proofs.lemmas.List.Elements.{All-head, All-tail}
use Rattle.obs_store.specs.declared.series.Epoch.{Epoch}
use Rattle.eph_store.specs.declared.ephemeris.Eph.{Eph}
use Rattle.eph_store.specs.Chosen.{distance, IsCandidate, IsChosenRecord, HasNoCandidate}
use Rattle.screening.specs.Sightings.{Setting, ObservedSat, IsObservedSat}

middle : (P : Eph → Type 0) (front rest : List Eph) (e : Eph) → All P (front ++ e ∷ rest) → P e
middle P [] rest e all = All-head P e rest all
middle P (x ∷ front) rest e all = middle P front rest e (All-tail P x (front ++ e ∷ rest) all)

abbrev IsNearest : ℕ → ℕ → Eph → Eph → Type 0
IsNearest sat tag e f = IsCandidate sat tag f → distance tag e ≤ distance tag f

abbrev IsNearer : ℕ → ℕ → Eph → Eph → Type 0
IsNearer sat tag e f = IsCandidate sat tag f → distance tag e < distance tag f

-- one chosen record can't stand before another
not_before : (sat tag : ℕ) (front rest rest' : List Eph) (e e' : Eph) → rest ≡ front ++ e' ∷ rest' → IsCandidate sat tag e → IsCandidate sat tag e' →
    All (IsNearer sat tag e) rest → All (IsNearest sat tag e') (e ∷ front) → ⊥
not_before sat tag front rest rest' e e' is c c' latest nearest =
    let less : distance tag e < distance tag e' = middle (IsNearer sat tag e) front rest' e' (subst (All (IsNearer sat tag e)) is latest) c' in
    let most : distance tag e' ≤ distance tag e = All-head (IsNearest sat tag e') e front nearest c in
    omega (arith, less, most)

same_place : (sat tag : ℕ) (front rest front' rest' : List Eph) (e e' : Eph) → front ++ e ∷ rest ≡ front' ++ e' ∷ rest' → IsCandidate sat tag e → IsCandidate sat tag e' →
    All (IsNearest sat tag e) front → All (IsNearer sat tag e) rest → All (IsNearest sat tag e') front' → All (IsNearer sat tag e') rest' → e ≡ e'
same_place sat tag [] rest [] rest' e e' is c c' near late near' late' = cc is
same_place sat tag [] rest (x ∷ front') rest' e e' is c c' near late near' late' =
    absurd (not_before sat tag front' rest rest' e e' (cc is) c c' late (subst (λ (y : Eph). All (IsNearest sat tag e') (y ∷ front')) (sym (cc is)) near'))
same_place sat tag (x ∷ front) rest [] rest' e e' is c c' near late near' late' =
    absurd (not_before sat tag front rest' rest e' e (sym (cc is)) c' c late' (subst (λ (y : Eph). All (IsNearest sat tag e) (y ∷ front)) (cc is) near))
same_place sat tag (x ∷ front) rest (x' ∷ front') rest' e e' is c c' near late near' late' =
    same_place sat tag front rest front' rest' e e' (cc is) c c' (All-tail (IsNearest sat tag e) x front near) late (All-tail (IsNearest sat tag e') x' front' near') late'

pub chosen_once : (fit : List Eph) (sat tag : ℕ) (e e' : Eph) → IsChosenRecord fit sat tag e → IsChosenRecord fit sat tag e' → e ≡ e'
chosen_once fit sat tag e e' c c' = same_place sat tag c.front c.rest c'.front c'.rest e e' (sym c.stands ∙ c'.stands) c.candidate c'.candidate c.nearest c.latest c'.nearest c'.latest

pub none_chosen : (fit : List Eph) (sat tag : ℕ) (e : Eph) → HasNoCandidate fit sat tag → IsChosenRecord fit sat tag e → ⊥
none_chosen fit sat tag e none c = middle (λ f. IsCandidate sat tag f → ⊥) c.front c.rest e (subst (All (λ f. IsCandidate sat tag f → ⊥)) c.stands none) c.candidate

same_sighting : (a a' b b' : List ℤ) (e e' : Eph) → a ≡ a' → b ≡ b' → e ≡ e'
    → (let left_sighting : ObservedSat = record { base = a; rover = b; eph = e } in let right_sighting : ObservedSat = record { base = a'; rover = b'; eph = e' } in left_sighting ≡ right_sighting)
same_sighting a a' b b' e e' is is2 is3 = rw (is, is2, is3) refl

pub seen_once : (s : Setting) (base rover : Epoch) (sat : ℕ) (g h : ObservedSat) → IsObservedSat s base rover sat g → IsObservedSat s base rover sat h → g ≡ h
seen_once s base rover sat g h is is' = same_sighting g.base h.base g.rover h.rover g.eph h.eph
    (some_once g.base h.base (sym is.at_base ∙ is'.at_base)) (some_once g.rover h.rover (sym is.at_rover ∙ is'.at_rover))
    (chosen_once s.records sat base.tag.0 g.eph h.eph is.chosen is'.chosen)
  where
    some_once : (a b : List ℤ) → Some a ≡ Some b → a ≡ b
    some_once a b e = cc e
