-- Arcs that are the same but for their shifts hold the same pairs.
use Rattle.std.proofs.Common.{◌≡◌, ℕ, suc, true, Some, List, [], ◌∷◌, map, sym, ap, ◌∙◌, refl, subst}
use Rattle.std.specs.Prelude.{slice_get}
use Rattle.std.proofs.lemmas.Option.{same_Some}
use Rattle.obs_rows.specs.declared.arcs.Arc.{Arc}
use Rattle.row_build.specs.HeldArcs.{holds_pair, IsHeld, AgreeAt}
use Rattle.round_steps.specs.Shifts.{AreSameArcs, without_shifts}
use Rattle.session.proofs.CutLaws.{Like, like}
use Rattle.track_rows.proofs.TriedArcs.{same_holds}
use Rattle.track_rows.specs.Tracks.{unshifted}

-- an arc that holds the pair holds it in the other list
pub held_in : (kept arcs : List Arc) (pair k : ℕ) (b : Arc) → AreSameArcs kept arcs → slice_get arcs k ≡ Some b → holds_pair b pair ≡ true → IsHeld kept pair k
held_in kept arcs pair k b same is held =
    let like_arc : Like kept k b = like arcs kept (sym same) k b is in
    record { arc = like_arc.arc; is = like_arc.arc_is; held = same_holds like_arc.arc b pair like_arc.same ∙ held }

pub held_back : (kept arcs : List Arc) (pair k : ℕ) (b : Arc) → AreSameArcs kept arcs → slice_get arcs k ≡ Some b → IsHeld kept pair k → holds_pair b pair ≡ true
held_back kept arcs pair k b same is h =
    let like_arc : Like kept k b = like arcs kept (sym same) k b is in
    let same_arc : h.arc ≡ like_arc.arc = same_Some h.arc like_arc.arc (sym h.is ∙ like_arc.arc_is) in
    sym (same_holds like_arc.arc b pair like_arc.same) ∙ subst (λ (x : Arc). holds_pair x pair ≡ true) same_arc h.held

-- where the arcs that hold the pair are the same in both, the lists agree at it
pub agree_at : (pair : ℕ) (xs ys : List Arc) → AreSameArcs xs ys → ((k : ℕ) (a b : Arc) → slice_get xs k ≡ Some a → slice_get ys k ≡ Some b → holds_pair a pair ≡ true → b ≡ a) → AgreeAt pair xs ys
agree_at pair [] [] e f = tt
agree_at pair [] (y ∷ ys) e f = absurd cc
agree_at pair (x ∷ xs) [] e f = absurd cc
agree_at pair (x ∷ xs) (y ∷ ys) e f = (
  (sym (same_holds y x pair (heads (without_shifts y) (without_shifts x) (map without_shifts ys) (map without_shifts xs) e)), λ h. sym (f 0 x y refl refl h)),
  agree_at pair xs ys (tails (without_shifts y) (without_shifts x) (map without_shifts ys) (map without_shifts xs) e) (λ k a b p q h. f (suc k) a b p q h),
)
  where
    heads : (p q : Arc) (ps qs : List Arc) → p ∷ ps ≡ q ∷ qs → p ≡ q
    heads p q ps qs e = cc

    tails : (p q : Arc) (ps qs : List Arc) → p ∷ ps ≡ q ∷ qs → ps ≡ qs
    tails p q ps qs e = cc

-- the arcs without shifts are the same
pub unshifted_same : (arcs : List Arc) → AreSameArcs arcs (map unshifted arcs)
unshifted_same [] = refl
unshifted_same (a ∷ arcs) = ap (λ (xs : List Arc). without_shifts a ∷ xs) (unshifted_same arcs)
