-- What one more epoch leaves of a file's promises.
use Rattle.std.proofs.Common.{◌≡◌, ℕ, zero, suc, ◌+◌, ◌<◌, List, [], ◌∷◌, ◌++◌, length, get_or, refl, sym, ap, ◌∙◌, arith, length-append, Some, IfSome}
use Rattle.std.specs.List.Sorted.{IsStrictlyIncreasing}
use Rattle.std.proofs.lemmas.Grind.{common_steps}
use Rattle.std.proofs.lemmas.List.Elements.{All-push}
use Rattle.obs_store.specs.declared.series.Epoch.{Epoch}
use Rattle.obs_store.specs.Satellites.{AreSatellites}
use Rattle.obs_store.specs.Epochs.{AreEpochs, tags_of, last_tag_of}

-- the last tag stands at the last place
pub last_at : (xs : List Epoch) (k : ℕ) (d : Epoch) → k + 1 ≡ length xs → last_tag_of xs ≡ Some (get_or xs k d).tag
last_at [] k d is = absurd (omega arith)
last_at (e ∷ []) zero d is = refl
last_at (e ∷ []) (suc k) d is = absurd (omega arith)
last_at (e ∷ f ∷ es) zero d is = absurd (omega arith)
last_at (e ∷ f ∷ es) (suc k) d is = last_at (f ∷ es) k d (omega arith)

-- so an element that stands there has the last tag
pub last_is : (xs ys : List Epoch) (k : ℕ) (e : Epoch) → ys ≡ xs → k + 1 ≡ length ys → e ≡ get_or ys k e → Some e.tag ≡ last_tag_of xs
last_is xs ys k e same is there = rw (← same) (sym (last_at ys k e is ∙ ap (λ (x : Epoch). Some x.tag) (sym there)))

pub length-tags_of : (xs : List Epoch) → length (tags_of xs) ≡ length xs
length-tags_of [] = refl
length-tags_of (x ∷ xs) = ap suc (length-tags_of xs)

pub tags_of-push : (xs : List Epoch) (e : Epoch) → tags_of (xs ++ e ∷ []) ≡ tags_of xs ++ e.tag.0 ∷ []
tags_of-push [] e = refl
tags_of-push (x ∷ xs) e = ap (λ ts. x.tag.0 ∷ ts) (tags_of-push xs e)

last_below : (xs : List Epoch) (t k : ℕ) → IfSome (last_tag_of xs) (λ last. last.0 < t) → k + 1 ≡ length xs → get_or (tags_of xs) k 0 < t
last_below [] t k later is = absurd (omega arith)
last_below (e ∷ []) t zero later is = later
last_below (e ∷ []) t (suc k) later is = absurd (omega arith)
last_below (e ∷ f ∷ es) t zero later is = absurd (omega arith)
last_below (e ∷ f ∷ es) t (suc k) later is = last_below (f ∷ es) t k later (omega arith)

increasing_push : (ts : List ℕ) (t : ℕ) → IsStrictlyIncreasing ts → ((k : ℕ) → k + 1 ≡ length ts → get_or ts k 0 < t) → IsStrictlyIncreasing (ts ++ t ∷ [])
increasing_push ts t rising last k inside = grind (arith, common_steps, rising k, last k)

pub epochs_push : (xs : List Epoch) (e : Epoch) → AreEpochs xs → AreSatellites e.sats → length xs < 20000 → IfSome (last_tag_of xs) (λ last. last.0 < e.tag.0) → AreEpochs (xs ++ e ∷ [])
epochs_push xs e are sats room later = record {
  few = simp length-append (omega arith);
  rising = rw tags_of-push (increasing_push (tags_of xs) e.tag.0 are.rising (λ k is. last_below xs e.tag.0 k later (is ∙ length-tags_of xs)));
  sats = All-push (λ e. AreSatellites e.sats) xs e are.sats sats;
}
