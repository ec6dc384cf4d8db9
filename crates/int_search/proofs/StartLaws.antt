-- The rounded point and its neighbour as the first two best.
use Rattle.std.proofs.Common.{◌≡◌, ◌⊎◌, inl, inr, ◌^◌, List, length, ℤ, pos, ◌≤ℤ◌, ◌<ℤ◌, sym, ap, ◌∙◌, subst, arith}
use Rattle.whole_math.proofs.Order.{lins}
use Rattle.whole_math.proofs.Inequalities.{le_trans_ℤ}
use Rattle.quadratic_form.specs.Rows.{value}
use Rattle.int_search.specs.Suffixes.{SearchForm, IsSearchable}
use Rattle.int_search.specs.PlainCount.{rounded, neighbour, top, HasLarge}
use Rattle.int_search.specs.VisitedSuffixes.{IsStartTooWide}
use Rattle.int_search.specs.Search.{AreStartPoints}
use Rattle.int_search.specs.Order.{IsOneToOne}
use Rattle.int_search.specs.Vectors.{IsSmall, Holds, suffix}
use Rattle.int_search.specs.Orders.{IsRankLess}
use Rattle.int_search.specs.SearchStates.{IsFresh, BeginsWith}
use Rattle.int_search.specs.declared.walk.SearchState.{SearchState}
use Rattle.int_search.proofs.OfferLaws.{less_of}
use Rattle.int_search.proofs.PointLaws.{neighbour_differs, rounded_length, neighbour_length, small_suffix, held_small}

-- y is the image of the vector v, p its value
pub record IsPoint (f : SearchForm) (im : List ℤ → List ℤ) (v y : List ℤ) (p : ℤ) : Type 0 where
  pub size : length v ≡ f.size
  pub held : Holds f.size y (im v)
  pub value_is : p ≡ value f.p v
  pub within : value f.p v ≤ℤ top f

pub begins : (f : SearchForm) (im : List ℤ → List ℤ) (v u y x : List ℤ) (p q : ℤ) (w : SearchState) → IsPoint f im v y p → IsPoint f im u x q →
    IsRankLess p (suffix y 0 f.size) q (suffix x 0 f.size) → top f <ℤ pos (2 ^ 62) → AreStartPoints f v u → (IsStartTooWide f im → ⊥) →
    BeginsWith f (record { first = y; second = x; p1 = p; p2 = q }) w → IsFresh f im w
begins f im v u y x p q w a b l t points narrow g = g.begun im v u a.size b.size (less_of f im v u (suffix y 0 f.size) (suffix x 0 f.size) p q a.value_is b.value_is a.held.is b.held.is l) b.within t points narrow
    (record { first = a.held; second = b.held; p1 = a.value_is; p2 = b.value_is })

-- the two points and their images have no large entries, and their values are below 2^62
pub start_small : (f : SearchForm) (im : List ℤ → List ℤ) (z w v u y x : List ℤ) → v ≡ rounded f f.size → u ≡ neighbour f → IsSmall z → IsSmall w → suffix z 0 f.size ≡ v → suffix w 0 f.size ≡ u →
    Holds f.size y (im v) → Holds f.size x (im u) → top f <ℤ pos (2 ^ 62) → IsStartTooWide f im → ⊥
start_small f im z w v u y x a b g h k l m n t s = go s.wide
  where
    apart : (a b : ℤ) → a <ℤ b → b ≤ℤ a → ⊥
    apart a b p q = omega (arith, lins)

    first : HasLarge v ⊎ HasLarge (im v) → ⊥
    first (inl q) = small_suffix z 0 f.size g (subst HasLarge (sym k) q)
    first (inr q) = held_small f.size y (im v) m q

    second : HasLarge u ⊎ HasLarge (im u) → ⊥
    second (inl q) = small_suffix w 0 f.size h (subst HasLarge (sym l) q)
    second (inr q) = held_small f.size x (im u) n q

    go : (pos (2 ^ 62) ≤ℤ top f) ⊎ ((q : List ℤ) × (((q ≡ rounded f f.size) ⊎ (q ≡ neighbour f)) × (HasLarge q ⊎ HasLarge (im q)))) → ⊥
    go (inl q) = apart (top f) (pos (2 ^ 62)) t q
    go (inr q) = point q.1.0
      where
        point : (q.0 ≡ rounded f f.size) ⊎ (q.0 ≡ neighbour f) → ⊥
        point (inl e) = first (subst (λ (p : List ℤ). HasLarge p ⊎ HasLarge (im p)) (e ∙ sym a) q.1.1)
        point (inr e) = second (subst (λ (p : List ℤ). HasLarge p ⊎ HasLarge (im p)) (e ∙ sym b) q.1.1)

pub start_top : (f : SearchForm) (im : List ℤ → List ℤ) (v : List ℤ) → value f.p v ≤ℤ top f → pos (2 ^ 62) ≤ℤ value f.p v → IsStartTooWide f im
start_top f im v h k = record { wide = inl (le_trans_ℤ k h) }

pub points_differ : (f : SearchForm) (im : List ℤ → List ℤ) (v u y x : List ℤ) → IsSearchable f → IsOneToOne f.size im → v ≡ rounded f f.size → u ≡ neighbour f → Holds f.size y (im v) →
    Holds f.size x (im u) → suffix y 0 f.size ≡ suffix x 0 f.size → ⊥
points_differ f im v u y x k o a b g h e = neighbour_differs f k.some (sym a ∙ o.apart v u (ap length a ∙ rounded_length f f.size) (ap length b ∙ neighbour_length f k.some) (sym g.is ∙ e ∙ h.is) ∙ b)
