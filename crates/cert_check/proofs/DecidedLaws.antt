-- What a decision is as a tail, and the ranges of its numbers.
use Rattle.std.proofs.Common.{◌≡◌, ℕ, ◌^◌, ◌≤◌, ◌⊎◌, inl, inr, true, false, Bool, cond, IsTrue, List, length, ℤ, pos, neg_ℤ, ◌≤ℤ◌, ◌<ℤ◌, to_z, of_z, arith, sym, ◌∙◌, subst, refl}
use Rattle.std.proofs.lemmas.Int.{ints}
use Rattle.std.proofs.lemmas.Bool.{false≢true}
use Rattle.std.specs.Int.{w128}
use Rattle.quadratic_form.proofs.Decision.{less_value}
use Rattle.obs_rows.specs.declared.sessions.Session.{Session}
use Rattle.obs_rows.specs.Ranges.{IsBelow}
use Rattle.obs_rows.specs.Signals.{fine_signals}
use Rattle.obs_rows.specs.Best.{IsBestByRatio}
use Rattle.integer_form.specs.declared.form.Form.{Form}
use Rattle.integer_form.specs.declared.faults.Place.{Place}
use Rattle.integer_form.specs.Forms.{integers_of, columns_of, value_of}
use Rattle.integer_form.specs.FloatPoint.{HasWide}
use Rattle.int_search.specs.declared.answer.TwoBest.{TwoBest}
use Rattle.int_search.specs.Answers.{IsTwoBest}
use Rattle.int_search.specs.ReducedCounts.{KeepsBudget, HasAnswer}
use Rattle.fix_decide.specs.Widths.{AreWide}
use Rattle.fix_decide.specs.Decisions.{IsFormOf, IsSeparated, first_of, second_of, move_of}
use Rattle.fix_decide.proofs.SessionForms.{integers_are, second_small, first_length, all_narrow}
use Rattle.cert_data.specs.Tails.{AreVectors, tail_of_vectors}
use Rattle.cert_data.specs.declared.tails.Tail.{Tail}
use Rattle.cert_data.specs.declared.tails.Tail.TheVariants.{Fixed, Unseparated}
use Rattle.cert_check.specs.Settled.{AreFound, IsTooWide, IsBaselineWide, IsSumWide, IsDecision, IsBestByRatioWhereFixed}

-- an upper sum fits its word
pub top_word : (x : ℤ) → pos 0 ≤ℤ x → x ≤ℤ pos (2 ^ 119) → to_z w128 (of_z w128 x) ≡ x
top_word x l g = omega (arith, ints)

-- a decision as a tail
pub told_decision : (s : Session) (f : Form) (ratio budget h : ℕ) (m : List ℤ) (best : TwoBest) (top : ℤ) (fixed : Bool) (t : Tail) → t ≡ cond fixed (Fixed h m best top) (Unseparated h m best top) →
    AreFound s f budget h m best top → (IsTrue fixed → IsSeparated (pos ratio) top best.p2) → (IsSeparated (pos ratio) top best.p2 → IsTrue fixed) → IsDecision s f ratio budget t
told_decision s f ratio budget h m best top true t e found there back = subst (IsDecision s f ratio budget) (sym e) (found, there refl)
told_decision s f ratio budget h m best top false t e found there back = subst (IsDecision s f ratio budget) (sym e) (found, λ x. false≢true (back x))

-- where a decision is given as fixed, its integers are best by the ratio
pub told_best : (s : Session) (ratio h : ℕ) (m : List ℤ) (best b : TwoBest) (top : ℤ) (fixed : Bool) (t : Tail) → t ≡ tail_of_vectors fixed h m best top → best ≡ b →
    (IsTrue fixed → IsBestByRatio ratio s (first_of b) m) → IsBestByRatioWhereFixed ratio s t
told_best s ratio h m best b top true t e same is =
    subst (IsBestByRatioWhereFixed ratio s) (sym e) (subst (λ (x : TwoBest). IsBestByRatio ratio s (first_of x) m) (sym same) (is refl))
told_best s ratio h m best b top false t e same is = subst (IsBestByRatioWhereFixed ratio s) (sym e) tt

-- a decision that is refused
pub refused_decision : (s : Session) (f : Form) (budget : ℕ) (best : TwoBest) (place : Place) → IsTwoBest f best → KeepsBudget f budget best → HasAnswer f budget → (place ≡ Place.Float) ⊎ (place ≡ Place.Sum) →
    (place ≡ Place.Float → HasWide (move_of f (first_of best))) →
    (place ≡ Place.Sum → (HasWide (move_of f (first_of best)) → ⊥) × AreWide s.arcs (fine_signals s.signals) s.pairs (first_of best) (move_of f (first_of best))) →
    ((place ≡ Place.Search) × IsTooWide f budget) ⊎ (((place ≡ Place.Float) × IsBaselineWide f budget) ⊎ ((place ≡ Place.Sum) × IsSumWide s f budget))
refused_decision s f budget best place two kept answered (inl e) wide sum = inr (inl (e, record { best = best; best_is = two; visits = kept; answered = answered; wide = wide e }))
refused_decision s f budget best place two kept answered (inr e) wide sum = inr (inr (e, record { best = best; best_is = two; visits = kept; answered = answered; narrow = (sum e).0; wide = (sum e).1 }))

-- ---- the ranges of its numbers
-- a value from -2^63 on, below one that is below 2^54
pub record InRange (p1 p2 : ℤ) : Type 0 where
  pub first : IsBelow (2 ^ 126) p1
  pub second : IsBelow (2 ^ 126) p2

pub in_range : (p1 p2 : ℤ) → neg_ℤ (pos (2 ^ 63)) ≤ℤ p1 → p1 ≤ℤ p2 → p2 <ℤ pos (2 ^ 54) → InRange p1 p2
in_range p1 p2 h g k = record { first = omega (arith, ints); second = omega (arith, ints) }

values_in_range : (s : Session) (f : Form) (best : TwoBest) → IsFormOf s f → s.scale ≡ 0 → IsTwoBest f best
    → ((z : List ℤ) → length z ≡ integers_of f → neg_ℤ (pos (2 ^ 63)) ≤ℤ value_of f z) → InRange best.p1 best.p2
values_in_range s f best h fine two from = in_range best.p1 best.p2
    (subst (λ (x : ℤ). neg_ℤ (pos (2 ^ 63)) ≤ℤ x) (sym two.p1) (from (first_of best) (first_length f best two ∙ two.size)))
    (subst (λ (x : ℤ). x ≤ℤ best.p2) (sym two.p1) (subst (λ (x : ℤ). value_of f (first_of best) ≤ℤ x) (sym two.p2) (less_value (columns_of f) (first_of best) (second_of best) two.least.order)))
    (second_small s f best h fine two)

pub top_below : (t : ℤ) → pos 0 ≤ℤ t → t ≤ℤ pos (2 ^ 119) → IsBelow (2 ^ 126) t
top_below t l g = omega (arith, ints)

pub vectors_fit : (s : Session) (f : Form) (budget h : ℕ) (m : List ℤ) (best : TwoBest) (top : ℤ) → IsFormOf s f → s.scale ≡ 0 → AreFound s f budget h m best top →
    ((z : List ℤ) → length z ≡ integers_of f → neg_ℤ (pos (2 ^ 63)) ≤ℤ value_of f z) → pos 0 ≤ℤ top → top ≤ℤ pos (2 ^ 119) → AreVectors (fine_signals s.signals) s.arcs h m best top
vectors_fit s f budget h m best top o fine found from l g =
    let bests_in_range : InRange best.p1 best.p2 = values_in_range s f best o fine found.best_is from in
    record {
      moved_in = all_narrow m found.narrow;
      values = record {
        h_to = subst (λ (n : ℕ). n ≤ 127) (sym found.h_is) f.h_in;
        size = found.best_is.size ∙ integers_are s f o fine;
        first_in = found.best_is.first_small;
        second_in = found.best_is.second_small;
        p1_in = bests_in_range.first;
        p2_in = bests_in_range.second;
        top_in = top_below top l g;
      };
    }
