-- A vector takes its place among the two best.
use Rattle.std.proofs.Common.{◌≡◌, ◌⊎◌, inl, inr, ℕ, List, length, ℤ, refl, sym, ap, ◌∙◌, subst}
use Rattle.std.specs.declared.cmp.Ordering.{Ordering}
use Rattle.std.specs.declared.cmp.Ordering.TheVariants.{Less, Equal, Greater}
use Rattle.quadratic_form.specs.Rows.{value}
use Rattle.int_search.specs.Suffixes.{SearchForm}
use Rattle.int_search.specs.Order.{IsLess, IsOneToOne}
use Rattle.int_search.proofs.SearchLaws.{offer_first, offer_second, offer_none}
use Rattle.int_search.specs.Vectors.{Holds, suffix}
use Rattle.int_search.specs.Orders.{IsRankLess, IsRankOrder}
use Rattle.int_search.specs.Best.{HoldsBest, KeepsBest}
use Rattle.int_search.specs.declared.best.Best.{Best}

-- the order of values and entries as that of the vectors for which they stand
pub less_of : (f : SearchForm) (image : List ℤ → List ℤ) (v w a b : List ℤ) (p q : ℤ) → p ≡ value f.p v → q ≡ value f.p w → a ≡ image v → b ≡ image w → IsRankLess p a q b → IsLess f image v w
less_of f image v w a b p q e g i j h = subst (λ (r : ℤ). IsRankLess (value f.p v) (image v) r (image w)) g
    (subst (λ (r : ℤ). IsRankLess r (image v) q (image w)) e
    (subst (λ (s : List ℤ). IsRankLess p (image v) q s) j
    (subst (λ (s : List ℤ). IsRankLess p s q b) i h)))

at_size : (f : SearchForm) (n : ℕ) (z v : List ℤ) → f.size ≡ n → Holds f.size z v → suffix z 0 n ≡ v
at_size f n z v e h = ap (λ k. suffix z 0 k) (sym e) ∙ h.is

pub keeps_less : (n : ℕ) (p q : ℤ) (y : List ℤ) (old : Best) → IsRankLess p (suffix y 0 n) old.p1 (suffix old.first 0 n) → q ≡ p →
    KeepsBest n p y old (record { first = y; second = old.first; p1 = q; p2 = old.p1 })
keeps_less n p q y old h m = record {
  kept = λ f image one two z s o a b c l hb hy e. record {
    new_one = z;
    new_two = one;
    best = record { first = hy; second = hb.first; p1 = m ∙ e; p2 = hb.p1 };
    offered = offer_first f image one two z a c l (less_of f image z one (suffix y 0 n) (suffix old.first 0 n) p old.p1 e hb.p1 (at_size f n y (image z) s hy)
        (at_size f n old.first (image one) s hb.first) h);
  };
}

pub keeps_second : (n : ℕ) (p q : ℤ) (y : List ℤ) (old : Best) → IsRankLess old.p1 (suffix old.first 0 n) p (suffix y 0 n) → IsRankLess p (suffix y 0 n) old.p2 (suffix old.second 0 n) → q ≡ p →
    KeepsBest n p y old (record { first = old.first; second = y; p1 = old.p1; p2 = q })
keeps_second n p q y old h k m = record {
  kept = λ f image one two z s o a b c l hb hy e. record {
    new_one = one;
    new_two = z;
    best = record { first = hb.first; second = hy; p1 = hb.p1; p2 = m ∙ e };
    offered = offer_second f image one two z a c
        (less_of f image one z (suffix old.first 0 n) (suffix y 0 n) old.p1 p hb.p1 e (at_size f n old.first (image one) s hb.first) (at_size f n y (image z) s hy) h)
        (less_of f image z two (suffix y 0 n) (suffix old.second 0 n) p old.p2 e hb.p2 (at_size f n y (image z) s hy) (at_size f n old.second (image two) s hb.second) k);
  };
}

-- equal to the first or the second, or past the second
pub keeps_none : (n : ℕ) (p : ℤ) (y : List ℤ) (old : Best) → (suffix y 0 n ≡ suffix old.first 0 n) ⊎
    ((suffix y 0 n ≡ suffix old.second 0 n) ⊎ IsRankLess old.p2 (suffix old.second 0 n) p (suffix y 0 n)) → KeepsBest n p y old old
keeps_none n p y old h = record {
  kept = λ f image one two z s o a b c l hb hy e. record {
    new_one = one;
    new_two = two;
    best = hb;
    offered = offer_none f image one two z a b l (settled f image one two z s o a b c hb hy e h);
  };
}
  where
    settled : (f : SearchForm) (image : List ℤ → List ℤ) (one two z : List ℤ) → f.size ≡ n → IsOneToOne f.size image → length one ≡ f.size → length two ≡ f.size → length z ≡ f.size →
        HoldsBest f image old one two → Holds f.size y (image z) → p ≡ value f.p z →
        (suffix y 0 n ≡ suffix old.first 0 n) ⊎ ((suffix y 0 n ≡ suffix old.second 0 n) ⊎ IsRankLess old.p2 (suffix old.second 0 n) p (suffix y 0 n)) → (z ≡ one) ⊎ ((z ≡ two) ⊎ IsLess f image two z)
    settled f image one two z s o a b c hb hy e (inl i) = inl (o.apart z one c a (sym (at_size f n y (image z) s hy) ∙ i ∙ at_size f n old.first (image one) s hb.first))
    settled f image one two z s o a b c hb hy e (inr (inl i)) = inr (inl (o.apart z two c b (sym (at_size f n y (image z) s hy) ∙ i ∙ at_size f n old.second (image two) s hb.second)))
    settled f image one two z s o a b c hb hy e (inr (inr i)) =
        inr (inr (less_of f image two z (suffix old.second 0 n) (suffix y 0 n) old.p2 p hb.p2 e (at_size f n old.second (image two) s hb.second) (at_size f n y (image z) s hy) i))

pub not_less : (o : Ordering) (p : ℤ) (v : List ℤ) (q : ℤ) (w : List ℤ) → (o ≡ Less → ⊥) → IsRankOrder p v q w o → (v ≡ w) ⊎ IsRankLess q w p v
not_less Less p v q w n h = absurd (n refl)
not_less Equal p v q w n h = inl h.1
not_less Greater p v q w n h = inr h
