-- The order of entries, place by place.
use Rattle.std.proofs.Common.{◌≡◌, inl, inr, ℕ, ◌+◌, ◌<◌, ◌≤◌, List, length, get_or, ℤ, pos, ◌<ℤ◌, ap₂, sym, ◌∙◌, arith, ◌∷◌}
use Rattle.std.specs.declared.cmp.Ordering.{Ordering}
use Rattle.std.specs.declared.cmp.Ordering.TheVariants.{Less, Equal, Greater}
use Rattle.quadratic_form.specs.TwoLeast.{Before}
use Rattle.int_search.specs.Vectors.{suffix}
use Rattle.int_search.specs.Orders.{IsEntryOrder}
use Rattle.int_search.proofs.SuffixArrays.{suffix-cons, suffix-none}

pub before_at : (a b : List ℤ) (k n : ℕ) → k < n → n ≤ length a → n ≤ length b → get_or a k (pos 0) <ℤ get_or b k (pos 0) → Before (suffix a k n) (suffix b k n)
before_at a b k n h p q l =
    let left_opened : suffix a k n ≡ get_or a k (pos 0) ∷ suffix a (k + 1) n = suffix-cons a k n h p in
    let right_opened : suffix b k n ≡ get_or b k (pos 0) ∷ suffix b (k + 1) n = suffix-cons b k n h q in
    rw (left_opened, right_opened) (inl l)

head_order : (x y : ℤ) (v w : List ℤ) (o : Ordering) → x ≡ y → IsEntryOrder v w o → IsEntryOrder (x ∷ v) (y ∷ w) o
head_order x y v w Less e h = inr (e, h)
head_order x y v w Equal e h = ap₂ (λ s t. s ∷ t) e h
head_order x y v w Greater e h = inr (sym e, h)

pub order_at : (a b : List ℤ) (k n : ℕ) (o : Ordering) → k < n → n ≤ length a → n ≤ length b → get_or a k (pos 0) ≡ get_or b k (pos 0) →
    IsEntryOrder (suffix a (k + 1) n) (suffix b (k + 1) n) o → IsEntryOrder (suffix a k n) (suffix b k n) o
order_at a b k n o h p q l m =
    let left_opened : suffix a k n ≡ get_or a k (pos 0) ∷ suffix a (k + 1) n = suffix-cons a k n h p in
    let right_opened : suffix b k n ≡ get_or b k (pos 0) ∷ suffix b (k + 1) n = suffix-cons b k n h q in
    rw (left_opened, right_opened) (head_order (get_or a k (pos 0)) (get_or b k (pos 0)) (suffix a (k + 1) n) (suffix b (k + 1) n) o l m)

pub order_end : (a b : List ℤ) (n : ℕ) → suffix a n n ≡ suffix b n n
order_end a b n = suffix-none a n n (omega arith) ∙ sym (suffix-none b n n (omega arith))
