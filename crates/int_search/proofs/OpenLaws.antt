-- What a turn opens and closes.
use Rattle.std.proofs.Common.{◌≡◌, ◌⊎◌, inl, inr, ℕ, ◌+◌, List, [], ◌∷◌, ◌++◌, length, ℤ, pos, ◌*ℤ◌, ◌<ℤ◌, arith, refl, ap, sym, subst, ◌∙◌, ◌≤◌, ◌≤ℤ◌, length-append, append_assoc, ◌^◌}
use Rattle.std.proofs.lemmas.Int.{ints}
use Rattle.quadratic_form.specs.Rows.{value}
use Rattle.int_search.specs.Suffixes.{SearchForm, IsSearchable, low}
use Rattle.int_search.specs.Levels.{tail_of, IsFree, IsOpen, Takes}
use Rattle.int_search.specs.Search.{IsSettled}
use Rattle.int_search.specs.declared.stack.Level.{Level}
use Rattle.int_search.proofs.SuffixLaws.{past_second, low_grows}

pub same_heads : (a b : List ℤ) (x y : ℤ) (s : List ℤ) → a ++ (x ∷ s) ≡ b ++ (y ∷ s) → x ≡ y
same_heads [] [] x y s e = cc
same_heads [] (z ∷ b) x y s e = absurd (omega (arith, simp length-append at (ap length e)))
same_heads (z ∷ a) [] x y s e = absurd (omega (arith, simp length-append at (ap length e)))
same_heads (z ∷ a) (w ∷ b) x y s e = let same_joined : a ++ (x ∷ s) ≡ b ++ (y ∷ s) = cc in same_heads a b x y s same_joined

pub between_not_free : (b : Level) (x : ℤ) → b.down <ℤ x → x <ℤ b.up → IsFree b x → ⊥
between_not_free b x h k (inl f) = omega (arith, ints)
between_not_free b x h k (inr f) = omega (arith, ints)

pub along_free : (b : Level) (x y : ℤ) → x ≡ y → IsFree b x → IsFree b y
along_free b x y e f = rw (← e) f

-- ---- a turn at the first integer: b is a with x taken
pub leaf_before : (a b : Level) (r : List Level) (x : ℤ) (s v : List ℤ) → Takes a x b → IsOpen (b ∷ r) s v → IsOpen (a ∷ r) s v
leaf_before a b r x s v t (inl o) = inl (record { head = o.head; front = o.front; split = o.split; free = t.before o.head o.free })
leaf_before a b r x s v t (inr o) = inr o

empty_front : (front : List ℤ) (x : ℤ) (s v : List ℤ) (n : ℕ) → v ≡ front ++ (x ∷ s) → length v ≤ n → length s + 1 ≡ n → v ≡ x ∷ s
empty_front [] x s v n e h k = e
empty_front (y ∷ front) x s v n e h k = absurd (omega (arith, h, k, simp length-append at (ap length e)))

pub leaf_after : (a b : Level) (r : List Level) (x : ℤ) (s v : List ℤ) (n : ℕ) → Takes a x b → length s + 1 ≡ n → length v ≤ n → IsOpen (a ∷ r) s v → (v ≡ x ∷ s) ⊎ IsOpen (b ∷ r) s v
leaf_after a b r x s v n t k h (inr o) = inr (inr o)
leaf_after a b r x s v n t k h (inl o) = go (t.others o.head o.free)
  where
    go : (o.head ≡ x) ⊎ IsFree b o.head → (v ≡ x ∷ s) ⊎ IsOpen (b ∷ r) s v
    go (inl e) = inl (empty_front o.front o.head s v n o.split h k ∙ ap (λ z. z ∷ s) e)
    go (inr g) = inr (inl (record { head = o.head; front = o.front; split = o.split; free = g }))

-- ---- a turn at a later integer: c is the new level, where every entry is free
pub inner_before : (a b c : Level) (r : List Level) (x : ℤ) (s v : List ℤ) → Takes a x b → IsOpen (c ∷ b ∷ r) (x ∷ s) v → IsOpen (a ∷ r) s v
inner_before a b c r x s v t (inl o) = inl (record { head = x; front = o.front ++ (o.head ∷ []); split = o.split ∙ sym (append_assoc o.front (o.head ∷ []) (x ∷ s)); free = t.was_free })
inner_before a b c r x s v t (inr o) = leaf_before a b r x s v t o

-- a list with something is a list and a last
pub record HasLast (v : List ℤ) : Type 0 where
  pub front : List ℤ
  pub last : ℤ
  pub split : v ≡ front ++ (last ∷ [])

pub has_last : (x : ℤ) (v : List ℤ) → HasLast (x ∷ v)
has_last x [] = record { front = []; last = x; split = refl }
has_last x (y ∷ v) = let shorter_last = has_last y v in record { front = x ∷ shorter_last.front; last = shorter_last.last; split = ap (λ w. x ∷ w) shorter_last.split }

pub inner_after : (a b c : Level) (r : List Level) (x : ℤ) (s v : List ℤ) → Takes a x b → ((y : ℤ) → IsFree c y) → IsOpen (a ∷ r) s v → (v ≡ x ∷ s) ⊎ IsOpen (c ∷ b ∷ r) (x ∷ s) v
inner_after a b c r x s v t all (inr o) = inr (inr (inr o))
inner_after a b c r x s v t all (inl o) = go (t.others o.head o.free) o.front o.split
  where
    go : (o.head ≡ x) ⊎ IsFree b o.head → (front : List ℤ) → v ≡ front ++ (o.head ∷ s) → (v ≡ x ∷ s) ⊎ IsOpen (c ∷ b ∷ r) (x ∷ s) v
    go (inr g) front e = inr (inr (inl (record { head = o.head; front = front; split = e; free = g })))
    go (inl m) [] e = inl (e ∙ ap (λ z. z ∷ s) m)
    go (inl m) (y ∷ front) e =
        let front_last = has_last y front in
        inr (inl (record {
          head = front_last.last;
          front = front_last.front;
          split = e ∙ ap (λ w. w ++ (o.head ∷ s)) front_last.split ∙ append_assoc front_last.front (front_last.last ∷ []) (o.head ∷ s)
              ∙ ap (λ z. front_last.front ++ (front_last.last ∷ (z ∷ s))) m;
          free = all front_last.last;
        }))

-- ---- a pop: each free entry of the level is past the second
pub pop_settles : (f : SearchForm) (m : List ℤ → List ℤ) (a : Level) (r : List Level) (s one two v : List ℤ) → IsSearchable f → length v ≡ f.size →
    ((y : ℤ) → IsFree a y → (pos (2 ^ 60) *ℤ value f.p two) <ℤ low f (y ∷ s)) → IsOpen (a ∷ r) s v → IsSettled f m one two v ⊎ IsOpen r (tail_of s) v
pop_settles f m a r s one two v h k far (inr o) = inr o
pop_settles f m a r s one two v h k far (inl o) = inl (inr (inr (inl (along v (sym o.split) (past_second f (value f.p two) (o.head ∷ s) o.front h (ap length (sym o.split) ∙ k) (far o.head o.free))))))
  where
    along : (v : List ℤ) → o.front ++ (o.head ∷ s) ≡ v → value f.p two <ℤ value f.p (o.front ++ (o.head ∷ s)) → value f.p two <ℤ value f.p v
    along v e p = rw (← e) p

-- and so is each suffix through one
pub pop_after : (f : SearchForm) (limit : ℤ) (a : Level) (r : List Level) (s v : List ℤ) → IsSearchable f → length v ≤ f.size →
    ((y : ℤ) → IsFree a y → limit <ℤ low f (y ∷ s)) → IsOpen (a ∷ r) s v → (limit <ℤ low f v) ⊎ IsOpen r (tail_of s) v
pop_after f limit a r s v h k far (inr o) = inr o
pop_after f limit a r s v h k far (inl o) =
    let same_length : length (o.front ++ (o.head ∷ s)) ≡ length v = ap length (sym o.split) in
    inl (subst (λ (w : List ℤ). limit <ℤ low f w) (sym o.split)
    (farther limit (low f (o.head ∷ s)) (low f (o.front ++ (o.head ∷ s))) (far o.head o.free) (low_grows f h o.front (o.head ∷ s) (omega arith))))
  where
    farther : (m a b : ℤ) → m <ℤ a → a ≤ℤ b → m <ℤ b
    farther m a b h k = omega (arith, ints)
