-- A level when it is new, and with one more entry taken.
use Rattle.std.proofs.Common.{◌≡◌, ◌⊎◌, inl, inr, ◌-◌, ◌<◌, ◌≤◌, ◌^◌, List, ◌∷◌, length, ℤ, pos, negsuc, ◌+ℤ◌, ◌-ℤ◌, neg_ℤ, ◌*ℤ◌, ◌<ℤ◌, ◌≤ℤ◌, Bool, true, false, arith, unsigned_abs, ap, sym, ◌∙◌}
use Rattle.std.proofs.lemmas.Int.{ints, by_lt_z}
use Rattle.whole_math.proofs.Order.{lins, polys}
use Rattle.int_search.specs.Suffixes.{SearchForm, IsSearchable, rest, offset, low, weight}
use Rattle.int_search.specs.PlainCount.{top}
use Rattle.int_search.specs.Levels.{IsFree, IsLevel, Takes}
use Rattle.int_search.specs.declared.stack.Level.{Level}
use Rattle.int_search.proofs.SuffixLaws.{low-cons, offset-is, IsNearest}
use Rattle.int_search.specs.Steps.{IsUntouched, Chooses, Moves}

pub level_untouched : (f : SearchForm) (s : List ℤ) (a : Level) → length s < f.size → IsUntouched (rest f s) (low f s) a → low f s ≤ℤ (pos (2 ^ 60) *ℤ top f) → IsLevel f a s
level_untouched f s a h k l = record {
  shorter = h;
  up_offset_is = k.up_offset_is ∙ sym (offset-is f a.up s);
  down_offset_is = k.down_offset_is ∙ sym (offset-is f a.down s);
  above = k.above;
  under = k.under;
  apart = let one_apart = k.apart in omega (arith, ints);
  balanced = fresh_balanced a.up a.down (rest f s) a.up_offset a.down_offset k.apart k.up_offset_is k.down_offset_is k.above k.under;
  tied = fresh_tied a.up a.down (rest f s) a.up_offset a.down_offset k.apart k.up_offset_is k.down_offset_is k.above;
  low_is = k.low_is;
  within = l;
  up_size = let up_fits = k.up_size in omega arith;
  down_size = let down_fits = k.down_size in omega arith;
  up_offset_size = let up_offset_fits = k.up_offset_size in omega arith;
  down_offset_size = let down_offset_fits = k.down_offset_size in omega arith;
}
  where
    fresh_balanced : (x y r u d : ℤ) → x ≡ y +ℤ pos 1 → u ≡ (pos (2 ^ 30) *ℤ x) +ℤ r → d ≡ (pos (2 ^ 30) *ℤ y) +ℤ r → pos 0 ≤ℤ u → d <ℤ pos 0 → unsigned_abs (u +ℤ d) ≤ 2 ^ 30
    fresh_balanced x y r u d e g h p q = let offsets_apart : u ≡ d +ℤ pos (2 ^ 30) = omega (arith, polys) in omega (arith, ints)

    fresh_tied : (x y r u d : ℤ) → x ≡ y +ℤ pos 1 → u ≡ (pos (2 ^ 30) *ℤ x) +ℤ r → d ≡ (pos (2 ^ 30) *ℤ y) +ℤ r → pos 0 ≤ℤ u → (negsuc (2 ^ 30 - 1) <ℤ (u +ℤ d)) ⊎ (u ≡ pos 0)
    fresh_tied x y r u d e g h p = let offsets_apart : u ≡ d +ℤ pos (2 ^ 30) = omega (arith, polys) in by_lt_z (pos 0) u (λ l. inl (omega (arith, ints))) (λ l. inr (omega (arith, ints)))

pub untouched_free : (e l : ℤ) (a : Level) → IsUntouched e l a → (y : ℤ) → IsFree a y
untouched_free e l a k y = let one_apart = k.apart in by_lt_z a.down y (λ p. inr (omega (arith, ints))) (λ p. inl p)

pub moved_takes : (a b : Level) (x c : ℤ) (up : Bool) → a.down <ℤ a.up → Chooses a x c up → Moves a up b → Takes a x b
moved_takes a b x c true h k m = record {
  was_free = inr (omega (arith, ints));
  above = omega (arith, ints);
  under = omega (arith, ints);
  others = λ y g. go y g;
  before = λ y g. back y g;
}
  where
    go : (y : ℤ) → IsFree a y → (y ≡ x) ⊎ IsFree b y
    go y (inl g) = inr (inl (omega (arith, ints)))
    go y (inr g) = by_lt_z a.up y (λ l. inr (inr (omega (arith, ints)))) (λ l. inl (omega (arith, ints)))

    back : (y : ℤ) → IsFree b y → IsFree a y
    back y (inl g) = inl (omega (arith, ints))
    back y (inr g) = inr (omega (arith, ints))
moved_takes a b x c false h k m = record {
  was_free = inl (omega (arith, ints));
  above = omega (arith, ints);
  under = omega (arith, ints);
  others = λ y g. go y g;
  before = λ y g. back y g;
}
  where
    go : (y : ℤ) → IsFree a y → (y ≡ x) ⊎ IsFree b y
    go y (inr g) = inr (inr (omega (arith, ints)))
    go y (inl g) = by_lt_z y a.down (λ l. inr (inl (omega (arith, ints)))) (λ l. inl (omega (arith, ints)))

    back : (y : ℤ) → IsFree b y → IsFree a y
    back y (inl g) = inl (omega (arith, ints))
    back y (inr g) = inr (omega (arith, ints))

next_offset : (f : SearchForm) (x y : ℤ) (s : List ℤ) → y ≡ x +ℤ pos 1 → offset f y s ≡ offset f x s +ℤ pos (2 ^ 30)
next_offset f x y s e = offset-is f y s ∙ step x y (rest f s) e ∙ ap (λ c. c +ℤ pos (2 ^ 30)) (sym (offset-is f x s))
  where
    step : (x y r : ℤ) → y ≡ x +ℤ pos 1 → (pos (2 ^ 30) *ℤ y) +ℤ r ≡ ((pos (2 ^ 30) *ℤ x) +ℤ r) +ℤ pos (2 ^ 30)
    step x y r e = omega (arith, polys)

same_offset : (f : SearchForm) (x y : ℤ) (s : List ℤ) → y ≡ x → offset f y s ≡ offset f x s
same_offset f x y s e = ap (λ z. offset f z s) e

tied_up : (u d v e : ℤ) → unsigned_abs (u +ℤ d) ≤ 2 ^ 30 → v ≡ u +ℤ pos (2 ^ 30) → e ≡ d → negsuc (2 ^ 30 - 1) <ℤ (v +ℤ e)
tied_up u d v e b g h = omega (arith, ints)

tied_down : (u d v e : ℤ) → neg_ℤ d <ℤ u → e ≡ d -ℤ pos (2 ^ 30) → v ≡ u → negsuc (2 ^ 30 - 1) <ℤ (v +ℤ e)
tied_down u d v e p g h = omega (arith, ints)

pub moved_level : (f : SearchForm) (a b : Level) (s : List ℤ) (x c : ℤ) (up : Bool) → IsLevel f a s → Chooses a x c up → Moves a up b → unsigned_abs x < 2 ^ 30 → unsigned_abs c ≤ 2 ^ 62 →
    IsLevel f b s
moved_level f a b s x c true h k m p q =
    let next_up_offset = next_offset f a.up b.up s m.0 in
    let same_down_offset = same_offset f a.down b.down s m.2 in
    record {
      shorter = h.shorter;
      up_offset_is = let up_offset_is = h.up_offset_is in let up_offset_moves = m.1 in omega (arith, lins);
      down_offset_is = let down_offset_is = h.down_offset_is in let down_offset_stays = m.3 in omega (arith, lins);
      above = let above_zero = h.above in let up_offset_grows = m.1 in omega (arith, ints);
      under = let under_zero = h.under in let down_offset_same = m.3 in omega (arith, ints);
      apart = let one_apart = h.apart in let up_moves = m.0 in let down_stays = m.2 in omega (arith, ints);
      balanced = let was_balanced = h.balanced in let up_offset_rises = m.1 in let down_offset_kept = m.3 in let near = k.2 in omega (arith, ints);
      tied = inl (tied_up a.up_offset a.down_offset b.up_offset b.down_offset h.balanced m.1 m.3);
      low_is = m.4 ∙ h.low_is;
      within = h.within;
      up_size = let entry_is = k.0 in let up_is_next = m.0 in omega (arith, ints);
      down_size = let down_fits = h.down_size in let down_kept = m.2 in omega (arith, ints);
      up_offset_size = let offset_is_chosen = k.1 in let up_offset_next = m.1 in omega (arith, ints);
      down_offset_size = let down_offset_fits = h.down_offset_size in let down_offset_equal = m.3 in omega (arith, ints);
    }
moved_level f a b s x c false h k m p q =
    let old_down_is : a.down ≡ b.down +ℤ pos 1 = let down_falls = m.0 in omega (arith, ints) in
    let next_down_offset = next_offset f b.down a.down s old_down_is in
    let same_up_offset = same_offset f a.up b.up s m.2 in
    record {
      shorter = h.shorter;
      up_offset_is = let up_offset_is = h.up_offset_is in let up_offset_stays = m.3 in omega (arith, lins);
      down_offset_is = let down_offset_is = h.down_offset_is in let down_offset_moves = m.1 in omega (arith, lins);
      above = let above_zero = h.above in let up_offset_same = m.3 in omega (arith, ints);
      under = let under_zero = h.under in let down_offset_drops = m.1 in omega (arith, ints);
      apart = let one_apart = h.apart in let down_moves = m.0 in let up_stays = m.2 in omega (arith, ints);
      balanced = let was_balanced = h.balanced in let down_offset_sinks = m.1 in let up_offset_kept = m.3 in let near = k.2 in omega (arith, ints);
      tied = inl (tied_down a.up_offset a.down_offset b.up_offset b.down_offset k.2 m.1 m.3);
      low_is = m.4 ∙ h.low_is;
      within = h.within;
      up_size = let up_fits = h.up_size in let up_kept = m.2 in omega (arith, ints);
      down_size = let entry_is = k.0 in let down_is_next = m.0 in omega (arith, ints);
      up_offset_size = let up_offset_fits = h.up_offset_size in let up_offset_equal = m.3 in omega (arith, ints);
      down_offset_size = let offset_is_chosen = k.1 in let down_offset_next = m.1 in omega (arith, ints);
    }

pub chosen_offset : (f : SearchForm) (a : Level) (s : List ℤ) (x c : ℤ) (up : Bool) → IsLevel f a s → Chooses a x c up → offset f x s ≡ c
chosen_offset f a s x c true h k = same_offset f a.up x s k.0 ∙ sym h.up_offset_is ∙ sym k.1
chosen_offset f a s x c false h k = same_offset f a.down x s k.0 ∙ sym h.down_offset_is ∙ sym k.1

pub chosen_nearest : (a : Level) (x c : ℤ) (up : Bool) → Chooses a x c up → IsNearest a c
chosen_nearest a x c true k = record { nearest = inl (k.1, k.2) }
chosen_nearest a x c false k = record { nearest = inr (k.1, k.2) }

pub chosen_free : (a : Level) (x c : ℤ) (up : Bool) → Chooses a x c up → IsFree a x
chosen_free a x c true k = inr (let entry_is = k.0 in omega (arith, ints))
chosen_free a x c false k = inl (let entry_is = k.0 in omega (arith, ints))

pub low_chosen : (f : SearchForm) (a : Level) (s : List ℤ) (x c : ℤ) (up : Bool) → IsSearchable f → IsLevel f a s → Chooses a x c up → low f (x ∷ s) ≡ a.low +ℤ (weight f s *ℤ (c *ℤ c))
low_chosen f a s x c up m h k =
    let same_offset_is : offset f x s ≡ c = chosen_offset f a s x c up h k in
    let low_is : a.low ≡ low f s = h.low_is in
    low-cons f x s m.each h.shorter ∙ ap (λ l. low f s +ℤ (weight f s *ℤ (l *ℤ l))) same_offset_is ∙ ap (λ l. l +ℤ (weight f s *ℤ (c *ℤ c))) (sym low_is)
