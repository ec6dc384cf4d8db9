-- Where a text stops being a number with an exponent.
use Rattle.std.proofs.Common.{◌≡◌, ℕ, pos, ◌+◌, Bool, true, false, List, [], ◌∷◌, ◌++◌, length, refl, sym, ap, subst, ◌∙◌, ◌⊎◌, inl, inr, length-append, None, Some}
use Rattle.std.proofs.lemmas.List.{append_assoc, append-nil}
use Rattle.decimal_text.specs.FixedForm.{IsSomeFixed}
use Rattle.decimal_text.specs.Shapes.{Begins, IsStuck, FailsFirst}
use Rattle.decimal_text.specs.Exp.{is_mark, before_mark, behind_mark, ends_blank}
use Rattle.decimal_text.specs.ExpForm.{IsExp, IsMarked, HasPower}
use Rattle.decimal_text.proofs.MarkLaws.{before-append, behind-append, unmarked-front, fixed-unmarked}
use Rattle.decimal_text.proofs.PowerLaws.{IsSomePower}
use Rattle.decimal_text.proofs.ShapesLaws.{one_more, fails_behind}

-- a number with no exponent
pub plain_exp : (text : List ℕ) → IsSomeFixed text → IsExp text
plain_exp text f = record { negative = f.negative; whole = f.whole; part = f.part; power = pos 0; spelled = inl (f.fixed, refl) }

pub record SomeMarked (text : List ℕ) : Type 0 where
  pub negative : Bool
  pub whole : List ℕ
  pub part : List ℕ
  pub below : Bool
  pub power : List ℕ
  pub marked : IsMarked text negative whole part below power

pub view : (text : List ℕ) → IsExp text → IsSomeFixed text ⊎ SomeMarked text
view text e = by e.spelled
  where
    by : HasPower text e.negative e.whole e.part e.power → IsSomeFixed text ⊎ SomeMarked text
    by (inl (fixed, none)) = inl (record { negative = e.negative; whole = e.whole; part = e.part; fixed = fixed })
    by (inr (below, power, marked, value)) = inr (record { negative = e.negative; whole = e.whole; part = e.part; below = below; power = power; marked = marked })

-- the first mark of a number with an exponent
pub marked_before : (text : List ℕ) (m : SomeMarked text) → before_mark text ≡ m.marked.front
marked_before text m =
    let front = m.marked.front in
    let none = fixed-unmarked front m.negative m.whole m.part m.marked.number in
    let ends : before_mark (m.marked.mark ∷ m.marked.tail) ≡ [] = rw (m.marked.marks) refl in
    ap before_mark m.marked.text_is ∙ before-append front (m.marked.mark ∷ m.marked.tail) none ∙ ap (λ t. front ++ t) ends ∙ append-nil front

pub marked_behind : (text : List ℕ) (m : SomeMarked text) → behind_mark text ≡ Some m.marked.tail
marked_behind text m =
    let front = m.marked.front in
    let none = fixed-unmarked front m.negative m.whole m.part m.marked.number in
    let found : behind_mark (m.marked.mark ∷ m.marked.tail) ≡ Some m.marked.tail = rw (m.marked.marks) refl in
    ap behind_mark m.marked.text_is ∙ behind-append front (m.marked.mark ∷ m.marked.tail) none ∙ found

-- what begins a number with an exponent and has no mark begins one without
begins_fixed : (x further : List ℕ) → behind_mark x ≡ None → IsExp (x ++ further) → Begins IsSomeFixed x
begins_fixed x further none e = by (view (x ++ further) e)
  where
    by : IsSomeFixed (x ++ further) ⊎ SomeMarked (x ++ further) → Begins IsSomeFixed x
    by (inl f) = record { further = further; whole = f }
    by (inr m) =
        let same : m.marked.front ≡ x ++ before_mark further = sym (marked_before (x ++ further) m) ∙ before-append x further none in
        record { further = before_mark further; whole = subst IsSomeFixed same (record { negative = m.negative; whole = m.whole; part = m.part; fixed = m.marked.number }) }

-- what stands around the mark
record AtMark (x further : List ℕ) : Type 0 where
  fixed : IsSomeFixed x
  next_to : ends_blank x ≡ false
  power : IsSomePower further

at_mark_is : (x : List ℕ) (mark : ℕ) (further : List ℕ) → behind_mark x ≡ None → is_mark mark ≡ true → IsExp (x ++ mark ∷ further) → AtMark x further
at_mark_is x mark further none marks e = by (view (x ++ mark ∷ further) e)
  where
    by : IsSomeFixed (x ++ mark ∷ further) ⊎ SomeMarked (x ++ mark ∷ further) → AtMark x further
    by (inl f) =
        let here : behind_mark (mark ∷ further) ≡ Some further = rw marks refl in
        absurd (cc (fixed-unmarked (x ++ mark ∷ further) f.negative f.whole f.part f.fixed, behind-append x (mark ∷ further) none, here))
    by (inr m) =
        let here : behind_mark (mark ∷ further) ≡ Some further = rw marks refl in
        let ends : before_mark (mark ∷ further) ≡ [] = rw marks refl in
        let front : m.marked.front ≡ x = sym (marked_before (x ++ mark ∷ further) m) ∙ before-append x (mark ∷ further) none ∙ ap (λ t. x ++ t) ends ∙ append-nil x in
        let both : Some m.marked.tail ≡ Some further = sym (marked_behind (x ++ mark ∷ further) m) ∙ behind-append x (mark ∷ further) none ∙ here in
        let tail : m.marked.tail ≡ further = cc both in
        record {
          fixed = subst IsSomeFixed front (record { negative = m.negative; whole = m.whole; part = m.part; fixed = m.marked.number });
          next_to = subst (λ t. ends_blank t ≡ false) front m.marked.next_to;
          power = subst IsSomePower tail (record { negative = m.below; power = m.power; signed_is = m.marked.exponent });
        }

pub marked_exp : (front : List ℕ) (mark : ℕ) (tail : List ℕ) (f : IsSomeFixed front) → ends_blank front ≡ false → is_mark mark ≡ true → IsSomePower tail → IsExp (front ++ mark ∷ tail)
marked_exp front mark tail f next marks p = record {
  negative = f.negative;
  whole = f.whole;
  part = f.part;
  power = _;
  spelled = inr (p.negative, p.power, record { front = front; mark = mark; tail = tail; text_is = refl; number = f.fixed; next_to = next; marks = marks; exponent = p.signed_is }, refl);
}

-- nothing follows, or a mark does
EndsOrMarks : List ℕ → Type 0
EndsOrMarks [] = Unit {0}
EndsOrMarks (b ∷ bs) = is_mark b ≡ true

stuck_there : (front rest behind : List ℕ) → behind_mark (front ++ rest) ≡ None → EndsOrMarks behind → IsStuck IsSomeFixed front rest → IsStuck IsExp front (rest ++ behind)
unfolding EndsOrMarks
stuck_there front [] [] none marks stuck = λ e. by (view front e)
  where
    by : IsSomeFixed front ⊎ SomeMarked front → ⊥
    by (inl f) = stuck f
    by (inr m) = let front_none = unmarked-front front [] none in absurd (cc (marked_behind front m, front_none))
stuck_there front [] (m ∷ tail) none marks stuck = λ begun.
    stuck (at_mark_is front m begun.further (unmarked-front front [] none) marks (subst IsExp (one_more front m begun.further) begun.whole)).fixed
stuck_there front (b ∷ bs) behind none marks stuck = λ begun.
    let same : behind_mark ((front ++ b ∷ []) ++ bs) ≡ None = ap behind_mark (one_more front b bs) ∙ none in
    stuck (begins_fixed (front ++ b ∷ []) begun.further (unmarked-front (front ++ b ∷ []) bs same) begun.whole)

fails_before : (front behind : List ℕ) (at : ℕ) → behind_mark front ≡ None → EndsOrMarks behind → FailsFirst IsSomeFixed front at → FailsFirst IsExp (front ++ behind) at
fails_before front behind at none marks f = record {
  front = f.front;
  rest = f.rest ++ behind;
  text_is = ap (λ t. t ++ behind) f.text_is ∙ append_assoc f.front f.rest behind;
  at_is = f.at_is;
  begun = record { further = f.begun.further; whole = plain_exp (f.front ++ f.begun.further) f.begun.whole };
  stuck = stuck_there f.front f.rest behind (subst (λ t. behind_mark t ≡ None) f.text_is none) marks f.stuck;
}

-- where no mark stands, the text fails as a number without an exponent does
pub fails_plain : (text : List ℕ) (at : ℕ) → behind_mark text ≡ None → FailsFirst IsSomeFixed text at → FailsFirst IsExp text at
unfolding EndsOrMarks
fails_plain text at none f = subst (λ t. FailsFirst IsExp t at) (append-nil text) (fails_before text [] at none tt f)

-- and so before a mark
pub fails_front : (front : List ℕ) (mark : ℕ) (tail : List ℕ) (at : ℕ) → behind_mark front ≡ None → is_mark mark ≡ true → FailsFirst IsSomeFixed front at → FailsFirst IsExp (front ++ mark ∷ tail) at
unfolding EndsOrMarks
fails_front front mark tail at none marks f = fails_before front (mark ∷ tail) at none marks f

-- a text fails at a mark that follows a blank
pub fails_apart : (front : List ℕ) (mark : ℕ) (tail : List ℕ) → behind_mark front ≡ None → is_mark mark ≡ true → IsSomeFixed front
    → ends_blank front ≡ true → FailsFirst IsExp (front ++ mark ∷ tail) (length front)
fails_apart front mark tail none marks f blank = record {
  front = front;
  rest = mark ∷ tail;
  text_is = refl;
  at_is = refl;
  begun = record { further = []; whole = subst IsExp (sym (append-nil front)) (plain_exp front f) };
  stuck = λ begun. let at_mark = at_mark_is front mark begun.further none marks (subst IsExp (one_more front mark begun.further) begun.whole) in cc (blank, at_mark.next_to);
}

-- an exponent that fails
pub fails_exponent : (front : List ℕ) (mark : ℕ) (tail : List ℕ) (at : ℕ) → behind_mark front ≡ None → is_mark mark ≡ true → IsSomeFixed front
    → ends_blank front ≡ false → FailsFirst IsSomePower tail at → FailsFirst IsExp (front ++ mark ∷ tail) (length front + 1 + at)
fails_exponent front mark tail at none marks f next fails =
    let count : length (front ++ mark ∷ []) + at ≡ length front + 1 + at = ap (λ n. n + at) (length-append front (mark ∷ [])) in
    subst (λ t. FailsFirst IsExp t (length front + 1 + at)) (one_more front mark tail)
    (subst (λ n. FailsFirst IsExp ((front ++ mark ∷ []) ++ tail) n) count
    (fails_behind IsSomePower IsExp (front ++ mark ∷ [])
    (λ t p. subst IsExp (sym (one_more front mark t)) (marked_exp front mark t f next marks p))
    (λ t e. (at_mark_is front mark t none marks (subst IsExp (one_more front mark t) e)).power)
    tail at fails))
