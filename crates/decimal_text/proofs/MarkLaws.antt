-- Where the mark of an exponent stands in a text.
use Rattle.std.proofs.Common.{◌≡◌, ℕ, ◌+◌, Bool, true, false, ◌==◌, ◌||◌, List, [], ◌∷◌, ◌++◌, refl, sym, ap, ◌∙◌, arith, None, Some, Option}
use Rattle.std.proofs.lemmas.Bool.Decides.{nat_tests}
use Rattle.decimal_text.specs.declared.fixed.Stage.{Stage}
use Rattle.decimal_text.specs.declared.fixed.Stage.TheVariants.{Start, Signed, Whole, Point, Part, Done}
use Rattle.decimal_text.specs.Whole.{is_digit}
use Rattle.decimal_text.specs.Fixed.{is_blank, walk, went, next_stage_of, Ends, number_with, places_with}
use Rattle.decimal_text.specs.FixedForm.{IsFixed}
use Rattle.decimal_text.specs.Exp.{is_mark, before_mark, behind_mark}
use Rattle.decimal_text.proofs.FixedWalks.{walk-fixed}

-- after a front without a mark, the mark is looked for in the rest
pub before-append : (front rest : List ℕ) → behind_mark front ≡ None → before_mark (front ++ rest) ≡ front ++ before_mark rest
before-append [] rest none = refl
before-append (b ∷ bs) rest none = by (is_mark b) refl (λ e. before-append bs rest e)
  where
    by : (t : Bool) → is_mark b ≡ t → (behind_mark bs ≡ None → before_mark (bs ++ rest) ≡ bs ++ before_mark rest) → before_mark (b ∷ (bs ++ rest)) ≡ b ∷ (bs ++ before_mark rest)
    by true is later = let found : behind_mark (b ∷ bs) ≡ Some bs = rw is refl in absurd (cc (found, none))
    by false is later = let same : behind_mark (b ∷ bs) ≡ behind_mark bs = rw is refl in rw is (ap (λ t. b ∷ t) (later (sym same ∙ none)))

pub behind-append : (front rest : List ℕ) → behind_mark front ≡ None → behind_mark (front ++ rest) ≡ behind_mark rest
behind-append [] rest none = refl
behind-append (b ∷ bs) rest none = by (is_mark b) refl (λ e. behind-append bs rest e)
  where
    by : (t : Bool) → is_mark b ≡ t → (behind_mark bs ≡ None → behind_mark (bs ++ rest) ≡ behind_mark rest) → behind_mark (b ∷ (bs ++ rest)) ≡ behind_mark rest
    by true is later = let found : behind_mark (b ∷ bs) ≡ Some bs = rw is refl in absurd (cc (found, none))
    by false is later = let same : behind_mark (b ∷ bs) ≡ behind_mark bs = rw is refl in rw is (later (sym same ∙ none))

-- a front of a text without a mark has none
pub unmarked-front : (front rest : List ℕ) → behind_mark (front ++ rest) ≡ None → behind_mark front ≡ None
unmarked-front [] rest none = refl
unmarked-front (b ∷ bs) rest none = by (is_mark b) refl (λ e. unmarked-front bs rest e)
  where
    by : (t : Bool) → is_mark b ≡ t → (behind_mark (bs ++ rest) ≡ None → behind_mark bs ≡ None) → behind_mark (b ∷ bs) ≡ None
    by true is later = let found : behind_mark (b ∷ (bs ++ rest)) ≡ Some (bs ++ rest) = rw is refl in absurd (cc (found, none))
    by false is later = let same : behind_mark (b ∷ (bs ++ rest)) ≡ behind_mark (bs ++ rest) = rw is refl in rw is (later (sym same ∙ none))

-- a text with a mark, split there
pub record IsSplit (text tail : List ℕ) : Type 0 where
  pub mark : ℕ
  pub marks : is_mark mark ≡ true
  pub text_is : text ≡ before_mark text ++ mark ∷ tail
  pub none : behind_mark (before_mark text) ≡ None

pub split_at : (text tail : List ℕ) → behind_mark text ≡ Some tail → IsSplit text tail
split_at [] tail found = absurd cc
split_at (b ∷ bs) tail found = by (is_mark b) refl (λ e. split_at bs tail e)
  where
    by : (t : Bool) → is_mark b ≡ t → (behind_mark bs ≡ Some tail → IsSplit bs tail) → IsSplit (b ∷ bs) tail
    by true is later =
        let behind : behind_mark (b ∷ bs) ≡ Some bs = rw is refl in
        let same : bs ≡ tail = cc (behind, found) in
        let front : before_mark (b ∷ bs) ≡ [] = rw is refl in
        record { mark = b; marks = is; text_is = rw front (ap (λ t. b ∷ t) same); none = rw front refl }
    by false is later =
        let behind : behind_mark (b ∷ bs) ≡ behind_mark bs = rw is refl in
        let split_later = later (sym behind ∙ found) in
        let front : before_mark (b ∷ bs) ≡ b ∷ before_mark bs = rw is refl in
        let none : behind_mark (b ∷ before_mark bs) ≡ None = rw is split_later.none in
        record { mark = split_later.mark; marks = split_later.marks; text_is = rw front (ap (λ t. b ∷ t) split_later.text_is); none = rw front none }

not_blank : (b : ℕ) → is_mark b ≡ true → is_blank b ≡ false
not_blank b is = grind (arith, nat_tests)

not_sign : (b : ℕ) → is_mark b ≡ true → ((b == 43) || (b == 45)) ≡ false
not_sign b is = grind (arith, nat_tests)

not_digit : (b : ℕ) → is_mark b ≡ true → is_digit b ≡ false
not_digit b is = grind (arith, nat_tests)

not_point : (b : ℕ) → is_mark b ≡ true → (b == 46) ≡ false
not_point b is = grind (arith, nat_tests)

-- no stage goes on with a mark
pub no_next : (stage : Stage) (b : ℕ) → is_mark b ≡ true → next_stage_of stage b ≡ None
no_next Start b is = rw (not_blank b is, not_sign b is, not_digit b is, not_point b is) refl
no_next Signed b is = rw (not_digit b is, not_point b is) refl
no_next Whole b is = rw (not_digit b is, not_point b is, not_blank b is) refl
no_next Point b is = rw (not_digit b is) refl
no_next Part b is = rw (not_digit b is, not_blank b is) refl
no_next Done b is = rw (not_blank b is) refl

walk-unmarked : (text : List ℕ) (at : ℕ) (stage : Stage) (negative : Bool) (n k : ℕ) (to : Bool) (m j : ℕ) → walk text at stage negative n k ≡ Ends to m j → behind_mark text ≡ None
walk-unmarked [] at stage negative n k to m j ends = refl
walk-unmarked (b ∷ bs) at stage negative n k to m j ends = by_next (next_stage_of stage b) refl ends
    (λ next e. walk-unmarked bs (at + 1) next (negative || (b == 45)) (number_with n b) (places_with next k b) to m j e)
  where
    by_mark : (t : Bool) → is_mark b ≡ t → (next : Stage) → next_stage_of stage b ≡ Some next → behind_mark bs ≡ None → behind_mark (b ∷ bs) ≡ None
    by_mark true is next goes none = absurd (cc (no_next stage b is, goes))
    by_mark false is next goes none = rw is none

    by_next : (o : Option Stage) → next_stage_of stage b ≡ o
        → went o at (λ s. walk bs (at + 1) s (negative || (b == 45)) (number_with n b) (places_with s k b)) ≡ Ends to m j
        → ((next : Stage) → walk bs (at + 1) next (negative || (b == 45)) (number_with n b) (places_with next k b) ≡ Ends to m j → behind_mark bs ≡ None)
        → behind_mark (b ∷ bs) ≡ None
    by_next None is e later = absurd cc
    by_next (Some next) is e later = by_mark (is_mark b) refl next is (later next e)

-- a number with a point has no mark
pub fixed-unmarked : (text : List ℕ) (negative : Bool) (whole part : List ℕ) → IsFixed text negative whole part → behind_mark text ≡ None
fixed-unmarked text negative whole part fixed = walk-unmarked text 0 Start false 0 0 _ _ _ (walk-fixed text negative whole part fixed)
