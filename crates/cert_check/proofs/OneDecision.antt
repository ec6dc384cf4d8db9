-- The rows of a session have one decision.
use Rattle.std.proofs.Common.{◌≡◌, inl, inr, ℕ, pos, refl, sym, ap, ◌∙◌, subst, Err}
use Rattle.obs_rows.specs.declared.sessions.Session.{Session}
use Rattle.integer_form.specs.declared.faults.LowerFault.{LowerFault}
use Rattle.integer_form.specs.declared.faults.Place.TheVariants.{Float, Search, Sum}
use Rattle.integer_form.specs.declared.form.Form.{Form}
use Rattle.int_search.specs.ReducedCounts.{IsSearchEnd}
use Rattle.int_search.specs.declared.answer.SearchFault.{SearchFault}
use Rattle.int_search.specs.declared.answer.SearchFault.TheVariants.{Spent as SearchSpent, Overwidth as SearchOverwidth}
use Rattle.fix_decide.specs.Decisions.{IsFormOf, IsSeparated}
use Rattle.cert_data.specs.declared.tails.Tail.{Tail}
use Rattle.cert_data.specs.declared.tails.Tail.TheVariants.{Fixed, Unseparated, Weak, Overwidth, Unsettled, Spent}
use Rattle.cert_check.specs.Settled.{IsRefused, IsBaselineWide, IsSumWide, IsDecision, tail_of}
use Rattle.cert_check.specs.RowDecisions.{IsRowDecision, IsSameTail}
use Rattle.cert_check.proofs.SameNumbers.{same_numbers}
use Rattle.cert_check.proofs.SameForms.{Found, fix_of, one_found}
use Rattle.cert_check.proofs.Apart.{same_refusal, no_form, no_answer, one_fault, no_move, no_sum, not_wide, as_far}

-- numbers that aren't far enough apart, as a tail
abbrev near_of : (s : Session) (budget : ℕ) → Found s budget → Tail
near_of s budget d = Unseparated d.h d.moved d.best d.top

-- where the decision ends
-- a search that ends without an answer, as a tail
abbrev fault_tail : ℕ → SearchFault → Tail
fault_tail budget SearchSpent = Spent budget
fault_tail budget SearchOverwidth = Overwidth Search

data Ends (s : Session) (ratio budget : ℕ) (t : Tail) : Type 0 where
  given_up : (f : Form) → IsFormOf s f → (e : SearchFault) → IsSearchEnd f budget (Err e) → t ≡ fault_tail budget e → Ends s ratio budget t
  refused : (why : LowerFault) → IsRefused s why → t ≡ tail_of why → Ends s ratio budget t
  wide_move : (f : Form) → IsFormOf s f → IsBaselineWide f budget → t ≡ Overwidth Float → Ends s ratio budget t
  wide_sum : (f : Form) → IsFormOf s f → IsSumWide s f budget → t ≡ Overwidth Sum → Ends s ratio budget t
  fixed : (d : Found s budget) → IsSeparated (pos ratio) d.top d.best.p2 → t ≡ fix_of s budget d → Ends s ratio budget t
  near : (d : Found s budget) → (IsSeparated (pos ratio) d.top d.best.p2 → ⊥) → t ≡ near_of s budget d → Ends s ratio budget t

form_ends : (s : Session) (f : Form) (ratio budget : ℕ) (t : Tail) → IsFormOf s f → IsDecision s f ratio budget t → Ends s ratio budget t
form_ends s f ratio budget (Fixed h m best top) of_rows is =
    fixed (record { form = f; of_rows = of_rows; h = h; moved = m; best = best; top = top; found = is.0 }) is.1 refl
form_ends s f ratio budget (Unseparated h m best top) of_rows is =
    near (record { form = f; of_rows = of_rows; h = h; moved = m; best = best; top = top; found = is.0 }) is.1 refl
form_ends s f ratio budget (Weak column pivot) of_rows is = absurd is
form_ends s f ratio budget (Overwidth place) of_rows (inl is) = given_up f of_rows SearchOverwidth is.1.0 (ap Overwidth is.0)
form_ends s f ratio budget (Overwidth place) of_rows (inr (inl is)) = wide_move f of_rows is.1 (ap Overwidth is.0)
form_ends s f ratio budget (Overwidth place) of_rows (inr (inr is)) = wide_sum f of_rows is.1 (ap Overwidth is.0)
form_ends s f ratio budget (Unsettled entry) of_rows is = absurd is
form_ends s f ratio budget (Spent spent) of_rows is = given_up f of_rows SearchSpent is.1.0 (ap Spent is.0)

ends : (s : Session) (ratio budget : ℕ) (t : Tail) → IsRowDecision s ratio budget t → Ends s ratio budget t
ends s ratio budget t (inl by) = refused by.fault by.refused by.tail_is
ends s ratio budget t (inr by) = form_ends s by.form ratio budget t by.of_rows by.decision

-- ---- tails that are the same
same_self : (t : Tail) → IsSameTail t t
same_self (Fixed h moved best top) = same_numbers h moved best top
same_self (Unseparated h moved best top) = same_numbers h moved best top
same_self (Weak column pivot) = (refl, refl)
same_self (Overwidth place) = refl
same_self (Unsettled entry) = refl
same_self (Spent budget) = refl

pub equal : (t u v : Tail) → t ≡ v → u ≡ v → IsSameTail t u
equal t u v e f = subst (λ (w : Tail). IsSameTail t w) (e ∙ sym f) (same_self t)

alike : (t u v w : Tail) → t ≡ v → u ≡ w → IsSameTail v w → IsSameTail t u
alike t u v w e f same = subst (λ (x : Tail). IsSameTail x u) (sym e) (subst (λ (x : Tail). IsSameTail v x) (sym f) same)

pair_up : (s : Session) (ratio budget : ℕ) (t u : Tail) → Ends s ratio budget t → Ends s ratio budget u → IsSameTail t u
pair_up s r n t u (given_up f of_f e a is) (given_up g of_g d b is_too) = equal t u (fault_tail n d) (is ∙ ap (fault_tail n) (one_fault s f g n e d of_f a of_g b)) is_too
pair_up s r n t u (given_up f of_f e a is) (refused why b is_too) = absurd (no_form s why f b of_f)
pair_up s r n t u (given_up f of_f e a is) (wide_move g of_g b is_too) = absurd (no_answer s f g n e of_f a of_g b.answered)
pair_up s r n t u (given_up f of_f e a is) (wide_sum g of_g b is_too) = absurd (no_answer s f g n e of_f a of_g b.answered)
pair_up s r n t u (given_up f of_f e a is) (fixed d far is_too) = absurd (no_answer s f d.form n e of_f a d.of_rows d.found.answered)
pair_up s r n t u (given_up f of_f e a is) (near d close is_too) = absurd (no_answer s f d.form n e of_f a d.of_rows d.found.answered)
pair_up s r n t u (refused why a is) (given_up g of_g e b is_too) = absurd (no_form s why g a of_g)
pair_up s r n t u (refused why a is) (refused too b is_too) = equal t u (tail_of too) (is ∙ ap tail_of (same_refusal s why too a b)) is_too
pair_up s r n t u (refused why a is) (wide_move g of_g b is_too) = absurd (no_form s why g a of_g)
pair_up s r n t u (refused why a is) (wide_sum g of_g b is_too) = absurd (no_form s why g a of_g)
pair_up s r n t u (refused why a is) (fixed e far is_too) = absurd (no_form s why e.form a e.of_rows)
pair_up s r n t u (refused why a is) (near e close is_too) = absurd (no_form s why e.form a e.of_rows)
pair_up s r n t u (wide_move f of_f a is) (given_up g of_g e b is_too) = absurd (no_answer s g f n e of_g b of_f a.answered)
pair_up s r n t u (wide_move f of_f a is) (refused why b is_too) = absurd (no_form s why f b of_f)
pair_up s r n t u (wide_move f of_f a is) (wide_move g of_g b is_too) = equal t u (Overwidth Float) is is_too
pair_up s r n t u (wide_move f of_f a is) (wide_sum g of_g b is_too) = absurd (no_move s f g n b.best of_f a of_g b.best_is b.narrow)
pair_up s r n t u (wide_move f of_f a is) (fixed e far is_too) = absurd (no_move s f e.form n e.best of_f a e.of_rows e.found.best_is (not_wide s n e))
pair_up s r n t u (wide_move f of_f a is) (near e close is_too) = absurd (no_move s f e.form n e.best of_f a e.of_rows e.found.best_is (not_wide s n e))
pair_up s r n t u (wide_sum f of_f a is) (given_up g of_g e b is_too) = absurd (no_answer s g f n e of_g b of_f a.answered)
pair_up s r n t u (wide_sum f of_f a is) (refused why b is_too) = absurd (no_form s why f b of_f)
pair_up s r n t u (wide_sum f of_f a is) (wide_move g of_g b is_too) = absurd (no_move s g f n a.best of_g b of_f a.best_is a.narrow)
pair_up s r n t u (wide_sum f of_f a is) (wide_sum g of_g b is_too) = equal t u (Overwidth Sum) is is_too
pair_up s r n t u (wide_sum f of_f a is) (fixed e far is_too) = absurd (no_sum s f n e of_f a)
pair_up s r n t u (wide_sum f of_f a is) (near e close is_too) = absurd (no_sum s f n e of_f a)
pair_up s r n t u (fixed d far is) (given_up g of_g e b is_too) = absurd (no_answer s g d.form n e of_g b d.of_rows d.found.answered)
pair_up s r n t u (fixed d far is) (refused why b is_too) = absurd (no_form s why d.form b d.of_rows)
pair_up s r n t u (fixed d far is) (wide_move g of_g b is_too) = absurd (no_move s g d.form n d.best of_g b d.of_rows d.found.best_is (not_wide s n d))
pair_up s r n t u (fixed d far is) (wide_sum g of_g b is_too) = absurd (no_sum s g n d of_g b)
pair_up s r n t u (fixed d far is) (fixed e far_too is_too) = alike t u (fix_of s n d) (fix_of s n e) is is_too (one_found s n d e)
pair_up s r n t u (fixed d far is) (near e close is_too) = absurd (close (as_far s r n d e far))
pair_up s r n t u (near d close is) (given_up g of_g e b is_too) = absurd (no_answer s g d.form n e of_g b d.of_rows d.found.answered)
pair_up s r n t u (near d close is) (refused why b is_too) = absurd (no_form s why d.form b d.of_rows)
pair_up s r n t u (near d close is) (wide_move g of_g b is_too) = absurd (no_move s g d.form n d.best of_g b d.of_rows d.found.best_is (not_wide s n d))
pair_up s r n t u (near d close is) (wide_sum g of_g b is_too) = absurd (no_sum s g n d of_g b)
pair_up s r n t u (near d close is) (fixed e far is_too) = absurd (close (as_far s r n e d far))
pair_up s r n t u (near d close is) (near e close_too is_too) = alike t u (near_of s n d) (near_of s n e) is is_too (one_found s n d e)

pub one_decision : (s : Session) (ratio budget : ℕ) (t u : Tail) → IsRowDecision s ratio budget t → IsRowDecision s ratio budget u → IsSameTail t u
one_decision s ratio budget t u a b = pair_up s ratio budget t u (ends s ratio budget t a) (ends s ratio budget u b)
