-- With a greater budget the rows are decided to say the same, unless the search ended without an answer.
use Rattle.std.proofs.Common.{inl, inr, ℕ, ◌≤◌, List, length, ℤ, arith}
use Rattle.obs_rows.specs.declared.sessions.Session.{Session}
use Rattle.integer_form.specs.declared.form.Form.{Form}
use Rattle.int_search.specs.Suffixes.{SearchForm}
use Rattle.int_search.specs.PlainCount.{AreAtMost}
use Rattle.int_search.specs.ReducedCounts.{KeepsBudget}
use Rattle.int_search.specs.declared.answer.TwoBest.{TwoBest}
use Rattle.int_search.proofs.EndLaws.{answers_more}
use Rattle.cert_data.specs.declared.tails.Tail.{Tail}
use Rattle.cert_data.specs.declared.tails.Tail.TheVariants.{Fixed, Unseparated, Weak, Overwidth, Unsettled, Spent}
use Rattle.cert_data.specs.declared.verdicts.Verdict.TheVariants.{Certified}
use Rattle.cert_check.specs.Settled.{AreFound, IsBaselineWide, IsSumWide, IsDecision}
use Rattle.cert_check.specs.RowDecisions.{IsRowDecision, IsFinal}
use Rattle.cert_check.specs.Verdicts.{IsSaidOf, IsVerdictOf}

most_more : (f : SearchForm) (p : ℤ) (n m : ℕ) → n ≤ m → AreAtMost f p n → AreAtMost f p m
most_more f p n m h a = record { each = λ qs d w. more (length qs) (a.each qs d w) }
  where
    more : (j : ℕ) → j ≤ n → j ≤ m
    more j l = omega arith

pub keeps_more : (f : Form) (n m : ℕ) (b : TwoBest) → n ≤ m → KeepsBudget f n b → KeepsBudget f m b
keeps_more f n m b h (inl k) = inl (most_more _ b.p2 n m h k)
keeps_more f n m b h (inr k) = inr (record {
  change = k.change;
  reduced = k.reduced;
  visits = record { factors = k.visits.factors; g = k.visits.g; taken = k.visits.taken; few = most_more _ b.p2 n m h k.visits.few };
})

found_more : (s : Session) (f : Form) (n m k : ℕ) (moved : List ℤ) (best : TwoBest) (top : ℤ) → n ≤ m → AreFound s f n k moved best top → AreFound s f m k moved best top
found_more s f n m k moved best top h a = record {
  h_is = a.h_is;
  best_is = a.best_is;
  visits = keeps_more f n m best h a.visits;
  answered = answers_more f n m h a.answered;
  moved_is = a.moved_is;
  narrow = a.narrow;
  top_is = a.top_is;
  bounded = a.bounded;
}

baseline_more : (f : Form) (n m : ℕ) → n ≤ m → IsBaselineWide f n → IsBaselineWide f m
baseline_more f n m h a = record { best = a.best; best_is = a.best_is; visits = keeps_more f n m a.best h a.visits; answered = answers_more f n m h a.answered; wide = a.wide }

sum_more : (s : Session) (f : Form) (n m : ℕ) → n ≤ m → IsSumWide s f n → IsSumWide s f m
sum_more s f n m h a = record {
  best = a.best;
  best_is = a.best_is;
  visits = keeps_more f n m a.best h a.visits;
  answered = answers_more f n m h a.answered;
  narrow = a.narrow;
  wide = a.wide;
}

decision_more : (s : Session) (f : Form) (ratio n m : ℕ) (t : Tail) → n ≤ m → IsFinal t → IsDecision s f ratio n t → IsDecision s f ratio m t
decision_more s f ratio n m (Fixed h moved best top) l lasting is = (found_more s f n m h moved best top l is.0, is.1)
decision_more s f ratio n m (Unseparated h moved best top) l lasting is = (found_more s f n m h moved best top l is.0, is.1)
decision_more s f ratio n m (Weak column pivot) l lasting is = absurd is
decision_more s f ratio n m (Overwidth place) l lasting (inl is) = absurd (lasting is.0)
decision_more s f ratio n m (Overwidth place) l lasting (inr (inl is)) = inr (inl (is.0, baseline_more f n m l is.1))
decision_more s f ratio n m (Overwidth place) l lasting (inr (inr is)) = inr (inr (is.0, sum_more s f n m l is.1))
decision_more s f ratio n m (Unsettled entry) l lasting is = absurd is
decision_more s f ratio n m (Spent spent) l lasting is = absurd lasting

pub rows_more : (s : Session) (ratio n m : ℕ) (t : Tail) → n ≤ m → IsFinal t → IsRowDecision s ratio n t → IsRowDecision s ratio m t
rows_more s ratio n m t l lasting (inl by) = inl by
rows_more s ratio n m t l lasting (inr by) = inr (record { form = by.form; of_rows = by.of_rows; decision = decision_more s by.form ratio n m t l lasting by.decision })

-- what a text is certified of lasts
certified_lasting : (d t : Tail) → IsSaidOf d t Certified → IsFinal d
certified_lasting (Fixed h moved best top) t said = tt
certified_lasting (Unseparated h moved best top) t said = tt
certified_lasting (Weak column pivot) t said = tt
certified_lasting (Overwidth place) t said = absurd (cc (said))
certified_lasting (Unsettled entry) t said = tt
certified_lasting (Spent budget) t said = absurd (cc (said))

pub certified_more : (s : Session) (ratio n m : ℕ) (t : Tail) → n ≤ m → IsVerdictOf s ratio n t Certified → IsVerdictOf s ratio m t Certified
certified_more s ratio n m t l is = record { decided = is.decided; decision = rows_more s ratio n m is.decided l (certified_lasting is.decided t is.said) is.decision; said = is.said }
