-- A verdict that rests on the two least vectors of the rows' form has them within the budget.
use Rattle.std.proofs.Common.{◌≡◌, ℕ, sym, subst}
use Rattle.quadratic_form.specs.Elimination.{Refusal, weak, wide_factor, wide_entry}
use Rattle.obs_rows.specs.declared.sessions.Session.{Session}
use Rattle.integer_form.specs.declared.faults.LowerFault.{LowerFault}
use Rattle.integer_form.specs.declared.faults.LowerFault.TheVariants as fault
use Rattle.integer_form.specs.declared.faults.Place.{Place}
use Rattle.integer_form.specs.declared.faults.Place.TheVariants.{Factor, Entry, Float, Sum}
use Rattle.integer_form.specs.ReportedRefusals.{fault_of}
use Rattle.cert_data.specs.declared.tails.Tail.{Tail}
use Rattle.cert_data.specs.declared.verdicts.Verdict.{Verdict}
use Rattle.cert_data.specs.declared.verdicts.Verdict.TheVariants.{Certified, Not}
use Rattle.cert_data.specs.declared.verdicts.Cause.TheVariants as cause
use Rattle.cert_check.specs.Settled.{IsRefused}
use Rattle.int_search.specs.declared.answer.SearchFault.{SearchFault}
use Rattle.int_search.specs.declared.answer.SearchFault.TheVariants.{Spent as SearchSpent, Overwidth as SearchOverwidth}
use Rattle.cert_check.specs.Verdicts.{IsVerdictOf}
use Rattle.cert_check.specs.Visits.{IsSearchedWithin, RestsWithin}
use Rattle.cert_check.proofs.OneVerdict.{Ends, given_up, refused, wide_move, wide_sum, decided, verdict_of, fault_verdict, rows_end}

rests : (s : Session) (budget : ℕ) (v : Verdict) → IsSearchedWithin s budget → RestsWithin s budget v
rests s budget Certified h = h
rests s budget (Not (cause.Weak column pivot)) h = tt
rests s budget (Not (cause.Overwidth Float)) h = h
rests s budget (Not (cause.Overwidth Sum)) h = h
rests s budget (Not (cause.Overwidth _)) h = tt
rests s budget (Not cause.Spent) h = tt
rests s budget (Not cause.Unseparated) h = h
rests s budget (Not cause.Tail) h = h

fault_rests : (s : Session) (budget : ℕ) (e : SearchFault) → RestsWithin s budget (fault_verdict e)
fault_rests s budget SearchSpent = tt
fault_rests s budget SearchOverwidth = tt

-- no elimination is refused for the baseline or the upper sum
other_place : (place : Place) (r : Refusal) → fault.Overwidth place ≡ fault_of r → (place ≡ Factor → ⊥) → (place ≡ Entry → ⊥) → ⊥
other_place place (weak j a) e f g = absurd cc
other_place place wide_factor e f g = f cc
other_place place wide_entry e f g = g cc

refused_place : (s : Session) (place : Place) → IsRefused s (fault.Overwidth place) → (place ≡ Factor → ⊥) → (place ≡ Entry → ⊥) → ⊥
refused_place s place a f g = other_place place a.reported.0 a.reported.1.1 f g

refusal_rests : (s : Session) (budget : ℕ) (why : LowerFault) → IsRefused s why → RestsWithin s budget (verdict_of why)
refusal_rests s budget (fault.Weak column pivot) a = tt
refusal_rests s budget (fault.Overwidth Float) a = absurd (refused_place s Float a (λ e. absurd cc) (λ e. absurd cc))
refusal_rests s budget (fault.Overwidth Sum) a = absurd (refused_place s Sum a (λ e. absurd cc) (λ e. absurd cc))
refusal_rests s budget (fault.Overwidth _) a = tt

end_rests : (s : Session) (ratio budget : ℕ) (t : Tail) (v : Verdict) → Ends s ratio budget t v → RestsWithin s budget v
end_rests s ratio budget t v (given_up f of_f e a is) = subst (RestsWithin s budget) (sym is) (fault_rests s budget e)
end_rests s ratio budget t v (refused why a is) = subst (RestsWithin s budget) (sym is) (refusal_rests s budget why a)
end_rests s ratio budget t v (wide_move f of_rows a is) = rests s budget v (record { form = f; of_rows = of_rows; best = a.best; best_is = a.best_is; visits = a.visits })
end_rests s ratio budget t v (wide_sum f of_rows a is) = rests s budget v (record { form = f; of_rows = of_rows; best = a.best; best_is = a.best_is; visits = a.visits })
end_rests s ratio budget t v (decided d final) = rests s budget v (record { form = d.form; of_rows = d.of_rows; best = d.best; best_is = d.found.best_is; visits = d.found.visits })

pub rests_within : (s : Session) (ratio budget : ℕ) (t : Tail) (v : Verdict) → IsVerdictOf s ratio budget t v → RestsWithin s budget v
rests_within s ratio budget t v is = end_rests s ratio budget t v (rows_end s ratio budget is.decided t v is.decision is.said)
