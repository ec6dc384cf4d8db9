use Rattle.std.proofs.Common.{◌≡◌, ℕ, ◌+◌, ◌<◌, List, ◌∷◌, ◌++◌, length, drop, get_or, ℤ, pos, codes, sym, ap, ◌∙◌, add-one, append_assoc}
use Rattle.std.proofs.Math.Seq.{drop-cons}
use Rattle.sim_session.specs.Columns.{fixed_in}
use Rattle.sim_session.specs.ObservationText.{further_fields}
use Rattle.sim_session.proofs.Amounts.{plain}
use Rattle.sim_session.proofs.texts.write_further.Goals as goal

one_more : (out between after : List ℕ) (amounts : List ℤ) (k : ℕ) (a : ℤ) → k < length amounts → between ≡ out ++ codes "  " → after ≡ between ++ fixed_in 14 a 3 → a ≡ get_or amounts k (pos 0) →
    after ++ further_fields (drop (k + 1) amounts) ≡ out ++ further_fields (drop k amounts)
one_more out between after amounts k a h e f g =
    let parts : drop k amounts ≡ get_or amounts k (pos 0) ∷ drop (k + 1) amounts = drop-cons amounts k (pos 0) h ∙ ap (λ (n : ℕ). get_or amounts k (pos 0) ∷ drop n amounts) (sym (add-one k)) in
    rw (parts, f, e, g) (simp append_assoc)

pub loop-amount-preserved : goal.loop-amount-preserved
loop-amount-preserved c =
    let place = c.loop-amount.amount-index in
    one_more c.loop-amount.out.items _ _ c.args.amounts.now place _ c.loop-amount-test.true c.in_ok-extend_from_slice.ensures.items c.in_ok-push_fixed.ensures
    (plain (get_or c.args.amounts.now place (pos 0)) (c.requires place (pos 0) c.loop-amount-test.true)) ∙ c.loop-amount.invariant
