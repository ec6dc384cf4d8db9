use Rattle.std.proofs.Common.{◌≡◌, List, [], ◌∷◌, ◌++◌, ℕ, ℤ, w64, to_z, of_z, Result, Ok, Err, OnOk, refl, ap, ◌∙◌, append_assoc}
use Rattle.sim_session.specs.Columns.{fixed_in}
use Rattle.sim_session.specs.ObservationText.{further_fields, fields_text}
use Rattle.sim_session.proofs.Amounts.{plain}
use Rattle.sim_session.proofs.texts.write_amounts.Goals as goal

-- the code and then the others
written : {E : Type 0} (r : Result (Unit {0}) E) (old mid new : List ℕ) (a code : ℤ) (given further : List ℤ) → a ≡ code → given ≡ further → mid ≡ old ++ fixed_in 14 a 3 →
    OnOk r (new ≡ mid ++ further_fields given) → OnOk r (new ≡ old ++ fields_text (code ∷ further))
written (Ok u) old mid new a code given further e f m h = rw (← e, ← f) (h ∙ ap (λ (text : List ℕ). text ++ further_fields given) m ∙ append_assoc old (fixed_in 14 a 3) (further_fields given))
written (Err u) old mid new a code given further e f m h = tt

pub returns-in-GpsL1L2 : goal.returns-in-GpsL1L2
returns-in-GpsL1L2 c =
    let signals = c.args.signals.now in
    let code = plain signals.code c.requires.code in
    let first_is = plain signals.l1 c.requires.l1 in
    let second_is = plain signals.l2 c.requires.l2 in
    let same : to_z w64 (of_z w64 signals.l1) ∷ to_z w64 (of_z w64 signals.code) ∷ to_z w64 (of_z w64 signals.l2) ∷ [] ≡ signals.l1 ∷ signals.code ∷ signals.l2 ∷ [] = rw (code, first_is, second_is) refl in
    rw c.in-GpsL1L2.is (written c.write_further.result c.args.out.now.items c.push_fixed.new.out.items c.write_further.new.out.items
    (to_z w64 (of_z w64 signals.code)) signals.code _ _ code same c.in_ok-push_fixed.ensures c.write_further.ensures)

pub returns-in-GpsL1L2L5 : goal.returns-in-GpsL1L2L5
returns-in-GpsL1L2L5 c =
    let signals = c.args.signals.now in
    let code = plain signals.code c.requires.code in
    let first_is = plain signals.l1 c.requires.l1 in
    let second_is = plain signals.l2 c.requires.l2 in
    let third_is = plain signals.l5 c.requires.l5 in
    let same : to_z w64 (of_z w64 signals.l1) ∷ to_z w64 (of_z w64 signals.code) ∷ to_z w64 (of_z w64 signals.l2) ∷ to_z w64 (of_z w64 signals.code) ∷ to_z w64 (of_z w64 signals.l5) ∷ []
    ≡ signals.l1 ∷ signals.code ∷ signals.l2 ∷ signals.code ∷ signals.l5 ∷ [] =
    rw (code, first_is, second_is, third_is) refl in
    let further = c.write_further-in-GpsL1L2L5 in
    rw c.in-GpsL1L2L5.is (written further.result c.args.out.now.items c.push_fixed.new.out.items further.new.out.items (to_z w64 (of_z w64 signals.code))
    signals.code _ _ code same c.in_ok-push_fixed.ensures further.ensures)

pub returns-in-GalileoE1E5a : goal.returns-in-GalileoE1E5a
returns-in-GalileoE1E5a c =
    let signals = c.args.signals.now in
    let code = plain signals.code c.requires.code in
    let first_is = plain signals.l1 c.requires.l1 in
    let third_is = plain signals.l5 c.requires.l5 in
    let same : to_z w64 (of_z w64 signals.l1) ∷ to_z w64 (of_z w64 signals.code) ∷ to_z w64 (of_z w64 signals.l5) ∷ [] ≡ signals.l1 ∷ signals.code ∷ signals.l5 ∷ [] = rw (code, first_is, third_is) refl in
    let further = c.write_further-in-GalileoE1E5a in
    rw c.in-GalileoE1E5a.is (written further.result c.args.out.now.items c.push_fixed.new.out.items further.new.out.items (to_z w64 (of_z w64 signals.code))
    signals.code _ _ code same c.in_ok-push_fixed.ensures further.ensures)
