use Rattle.std.proofs.Common.{◌≡◌, ◌≢◌, inr, ℕ, ◌+◌, ◌^◌, ◌<◌, ℤ, unsigned_abs, arith, to_z, of_z, w64, Option, ap, ◌∙◌, refl}
use Rattle.std.specs.Prelude.{None, Some, IsSome, MatchOption}
use Rattle.std.proofs.lemmas.Int.{to_z-of_z}
use Rattle.std.proofs.lemmas.Option.{MatchOption-at_some}
use Rattle.quadratic_form.specs.Tables.{entry}
use Rattle.decorrelate.specs.Turning.{AreColumnsSmall, AreNewFactors}
use Rattle.decorrelate.proofs.Words.{narrow_w64}
use Rattle.decorrelate.proofs.permutation.turn_row.Goals as goal

apart : (j : ℕ) → j ≢ j + 1
apart j = omega arith

written : (x y : ℤ) → x ≡ y → unsigned_abs y < 2 ^ 52 → to_z w64 (of_z w64 x) ≡ y
written x y is small = ap (λ z. to_z w64 (of_z w64 z)) is ∙ narrow_w64 y small

some_factors : (o : Option (ℤ × ℤ)) (P : Type 0) (Q : (ℤ × ℤ) → Type 0) → MatchOption o (P → ⊥) Q → P → IsSome o
some_factors None P Q m small = absurd (m small)
some_factors (Some f) P Q m small = refl

pub unwrap-first-requires : goal.unwrap-first-requires
unwrap-first-requires c =
    let r_word : to_z w64 (of_z w64 c.args.r) ≡ c.args.r = to_z-of_z w64 c.args.r c.ranges.r in
    let q_word : to_z w64 (of_z w64 c.args.q) ≡ c.args.q = to_z-of_z w64 c.args.q c.ranges.q in
    some_factors c.turned_factors.result (AreColumnsSmall c.args.r c.args.q c.args.j (entry c.args.l.now c.args.i))
    (λ (f : ℤ × ℤ). AreNewFactors c.args.r c.args.q c.args.j (entry c.args.l.now c.args.i) f.0 f.1) (rw (r_word, q_word) at c.turned_factors.ensures) c.requires.narrow

pub returns-clause-turned : goal.returns-clause-turned
returns-clause-turned c =
    let r_word : to_z w64 (of_z w64 c.args.r) ≡ c.args.r = to_z-of_z w64 c.args.r c.ranges.r in
    let q_word : to_z w64 (of_z w64 c.args.q) ≡ c.args.q = to_z-of_z w64 c.args.q c.ranges.q in
    let new : AreNewFactors c.args.r c.args.q c.args.j (entry c.args.l.now c.args.i) c.unwrap-first.result.0 c.unwrap-first.result.1 =
    MatchOption-at_some (AreColumnsSmall c.args.r c.args.q c.args.j (entry c.args.l.now c.args.i) → ⊥)
    (λ (f : ℤ × ℤ). AreNewFactors c.args.r c.args.q c.args.j (entry c.args.l.now c.args.i) f.0 f.1) c.unwrap-first.result c.unwrap-first.ensures (rw (r_word, q_word) at c.turned_factors.ensures) in
    record {
      first = c.set-2.ensures.others c.args.i c.args.j (inr (apart c.args.j)) ∙ c.set.ensures.there ∙ written c.unwrap-first.result.0 _ new.first_is new.small.first;
      second = c.set-2.ensures.there ∙ written c.unwrap-first.result.1 _ new.second_is new.small.second;
      others = λ m a b. c.set-2.ensures.others c.args.i m (inr b) ∙ c.set.ensures.others c.args.i m (inr a);
    }
