use Rattle.std.proofs.Common.{◌≡◌, ◌*◌, ◌^◌, ◌≤◌, ℕ, ℤ, pos, ◌*ℤ◌, true, unsigned_abs, arith, to_z, of_z, sym, ap, ◌∙◌, subst}
use Rattle.std.proofs.lemmas.Int.{to_z-of_z}
use Rattle.std.specs.Int.{w64, w128}
use Rattle.whole_math.specs.Rounding.{nearest_div}
use Rattle.whole_math.proofs.Words.{as_w64, as_w128}
use Rattle.elimination.specs.StepEntries.{is_small}
use Rattle.elimination.proofs.SmallEntries.{small_size}
use Rattle.lower_form.proofs.repeats.rounded_small.Goals as goal

in_word : (a b c : ℕ) → a ≤ b → b ≤ 63 * 2 ^ 120 → a ≤ 2 ^ 126
in_word a b c h g = omega (arith, h, g)

pub returns-then-is_small : goal.returns-then-is_small
returns-then-is_small c =
    let f : ℤ = c.nearest_shift-rounded.result in
    let entry_kept : to_z w128 (of_z w128 c.args.entry) ≡ c.args.entry = to_z-of_z w128 c.args.entry c.ranges.entry in
    let times : c.times_63.result ≡ pos 63 *ℤ c.args.entry = rw entry_kept at c.times_63.ensures.value in
    let times_kept : to_z w128 (of_z w128 c.times_63.result) ≡ c.times_63.result = as_w128 c.times_63.result (omega (arith, c.times_63.ensures.most)) in
    let size : unsigned_abs f ≤ unsigned_abs c.times_63.result = rw times_kept at c.nearest_shift-rounded.ensures.size in
    let wf : to_z w128 (of_z w128 f) ≡ f = as_w128 f (in_word (unsigned_abs f) (unsigned_abs c.times_63.result) 0 size c.times_63.ensures.most) in
    let s : is_small f ≡ true = ap (λ z. is_small z) (sym wf) ∙ sym c.is_small.ensures ∙ c.if-is_small.true in
    let v : ℤ = to_z w64 (of_z w64 (to_z w128 (of_z w128 f))) in
    let wv : v ≡ f = ap (λ z. to_z w64 (of_z w64 z)) wf ∙ as_w64 f (small_size f s) in
    let value : f ≡ nearest_div c.times_63.result (2 ^ c.args.h) = rw times_kept at c.nearest_shift-rounded.ensures.value in
    record {
      value = wv ∙ value ∙ ap (λ z. nearest_div z (2 ^ c.args.h)) times;
      small = subst (λ (z : ℤ). is_small z ≡ true) (sym wv) s;
    }
