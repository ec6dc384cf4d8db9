use Rattle.std.proofs.Common.{inl, refl, arith, ℕ, ◌-◌, ◌*◌, ◌^◌, ◌≤◌, ℤ, pos, ◌*ℤ◌, ap, sym, subst, ◌∙◌, unsigned_abs, le_refl}
use Rattle.trig_box.specs.Chain.{Point, chain, code_base, IsSized}
use Rattle.trig_box.proofs.Boxes.{code_is, size_cos, size_sin}
use Rattle.trig_box.proofs.Start.{start_is}
use Rattle.trig_box.proofs.small_point_pair.Goals as goal

five : (m : ℤ) → unsigned_abs m ≤ 2 ^ 40 → unsigned_abs m ≤ 2 ^ 60
five m h = omega arith

most : (m : ℤ) → unsigned_abs m ≤ 2 ^ 40 → unsigned_abs m ≤ 2 ^ 62
most m h = omega arith

pub turned-requires : goal.turned-requires
turned-requires c =
    let middle : ℤ = c.args.middle in
    let halvings : ℕ = 5 in
    let same_start_base = start_is middle c.argument_of-v.result c.base_sine-s.result halvings c.square_of-z.result c.small_cosine_sum-c.result c.small_sine_sum.result c.ranges.middle
    (record { sfits = c.argument_of-v.type_inv }) (record { sfits = c.base_sine-s.type_inv })
    c.small_cosine_sum-c.ensures.size c.argument_of-v.ensures.value c.square_of-z.ensures.value c.small_cosine_sum-c.ensures.value c.small_sine_sum.ensures.value c.base_sine-s.ensures in
    let is_code = code_is halvings middle (inl refl) (λ same_start_base. five c.args.middle c.requires) (most c.args.middle c.requires) in
    record { sized = λ i h. subst (λ (p : Point). IsSized (chain i p)) (sym same_start_base) (is_code.sized i h) }

pub returns-clause-cos : goal.returns-clause-cos
returns-clause-cos c =
    let middle : ℤ = c.args.middle in
    let halvings : ℕ = 5 in
    let same_start_base = start_is middle c.argument_of-v.result c.base_sine-s.result halvings c.square_of-z.result c.small_cosine_sum-c.result c.small_sine_sum.result c.ranges.middle
    (record { sfits = c.argument_of-v.type_inv }) (record { sfits = c.base_sine-s.type_inv })
    c.small_cosine_sum-c.ensures.size c.argument_of-v.ensures.value c.square_of-z.ensures.value c.small_cosine_sum-c.ensures.value c.small_sine_sum.ensures.value c.base_sine-s.ensures in
    c.turned.ensures.cos ∙ ap (λ (p : Point). (chain halvings p).cos) same_start_base

pub returns-clause-sin : goal.returns-clause-sin
returns-clause-sin c =
    let middle : ℤ = c.args.middle in
    let halvings : ℕ = 5 in
    let same_start_base = start_is middle c.argument_of-v.result c.base_sine-s.result halvings c.square_of-z.result c.small_cosine_sum-c.result c.small_sine_sum.result c.ranges.middle
    (record { sfits = c.argument_of-v.type_inv }) (record { sfits = c.base_sine-s.type_inv })
    c.small_cosine_sum-c.ensures.size c.argument_of-v.ensures.value c.square_of-z.ensures.value c.small_cosine_sum-c.ensures.value c.small_sine_sum.ensures.value c.base_sine-s.ensures in
    c.turned.ensures.sin ∙ ap (λ (p : Point). (chain halvings p).sin) same_start_base

pub returns-clause-cos_size : goal.returns-clause-cos_size
returns-clause-cos_size c =
    let is_code = code_is 5 c.args.middle (inl refl) (λ e. five c.args.middle c.requires) (most c.args.middle c.requires) in
    subst (λ (z : ℤ). unsigned_abs z ≤ 3 * 2 ^ 61) (sym (returns-clause-cos c))
    (size_cos (chain 5 (code_base (c.args.middle *ℤ pos (2 ^ (7 - 5))))) (is_code.sized 5 (le_refl 5)))

pub returns-clause-sin_size : goal.returns-clause-sin_size
returns-clause-sin_size c =
    let is_code = code_is 5 c.args.middle (inl refl) (λ e. five c.args.middle c.requires) (most c.args.middle c.requires) in
    subst (λ (z : ℤ). unsigned_abs z ≤ 3 * 2 ^ 61) (sym (returns-clause-sin c))
    (size_sin (chain 5 (code_base (c.args.middle *ℤ pos (2 ^ (7 - 5))))) (is_code.sized 5 (le_refl 5)))
