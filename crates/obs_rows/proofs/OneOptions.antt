-- Options with the same numbers are the same.
use Rattle.std.proofs.Common.{◌≡◌, ◌≤◌, ap, ap₂, subst}
use Rattle.std.proofs.Math.Bridge.{le_prop}
use Rattle.std.proofs.Math.Bool.{Bool-set}
use Rattle.obs_rows.specs.BandSets.{IsBandsNumber}
use Rattle.obs_rows.specs.Ranges.{IsSystem}
use Rattle.obs_rows.specs.declared.limits.TheConstants.{MOST_PAIRS, MOST_RATIO, MOST_BUDGET}
use Rattle.obs_rows.specs.declared.options.Options.{Options}
use Rattle.obs_rows.specs.Defaults.{Numbers, numbers_of}

abbrev AreInRange : Numbers → Type 0
AreInRange n = (IsBandsNumber n.bands) × ((IsSystem n.system) × ((1000 ≤ n.ratio)
    × ((n.ratio ≤ MOST_RATIO) × ((1 ≤ n.budget) × ((n.budget ≤ MOST_BUDGET) × ((n.mask ≤ 900) × ((n.gap ≤ 5_000_000) × ((1 ≤ n.jump) × ((n.jump ≤ 1000)
    × ((2 ≤ n.arc) × ((n.arc ≤ MOST_PAIRS) × ((1 ≤ n.step) × ((n.step ≤ 1000) × ((n.first ≤ 19_999) × ((1 ≤ n.count) × (n.count ≤ MOST_PAIRS))))))))))))))))

abbrev made : (n : Numbers) → AreInRange n → Options
made n r =
    let bounds = r.1.1 in
    record {
      bands = n.bands;
      system = n.system;
      on_bands = r.0;
      of_system = r.1.0;
      ratio = n.ratio;
      budget = n.budget;
      mask = n.mask;
      gap = n.gap;
      jump = n.jump;
      arc = n.arc;
      step = n.step;
      first = n.first;
      count = n.count;
      ratio_from = bounds.0;
      ratio_to = bounds.1.0;
      budget_from = bounds.1.1.0;
      budget_to = bounds.1.1.1.0;
      mask_to = bounds.1.1.1.1.0;
      gap_to = bounds.1.1.1.1.1.0;
      jump_from = bounds.1.1.1.1.1.1.0;
      jump_to = bounds.1.1.1.1.1.1.1.0;
      arc_from = bounds.1.1.1.1.1.1.1.1.0;
      arc_to = bounds.1.1.1.1.1.1.1.1.1.0;
      step_from = bounds.1.1.1.1.1.1.1.1.1.1.0;
      step_to = bounds.1.1.1.1.1.1.1.1.1.1.1.0;
      first_to = bounds.1.1.1.1.1.1.1.1.1.1.1.1.0;
      count_from = bounds.1.1.1.1.1.1.1.1.1.1.1.1.1.0;
      count_to = bounds.1.1.1.1.1.1.1.1.1.1.1.1.1.1;
    }

abbrev ranges_of : (o : Options) → AreInRange (numbers_of o)
ranges_of o = (
  o.on_bands,
  (
    o.of_system,
    (
      o.ratio_from,
      (
        o.ratio_to,
        (
          o.budget_from,
          (
            o.budget_to,
            (
              o.mask_to,
              (
                o.gap_to,
                (
                  o.jump_from,
                  (
                    o.jump_to,
                    (o.arc_from, (o.arc_to, (o.step_from, (o.step_to, (o.first_to, (o.count_from, o.count_to)))))),
                  ),
                ),
              ),
            ),
          ),
        ),
      ),
    ),
  ),
)

-- two proofs of a pair of facts are one where those of each are
pairs : {A B : Type 0} → ((x y : A) → x ≡ y) → ((x y : B) → x ≡ y) → (p q : A × B) → p ≡ q
pairs first second p q = ap₂ (λ a b. (a, b)) (first p.0 q.0) (second p.1 q.1)

one_range : (n : Numbers) (r s : AreInRange n) → r ≡ s
one_range n = pairs (Bool-set _ _) (pairs (Bool-set _ _) (pairs le_prop (pairs le_prop (pairs le_prop (pairs le_prop (pairs le_prop (pairs le_prop
    (pairs le_prop (pairs le_prop (pairs le_prop (pairs le_prop (pairs le_prop (pairs le_prop (pairs le_prop (pairs le_prop le_prop)))))))))))))))

pub one_options : (a b : Options) → numbers_of a ≡ numbers_of b → a ≡ b
one_options a b same = subst (λ (n : Numbers). (r : AreInRange n) → a ≡ made n r) same (λ r. ap (made (numbers_of a)) (one_range (numbers_of a) (ranges_of a) r)) (ranges_of b)
