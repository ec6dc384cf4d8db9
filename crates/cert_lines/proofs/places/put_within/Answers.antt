use Rattle.std.proofs.Common.{ℕ, ℤ, List, All, take, length, sym, subst}
use Rattle.obs_rows.specs.Unused.{IsZeroOff}
use Rattle.cert_words.specs.Numbers.{IsIn}
use Rattle.cert_lines.proofs.Spreading.{spread_all, spread_off}
use Rattle.cert_lines.proofs.places.put_within.Goals as goal

pub returns-clause-in_range : goal.returns-clause-in_range
returns-clause-in_range g c =
    let inside : All (IsIn c.args.range.now) (take (length c.args.places.now) c.in_ok-values.values) =
    subst (λ (n : ℕ). All (IsIn c.args.range.now) (take n c.in_ok-values.values)) c.requires.count c.in_ok-values.ensures.in_range in
    subst (λ (zs : List ℤ). All (IsIn c.args.range.now) zs) (sym c.spread.ensures)
    (spread_all (IsIn c.args.range.now) _ c.args.places.now (take (length c.args.places.now) c.in_ok-values.values) c.requires.zero inside)

pub returns-clause-zero_off : goal.returns-clause-zero_off
returns-clause-zero_off g c =
    subst (λ (zs : List ℤ). IsZeroOff c.args.places.now zs) (sym c.spread.ensures) (spread_off _ c.args.places.now _)
