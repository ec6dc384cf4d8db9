use Rattle.std.proofs.Common.{◌^◌, ◌≤◌, ℤ, unsigned_abs, refl, sym, subst}
use Rattle.obs_rows.specs.Signals.{fine_signals}
use Rattle.vector_bound.proofs.LeastReach.{short}
use Rattle.vector_bound.proofs.Hundredths.{in_words, short_small, short_from, short_to}
use Rattle.vector_bound.proofs.PairLaws.{rounded_near}
use Rattle.vector_bound.proofs.pairs.pair_vector_bound.Goals as goal

pub in_hundredths-requires-clause-from : goal.in_hundredths-requires-clause-from
in_hundredths-requires-clause-from c =
    let reach = c.in_ok-units.ensures.value.bound.bound.reach in
    short_from c.in_ok-units.units reach.some reach.to

pub in_hundredths-requires-clause-to : goal.in_hundredths-requires-clause-to
in_hundredths-requires-clause-to c =
    let reach = c.in_ok-units.ensures.value.bound.bound.reach in
    short_to c.in_ok-units.units reach.some reach.to

pub returns-clause-value : goal.returns-clause-value
returns-clause-value c =
    let reach = c.in_ok-units.ensures.value.bound.bound.reach in
    record {
      units = c.in_ok-units.units;
      bound = c.in_ok-units.ensures.value;
      rounded = in_words c.in_ok-units.units c.in_hundredths.result reach.some reach.to c.in_hundredths.ensures.size c.in_hundredths.ensures.rounded;
    }

pub returns-clause-near : goal.returns-clause-near
returns-clause-near c =
    rounded_near c.args.arcs.now (fine_signals c.args.signals) c.args.pair.now c.args.z.now c.args.moved.now (short c.in_hundredths.result) c.requires.entries (returns-clause-value c)

pub returns-clause-size : goal.returns-clause-size
returns-clause-size c = subst (λ (y : ℤ). unsigned_abs y ≤ 2 ^ 60) (sym (short_small c.in_hundredths.result c.in_hundredths.ensures.size)) c.in_hundredths.ensures.size

pub returns-in_err-units-clause-none : goal.returns-in_err-units-clause-none
returns-in_err-units-clause-none c = λ none. c.in_err-units.ensures.none refl
