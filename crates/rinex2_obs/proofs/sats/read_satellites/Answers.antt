use Rattle.std.proofs.Common.{◌≡◌, ◌+◌, ◌∷◌, ℕ, List, Option, None, drop, get_or, refl, ap, ◌∙◌, subst, arith}
use Rattle.std.proofs.lemmas.Result.{err_from_is_err_and}
use Rattle.std.proofs.lemmas.List.{drop_more}
use Rattle.rinex_head.specs.LineRules.{rest_gives}
use Rattle.rinex_head.proofs.LineRuleLaws.{handed_on}
use Rattle.rinex2_obs.specs.SatNumbers.{AreNames, AreNew}
use Rattle.rinex2_obs.specs.Obs2Rules.{more_sats, obs2_rules}
use Rattle.rinex2_obs.proofs.NameLists.{new_at_first, next_new, names_behind}
use Rattle.rinex2_obs.proofs.sats.read_satellites.Goals as goal

pub loop-name-init : goal.loop-name-init
loop-name-init c = record {
  reads = λ epochs tag power. rw c.new-sats.ensures refl;
  named = c.requires.named;
  new = rw c.new-sats.ensures (new_at_first c.args.names.now);
  less = omega arith;
}

pub returns-in_err-read_satellite-clause-reads : goal.returns-in_err-read_satellite-clause-reads
returns-in_err-read_satellite-clause-reads c = λ epochs tag power.
    let header = c.args.header.now in
    let names = c.args.names.now in
    let i = c.loop-name.name-index in
    let later = drop (i + 1) names in
    let split : drop i names ≡ get_or names i None ∷ later = drop_more names i None c.loop-name-test.true in
    let same = ap (λ (l : List (Option ℕ)). rest_gives obs2_rules c.loop-name.lines (more_sats header epochs tag power c.loop-name.sats l)) split in
    let refusal = err_from_is_err_and c.from_residual.result c.from_residual.ensures.1 in
    rw (refusal.1, refusal.2) (handed_on _ _ c.in_err-read_satellite.field-0.0 (c.loop-name.invariant.reads epochs tag power ∙ same) (c.in_err-read_satellite.ensures.reads epochs tag power later))

pub loop-name-preserved : goal.loop-name-preserved
loop-name-preserved c =
    let header = c.args.header.now in
    let names = c.args.names.now in
    let i = c.loop-name.name-index in
    let name = get_or names i None in
    let later = drop (i + 1) names in
    let split : drop i names ≡ name ∷ later = drop_more names i None c.loop-name-test.true in
    let named : AreNames (name ∷ later) = subst (λ (l : List (Option ℕ)). AreNames l) split c.loop-name.invariant.named in
    let new : AreNew c.loop-name.sats (name ∷ later) = subst (λ (l : List (Option ℕ)). AreNew c.loop-name.sats l) split c.loop-name.invariant.new in
    record {
      reads = λ epochs tag power. c.loop-name.invariant.reads epochs tag power
          ∙ ap (λ (l : List (Option ℕ)). rest_gives obs2_rules c.loop-name.lines (more_sats header epochs tag power c.loop-name.sats l)) split
          ∙ c.in_ok-read_satellite.ensures.reads epochs tag power later;
      named = names_behind name later named;
      new = next_new name later c.loop-name.sats c.read_satellite.new.sats named new c.in_ok-read_satellite.ensures.added;
      less = omega (arith, c.in_ok-read_satellite.ensures.less, c.loop-name.invariant.less);
    }
