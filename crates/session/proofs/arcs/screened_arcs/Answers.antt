use Rattle.std.proofs.Common.{List, All, subst}
use Rattle.epoch_pair.specs.declared.pairs.PairOf.{PairOf}
use Rattle.obs_rows.specs.declared.used.UsedPair.{UsedPair}
use Rattle.obs_rows.specs.BandSets.{bands_of}
use Rattle.slip_arcs.specs.Runs.{AreKept}
use Rattle.slip_arcs.specs.Linked.{IsCutOf}
use Rattle.orbit_model.specs.Elements.{Constants}
use Rattle.sv_orbit.specs.Records.{constants_of}
use Rattle.screening.specs.Sightings.{Setting}
use Rattle.screening.specs.Screening.{setting_of, AreUsedPairs, IsSvPair}
use Rattle.session.proofs.arcs.screened_arcs.Goals as goal

pub returns-clause-screened : goal.returns-clause-screened
returns-clause-screened c =
    let options = c.args.options.now in
    let base = c.args.base.now in
    let rover = c.args.rover.now in
    let world : Constants = constants_of c.world_of-world.result in
    let rules : Constants → Setting = λ w. setting_of base c.args.nav.now c.args.begun.now.signals options.mask w in
    let of_system = c.world_of-world.ensures in
    record {
      used_are = subst (λ (w : Constants). AreUsedPairs (rules w) base.epochs rover.epochs c.args.begun.now.taken.items c.in_ok-screened.screened.used) of_system
          (subst (λ (t : List PairOf). AreUsedPairs (rules world) base.epochs rover.epochs t c.in_ok-screened.screened.used) c.as_slice-taken.ensures.value c.in_ok-screened.ensures.used);
      boxes_are = subst (λ (w : Constants). All (IsSvPair (rules w) base.epochs rover.epochs c.args.begun.now.taken.items) c.in_ok-screened.screened.boxes) of_system
          (subst (λ (t : List PairOf). All (IsSvPair (rules world) base.epochs rover.epochs t) c.in_ok-screened.screened.boxes) c.as_slice-taken.ensures.value c.in_ok-screened.ensures.boxes);
      kept_are = subst (λ (u : List UsedPair). AreKept (bands_of options.bands) options.jump options.arc u c.in_ok-arcs.arcs.kept c.in_ok-arcs.arcs.short) c.as_slice-used.ensures c.in_ok-arcs.ensures.kept;
      datums = c.in_ok-arcs.ensures.datums;
      shifts = c.in_ok-arcs.ensures.shifts;
    }

pub returns-clause-cut : goal.returns-clause-cut
returns-clause-cut c =
    let options = c.args.options.now in
    subst (λ (u : List UsedPair). IsCutOf u c.in_ok-arcs.arcs.kept) c.as_slice-used.ensures
    (record { bands = bands_of options.bands; jump = options.jump; least = options.arc; short = c.in_ok-arcs.arcs.short; kept = c.in_ok-arcs.ensures.kept; datums = c.in_ok-arcs.ensures.datums })
