use Rattle.std.proofs.Common.{◌≡◌, ℕ, ◌+◌, ◌-◌, ◌<◌, ◌≤◌, Some, false, List, All, length, sym, ◌∙◌, subst, arith}
use Rattle.std.specs.Prelude.{slice_get}
use Rattle.obs_rows.specs.declared.arcs.Arc.{Arc}
use Rattle.obs_rows.specs.BandSets.{bands_of}
use Rattle.obs_rows.specs.declared.limits.TheConstants.{MOST_SATELLITES}
use Rattle.slip_arcs.specs.Used.{sats_at, goes_on}
use Rattle.slip_arcs.specs.Runs.{AreKept, no_shift}
use Rattle.slip_arcs.specs.Linked.{HaveDatums}
use Rattle.slip_arcs.proofs.Starts.{done_skip, done_add, done_next, done_all, length_at, sat_at, rising_at, few_at}
use Rattle.slip_arcs.proofs.Datums.{marked_add, marked_next, have_datums}
use Rattle.slip_arcs.proofs.arcs.cut.Goals as goal
use Rattle.slip_arcs.proofs.arcs.cut.Goals.{else-at-gt0-via-then-at-gt0+else-does_go_on, else-at-gt0-via-else-at-gt0}

pub sats-preserved-then-does_go_on : goal.sats-preserved-then-does_go_on
sats-preserved-then-does_go_on c =
    let below : c.sats.k < length (sats_at c.args.used.now c.pairs.at) = omega (arith, length_at c.args.used.now c.pairs.at c.index-used-at.result c.pairs-test.true, c.len-k-end.ensures) in
    let sat_found : slice_get (sats_at c.args.used.now c.pairs.at) c.sats.k ≡ Some c.index.result.now = sat_at _ _ _ _ _ c.pairs-test.true below c.index.ensures in
    record {
      done = done_skip (bands_of c.args.bands) c.args.jump c.args.least c.args.used.now c.pairs.at c.sats.k _ _ c.index.result.now (c.pairs.at - 1) sat_found
          (omega arith) (sym c.if-does_go_on.ensures) c.sats.invariant.done;
      marked = c.sats.invariant.marked;
    }

pub sats-preserved : goal.sats-preserved
sats-preserved c =
    let below : c.sats.k < length (sats_at c.args.used.now c.pairs.at) = omega (arith, length_at c.args.used.now c.pairs.at c.index-used-at.result c.pairs-test.true, c.len-k-end.ensures) in
    let sat_found : slice_get (sats_at c.args.used.now c.pairs.at) c.sats.k ≡ Some c.index.result.now = sat_at _ _ _ _ _ c.pairs-test.true below c.index.ensures in
    let begins : (h : ℕ) → h + 1 ≡ c.pairs.at → goes_on (bands_of c.args.bands) c.args.jump c.args.used.now c.index.result.now.sat h ≡ false =
    elim c.else-at-gt0.branch [
      | else-at-gt0-via-then-at-gt0+else-does_go_on w ↦
          λ h next.
          let same : c.pairs.at - 1 ≡ h = omega arith in
          subst (λ (n : ℕ). goes_on (bands_of c.args.bands) c.args.jump c.args.used.now c.index.result.now.sat n ≡ false) same (sym w.does_go_on.ensures ∙ w.if-does_go_on.false)
      | else-at-gt0-via-else-at-gt0 w ↦ λ h next. absurd (omega arith)
    ] in
    record {
      done = done_add (bands_of c.args.bands) c.args.jump c.args.least c.args.used.now c.pairs.at c.sats.k _ _ _ _ _ _ c.index.result.now c.last_of-last.result sat_found
          (rising_at _ _ c.requires.ranges c.pairs-test.true) begins c.last_of-last.ensures.order c.last_of-last.ensures.held c.last_of-last.ensures.ends c.in_ok-add.ensures c.sats.invariant.done;
      marked = marked_add c.args.least c.pairs.at _ _ _ _ _ _ _ _ c.last_of-last.ensures.order c.in_ok-add.ensures c.sats.invariant.marked;
    }

pub pairs-preserved : goal.pairs-preserved
pairs-preserved c =
    let whole : length (sats_at c.args.used.now c.pairs.at) ≡ c.sats.k = omega (arith, length_at c.args.used.now c.pairs.at c.index-used-at.result c.pairs-test.true, c.len-k-end.ensures) in
    let few : length (sats_at c.args.used.now c.pairs.at) ≤ MOST_SATELLITES = few_at _ _ c.requires.ranges c.pairs-test.true in
    record {
      done = done_next (bands_of c.args.bands) c.args.jump c.args.least c.args.used.now c.pairs.at c.sats.k _ _ whole (omega arith) c.sats.invariant.done;
      marked = marked_next _ _ _ c.sats.invariant.marked;
    }

pub returns-clause-kept : goal.returns-clause-kept
returns-clause-kept c =
    subst (λ (kept : List Arc). AreKept (bands_of c.args.bands) c.args.jump c.args.least c.args.used.now kept c.pairs.found.short)
    (sym c.new-2.ensures) (done_all _ _ _ _ _ _ _ (omega arith) c.pairs.invariant.done)

pub returns-clause-datums : goal.returns-clause-datums
returns-clause-datums c = subst (λ (kept : List Arc). HaveDatums kept) (sym c.new-2.ensures) (have_datums _ _ _ c.pairs.invariant.marked)

pub returns-clause-shifts : goal.returns-clause-shifts
returns-clause-shifts c = subst (λ (kept : List Arc). All (λ a. a.shift ≡ no_shift) kept) (sym c.new-2.ensures) c.pairs.invariant.marked.shifts
