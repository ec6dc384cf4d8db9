use Rattle.std.proofs.Common.{◌≡◌, ℕ, ◌+◌, List, length, sym, subst, ◌∙◌, ap, arith}
use Rattle.std.proofs.lemmas.List.{length_push}
use Rattle.eph_store.specs.declared.ephemeris.Eph.{Eph}
use Rattle.sim_session.specs.Satellites.{IsSatellite, AreSatellites}
use Rattle.sim_session.proofs.RecordLaws.{one_more}
use Rattle.sim_session.proofs.records.satellites.Goals as goal

counted : (k n : ℕ) → n ≡ k → k ≡ 0 + n
counted k n e = omega (arith, e)

pub loop-k-preserved : goal.loop-k-preserved
loop-k-preserved c =
    let all = c.loop-k.all.items in
    let element = c.satellite.result in
    record {
      records = subst (λ (es : List Eph). AreSatellites c.args.letter 0 es) (sym c.in_ok-push.ensures.items)
          (one_more c.args.letter 0 all element c.loop-k.invariant.records (subst (λ (i : ℕ). IsSatellite c.args.letter i element)
          (counted c.loop-k.k (length all) c.loop-k.invariant.count) c.satellite.ensures.values) c.satellite.ensures.normal);
      count = ap (λ (es : List Eph). length es) c.in_ok-push.ensures.items ∙ length_push all element ∙ ap (λ (n : ℕ). n + 1) c.loop-k.invariant.count;
    }
