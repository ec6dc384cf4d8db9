-- One satellite more, whose values are stored after the others.
use Rattle.std.proofs.Common.{◌≡◌, ◌∙◌, ◌++◌, [], ◌∷◌, false, ap, sym, List}
use Rattle.obs_store.specs.declared.stored.StoredSat.{StoredSat}
use Rattle.obs_store.specs.declared.values.SatObs.{SatObs}
use Rattle.obs_store.specs.Satellites.{has_satellite}
use Rattle.obs_store.specs.Stored.{AreStoredBehind}
use Rattle.obs_store.proofs.StoredLaws.{stored_push, are_stored_push}
use Rattle.obs_store.proofs.sats.Satellites.add.Goals as goal

pub invariant_of-self-2 : goal.invariant_of-self-2
invariant_of-self-2 c =
    let sat : SatObs = record { number = c.args.number; values = c.args.values.now } in
    let sats = c.self.inside.sats.items in
    let values = c.self.inside.values.items in
    let count = c.count_of_values-count.result in
    let one : StoredSat = record { number = sat.number; count = count } in
    let pushed : c.push_reserved.new.self.items ≡ sats ++ one ∷ [] = c.push_reserved.ensures.items ∙ ap (λ (l : List StoredSat). l ++ one ∷ []) c.in_ok-reserve.ensures.items in
    let now = c.extend_from_slice.new.self.items in
    let stored : AreStoredBehind values now count sat.values = record {
      added = c.as_slice-stored.result.now;
      new_are = c.in_ok-extend_from_slice.ensures.items;
      as_many = sym c.count_of_values-count.ensures;
      values_are = c.as_slice-stored.ensures.values;
    } in
    let fresh : has_satellite sat.number c.args.self.now ≡ false = c.requires.once in
    are_stored_push sats c.push_reserved.new.self.items values now sat count c.self.invariant pushed stored
    c.requires.from_first c.requires.to_last (rw (← c.self.view_is) at fresh)

pub returns-clause-added : goal.returns-clause-added
returns-clause-added c =
    let sat : SatObs = record { number = c.args.number; values = c.args.values.now } in
    let sats = c.self.inside.sats.items in
    let values = c.self.inside.values.items in
    let count = c.count_of_values-count.result in
    let one : StoredSat = record { number = sat.number; count = count } in
    let pushed : c.push_reserved.new.self.items ≡ sats ++ one ∷ [] = c.push_reserved.ensures.items ∙ ap (λ (l : List StoredSat). l ++ one ∷ []) c.in_ok-reserve.ensures.items in
    let now = c.extend_from_slice.new.self.items in
    let stored : AreStoredBehind values now count sat.values = record {
      added = c.as_slice-stored.result.now;
      new_are = c.in_ok-extend_from_slice.ensures.items;
      as_many = sym c.count_of_values-count.ensures;
      values_are = c.as_slice-stored.ensures.values;
    } in
    rw (← c.self.view_is) (stored_push sats c.push_reserved.new.self.items values now sat count c.self.invariant.all pushed stored)
