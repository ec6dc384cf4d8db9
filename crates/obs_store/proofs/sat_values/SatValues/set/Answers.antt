-- A value that isn't stored is missing as it was.
use Rattle.std.proofs.Common.{◌≡◌, ◌==◌, ◌∙◌, Bool, false, List, ap, sym}
use Rattle.std.specs.List.{list_any}
use Rattle.obs_store.specs.declared.stored.StoredValue.{StoredValue}
use Rattle.obs_store.specs.Kinds.{slot_of}
use Rattle.obs_store.proofs.StoredLaws.{set_none}
use Rattle.obs_store.proofs.sat_values.SatValues.set.Goals as goal

pub returns-then-not-has_kind : goal.returns-then-not-has_kind
returns-then-not-has_kind c =
    let is_there : List StoredValue → Bool = λ stored. list_any (λ v. slot_of v.kind == slot_of c.args.kind) stored in
    let none : is_there c.self.inside.stored.items ≡ false = ap is_there (sym c.as_slice.ensures.value) ∙ sym c.has_kind.ensures ∙ c.if-not-has_kind.true in
    rw (c.in-None.is, ← c.self.view_is) (set_none c.self.inside.stored.items c.args.kind none)
