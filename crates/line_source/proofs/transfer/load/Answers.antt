use Rattle.std.proofs.Common.{◌≡◌, ◌≤◌, false, true, [], ◌∷◌, ◌++◌, List, ℕ, IfSome, length, length-take, take, drop, ap, sym, subst, ◌∙◌, arith, rules}
use Rattle.std.proofs.lemmas.List.{take-append-le}
use Rattle.line_source.specs.Givens.{given_of}
use Rattle.line_source.proofs.Rests.{IsSplit, told_more}
use Rattle.line_source.proofs.OpeningLaws.{read_to_end}
use Rattle.line_source.proofs.GivenLaws.{more_bytes, more_none, gives_one, met_end}
use Rattle.line_source.proofs.transfer.load.Goals as goal

pub returns-then-count-eq0-clause-gives : goal.returns-then-count-eq0-clause-gives
returns-then-count-eq0-clause-gives g c =
    gives_one [] _ _ c.args.name.now c.in-Ok.id.0 c.pieces.bytes.items true
    (more_none c.in-Ok.id.0 c.in-Ok-read.count c.read.new.into _ _ _ c.args.name.now c.pieces.bytes.items c.pieces.invariant.given c.in-Ok-read.ensures.gives (omega arith) (omega (arith, length-take {A = ℕ})))

pub returns-then-count-eq0-clause-given : goal.returns-then-count-eq0-clause-given
returns-then-count-eq0-clause-given g c = record {
  id = c.in-Ok.id.0;
  now_is = more_none c.in-Ok.id.0 c.in-Ok-read.count c.read.new.into _ _ _ c.args.name.now c.pieces.bytes.items c.pieces.invariant.given c.in-Ok-read.ensures.gives (omega arith) (omega (arith, length-take {A = ℕ}));
}

pub returns-then-count-eq0-clause-ended : goal.returns-then-count-eq0-clause-ended
returns-then-count-eq0-clause-ended g c =
    let count = c.in-Ok-read.count in
    let given = more_none c.in-Ok.id.0 count c.read.new.into _ _ (g.F.Files.given c.read.new.self) c.args.name.now c.pieces.bytes.items c.pieces.invariant.given c.in-Ok-read.ensures.gives (omega arith) (omega (arith, length-take {A = ℕ})) in
    read_to_end _ _ (g.F.Files.openings c.args.files.now) c.args.name.now (c.pieces.bytes.items ++ take count c.read.new.into) c.in-Ok.id.0
    (search rules) (c.in-Ok-read.ensures.bytes.1 (omega arith) (omega (arith, length-take {A = ℕ})))
    (told_more _ _ _ c.pieces.bytes.items (take count c.read.new.into) c.in-Ok-read.ensures.bytes.0 c.pieces.invariant.split)
    (met_end _ _ c.args.name.now c.in-Ok.id.0 c.pieces.bytes.items given)

pub returns-then-is_err-clause-gives : goal.returns-then-is_err-clause-gives
returns-then-is_err-clause-gives g c =
    let count = c.in-Ok-read.count in
    let fits : count ≤ length c.read.new.into = omega (arith, c.in-Ok-read.ensures.bound) in
    gives_one [] _ _ c.args.name.now c.in-Ok.id.0 _ false
    (more_bytes c.in-Ok.id.0 count c.read.new.into _ _ _ c.args.name.now c.pieces.bytes.items c.pieces.invariant.given c.in-Ok-read.ensures.gives c.if-count-eq0.false fits)

pub pieces-preserved : goal.pieces-preserved
pieces-preserved g c =
    let count = c.in-Ok-read.count in
    let fits : count ≤ length c.read.new.into = omega (arith, c.in-Ok-read.ensures.bound) in
    let same : take count (c.read.new.into ++ drop c.min-want.result c.pieces.piece) ≡ take count c.read.new.into = rw take-append-le in
    let items : c.extend_from_slice.new.self.items ≡ c.pieces.bytes.items ++ take count c.read.new.into = search rules in
    record {
      within = search rules;
      split = subst (λ (l : List ℕ). IfSome (g.F.Files.text_of c.args.files.now c.args.name.now) (λ text. IsSplit text l (g.F.Files.unread c.read.new.self c.in-Ok.id.0))) (sym items)
          (told_more _ _ _ c.pieces.bytes.items (take count c.read.new.into) c.in-Ok-read.ensures.bytes.0 c.pieces.invariant.split);
      opened = search rules;
      given = more_bytes c.in-Ok.id.0 count c.read.new.into _ _ _ c.args.name.now c.pieces.bytes.items c.pieces.invariant.given c.in-Ok-read.ensures.gives c.if-count-eq0.false fits
          ∙ ap (λ (l : List ℕ). g.F.Files.given c.args.files.now ++ given_of c.args.name.now c.in-Ok.id.0 l false ∷ []) (sym items);
      later = search rules;
      sure = search rules;
      texts = search rules;
      sure_names = search rules;
    }
