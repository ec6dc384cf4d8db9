use Rattle.std.proofs.Common.{◌≡◌, ◌≤◌, true, false, List, ℕ, [], ◌++◌, IfSome, take, drop, length, length-take, length-append, append-nil, ap, ◌∙◌, subst, arith, rules}
use Rattle.std.proofs.lemmas.List.{take-append-le}
use Rattle.line_source.proofs.Rests.{IsSplit, told_more, told_whole, IsTakenSoFar-more}
use Rattle.line_source.proofs.OpeningLaws.{read_to_end}
use Rattle.line_source.proofs.GivenLaws.{more_bytes, more_none, gives_one, met_end}
use Rattle.line_source.proofs.pieces.load_into.Goals as goal

pub pieces-preserved : goal.pieces-preserved
pieces-preserved g c =
    let count = c.in-Ok-read.count in
    let got = take count c.read.new.into in
    let fits : count ≤ length c.read.new.into = omega (arith, c.in-Ok-read.ensures.bound) in
    let long : length got ≡ count = simp length-take (omega arith) in
    let same : take count (c.read.new.into ++ drop c.min-want.result c.pieces.piece) ≡ got = rw take-append-le in
    record {
      within = omega arith;
      so_far = IsTakenSoFar-more _ _ _ _ _ _ _ _ (g.T.Taker.taken c.pieces.taker) _ c.pieces.done count (g.T.Taker.stands_for c.pieces.taker) _ _ got same long
          c.in-Ok-read.ensures.bytes.0 c.in-Ok-take.ensures.counted c.in-Ok-take.ensures.stands
          (λ text given. more_bytes c.in-Ok.id.0 count c.read.new.into _ _ _ c.args.name.now text given c.in-Ok-read.ensures.gives c.if-count-eq0.false fits) c.pieces.invariant.so_far;
      opened = search rules;
      later = search rules;
      sure = search rules;
      texts = search rules;
      sure_names = search rules;
    }

pub returns-then-count-eq0-clause-whole : goal.returns-then-count-eq0-clause-whole
returns-then-count-eq0-clause-whole g c =
    let count = c.in-Ok-read.count in
    let into = c.read.new.into in
    let told = g.F.Files.text_of c.args.files.now c.args.name.now in
    let left = g.F.Files.unread c.pieces.files c.in-Ok.id.0 in
    let next = g.F.Files.unread c.read.new.self c.in-Ok.id.0 in
    let text = c.pieces.invariant.so_far.text in
    let counted : g.T.Taker.taken c.pieces.taker ≡ c.pieces.done = c.pieces.invariant.so_far.counted in
    let long : length text ≡ c.pieces.done = c.pieces.invariant.so_far.long in
    let nothing : take count into ≡ [] = ap (λ (m : ℕ). take m into) c.if-count-eq0.true in
    let same : text ++ take count into ≡ text = ap (λ (l : List ℕ). text ++ l) nothing ∙ append-nil text in
    let split = subst (λ (l : List ℕ). IfSome told (λ whole. IsSplit whole l next)) same
    (told_more told left next text (take count into) c.in-Ok-read.ensures.bytes.0 c.pieces.invariant.so_far.split) in
    record {
      text = text;
      told_is = told_whole told next text (c.in-Ok-read.ensures.bytes.1 (omega arith) (omega (arith, length-take {A = ℕ}))) split;
      counted = omega arith;
      fits = omega arith;
      stands = c.pieces.invariant.so_far.stands;
      given = record {
        id = c.in-Ok.id.0;
        now_is = more_none c.in-Ok.id.0 count into _ _ _ c.args.name.now text c.pieces.invariant.so_far.given c.in-Ok-read.ensures.gives (omega arith) (omega (arith, length-take {A = ℕ}));
      };
    }

pub returns-then-count-eq0-clause-gives : goal.returns-then-count-eq0-clause-gives
returns-then-count-eq0-clause-gives g c =
    gives_one [] _ _ c.args.name.now c.in-Ok.id.0 c.pieces.invariant.so_far.text true
    (more_none c.in-Ok.id.0 c.in-Ok-read.count c.read.new.into _ _ _ c.args.name.now c.pieces.invariant.so_far.text c.pieces.invariant.so_far.given c.in-Ok-read.ensures.gives (omega arith) (omega (arith, length-take {A = ℕ})))

pub returns-then-count-eq0-clause-ended : goal.returns-then-count-eq0-clause-ended
returns-then-count-eq0-clause-ended g c =
    let count = c.in-Ok-read.count in
    let into = c.read.new.into in
    let told = g.F.Files.text_of c.args.files.now c.args.name.now in
    let left = g.F.Files.unread c.pieces.files c.in-Ok.id.0 in
    let next = g.F.Files.unread c.read.new.self c.in-Ok.id.0 in
    let text = c.pieces.invariant.so_far.text in
    let given = more_none c.in-Ok.id.0 count into _ _ (g.F.Files.given c.read.new.self) c.args.name.now text c.pieces.invariant.so_far.given c.in-Ok-read.ensures.gives (omega arith) (omega (arith, length-take {A = ℕ})) in
    read_to_end _ _ (g.F.Files.openings c.args.files.now) c.args.name.now (text ++ take count into) c.in-Ok.id.0
    (search rules) (c.in-Ok-read.ensures.bytes.1 (omega arith) (omega (arith, length-take {A = ℕ})))
    (told_more told left next text (take count into) c.in-Ok-read.ensures.bytes.0 c.pieces.invariant.so_far.split)
    (met_end _ _ c.args.name.now c.in-Ok.id.0 text given)

pub returns-then-count-done-clause-gives : goal.returns-then-count-done-clause-gives
returns-then-count-done-clause-gives g c =
    let count = c.in-Ok-read.count in
    let fits : count ≤ length c.read.new.into = omega (arith, c.in-Ok-read.ensures.bound) in
    gives_one [] _ _ c.args.name.now c.in-Ok.id.0 _ false
    (more_bytes c.in-Ok.id.0 count c.read.new.into _ _ _ c.args.name.now c.pieces.invariant.so_far.text c.pieces.invariant.so_far.given c.in-Ok-read.ensures.gives c.if-count-eq0.false fits)

pub returns-then-count-done-clause-given_big : goal.returns-then-count-done-clause-given_big
returns-then-count-done-clause-given_big g c =
    let count = c.in-Ok-read.count in
    let into = c.read.new.into in
    let text = c.pieces.invariant.so_far.text in
    let fits : count ≤ length into = omega (arith, c.in-Ok-read.ensures.bound) in
    let long : length text ≡ c.pieces.done = c.pieces.invariant.so_far.long in
    let got : length (take count into) ≡ count = simp length-take (omega arith) in
    λ big. record {
      id = c.in-Ok.id.0;
      bytes = text ++ take count into;
      ended = false;
      now_is = more_bytes c.in-Ok.id.0 count into _ _ _ c.args.name.now text c.pieces.invariant.so_far.given c.in-Ok-read.ensures.gives c.if-count-eq0.false fits;
      many = omega (arith, length-append text (take count into));
    }

pub returns-in-Err-take-clause-gives : goal.returns-in-Err-take-clause-gives
returns-in-Err-take-clause-gives g c =
    let count = c.in-Ok-read.count in
    let fits : count ≤ length c.read.new.into = omega (arith, c.in-Ok-read.ensures.bound) in
    gives_one [] _ _ c.args.name.now c.in-Ok.id.0 _ false
    (more_bytes c.in-Ok.id.0 count c.read.new.into _ _ _ c.args.name.now c.pieces.invariant.so_far.text c.pieces.invariant.so_far.given c.in-Ok-read.ensures.gives c.if-count-eq0.false fits)
