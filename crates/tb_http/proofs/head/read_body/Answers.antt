use Rattle.std.proofs.Common.{rules, arith, sym, subst, ap, ◌∙◌, append_assoc, append-nil, ◌≡◌, ◌+◌, ◌++◌, ◌<◌, ◌≤◌, ℕ, List, [], length, take}
use Rattle.std.proofs.lemmas.List.{places}
use Rattle.std.proofs.lemmas.Slice.{overwrites}
use Rattle.tb_http.proofs.Asking.{asked_none, asked_one, asked_more}
use Rattle.tb_http.proofs.Bodies.{IsTaking, taking_broken, taking_first, taking_full, taking_kept, taking_more, taking_none, taking_short, taking_whole, taking_within}
use Rattle.tb_http.proofs.Handed.{IsFilling, filling_next, filling_none, is_handed}
use Rattle.tb_http.specs.Rooms.{body_room}
use Rattle.tb_http.proofs.head.read_body.Goals as goal

pub returns-in_default-clause-fault : goal.returns-in_default-clause-fault
returns-in_default-clause-fault g c =
    taking_broken _ _ (g.R.Source.left c.fill.new.self) _ _ _ c.reads.invariant.0 c.in_default.ensures.bytes (search rules)

pub returns-then-is_err-2-clause-fault : goal.returns-then-is_err-2-clause-fault
returns-then-is_err-2-clause-fault g c =
    let read = c.in-Ok.ensures in
    let part = take c.in-Ok.count c.fill.new.buf in
    let few : length c.reads.body.items + length part ≤ c.args.n = search (rules, places) in
    let some : 0 < length part = search (rules, places, c.if-count-eq0.false) in
    taking_full _ _ (g.R.Source.left c.fill.new.self) _ _ part _ c.reads.invariant.0 few read.bytes.0 some

pub returns-then-count-eq0-clause-short : goal.returns-then-count-eq0-clause-short
returns-then-count-eq0-clause-short g c =
    let read = c.in-Ok.ensures in
    let part = take c.in-Ok.count c.fill.new.buf in
    let none : length part ≡ 0 = search (rules, places, c.if-count-eq0.true) in
    let more = taking_more _ _ (g.R.Source.left c.fill.new.self) _ c.reads.body.items part _ c.reads.invariant.0 (omega (arith, none, c.reads.invariant.0.within)) read.bytes.0 in
    let short : length (c.reads.body.items ++ part) < c.args.n = search (rules, places, none) in
    taking_short _ (g.R.Source.left c.fill.new.self) _ _ _ more (read.bytes.1 c.if-count-eq0.true (search rules)) short

pub reads-preserved : goal.reads-preserved
reads-preserved g c =
    let read = c.in-Ok.ensures in
    let part = take c.in-Ok.count c.fill.new.buf in
    let items : c.extend_from_slice-in-reads.new.self.items ≡ c.reads.body.items ++ part = search (rules, places, overwrites) in
    let few : length c.reads.body.items + length part ≤ c.args.n = search (rules, places) in
    let P : List ℕ → Type 0 = λ l. IsTaking (g.R.Source.left c.args.reader.now) (g.R.Source.left c.fill.new.self) c.args.start.now l c.args.n in
    let asked = c.reads.invariant.1 in
    let here : length c.reads.body.items < c.args.n = search rules in
    let owed : length (c.args.start.now ++ asked.0) < c.args.n = subst (λ l. length l < c.args.n) asked.1 here in (
      subst P (sym items) (taking_more _ _ _ _ _ part _ c.reads.invariant.0 few read.bytes.0),
      (
        asked.0 ++ part,
        items ∙ ap (λ l. l ++ part) asked.1 ∙ append_assoc c.args.start.now asked.0 part,
        asked_more (λ came. length came < c.args.n) c.args.start.now _ _ _ asked.0 part asked.2 (asked_one (λ came. length came < c.args.n) (c.args.start.now ++ asked.0) _ _ part owed read.piece),
      ),
      subst (λ l. IsFilling (body_room c.args.n) c.args.start.now (g.R.Filler.fills c.args.reader.now) (g.R.Filler.fills c.fill.new.self) l) (sym items)
          (filling_next (body_room c.args.n) c.args.start.now _ _ _ c.reads.body.items part (length c.fill.new.buf) c.reads.invariant.2 (search (rules, places)) read.noted),
    )

pub returns-clause-whole : goal.returns-clause-whole
returns-clause-whole g c =
    taking_whole _ (g.R.Source.left c.reads.reader) _ _ _ c.reads.invariant.0 (search rules)

pub returns-then-is_err-clause-taken : goal.returns-then-is_err-clause-taken
returns-then-is_err-clause-taken g c = taking_none _ c.args.start.now c.args.n c.requires.few

pub returns-in_default-clause-taken : goal.returns-in_default-clause-taken
returns-in_default-clause-taken g c =
    taking_within _ _ _ _ _ (taking_kept _ _ (g.R.Source.left c.fill.new.self) _ _ _ c.reads.invariant.0 c.in_default.ensures.bytes)

pub returns-then-count-eq0-clause-taken : goal.returns-then-count-eq0-clause-taken
returns-then-count-eq0-clause-taken g c =
    let read = c.in-Ok.ensures in
    let part = take c.in-Ok.count c.fill.new.buf in
    let few : length c.reads.body.items + length part ≤ c.args.n = search (rules, places) in
    taking_within _ _ _ _ _ (taking_more _ _ (g.R.Source.left c.fill.new.self) _ c.reads.body.items part _ c.reads.invariant.0 few read.bytes.0)

pub returns-then-is_err-2-clause-taken : goal.returns-then-is_err-2-clause-taken
returns-then-is_err-2-clause-taken g c =
    let read = c.in-Ok.ensures in
    let part = take c.in-Ok.count c.fill.new.buf in
    let few : length c.reads.body.items + length part ≤ c.args.n = search (rules, places) in
    taking_within _ _ _ _ _ (taking_more _ _ (g.R.Source.left c.fill.new.self) _ c.reads.body.items part _ c.reads.invariant.0 few read.bytes.0)

pub returns-clause-taken : goal.returns-clause-taken
returns-clause-taken g c = taking_within _ _ _ _ _ c.reads.invariant.0

pub returns-then-is_err-clause-asked : goal.returns-then-is_err-clause-asked
returns-then-is_err-clause-asked g c other = ([], asked_none (λ came. length came < c.args.n) c.args.start.now _)

pub returns-then-count-eq0-clause-asked : goal.returns-then-count-eq0-clause-asked
returns-then-count-eq0-clause-asked g c other =
    let read = c.in-Ok.ensures in
    let part = take c.in-Ok.count c.fill.new.buf in
    let asked = c.reads.invariant.1 in
    let here : length c.reads.body.items < c.args.n = search rules in
    let owed : length (c.args.start.now ++ asked.0) < c.args.n = subst (λ l. length l < c.args.n) asked.1 here in
    (asked.0 ++ part, asked_more (λ came. length came < c.args.n) c.args.start.now _ _ _ asked.0 part asked.2 (asked_one (λ came. length came < c.args.n) (c.args.start.now ++ asked.0) _ _ part owed read.piece))

pub returns-then-is_err-2-clause-asked : goal.returns-then-is_err-2-clause-asked
returns-then-is_err-2-clause-asked g c other =
    let read = c.in-Ok.ensures in
    let part = take c.in-Ok.count c.fill.new.buf in
    let asked = c.reads.invariant.1 in
    let here : length c.reads.body.items < c.args.n = search rules in
    let owed : length (c.args.start.now ++ asked.0) < c.args.n = subst (λ l. length l < c.args.n) asked.1 here in
    (asked.0 ++ part, asked_more (λ came. length came < c.args.n) c.args.start.now _ _ _ asked.0 part asked.2 (asked_one (λ came. length came < c.args.n) (c.args.start.now ++ asked.0) _ _ part owed read.piece))

pub returns-clause-asked : goal.returns-clause-asked
returns-clause-asked g c other = (c.reads.invariant.1.0, c.reads.invariant.1.2)

pub reads-init : goal.reads-init
reads-init g c =
    let items : c.extend_from_slice.new.self.items ≡ c.args.start.now = search rules in (
      subst (λ l. IsTaking (g.R.Source.left c.args.reader.now) (g.R.Source.left c.args.reader.now) c.args.start.now l c.args.n) (sym items)
          (taking_first (g.R.Source.left c.args.reader.now) c.args.start.now c.args.n c.requires.few),
      ([], items ∙ sym (append-nil c.args.start.now), asked_none (λ came. length came < c.args.n) c.args.start.now _),
      subst (λ l. IsFilling (body_room c.args.n) c.args.start.now (g.R.Filler.fills c.args.reader.now) (g.R.Filler.fills c.args.reader.now) l) (sym items)
          (filling_none (body_room c.args.n) c.args.start.now (g.R.Filler.fills c.args.reader.now)),
    )

pub returns-then-is_err-clause-handed : goal.returns-then-is_err-clause-handed
returns-then-is_err-clause-handed g c = is_handed _ _ _ _ c.args.start.now (filling_none (body_room c.args.n) c.args.start.now (g.R.Filler.fills c.args.reader.now))

pub returns-in_default-clause-handed : goal.returns-in_default-clause-handed
returns-in_default-clause-handed g c =
    is_handed _ _ _ _ _ (filling_next (body_room c.args.n) c.args.start.now _ _ (g.R.Filler.fills c.fill.new.self) c.reads.body.items [] (length c.fill.new.buf) c.reads.invariant.2 (search (rules, places)) c.in_default.ensures.noted)

pub returns-then-count-eq0-clause-handed : goal.returns-then-count-eq0-clause-handed
returns-then-count-eq0-clause-handed g c =
    is_handed _ _ _ _ _ (filling_next (body_room c.args.n) c.args.start.now _ _ (g.R.Filler.fills c.fill.new.self) c.reads.body.items (take c.in-Ok.count c.fill.new.buf) (length c.fill.new.buf) c.reads.invariant.2 (search (rules, places)) c.in-Ok.ensures.noted)

pub returns-then-is_err-2-clause-handed : goal.returns-then-is_err-2-clause-handed
returns-then-is_err-2-clause-handed g c =
    is_handed _ _ _ _ _ (filling_next (body_room c.args.n) c.args.start.now _ _ (g.R.Filler.fills c.fill.new.self) c.reads.body.items (take c.in-Ok.count c.fill.new.buf) (length c.fill.new.buf) c.reads.invariant.2 (search (rules, places)) c.in-Ok.ensures.noted)

pub returns-clause-handed : goal.returns-clause-handed
returns-clause-handed g c = is_handed _ _ _ _ _ c.reads.invariant.2
