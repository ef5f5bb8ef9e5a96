use Rattle.std.proofs.Common.{rules, sym, subst, ◌≡◌, ◌+◌, ◌++◌, ◌≤◌, ◌<◌, ℕ, List, [], length, take}
use Rattle.std.proofs.lemmas.List.{places}
use Rattle.std.proofs.lemmas.Slice.{overwrites}
use Rattle.tb_check.specs.Input.{CameInPieces}
use Rattle.tb_check.proofs.Asking.{came_all, came_next, came_none}
use Rattle.tb_check.proofs.Inputs.{IsTaking, taking_full, taking_more}
use Rattle.tb_check.proofs.input.read_all.Goals as goal

pub reads-init : goal.reads-init
reads-init g c =
    let none : c.new-all.result.items ≡ [] = search rules in
    let P : List ℕ → Type 0 = CameInPieces c.args.limit (g.R.Source.pieces c.args.source.now) (g.R.Source.pieces c.args.source.now) in
    (search rules, subst P (sym none) (came_none c.args.limit _))

pub reads-preserved : goal.reads-preserved
reads-preserved g c =
    let read = c.in-Ok.ensures in
    let part = take c.in-Ok.count c.pull.new.buf in
    let items : c.extend_from_slice.new.self.items ≡ c.reads.all.items ++ part = search (rules, places, overwrites) in
    let few : length c.reads.all.items + length part ≤ c.args.limit + 1 = search (rules, places) in
    let some : 0 < length part = search (rules, places, c.if-count-eq0.false) in
    let here : length c.reads.all.items ≤ c.args.limit = search rules in
    let P : List ℕ → Type 0 = λ l. IsTaking (g.R.Source.left c.args.source.now) (g.R.Source.left c.pull.new.self) l c.args.limit in
    let Q : List ℕ → Type 0 = CameInPieces c.args.limit (g.R.Source.pieces c.args.source.now) (g.R.Source.pieces c.pull.new.self) in (
      subst P (sym items) (taking_more _ _ _ _ part _ c.reads.invariant.0 few read.bytes.0),
      subst Q (sym items) (came_next c.args.limit _ _ _ _ part c.reads.invariant.1 here some read.piece),
    )

pub returns-then-is_err-clause-came : goal.returns-then-is_err-clause-came
returns-then-is_err-clause-came g c =
    let read = c.in-Ok.ensures in
    let part = take c.in-Ok.count c.pull.new.buf in
    let few : length c.reads.all.items + length part ≤ c.args.limit + 1 = search (rules, places) in
    let some : 0 < length part = search (rules, places, c.if-count-eq0.false) in
    taking_full _ _ _ _ part _ c.reads.invariant.0 few read.bytes.0 some

pub returns-then-count-eq0-clause-asked : goal.returns-then-count-eq0-clause-asked
returns-then-count-eq0-clause-asked g c =
    came_all c.args.limit _ _ _ _ c.pull.new.buf c.in-Ok.count c.reads.invariant.1 c.if-count-eq0.true c.in-Ok.ensures.piece

pub returns-then-is_err-clause-asked : goal.returns-then-is_err-clause-asked
returns-then-is_err-clause-asked g c =
    let part = take c.in-Ok.count c.pull.new.buf in
    let some : 0 < length part = search (rules, places, c.if-count-eq0.false) in
    let here : length c.reads.all.items ≤ c.args.limit = search rules in
    (_, came_next c.args.limit _ _ _ c.reads.all.items part c.reads.invariant.1 here some c.in-Ok.ensures.piece)

pub returns-clause-asked : goal.returns-clause-asked
returns-clause-asked g c = (c.reads.all.items, c.reads.invariant.1)
