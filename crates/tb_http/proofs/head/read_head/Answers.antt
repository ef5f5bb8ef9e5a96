use Rattle.std.proofs.Common.{rules, sym, subst, ℕ, List, [], length, take, ◌≤◌, ◌-◌}
use Rattle.std.proofs.lemmas.List.{places}
use Rattle.tb_http.proofs.Reading.{full, reading_broken, reading_more, awaits_head, take_more}
use Rattle.tb_http.specs.Faults.{AwaitsHead}
use Rattle.tb_conllu.specs.Pieces.{AskedFor}
use Rattle.tb_http.proofs.Asking.{asked_none, asked_one, asked_more}
use Rattle.tb_http.proofs.Handed.{IsFilling, filling_next, filling_none, is_handed}
use Rattle.tb_http.specs.Rooms.{head_room}
use Rattle.tb_http.proofs.head.read_head.Goals as goal

pub returns-then-filled-buf-clause-none : goal.returns-then-filled-buf-clause-none
returns-then-filled-buf-clause-none g c =
    let long : 8192 ≤ length (take c.reads.filled c.reads.buf) = search (rules, places) in
    let found = rw c.in-Ok-Partial.field-0-is at c.in-Ok-Partial.ensures in
    full _ (g.R.Source.left c.reads.reader) _ long found.partial c.reads.invariant.0.taken

pub returns-in_default-clause-broken : goal.returns-in_default-clause-broken
returns-in_default-clause-broken g c =
    let found = rw c.in-Ok-Partial.field-0-is at c.in-Ok-Partial.ensures in
    let within = c.reads.invariant.0.within in
    let length_is = c.reads.invariant.0.room in
    reading_broken _ _ (g.R.Source.left c.fill.new.self) c.reads.buf c.reads.filled c.reads.invariant.0 c.in_default.ensures.bytes (search rules) found.partial found.unfinished

pub returns-then-n-eq0-clause-asked_none : goal.returns-then-n-eq0-clause-asked_none
returns-then-n-eq0-clause-asked_none g c =
    let found = rw c.in-Ok-Partial.field-0-is at c.in-Ok-Partial.ensures in
    let within = c.reads.invariant.0.within in
    let length_is = c.reads.invariant.0.room in
    let awaits = awaits_head _ _ c.reads.buf c.reads.filled c.reads.invariant.0 (search rules) found.partial found.unfinished in
    (_, asked_more AwaitsHead [] _ _ _ (take c.reads.filled c.reads.buf) (take c.in-Ok.n c.fill.new.buf) c.reads.invariant.1 (asked_one AwaitsHead (take c.reads.filled c.reads.buf) _ _ _ awaits c.in-Ok.ensures.piece))

pub reads-init : goal.reads-init
reads-init g c = (search rules, asked_none AwaitsHead [] _, search rules, filling_none head_room [] _)

pub reads-preserved : goal.reads-preserved
reads-preserved g c =
    let found = rw c.in-Ok-Partial.field-0-is at c.in-Ok-Partial.ensures in
    let within = c.reads.invariant.0.within in
    let length_is = c.reads.invariant.0.room in
    let awaits = awaits_head _ _ c.reads.buf c.reads.filled c.reads.invariant.0 (search rules) found.partial found.unfinished in
    let asked = asked_more AwaitsHead [] _ _ _ (take c.reads.filled c.reads.buf) (take c.in-Ok.n c.fill.new.buf) c.reads.invariant.1 (asked_one AwaitsHead (take c.reads.filled c.reads.buf) _ _ _ awaits c.in-Ok.ensures.piece) in
    let P : List ℕ → Type 0 = λ l. AskedFor AwaitsHead [] (g.R.Source.pieces c.args.reader.now) (g.R.Source.pieces c.fill.new.self) l in (
      reading_more _ _ _ c.reads.buf c.fill.new.buf c.reads.filled c.in-Ok.n c.reads.invariant.0 (search rules) (search rules) c.in-Ok.ensures.bytes.0,
      subst P (sym (take_more c.reads.buf c.fill.new.buf c.reads.filled (length c.reads.buf - c.reads.filled) c.in-Ok.n (search rules) (search rules))) asked,
      search rules,
      subst (λ l. IsFilling head_room [] (g.R.Filler.fills c.args.reader.now) (g.R.Filler.fills c.fill.new.self) l) (sym (take_more c.reads.buf c.fill.new.buf c.reads.filled (length c.reads.buf - c.reads.filled) c.in-Ok.n (search rules) (search rules)))
          (filling_next head_room [] _ _ _ (take c.reads.filled c.reads.buf) (take c.in-Ok.n c.fill.new.buf) (length c.fill.new.buf) c.reads.invariant.3 (search (rules, places)) c.in-Ok.ensures.noted),
    )

pub returns-in_default-clause-handed : goal.returns-in_default-clause-handed
returns-in_default-clause-handed g c =
    let within = c.reads.invariant.0.within in
    let length_is = c.reads.invariant.0.room in
    is_handed _ _ _ _ _ (filling_next head_room [] _ _ (g.R.Filler.fills c.fill.new.self) (take c.reads.filled c.reads.buf) [] (length c.fill.new.buf) c.reads.invariant.3 (search (rules, places)) c.in_default.ensures.noted)

pub returns-then-n-eq0-clause-handed : goal.returns-then-n-eq0-clause-handed
returns-then-n-eq0-clause-handed g c =
    let within = c.reads.invariant.0.within in
    let length_is = c.reads.invariant.0.room in
    is_handed _ _ _ _ _ (filling_next head_room [] _ _ (g.R.Filler.fills c.fill.new.self) (take c.reads.filled c.reads.buf) (take c.in-Ok.n c.fill.new.buf) (length c.fill.new.buf) c.reads.invariant.3 (search (rules, places)) c.in-Ok.ensures.noted)

pub returns-then-filled-buf-clause-handed : goal.returns-then-filled-buf-clause-handed
returns-then-filled-buf-clause-handed g c = is_handed _ _ _ _ _ c.reads.invariant.3

pub returns-in-Ok-Complete-clause-handed : goal.returns-in-Ok-Complete-clause-handed
returns-in-Ok-Complete-clause-handed g c = is_handed _ _ _ _ _ c.reads.invariant.3

pub returns-in-Err-clause-handed : goal.returns-in-Err-clause-handed
returns-in-Err-clause-handed g c = is_handed _ _ _ _ _ c.reads.invariant.3
