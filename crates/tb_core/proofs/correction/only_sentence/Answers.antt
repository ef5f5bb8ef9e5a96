use Rattle.std.proofs.Common.{◌≡◌, rules, [], sym, ◌∙◌, subst}
use Rattle.std.proofs.lemmas.Result.{err_from_is_err_and}
use Rattle.tb_conllu.specs.Fault.{IsFaultAfter, MayWantMemory}
use Rattle.tb_conllu.specs.declared.fault.ReadFault.TheVariants.{Memory}
use Rattle.tb_conllu.specs.Left.{Left}
use Rattle.tb_core.proofs.Bodies.{correction_read_refused, reading_wants, many_refused, one_is}
use Rattle.tb_core.proofs.correction.only_sentence.Goals as goal

pub returns-then-len-gt1-clause-refused : goal.returns-then-len-gt1-clause-refused
returns-then-len-gt1-clause-refused c = λ current.
    many_refused c.args.body.now current c.in_ok-checked.ensures.taken.0 c.in_ok-checked.checked.items c.from.result c.in_ok-checked.ensures.taken.1 c.in_ok-checked.ensures.taken.2 (search rules) c.from.ensures

pub returns-in_err-passage-clause-refused : goal.returns-in_err-passage-clause-refused
returns-in_err-passage-clause-refused c = λ current.
    let p = err_from_is_err_and c.from_residual-in_err-passage.result c.from_residual-in_err-passage.ensures.1 in
    let begun = subst (λ (l : Left). IsFaultAfter l.line l.rest c.in_err-passage.field-0.0) c.new-unread.ensures c.in_err-passage.ensures.fault.0 in
    rw (p.1, p.2) (correction_read_refused c.args.body.now current c.in_err-passage.field-0.0 (c.a_file_is_read_in_order.ensures.fault c.args.body.now [] (record { rest = c.args.body.now; line = 0 }) c.in_err-passage.field-0.0 (c.a_file_is_read_in_order.ensures.begin c.args.body.now) begun))

pub returns-in_err-passage-clause-memory : goal.returns-in_err-passage-clause-memory
returns-in_err-passage-clause-memory c =
    let p = err_from_is_err_and c.from_residual-in_err-passage.result c.from_residual-in_err-passage.ensures.1 in
    let begun = subst (λ (l : Left). c.in_err-passage.field-0.0 ≡ Memory → MayWantMemory l.rest) c.new-unread.ensures c.in_err-passage.ensures.memory in
    rw p.1 (reading_wants c.args.body.now [] (record { rest = c.args.body.now; line = 0 }) c.in_err-passage.field-0.0 p.0 (c.a_file_is_read_in_order.ensures.begin c.args.body.now) begun p.2)

pub returns-in-Some-clause-taken : goal.returns-in-Some-clause-taken
returns-in-Some-clause-taken c =
    let read = rw c.in-Some.is at c.in_ok-passage.ensures.next in
    one_is c.a_file_begins_one_way.ensures c.args.body.now c.in_ok-checked.ensures.taken.0 c.in_ok-checked.checked.items c.new-unread.result c.read_passage.new.self c.in-Some.passage.block c.in_ok-checked.ensures.taken.1 c.in_ok-checked.ensures.taken.2 c.new-unread.ensures read (search rules)

pub returns-in-Some-clause-text : goal.returns-in-Some-clause-text
returns-in-Some-clause-text c =
    let text = rw c.in-Some.is at c.in_ok-passage.ensures.text in
    let taken = returns-in-Some-clause-taken c in
    text ∙ sym taken.file.text
