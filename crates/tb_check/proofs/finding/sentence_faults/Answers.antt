use Rattle.std.proofs.Common.{List, [], ◌∷◌, ◌++◌, ◌+◌, ap, map, sym, take, ◌∙◌}
use Rattle.std.proofs.Math.Seq.{take-nil}
use Rattle.std.proofs.lemmas.Result.{err_from_is_err_and}
use Rattle.tb_conllu.proofs.Shortage.{next_wants, rest_wants}
use Rattle.tb_rules.specs.declared.breaking.BrokenRule.{BrokenRule}
use Rattle.tb_check.specs.Faults.{in_sentence}
use Rattle.tb_check.proofs.Found.{found_some, next_found, next_shorter, none_found}
use Rattle.tb_check.proofs.finding.sentence_faults.Goals as goal

pub loop-found-init : goal.loop-found-init
loop-found-init c = ([], [], none_found c.args.bytes.now c.new-unread.result (c.a_file_is_read_in_order.ensures.begin c.args.bytes.now) c.new-unread.ensures, c.new-examiner.ensures, c.new-found.ensures.items ∙ sym (take-nil c.args.most))

pub loop-found-smaller : goal.loop-found-smaller
loop-found-smaller c = next_shorter c.loop-found.unread c.read_next.new.self c.in-Some.block (rw c.in-Some.is at c.in_ok-block.ensures.next)

pub loop-found-preserved : goal.loop-found-preserved
loop-found-preserved c =
    let bs = c.loop-found.invariant.0 in
    let all = c.loop-found.invariant.1 in
    let found = c.loop-found.invariant.2 in
    let names = c.loop-found.invariant.3 in
    let b = c.in-Some.block in
    let next = rw c.in-Some.is at c.in_ok-block.ensures.next in
    let read = c.a_file_is_read_in_order.ensures.next c.args.bytes.now bs c.loop-found.unread c.read_next.new.self b found.read next in
    let broken = c.in_ok-broken.broken.items in (
      bs ++ b ∷ [],
      all ++ map (in_sentence (c.loop-found.sentence + 1)) broken,
      next_found c.args.bytes.now c.loop-found.unread c.read_next.new.self c.loop-found.sentence bs all b broken found next read (c.in_ok-broken.ensures.broken bs names),
      c.in_ok-broken.ensures.names bs names,
      c.in_ok-push_broken.ensures.pushed all c.loop-found.invariant.4 ∙ ap (λ (l : List BrokenRule). take c.args.most (all ++ map (in_sentence (c.loop-found.sentence + 1)) l)) c.deref.ensures.value,
    )

pub returns-in_err-block-clause-fault : goal.returns-in_err-block-clause-fault
returns-in_err-block-clause-fault c =
    let p = err_from_is_err_and c.from_residual.result c.from_residual.ensures.1 in
    let bs = c.loop-found.invariant.0 in
    let fault = c.a_file_is_read_in_order.ensures.fault c.args.bytes.now bs c.loop-found.unread c.in_err-block.field-0.0 c.loop-found.invariant.2.read c.in_err-block.ensures.fault.0 in
    rw (p.1, p.2) fault

pub returns-clause-found : goal.returns-clause-found
returns-clause-found c =
    let bs = c.loop-found.invariant.0 in
    let found = c.loop-found.invariant.2 in
    let none = rw c.in_default.is at c.in_ok-block.ensures.next in
    (bs, c.loop-found.invariant.1, c.a_file_is_read_in_order.ensures.end c.args.bytes.now bs c.loop-found.unread found.read none.0, found.faults, c.loop-found.invariant.4)

pub returns-in_err-broken-clause-fault : goal.returns-in_err-broken-clause-fault
returns-in_err-broken-clause-fault c =
    let p = err_from_is_err_and c.from_residual-in_err-broken.result c.from_residual-in_err-broken.ensures.1 in
    let bs = c.loop-found.invariant.0 in
    let all = c.loop-found.invariant.1 in
    let next = rw c.in-Some.is at c.in_ok-block.ensures.next in
    rw (p.1, p.2) (found_some c.args.bytes.now c.loop-found.unread c.read_next.new.self c.loop-found.sentence bs c.in-Some.block all c.loop-found.invariant.2 next)

pub returns-in_err-push_broken-clause-fault : goal.returns-in_err-push_broken-clause-fault
returns-in_err-push_broken-clause-fault c =
    let p = err_from_is_err_and c.from_residual-in_err-push_broken.result c.from_residual-in_err-push_broken.ensures.1 in
    let bs = c.loop-found.invariant.0 in
    let all = c.loop-found.invariant.1 in
    let next = rw c.in-Some.is at c.in_ok-block.ensures.next in
    rw (p.1, p.2) (found_some c.args.bytes.now c.loop-found.unread c.read_next.new.self c.loop-found.sentence bs c.in-Some.block all c.loop-found.invariant.2 next)

pub returns-in_err-block-clause-memory : goal.returns-in_err-block-clause-memory
returns-in_err-block-clause-memory c =
    let p = err_from_is_err_and c.from_residual.result c.from_residual.ensures.1 in
    let read = c.loop-found.invariant.2.read in
    rw (p.1, p.2) (λ memory. rest_wants c.args.bytes.now c.loop-found.invariant.0 c.loop-found.unread.rest read.shaped read.whole (c.in_err-block.ensures.memory memory))

pub returns-in_err-broken-clause-memory : goal.returns-in_err-broken-clause-memory
returns-in_err-broken-clause-memory c =
    let p = err_from_is_err_and c.from_residual-in_err-broken.result c.from_residual-in_err-broken.ensures.1 in
    let read = c.loop-found.invariant.2.read in
    let next = next_wants c.loop-found.unread c.read_next.new.self c.in-Some.block (rw c.in-Some.is at c.in_ok-block.ensures.next) in
    rw (p.1, p.2) (λ memory. rest_wants c.args.bytes.now c.loop-found.invariant.0 c.loop-found.unread.rest read.shaped read.whole next)

pub returns-in_err-push_broken-clause-memory : goal.returns-in_err-push_broken-clause-memory
returns-in_err-push_broken-clause-memory c =
    let p = err_from_is_err_and c.from_residual-in_err-push_broken.result c.from_residual-in_err-push_broken.ensures.1 in
    let read = c.loop-found.invariant.2.read in
    let next = next_wants c.loop-found.unread c.read_next.new.self c.in-Some.block (rw c.in-Some.is at c.in_ok-block.ensures.next) in
    rw (p.1, p.2) (λ memory. rest_wants c.args.bytes.now c.loop-found.invariant.0 c.loop-found.unread.rest read.shaped read.whole next)
