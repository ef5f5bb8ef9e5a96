use Rattle.std.proofs.Common.{◌∷◌, [], ◌++◌, ◌∙◌, ap, take, false}
use Rattle.std.proofs.lemmas.Bool.{false≢true}
use Rattle.tb_conllu.specs.FaultyLines.{line_faults}
use Rattle.tb_conllu.proofs.Held.{line_holds, after_holds}
use Rattle.tb_conllu.proofs.Told.{line_read, faults_next, no_end, no_line}
use Rattle.tb_conllu.proofs.faulty.faulty_lines.Goals as goal

pub code_of-requires : goal.code_of-requires
code_of-requires c = line_holds c.test_all-tested.result c.loop-raw.rest.now c.in-Some.raw.now c.in-Some.after.now c.loop-raw.invariant.3 c.in-Some.ensures.1 c.in-Some.ensures.0

pub loop-raw-preserved : goal.loop-raw-preserved
loop-raw-preserved c =
    let lines = c.loop-raw.invariant.0 in
    let read = c.loop-raw.invariant.1 in
    let raw = c.in-Some.raw.now in
    let next = faults_next c.args.bytes.now c.loop-raw.rest.now raw c.loop-raw.line c.loop-raw.came c.loop-raw.closed lines c.in_ok-code_of.field-0 read c.in_ok-code_of.ensures.code in (
      lines ++ raw ∷ [],
      rw (c.comes_after-came.ensures, c.is_blank-closed.ensures) (line_read c.args.bytes.now c.loop-raw.rest.now raw c.in-Some.after.now c.loop-raw.line c.loop-raw.came c.loop-raw.closed lines read c.in-Some.ensures.0 c.in-Some.ensures.1),
      c.in_ok-push_fault.ensures.added (line_faults 0 false lines) c.loop-raw.invariant.2 ∙ ap (take c.args.most) next,
      after_holds c.test_all-tested.result c.loop-raw.rest.now raw c.in-Some.after.now c.loop-raw.invariant.3 c.in-Some.ensures.1,
    )

pub returns-in_err-code_of-clause-sure : goal.returns-in_err-code_of-clause-sure
returns-in_err-code_of-clause-sure c = λ none. absurd (no_line c.args.bytes.now c.loop-raw.rest.now c.in-Some.raw.now c.in-Some.after.now c.loop-raw.line c.loop-raw.came c.loop-raw.closed c.loop-raw.invariant.0 c.loop-raw.invariant.1 c.in-Some.ensures.1 none)

pub returns-in_err-push_fault-clause-sure : goal.returns-in_err-push_fault-clause-sure
returns-in_err-push_fault-clause-sure c = λ none. absurd (no_line c.args.bytes.now c.loop-raw.rest.now c.in-Some.raw.now c.in-Some.after.now c.loop-raw.line c.loop-raw.came c.loop-raw.closed c.loop-raw.invariant.0 c.loop-raw.invariant.1 c.in-Some.ensures.1 none)

pub returns-in_err-push_fault-2-clause-sure : goal.returns-in_err-push_fault-2-clause-sure
returns-in_err-push_fault-2-clause-sure c = λ none. absurd (false≢true (c.in_err-push_fault-2.ensures.none (c.code_of_end.ensures ∙ no_end c.args.bytes.now c.loop-raw.rest.now c.loop-raw.line c.loop-raw.came c.loop-raw.closed c.loop-raw.invariant.0 c.loop-raw.invariant.1 none)))
