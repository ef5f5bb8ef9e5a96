use Rattle.std.proofs.Common.{◌≡◌, ◌+◌, ◌++◌, [], ◌∷◌, length, true, false, map, take, drop, sym, ◌∙◌, ap, subst, arith, append-nil}
use Rattle.std.proofs.lemmas.Bool.Decides.{Decides-eqb}
use Rattle.std.proofs.lemmas.Result.{err_from_is_err_and}
use Rattle.tb_tables.specs.Values.{sentence_of, revision_of}
use Rattle.tb_verify.specs.File.{AreReadBack, is_next}
use Rattle.tb_verify.proofs.Filed.{first_of, turn, mapped_drop, map_dropped, map_taken, no_more, read_with, nothing_left, all_read}
use Rattle.tb_verify.proofs.Unreported.{passed_on_as, no_want}
use Rattle.tb_verify.proofs.entries.entries_in.Goals as goal

pub returns-in_err-entry-clause-unfit : goal.returns-in_err-entry-clause-unfit
returns-in_err-entry-clause-unfit c = λ q xs h.
    let p = err_from_is_err_and c.from_residual.result c.from_residual.ensures.1 in
    let i = c.loop-i.i in
    let row = c.index-sentences-i.result in
    let rest = map revision_of c.loop-i.rest.now in
    let led = c.loop-i.invariant.0 xs h in
    let parts = mapped_drop sentence_of c.args.sentences.now i row (omega (arith, c.loop-i-test.true)) c.index-sentences-i.is in
    let first = first_of (i + 1) (sentence_of row) (map sentence_of (drop (i + 1) c.args.sentences.now)) c.loop-i.left.now rest led.0 (subst (λ t. AreReadBack (i + 1) t c.loop-i.left.now rest led.0) parts led.1) in
    let own = ap (map revision_of) c.first_rows-own.ensures ∙ map_taken revision_of row.rev c.loop-i.rest.now in
    c.in_err-entry.ensures.unfit (passed_on_as c.from_residual.result p.0 c.in_err-entry.field-0.0 p.1 p.2 q) first.0
    (read_with (i + 1) (sentence_of row) (is_next (i + 1) c.loop-i.left.now) c.is_pulled_next.result (take row.rev rest) (map revision_of c.first_rows-own.result.now) first.0 (sym c.is_pulled_next.ensures) (sym own) first.2)

pub loop-i-preserved : goal.loop-i-preserved
loop-i-preserved c =
    let i = c.loop-i.i in
    let row = c.index-sentences-i.result in
    let rest = map revision_of c.loop-i.rest.now in
    let parts = mapped_drop sentence_of c.args.sentences.now i row (omega (arith, c.loop-i-test.true)) c.index-sentences-i.is in
    let own = ap (map revision_of) c.first_rows-own.ensures ∙ map_taken revision_of row.rev c.loop-i.rest.now in
    let read = c.in_ok-entry.ensures.fine in
    turn (map sentence_of c.args.sentences.now) c.args.pulled.now (map revision_of c.args.revisions.now) c.loop-i.entries.items c.push.new.list.items (i + 1) (map sentence_of (drop i c.args.sentences.now)) (sentence_of row)
    (map sentence_of (drop (i + 1) c.args.sentences.now)) c.loop-i.left.now c.later_pulled-left.result.now rest (map revision_of c.later_rows-rest.result.now) read.0 parts c.later_pulled-left.ensures
    (ap (map revision_of) c.later_rows-rest.ensures ∙ map_dropped revision_of row.rev c.loop-i.rest.now) (c.in_ok-push.ensures.items ∙ ap (λ z. c.loop-i.entries.items ++ z ∷ []) read.2) c.loop-i.invariant
    (read_with (i + 1) (sentence_of row) c.is_pulled_next.result (is_next (i + 1) c.loop-i.left.now) (map revision_of c.first_rows-own.result.now) (take row.rev rest) read.0 c.is_pulled_next.ensures own read.1)

pub returns-in_err-fit-clause-unfit : goal.returns-in_err-fit-clause-unfit
returns-in_err-fit-clause-unfit c = λ q xs h.
    let led = c.loop-i.invariant.0 xs h in
    let none = nothing_left revision_of (c.loop-i.i + 1) (map sentence_of (drop c.loop-i.i c.args.sentences.now)) c.loop-i.left.now c.loop-i.rest.now led.0 (no_more sentence_of c.args.sentences.now c.loop-i.i (omega (arith, c.loop-i-test.false))) led.1 in
    let t : false ≡ true = sym c.in_err-fit.ensures.wrong.1 ∙ c.is_empty.ensures ∙ (Decides-eqb (length c.loop-i.rest.now) 0).1 none.0 in cc

pub returns-in_err-fit-clause-none : goal.returns-in_err-fit-clause-none
returns-in_err-fit-clause-none c = λ none q.
    let p = err_from_is_err_and c.from_residual-in_err-fit.result c.from_residual-in_err-fit.ensures.1 in
    no_want c.from_residual-in_err-fit.result p.0 c.in_err-fit.field-0.0 p.1 p.2 c.in_err-fit.ensures.wrong.0 q

pub returns-in_err-fit-2-clause-none : goal.returns-in_err-fit-2-clause-none
returns-in_err-fit-2-clause-none c = λ none q.
    let p = err_from_is_err_and c.from_residual-in_err-fit-2.result c.from_residual-in_err-fit-2.ensures.1 in
    no_want c.from_residual-in_err-fit-2.result p.0 c.in_err-fit-2.field-0.0 p.1 p.2 c.in_err-fit-2.ensures.wrong.0 q

pub returns-in_err-fit-2-clause-unfit : goal.returns-in_err-fit-2-clause-unfit
returns-in_err-fit-2-clause-unfit c = λ q xs h.
    let led = c.loop-i.invariant.0 xs h in
    let none = nothing_left revision_of (c.loop-i.i + 1) (map sentence_of (drop c.loop-i.i c.args.sentences.now)) c.loop-i.left.now c.loop-i.rest.now led.0 (no_more sentence_of c.args.sentences.now c.loop-i.i (omega (arith, c.loop-i-test.false))) led.1 in
    let t : false ≡ true = sym c.in_err-fit-2.ensures.wrong.1 ∙ c.is_empty-2.ensures ∙ (Decides-eqb (length c.loop-i.left.now) 0).1 none.1 in cc

pub returns-clause-fine : goal.returns-clause-fine
returns-clause-fine c =
    let no_rows = (Decides-eqb (length c.loop-i.rest.now) 0).0 (sym c.is_empty.ensures ∙ c.in_ok-fit.ensures.right) in
    let no_flags = (Decides-eqb (length c.loop-i.left.now) 0).0 (sym c.is_empty-2.ensures ∙ c.in_ok-fit-2.ensures.right) in
    let none = no_more sentence_of c.args.sentences.now c.loop-i.i (omega (arith, c.loop-i-test.false)) in
    let all = c.loop-i.invariant.1 [] (all_read revision_of (c.loop-i.i + 1) (map sentence_of (drop c.loop-i.i c.args.sentences.now)) c.loop-i.left.now c.loop-i.rest.now none no_rows no_flags) in
    (all.0, all.1, sym (all.2 ∙ append-nil c.loop-i.entries.items))
