use Rattle.std.proofs.Common.{◌≡◌, ◌+◌, ◌-◌, ◌++◌, ◌<◌, length, nat_eq, true, false, Some, slice_get, refl, sym, ap, subst, ◌∙◌, arith, append-nil}
use Rattle.std.proofs.lemmas.List.{length-map}
use Rattle.std.proofs.lemmas.Bool.{eq-eqb}
use Rattle.std.proofs.lemmas.Bool.Decides.{nat_tests}
use Rattle.sqlite_trees.specs.Tree.{IsAscending}
use Rattle.tb_core.specs.declared.refusals.Fault.TheVariants.{Memory}
use Rattle.tb_tables.specs.Records.{Sentence}
use Rattle.tb_tables.specs.Values.{sentence_of}
use Rattle.tb_tables.proofs.Causes.{handed_on}
use Rattle.tb_reads.proofs.ReadOnly.{read_then, was_clean}
use Rattle.tb_refine.specs.DeskTables.{sentence_record}
use Rattle.tb_refine.specs.Listed.{is_listed}
use Rattle.tb_refine.proofs.Unchanged.{desk_after}
use Rattle.tb_lists.specs.Sentences.{sentence_line, sentences_from}
use Rattle.tb_lists.proofs.Summed.{drop_end}
use Rattle.tb_lists.proofs.ShownLines.{IsSoFar, row_there, flag_is, with_line, without_line}
use Rattle.tb_refine.proofs.DeskReads.{next_stopped, read_stopped, read_wanting, read_well}
use Rattle.tb_lists.proofs.current.read_lines.Goals as goal
use Rattle.tb_lists.proofs.current.read_lines.Goals.{then-row-batch+in_ok-read_line+in_ok-push, else-row-batch}

pub loop-row-preserved : goal.loop-row-preserved
loop-row-preserved g c =
    let i = c.loop-row.row-index in
    let inv = c.loop-row.invariant in
    let low : i < length c.args.rows.now = omega (arith, c.loop-row-test.true) in
    let at : c.loop-row.no + 1 ≡ i + 1 = ap (λ n. n + 1) inv.0 in (
      at,
      elim c.if-row-batch.branch [
        | then-row-batch+in_ok-read_line+in_ok-push w ↦
            let read = w.in_ok-read_line.ensures.read.read_only in
            subst (λ conn. IsSoFar g.S.Store c.args.conn.now conn c.in_ok-pulled.pulled.items c.args.rows.now c.args.batch (i + 1) c.if-row-batch.lines.items) (sym w.conn-is)
            (subst (λ ls. IsSoFar g.S.Store c.args.conn.now w.read_line.new.conn c.in_ok-pulled.pulled.items c.args.rows.now c.args.batch (i + 1) ls) (ap (λ v. v.items) (sym w.lines-is)) (
              read_then inv.1.0 read,
              λ clean s desk.
                  let mid = was_clean read clean in
                  let was = inv.1.1 mid s desk in
                  let still = desk_after inv.1.0 mid desk in (
                    was.0,
                    λ same.
                        let it = row_there c.args.rows.now s.sentences i c.row-item.result low c.row-item.is same in
                        let place : c.loop-row.no + 1 - 1 ≡ i = omega (arith, at) in
                        let there : slice_get s.sentences (c.loop-row.no + 1 - 1) ≡ Some it.0 = ap (slice_get s.sentences) place ∙ it.1 in
                        let list : w.as_slice.result.now ≡ c.in_ok-pulled.pulled.items = w.as_slice.ensures.value in
                        let flag = flag_is c.in_ok-pulled.pulled.items (c.loop-row.no + 1) i s.sentences it.0 w.is_among-is_pulled.result was.0 it.1 at
                        (subst (λ l. IsAscending (λ a b. a < b) l → w.is_among-is_pulled.result ≡ is_listed (c.loop-row.no + 1) l) list w.is_among-is_pulled.ensures) in
                        let line = w.in_ok-read_line.ensures.answered clean s still it.0 there it.3 flag in
                        let batch : c.row-item.result.batch ≡ it.0.batch = ap (λ (r : Sentence). r.batch) it.3 in
                        let its : nat_eq it.0.batch c.args.batch ≡ true = eq-eqb it.0.batch c.args.batch (sym batch ∙ w.if-row-batch.true) in
                        with_line c.args.batch i s.sentences it.0 _ c.loop-row.lines.items _ it.2 its (line ∙ ap (λ n. sentence_line n it.0) at) w.in_ok-push.ensures.items (was.1 same),
                  ),
            ))
        | else-row-batch w ↦
            subst (λ conn. IsSoFar g.S.Store c.args.conn.now conn c.in_ok-pulled.pulled.items c.args.rows.now c.args.batch (i + 1) c.if-row-batch.lines.items) (sym w.conn-is)
            (subst (λ ls. IsSoFar g.S.Store c.args.conn.now c.loop-row.conn c.in_ok-pulled.pulled.items c.args.rows.now c.args.batch (i + 1) ls) (ap (λ v. v.items) (sym w.lines-is)) (
              inv.1.0,
              λ clean s desk.
                  let was = inv.1.1 clean s desk in (
                    was.0,
                    λ same.
                        let it = row_there c.args.rows.now s.sentences i c.row-item.result low c.row-item.is same in
                        let batch : c.row-item.result.batch ≡ it.0.batch = ap (λ (r : Sentence). r.batch) it.3 in
                        let others : nat_eq it.0.batch c.args.batch ≡ false = grind (arith, nat_tests, batch, w.if-row-batch.false) in
                        without_line c.args.batch i s.sentences it.0 c.loop-row.lines.items it.2 others (was.1 same),
                  ),
            ))
      ],
    )

pub returns-clause-answered : goal.returns-clause-answered
returns-clause-answered g c clean s desk same =
    let i = c.loop-row.row-index in
    let lines = c.loop-row.lines.items in
    let was = c.loop-row.invariant.1.1 clean s desk in
    let size : length c.args.rows.now ≡ length s.sentences = sym (length-map c.args.rows.now sentence_of) ∙ ap length same ∙ length-map s.sentences sentence_record in
    let past = drop_end s.sentences i (omega (arith, c.loop-row-test.false, size)) in
    sym (append-nil lines) ∙ ap (λ l. lines ++ sentences_from c.args.batch (i + 1) l) (sym past) ∙ was.1 same

pub returns-in_err-pulled-clause-read : goal.returns-in_err-pulled-clause-read
returns-in_err-pulled-clause-read g c =
    read_stopped c.from_residual.result c.in_err-pulled.field-0.0 c.from_residual.ensures.1 c.in_err-pulled.ensures.read (λ clean s desk fails on same. on fails)

pub returns-in_err-read_line-clause-read : goal.returns-in_err-read_line-clause-read
returns-in_err-read_line-clause-read g c =
    next_stopped c.from_residual-in_err-read_line.result c.in_err-read_line.field-0.0 c.from_residual-in_err-read_line.ensures.1 c.loop-row.invariant.1.0 c.in_err-read_line.ensures.read (λ mid s desk fails on same.
    let it = row_there c.args.rows.now s.sentences c.loop-row.row-index c.row-item.result (omega (arith, c.loop-row-test.true)) c.row-item.is same in
    let number = c.loop-row.invariant.0 in
    let place : c.loop-row.no + 1 - 1 ≡ c.loop-row.row-index = omega (arith, number) in
    let there : slice_get s.sentences (c.loop-row.no + 1 - 1) ≡ Some it.0 = ap (slice_get s.sentences) place ∙ it.1 in
    on (fails it.0 there it.3))

pub returns-in_err-push-clause-read : goal.returns-in_err-push-clause-read
returns-in_err-push-clause-read g c =
    read_wanting c.from_residual-in_err-push.result (read_then c.loop-row.invariant.1.0 c.in_ok-read_line.ensures.read.read_only)
    (handed_on (λ e. e ≡ Memory) c.from_residual-in_err-push.result Memory c.from_residual-in_err-push.ensures.1 refl) (λ s fine same. fine)

pub returns-clause-read : goal.returns-clause-read
returns-clause-read g c = read_well c.loop-row.invariant.1.0 (λ s fine same. fine)
