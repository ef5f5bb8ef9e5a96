use Rattle.std.proofs.Common.{◌∙◌, ap, codes}
use Rattle.tb_http.specs.declared.routes.Route.TheVariants.{Batch, Step, Correction, Sentence, Revision, Pull, Restore, Released, Totals, Moves, Search, Count}
use Rattle.std.proofs.lemmas.Result.{err_from_is_err_and}
use Rattle.tb_http.specs.Routes.{with_text, route_rows}
use Rattle.tb_http.proofs.Routed.{takes_1, takes_2, takes_3, takes_4, takes_5, takes_6, takes_7, takes_8, takes_9, takes_10, takes_11, takes_12}
use Rattle.tb_http.proofs.routes.router.Goals as goal

pub returns-clause-rows : goal.returns-clause-rows
unfolding route_rows
returns-clause-rows c =
    c.in_ok-router-12.ensures.rows ∙ ap (with_text (codes "/count/{strategy}/{attribute}") Count)
    (c.in_ok-router-11.ensures.rows ∙ ap (with_text (codes "/search/{strategy}/{context}") Search)
    (c.in_ok-router-10.ensures.rows ∙ ap (with_text (codes "/moves") Moves)
    (c.in_ok-router-9.ensures.rows ∙ ap (with_text (codes "/totals") Totals)
    (c.in_ok-router-8.ensures.rows ∙ ap (with_text (codes "/released") Released)
    (c.in_ok-router-7.ensures.rows ∙ ap (with_text (codes "/restore/{no}") Restore)
    (c.in_ok-router-6.ensures.rows ∙ ap (with_text (codes "/pull/{no}") Pull)
    (c.in_ok-router-5.ensures.rows ∙ ap (with_text (codes "/sentences/{no}/{rev}") Revision)
    (c.in_ok-router-4.ensures.rows ∙ ap (with_text (codes "/sentences/{no}") Sentence)
    (c.in_ok-router-3.ensures.rows ∙ ap (with_text (codes "/sentences/{no}/after/{base}") Correction)
    (c.in_ok-router-2.ensures.rows ∙ ap (with_text (codes "/batches/{name}/{event}") Step)
    (c.in_ok-router.ensures.rows ∙ ap (with_text (codes "/batches/{name}") Batch) c.new-router.ensures)))))))))))

pub returns-in_err-router-clause-memory : goal.returns-in_err-router-clause-memory
returns-in_err-router-clause-memory c =
    let p = err_from_is_err_and c.from_residual.result c.from_residual.ensures.1 in
    rw (p.1, p.2) (c.in_err-router.ensures.memory (rw (c.new-router.ensures) takes_1))

pub returns-in_err-router-2-clause-memory : goal.returns-in_err-router-2-clause-memory
returns-in_err-router-2-clause-memory c =
    let p = err_from_is_err_and c.from_residual-in_err-router-2.result c.from_residual-in_err-router-2.ensures.1 in
    rw (p.1, p.2) (c.in_err-router-2.ensures.memory (rw (c.in_ok-router.ensures.rows, c.new-router.ensures) takes_2))

pub returns-in_err-router-3-clause-memory : goal.returns-in_err-router-3-clause-memory
returns-in_err-router-3-clause-memory c =
    let p = err_from_is_err_and c.from_residual-in_err-router-3.result c.from_residual-in_err-router-3.ensures.1 in
    rw (p.1, p.2) (c.in_err-router-3.ensures.memory (rw (c.in_ok-router-2.ensures.rows, c.in_ok-router.ensures.rows, c.new-router.ensures) takes_3))

pub returns-in_err-router-4-clause-memory : goal.returns-in_err-router-4-clause-memory
returns-in_err-router-4-clause-memory c =
    let p = err_from_is_err_and c.from_residual-in_err-router-4.result c.from_residual-in_err-router-4.ensures.1 in
    rw (p.1, p.2) (c.in_err-router-4.ensures.memory (rw (c.in_ok-router-3.ensures.rows, c.in_ok-router-2.ensures.rows, c.in_ok-router.ensures.rows, c.new-router.ensures) takes_4))

pub returns-in_err-router-5-clause-memory : goal.returns-in_err-router-5-clause-memory
returns-in_err-router-5-clause-memory c =
    let p = err_from_is_err_and c.from_residual-in_err-router-5.result c.from_residual-in_err-router-5.ensures.1 in
    rw (p.1, p.2) (c.in_err-router-5.ensures.memory (rw (c.in_ok-router-4.ensures.rows, c.in_ok-router-3.ensures.rows, c.in_ok-router-2.ensures.rows, c.in_ok-router.ensures.rows, c.new-router.ensures) takes_5))

pub returns-in_err-router-6-clause-memory : goal.returns-in_err-router-6-clause-memory
returns-in_err-router-6-clause-memory c =
    let p = err_from_is_err_and c.from_residual-in_err-router-6.result c.from_residual-in_err-router-6.ensures.1 in
    rw (p.1, p.2) (c.in_err-router-6.ensures.memory (rw (c.in_ok-router-5.ensures.rows, c.in_ok-router-4.ensures.rows, c.in_ok-router-3.ensures.rows, c.in_ok-router-2.ensures.rows, c.in_ok-router.ensures.rows, c.new-router.ensures) takes_6))

pub returns-in_err-router-7-clause-memory : goal.returns-in_err-router-7-clause-memory
returns-in_err-router-7-clause-memory c =
    let p = err_from_is_err_and c.from_residual-in_err-router-7.result c.from_residual-in_err-router-7.ensures.1 in
    rw (p.1, p.2) (c.in_err-router-7.ensures.memory (rw (c.in_ok-router-6.ensures.rows, c.in_ok-router-5.ensures.rows, c.in_ok-router-4.ensures.rows, c.in_ok-router-3.ensures.rows, c.in_ok-router-2.ensures.rows, c.in_ok-router.ensures.rows, c.new-router.ensures) takes_7))

pub returns-in_err-router-8-clause-memory : goal.returns-in_err-router-8-clause-memory
returns-in_err-router-8-clause-memory c =
    let p = err_from_is_err_and c.from_residual-in_err-router-8.result c.from_residual-in_err-router-8.ensures.1 in
    rw (p.1, p.2) (c.in_err-router-8.ensures.memory (rw (c.in_ok-router-7.ensures.rows, c.in_ok-router-6.ensures.rows, c.in_ok-router-5.ensures.rows, c.in_ok-router-4.ensures.rows, c.in_ok-router-3.ensures.rows, c.in_ok-router-2.ensures.rows, c.in_ok-router.ensures.rows, c.new-router.ensures) takes_8))

pub returns-in_err-router-9-clause-memory : goal.returns-in_err-router-9-clause-memory
returns-in_err-router-9-clause-memory c =
    let p = err_from_is_err_and c.from_residual-in_err-router-9.result c.from_residual-in_err-router-9.ensures.1 in
    rw (p.1, p.2) (c.in_err-router-9.ensures.memory (rw (c.in_ok-router-8.ensures.rows, c.in_ok-router-7.ensures.rows, c.in_ok-router-6.ensures.rows, c.in_ok-router-5.ensures.rows, c.in_ok-router-4.ensures.rows, c.in_ok-router-3.ensures.rows, c.in_ok-router-2.ensures.rows, c.in_ok-router.ensures.rows, c.new-router.ensures) takes_9))

pub returns-in_err-router-10-clause-memory : goal.returns-in_err-router-10-clause-memory
returns-in_err-router-10-clause-memory c =
    let p = err_from_is_err_and c.from_residual-in_err-router-10.result c.from_residual-in_err-router-10.ensures.1 in
    rw (p.1, p.2) (c.in_err-router-10.ensures.memory (rw (c.in_ok-router-9.ensures.rows, c.in_ok-router-8.ensures.rows, c.in_ok-router-7.ensures.rows, c.in_ok-router-6.ensures.rows, c.in_ok-router-5.ensures.rows, c.in_ok-router-4.ensures.rows, c.in_ok-router-3.ensures.rows, c.in_ok-router-2.ensures.rows, c.in_ok-router.ensures.rows, c.new-router.ensures) takes_10))

pub returns-in_err-router-11-clause-memory : goal.returns-in_err-router-11-clause-memory
returns-in_err-router-11-clause-memory c =
    let p = err_from_is_err_and c.from_residual-in_err-router-11.result c.from_residual-in_err-router-11.ensures.1 in
    rw (p.1, p.2) (c.in_err-router-11.ensures.memory (rw (c.in_ok-router-10.ensures.rows, c.in_ok-router-9.ensures.rows, c.in_ok-router-8.ensures.rows, c.in_ok-router-7.ensures.rows, c.in_ok-router-6.ensures.rows, c.in_ok-router-5.ensures.rows, c.in_ok-router-4.ensures.rows, c.in_ok-router-3.ensures.rows, c.in_ok-router-2.ensures.rows, c.in_ok-router.ensures.rows, c.new-router.ensures) takes_11))

pub returns-in_err-router-12-clause-memory : goal.returns-in_err-router-12-clause-memory
returns-in_err-router-12-clause-memory c =
    let p = err_from_is_err_and c.from_residual-in_err-router-12.result c.from_residual-in_err-router-12.ensures.1 in
    rw (p.1, p.2) (c.in_err-router-12.ensures.memory (rw (c.in_ok-router-11.ensures.rows, c.in_ok-router-10.ensures.rows, c.in_ok-router-9.ensures.rows, c.in_ok-router-8.ensures.rows, c.in_ok-router-7.ensures.rows, c.in_ok-router-6.ensures.rows, c.in_ok-router-5.ensures.rows, c.in_ok-router-4.ensures.rows, c.in_ok-router-3.ensures.rows, c.in_ok-router-2.ensures.rows, c.in_ok-router.ensures.rows, c.new-router.ensures) takes_12))
