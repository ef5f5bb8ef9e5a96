use Rattle.std.proofs.Common.{map, string_bytes}
use Rattle.std.proofs.lemmas.Result.{err_from_is_err_and}
use Rattle.tb_match.specs.Trees.{tree}
use Rattle.tb_syntax.specs.Exprs.{test}
use Rattle.tb_query.proofs.Queries.{is_query, is_fault, wanting, short, query_text_of}
use Rattle.tb_query.proofs.reading.parse.Goals as goal

pub returns-in_err-read-clause-memory : goal.returns-in_err-read-clause-memory
returns-in_err-read-clause-memory c =
    let p = err_from_is_err_and c.from_residual.result c.from_residual.ensures.1 in
    rw p.1 (λ m. short c.args.text.now (wanting c.args.text.now c.in_err-read.field-0.0 p.0 c.in_err-read.ensures.memory p.2 m))

pub returns-in_err-read-clause-reads : goal.returns-in_err-read-clause-reads
returns-in_err-read-clause-reads c =
    let p = err_from_is_err_and c.from_residual.result c.from_residual.ensures.1 in
    rw p.1 (λ m. wanting c.args.text.now c.in_err-read.field-0.0 p.0 c.in_err-read.ensures.memory p.2 m)

pub returns-in_err-exprs-clause-memory : goal.returns-in_err-exprs-clause-memory
returns-in_err-exprs-clause-memory c =
    let p = err_from_is_err_and c.from_residual-in_err-exprs.result c.from_residual-in_err-exprs.ensures.1 in
    rw p.1 (λ m. short c.args.text.now (query_text_of c.args.text.now (tree c.in_ok-read.read.parsed.pat) (map test c.in_ok-read.read.parsed.exprs.items)
    (map string_bytes c.in_ok-read.read.literals.items) c.in_ok-read.ensures.query))

pub returns-in_err-exprs-clause-reads : goal.returns-in_err-exprs-clause-reads
returns-in_err-exprs-clause-reads c =
    let p = err_from_is_err_and c.from_residual-in_err-exprs.result c.from_residual-in_err-exprs.ensures.1 in
    rw p.1 (λ m. query_text_of c.args.text.now (tree c.in_ok-read.read.parsed.pat) (map test c.in_ok-read.read.parsed.exprs.items)
    (map string_bytes c.in_ok-read.read.literals.items) c.in_ok-read.ensures.query)

pub returns-in_err-exprs-clause-fault : goal.returns-in_err-exprs-clause-fault
returns-in_err-exprs-clause-fault c =
    let p = err_from_is_err_and c.from_residual-in_err-exprs.result c.from_residual-in_err-exprs.ensures.1 in
    rw (p.1, p.2)
    (is_fault c.args.text.now (tree c.in_ok-read.read.parsed.pat) c.as_slice-2.result.now c.in_ok-read.read.parsed.exprs.items c.as_slice.result.now
    c.in_ok-read.read.literals.items c.in_err-exprs.field-0.0 c.as_slice-2.ensures.value c.as_slice.ensures.value c.in_ok-read.ensures.query
    c.in_err-exprs.ensures.refused)

pub returns-clause-query : goal.returns-clause-query
returns-clause-query c =
    is_query c.args.text.now (tree c.in_ok-read.read.parsed.pat) c.as_slice-2.result.now c.in_ok-read.read.parsed.exprs.items c.as_slice.result.now
    c.in_ok-read.read.literals.items (map test c.in_ok-exprs.exprs.items) c.new.result c.as_slice-2.ensures.value c.as_slice.ensures.value
    c.in_ok-read.ensures.query c.in_ok-exprs.ensures.values c.in_ok-exprs.ensures.accepted c.new.ensures
