use Rattle.std.proofs.Common.{subst, arith}
use Rattle.std.proofs.lemmas.Result.{err_from_is_err_and}
use Rattle.tb_syntax.specs.Reading.{IsPastLimit}
use Rattle.tb_syntax.proofs.Readings.{accepted, past, short, wrong}
use Rattle.tb_syntax.proofs.reading.read.Goals as goal

pub scan-requires : goal.scan-requires
scan-requires c =
    let n = short c.as_bytes-bytes.result.now c.lex-lexed.result.lexemes.items c.as_slice-lexemes.result.now c.lex-lexed.result.spans.items
    (omega (arith, c.if-bytes-gt-LONGEST.false)) c.lex-lexed.ensures c.as_slice-lexemes.ensures.value in
    omega arith

pub returns-in-Err-clause-fault : goal.returns-in-Err-clause-fault
returns-in-Err-clause-fault c =
    wrong c.args.text.now c.as_bytes-bytes.result.now c.lex-lexed.result.lexemes.items c.as_slice-lexemes.result.now c.lex-lexed.result.spans.items c.as_slice.result.now
    c.in-Err.place c.byte_of.result c.as_bytes-bytes.ensures.value c.if-bytes-gt-LONGEST.false c.lex-lexed.ensures c.as_slice-lexemes.ensures.value c.as_slice.ensures.value
    (c.in-Err.ensures.outside, c.in-Err.ensures.within, c.in-Err.ensures.begins, c.in-Err.ensures.stray) c.byte_of.ensures

pub test_limits-requires : goal.test_limits-requires
test_limits-requires c =
    let n = short c.as_bytes-bytes.result.now c.lex-lexed.result.lexemes.items c.as_slice-lexemes.result.now c.lex-lexed.result.spans.items
    (omega (arith, c.if-bytes-gt-LONGEST.false)) c.lex-lexed.ensures c.as_slice-lexemes.ensures.value in
    omega arith

pub returns-in_err-test_limits-clause-fault : goal.returns-in_err-test_limits-clause-fault
returns-in_err-test_limits-clause-fault c =
    let q = c.in_default.ensures.query in
    let p = err_from_is_err_and c.from_residual.result c.from_residual.ensures.1 in
    rw (p.1, p.2) (past c.args.text.now c.as_bytes-bytes.result.now c.lex-lexed.result.lexemes.items c.as_slice-lexemes.result.now c.lex-lexed.result.spans.items q.0
    c.in_err-test_limits.field-0.0 c.as_bytes-bytes.ensures.value c.if-bytes-gt-LONGEST.false c.lex-lexed.ensures c.as_slice-lexemes.ensures.value q.1
    (c.in_err-test_limits.ensures.passed q.0 q.1))

pub returns-in_err-test_limits-clause-memory : goal.returns-in_err-test_limits-clause-memory
returns-in_err-test_limits-clause-memory c =
    let q = c.in_default.ensures.query in
    let p = err_from_is_err_and c.from_residual.result c.from_residual.ensures.1 in
    rw (p.1, p.2) (λ memory. absurd (subst (IsPastLimit q.0) memory (c.in_err-test_limits.ensures.passed q.0 q.1)))

pub returns-clause-query : goal.returns-clause-query
returns-clause-query c =
    let q = c.in_default.ensures.query in
    accepted c.args.text.now c.as_bytes-bytes.result.now c.lex-lexed.result.lexemes.items c.as_slice-lexemes.result.now c.lex-lexed.result.spans.items q.0
    c.as_bytes-bytes.ensures.value c.if-bytes-gt-LONGEST.false c.lex-lexed.ensures c.as_slice-lexemes.ensures.value q.1 (c.in_ok-test_limits.ensures.within q.0 q.1)
