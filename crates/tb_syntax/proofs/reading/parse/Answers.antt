use Rattle.std.proofs.lemmas.Result.{err_from_is_err_and}
use Rattle.tb_syntax.proofs.Readings.{says, fits, few_tests}
use Rattle.tb_syntax.proofs.reading.parse.Goals as goal

-- the lexemes and their places are those that were read
pub unquote_all-requires : goal.unquote_all-requires
unquote_all-requires c = rw (c.as_slice-lexemes.ensures.value, c.as_slice.ensures.value) (c.in_ok-lexed.ensures.query.1.0.1)

pub returns-in_err-parsed-clause-memory : goal.returns-in_err-parsed-clause-memory
returns-in_err-parsed-clause-memory c =
    let p = err_from_is_err_and c.from_residual-in_err-parsed.result c.from_residual-in_err-parsed.ensures.1 in
    rw p.1 (λ _. (c.in_ok-lexed.lexed.lexemes.items, c.in_ok-lexed.lexed.spans.items, c.in_ok-lexed.ensures.query))

pub returns-in_err-literals-clause-memory : goal.returns-in_err-literals-clause-memory
returns-in_err-literals-clause-memory c =
    let p = err_from_is_err_and c.from_residual-in_err-literals.result c.from_residual-in_err-literals.ensures.1 in
    rw p.1 (λ _. (c.in_ok-lexed.lexed.lexemes.items, c.in_ok-lexed.lexed.spans.items, c.in_ok-lexed.ensures.query))

pub returns-clause-query : goal.returns-clause-query
returns-clause-query c =
    says c.args.text.now c.in_ok-lexed.lexed.lexemes.items c.as_slice-lexemes.result.now c.in_ok-lexed.lexed.spans.items _ _ _ c.in_ok-lexed.ensures.query c.as_slice-lexemes.ensures.value
    c.in_ok-parsed.ensures (rw (c.as_slice-lexemes.ensures.value, c.as_slice.ensures.value) at c.in_ok-literals.ensures)

pub returns-clause-fits : goal.returns-clause-fits
returns-clause-fits c =
    fits c.args.text.now c.in_ok-lexed.lexed.lexemes.items c.as_slice-lexemes.result.now c.in_ok-lexed.lexed.spans.items _ c.in_ok-parsed.parsed.exprs.items
    c.in_ok-lexed.ensures.query c.as_slice-lexemes.ensures.value c.in_ok-parsed.ensures

pub returns-clause-few : goal.returns-clause-few
returns-clause-few c =
    few_tests c.args.text.now c.in_ok-lexed.lexed.lexemes.items c.as_slice-lexemes.result.now c.in_ok-lexed.lexed.spans.items _ c.in_ok-parsed.parsed.exprs.items
    c.in_ok-lexed.ensures.query c.as_slice-lexemes.ensures.value c.in_ok-parsed.ensures
