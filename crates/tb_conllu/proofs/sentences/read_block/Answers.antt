use Rattle.std.proofs.Common.{◌≡◌, ◌+◌, ◌∷◌, ◌++◌, [], List, ℕ, sym, ◌∙◌, ap, true, inl, inr}
use Rattle.std.proofs.lemmas.Result.{err_from_is_err_and}
use Rattle.tb_conllu.specs.Begun.{has_rows}
use Rattle.tb_conllu.specs.Lines.{is_empty, line_code}
use Rattle.tb_conllu.specs.declared.fault.ReadFault.TheVariants.{At}
use Rattle.tb_conllu.specs.Refusal.{lines_begun}
use Rattle.tb_conllu.proofs.Reading.{line_read, line_reported, blank_refused, end_reported}
use Rattle.tb_conllu.proofs.NoSentence.{none_at_end, none_refused}
use Rattle.tb_conllu.proofs.Shortage.{line_wants}
use Rattle.tb_conllu.proofs.Held.{line_holds, after_holds}
use Rattle.tb_conllu.proofs.PartedLines.{rows_read, rows_hold}
use Rattle.tb_conllu.proofs.sentences.read_block.Goals as goal

pub line_text-requires : goal.line_text-requires
line_text-requires c = line_holds c.args.tested c.loop-raw.rest.now c.in-Some.raw.now c.in-Some.after.now c.loop-raw.invariant.tested c.in-Some.ensures.1 c.in-Some.ensures.0

pub returns-in_err-text-clause-fault : goal.returns-in_err-text-clause-fault
returns-in_err-text-clause-fault c =
    let p = err_from_is_err_and c.from_residual.result c.from_residual.ensures.1 in
    rw (p.1, p.2) (line_reported c.args.bytes.now c.args.line c.loop-raw.block c.loop-raw.rest.now c.in-Some.raw.now c.in-Some.after.now c.loop-raw.at c.in_err-text.field-0.0 c.loop-raw.invariant.read c.in-Some.ensures.1 c.in-Some.ensures.0 (c.in_err-text.ensures.err (has_rows c.loop-raw.block.rows)))

pub returns-then-is_empty_text-clause-fault : goal.returns-then-is_empty_text-clause-fault
returns-then-is_empty_text-clause-fault c =
    let text = c.in_ok-text.ensures.ok in
    let blank : is_empty c.in-Some.raw.now ≡ true = ap is_empty (sym text.0) ∙ sym c.is_empty_text.ensures ∙ c.if-is_empty_text.true in
    line_reported c.args.bytes.now c.args.line c.loop-raw.block c.loop-raw.rest.now c.in-Some.raw.now c.in-Some.after.now c.loop-raw.at (At (c.loop-raw.at + 1) 9) c.loop-raw.invariant.read c.in-Some.ensures.1 c.in-Some.ensures.0 (blank_refused (c.loop-raw.at + 1) (has_rows c.loop-raw.block.rows) c.in-Some.raw.now text.1 blank (sym c.any_row.ensures ∙ c.if-any_row.false))

pub returns-in_err-take_line-clause-fault : goal.returns-in_err-take_line-clause-fault
returns-in_err-take_line-clause-fault c =
    let text = c.in_ok-text.ensures.ok in
    let p = err_from_is_err_and c.from_residual-in_err-take_line.result c.from_residual-in_err-take_line.ensures.1 in
    rw (p.1, p.2) (line_reported c.args.bytes.now c.args.line c.loop-raw.block c.loop-raw.rest.now c.in-Some.raw.now c.in-Some.after.now c.loop-raw.at c.in_err-take_line.field-0.0 c.loop-raw.invariant.read c.in-Some.ensures.1 c.in-Some.ensures.0 (rw (sym text.0) c.in_err-take_line.ensures.err))

pub returns-clause-fault : goal.returns-clause-fault
returns-clause-fault c = end_reported c.args.bytes.now c.args.line c.loop-raw.block c.loop-raw.rest.now c.loop-raw.at c.loop-raw.invariant.read c.in_default.ensures c.requires.filled

pub returns-then-any_row-clause-tested : goal.returns-then-any_row-clause-tested
returns-then-any_row-clause-tested c = after_holds c.args.tested c.loop-raw.rest.now c.in-Some.raw.now c.in-Some.after.now c.loop-raw.invariant.tested c.in-Some.ensures.1

pub quick_rows-requires : goal.quick_rows-requires
quick_rows-requires c = after_holds c.args.tested c.loop-raw.rest.now c.in-Some.raw.now c.in-Some.after.now c.loop-raw.invariant.tested c.in-Some.ensures.1

pub loop-raw-preserved : goal.loop-raw-preserved
loop-raw-preserved c =
    let old : List (List ℕ) = lines_begun c.loop-raw.block in
    let one = line_read c.args.bytes.now c.args.line c.loop-raw.block c.take_line.new.block c.loop-raw.rest.now c.in-Some.raw.now c.in-Some.after.now c.loop-raw.at c.loop-raw.invariant.read c.in-Some.ensures.1 (c.in_ok-take_line.ensures.lines ∙ ap (λ (x : List ℕ). old ++ x ∷ []) c.in_ok-text.ensures.ok.0) c.in_ok-take_line.ensures.sound in
    let holds = after_holds c.args.tested c.loop-raw.rest.now c.in-Some.raw.now c.in-Some.after.now c.loop-raw.invariant.tested c.in-Some.ensures.1 in
    let rows = c.in_ok-rest.ensures.rows in
    record {
      read = rw (c.count_rows.ensures, c.count_rows-before.ensures) (rows_read c.args.bytes.now c.args.line c.take_line.new.block c.quick_rows.new.block c.in-Some.after.now c.in_ok-rest.rest.now (c.loop-raw.at + 1) rows.0 one rows.1 rows.2 rows.3);
      tested = rows_hold c.args.tested rows.0 c.in-Some.after.now c.in_ok-rest.rest.now holds rows.3;
    }

pub returns-in_err-text-clause-memory : goal.returns-in_err-text-clause-memory
returns-in_err-text-clause-memory c =
    let p = err_from_is_err_and c.from_residual.result c.from_residual.ensures.1 in
    rw (p.1, p.2) (λ memory. line_wants c.args.bytes.now c.args.line c.loop-raw.block c.loop-raw.rest.now c.in-Some.raw.now c.in-Some.after.now c.loop-raw.at c.loop-raw.invariant.read c.in-Some.ensures.1 c.in-Some.ensures.0 (inr (c.in_err-text.ensures.memory memory)))

pub returns-in_err-take_line-clause-memory : goal.returns-in_err-take_line-clause-memory
returns-in_err-take_line-clause-memory c =
    let text = c.in_ok-text.ensures.ok in
    let p = err_from_is_err_and c.from_residual-in_err-take_line.result c.from_residual-in_err-take_line.ensures.1 in
    rw (p.1, p.2) (λ memory. line_wants c.args.bytes.now c.args.line c.loop-raw.block c.loop-raw.rest.now c.in-Some.raw.now c.in-Some.after.now c.loop-raw.at c.loop-raw.invariant.read c.in-Some.ensures.1 c.in-Some.ensures.0 (inl (ap (line_code (has_rows c.loop-raw.block.rows)) (sym text.0) ∙ c.in_err-take_line.ensures.memory memory)))

pub returns-in_err-rest-clause-memory : goal.returns-in_err-rest-clause-memory
returns-in_err-rest-clause-memory c =
    let text = c.in_ok-text.ensures.ok in
    let p = err_from_is_err_and c.from_residual-in_err-rest.result c.from_residual-in_err-rest.ensures.1 in
    rw p.1 (λ _. line_wants c.args.bytes.now c.args.line c.loop-raw.block c.loop-raw.rest.now c.in-Some.raw.now c.in-Some.after.now c.loop-raw.at c.loop-raw.invariant.read c.in-Some.ensures.1 c.in-Some.ensures.0 (inl (ap (line_code (has_rows c.loop-raw.block.rows)) (sym text.0) ∙ c.in_ok-take_line.ensures.clean)))

pub returns-in_err-text-clause-first : goal.returns-in_err-text-clause-first
returns-in_err-text-clause-first c =
    let p = err_from_is_err_and c.from_residual.result c.from_residual.ensures.1 in
    rw (p.1, p.2) (none_refused c.args.bytes.now c.args.line c.loop-raw.block c.loop-raw.rest.now c.in-Some.raw.now c.in-Some.after.now c.loop-raw.at c.in_err-text.field-0.0 c.loop-raw.invariant.read c.in-Some.ensures.1 c.in-Some.ensures.0 (c.in_err-text.ensures.err (has_rows c.loop-raw.block.rows)))

pub returns-then-is_empty_text-clause-first : goal.returns-then-is_empty_text-clause-first
returns-then-is_empty_text-clause-first c =
    let text = c.in_ok-text.ensures.ok in
    let blank : is_empty c.in-Some.raw.now ≡ true = ap is_empty (sym text.0) ∙ sym c.is_empty_text.ensures ∙ c.if-is_empty_text.true in
    none_refused c.args.bytes.now c.args.line c.loop-raw.block c.loop-raw.rest.now c.in-Some.raw.now c.in-Some.after.now c.loop-raw.at (At (c.loop-raw.at + 1) 9) c.loop-raw.invariant.read c.in-Some.ensures.1 c.in-Some.ensures.0 (blank_refused (c.loop-raw.at + 1) (has_rows c.loop-raw.block.rows) c.in-Some.raw.now text.1 blank (sym c.any_row.ensures ∙ c.if-any_row.false))

pub returns-in_err-take_line-clause-first : goal.returns-in_err-take_line-clause-first
returns-in_err-take_line-clause-first c =
    let text = c.in_ok-text.ensures.ok in
    let p = err_from_is_err_and c.from_residual-in_err-take_line.result c.from_residual-in_err-take_line.ensures.1 in
    rw (p.1, p.2) (none_refused c.args.bytes.now c.args.line c.loop-raw.block c.loop-raw.rest.now c.in-Some.raw.now c.in-Some.after.now c.loop-raw.at c.in_err-take_line.field-0.0 c.loop-raw.invariant.read c.in-Some.ensures.1 c.in-Some.ensures.0 (rw (sym text.0) c.in_err-take_line.ensures.err))

pub returns-in_err-rest-clause-first : goal.returns-in_err-rest-clause-first
returns-in_err-rest-clause-first c =
    let p = err_from_is_err_and c.from_residual-in_err-rest.result c.from_residual-in_err-rest.ensures.1 in
    rw p.1 (λ other. absurd (other p.2))

pub returns-clause-first : goal.returns-clause-first
returns-clause-first c = λ _. none_at_end c.args.bytes.now c.args.line c.loop-raw.block c.loop-raw.rest.now c.loop-raw.at c.loop-raw.invariant.read c.in_default.ensures
