use Rattle.std.proofs.Common.{sym, ◌∙◌, ap, refl, arith}
use Rattle.tb_conllu.specs.Marks.{parts}
use Rattle.tb_conllu.proofs.Marked.{rows_parts, some_parts, parts_of_rows}
use Rattle.tb_conllu.proofs.Recut.{rows_end, row_next, rows_taken, row_added, some_left}
use Rattle.tb_conllu.proofs.known.take_rows.Goals as goal

pub loop-id-init : goal.loop-id-init
loop-id-init c rs h whole = (rs, h, refl, refl, ap parts (c.new-cutter.ensures ∙ whole) ∙ rows_parts rs h)

pub returns-then-is_empty_text-clause-taken : goal.returns-then-is_empty_text-clause-taken
returns-then-is_empty_text-clause-taken c rs h whole =
    let come = c.loop-id.invariant rs h whole in
    let none = rows_end c.in-Some.id.now _ come.0 come.1 (sym c.in-Some.ensures ∙ come.4) (sym c.is_empty_text.ensures ∙ c.if-is_empty_text.true) in
    rows_taken c.args.block.now c.loop-id.block rs come.0 come.2 none come.3

pub returns-in_default-row_after-clause-whole : goal.returns-in_default-row_after-clause-whole
returns-in_default-row_after-clause-whole c rs h whole =
    let come = c.loop-id.invariant rs h whole in
    let next = row_next c.in-Some.id.now _ come.0 come.1 (sym c.in-Some.ensures ∙ come.4) (sym c.is_empty_text.ensures ∙ c.if-is_empty_text.false) in
    let n = some_parts next.1 in
    absurd (c.in_default-row_after.ensures.row next.0 (parts_of_rows next.1) next.3 (omega (arith, n)) next.5)

pub returns-in_default-row_after-clause-taken : goal.returns-in_default-row_after-clause-taken
returns-in_default-row_after-clause-taken c rs h whole =
    let come = c.loop-id.invariant rs h whole in
    let next = row_next c.in-Some.id.now _ come.0 come.1 (sym c.in-Some.ensures ∙ come.4) (sym c.is_empty_text.ensures ∙ c.if-is_empty_text.false) in
    let n = some_parts next.1 in
    absurd (c.in_default-row_after.ensures.row next.0 (parts_of_rows next.1) next.3 (omega (arith, n)) next.5)

pub loop-id-preserved : goal.loop-id-preserved
loop-id-preserved c rs h whole =
    let come = c.loop-id.invariant rs h whole in
    let next = row_next c.in-Some.id.now _ come.0 come.1 (sym c.in-Some.ensures ∙ come.4) (sym c.is_empty_text.ensures ∙ c.if-is_empty_text.false) in
    let n = some_parts next.1 in
    let row = c.in-Some-row_after.ensures.row next.0 (parts_of_rows next.1) next.3 (omega (arith, n)) next.5 in
    let rest = c.in-Some-row_after.ensures.rest next.0 (parts_of_rows next.1) next.3 (omega (arith, n)) next.5 in
    let added = row_added c.args.block.now c.loop-id.block c.add_row.new.block c.in-Some-row_after.row next.0 rs come.0 next.1 come.2 next.2 row come.3 c.in_ok-add_row.ensures.ok in
    (next.1, next.4, added.0, added.1, rest)

pub returns-clause-whole : goal.returns-clause-whole
returns-clause-whole c rs h whole =
    let come = c.loop-id.invariant rs h whole in
    absurd (some_left c.loop-id.cutter come.0 come.4 c.in_default.ensures)

pub returns-clause-taken : goal.returns-clause-taken
returns-clause-taken c rs h whole =
    let come = c.loop-id.invariant rs h whole in
    absurd (some_left c.loop-id.cutter come.0 come.4 c.in_default.ensures)
