use Rattle.tb_conllu.proofs.PartedLines.{one_taken}
use Rattle.std.proofs.Common.{◌≡◌, List, ℕ, ◌∷◌, ◌++◌, ap, sym, ◌∙◌, take, true≢false}
use Rattle.std.specs.List.{list_any}
use Rattle.tb_chars.specs.Digits.{is_digit}
use Rattle.tb_conllu.proofs.Held.{after_holds}
use Rattle.tb_conllu.specs.Text.{row_line}
use Rattle.tb_conllu.proofs.quick.take_rows.Goals as goal

first_digit : {s t : List ℕ} → s ≡ t → list_any is_digit (take 1 s) ≡ list_any is_digit (take 1 t)
first_digit e = ap (λ (x : List ℕ). list_any is_digit (take 1 x)) e

pub loop-cutter-preserved : goal.loop-cutter-preserved
loop-cutter-preserved c =
    let old = c.loop-cutter.invariant in
    let read = rw c.in-Some.is at c.in_ok-row.ensures.row in
    let cut = sym old.1 ∙ read.1 ∙ ap (λ (x : List ℕ). row_line c.in-Some.row ++ 10 ∷ x) (sym c.left-left.ensures) in (
      c.left-left.utf8,
      sym c.left-left.ensures,
      after_holds c.args.tested c.loop-cutter.left.now (row_line c.in-Some.row) c.left-left.result.now old.2 cut,
      one_taken c.args.block.now c.loop-cutter.block c.add_row.new.block c.args.text.now c.loop-cutter.left.now c.left-left.result.now c.in-Some.row old.3 read.0 c.in_ok-add_row.ensures.ok cut,
      λ none. absurd (true≢false (sym c.loop-cutter-test.true ∙ (c.is_numbered.ensures ∙ (first_digit c.as_bytes.ensures.value ∙ (first_digit (old.4 none) ∙ none))))),
    )

pub returns-in_err-row-clause-none : goal.returns-in_err-row-clause-none
returns-in_err-row-clause-none c = λ none.
    absurd (true≢false (sym c.loop-cutter-test.true ∙ (c.is_numbered.ensures ∙ (first_digit c.as_bytes.ensures.value ∙ (first_digit (c.loop-cutter.invariant.4 none) ∙ none)))))

pub returns-in_err-add_row-clause-none : goal.returns-in_err-add_row-clause-none
returns-in_err-add_row-clause-none c = λ none.
    absurd (true≢false (sym c.loop-cutter-test.true ∙ (c.is_numbered.ensures ∙ (first_digit c.as_bytes.ensures.value ∙ (first_digit (c.loop-cutter.invariant.4 none) ∙ none)))))
