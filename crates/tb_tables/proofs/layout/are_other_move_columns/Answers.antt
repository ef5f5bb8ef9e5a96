use Rattle.std.proofs.Common.{sym, ap, ◌∙◌}
use Rattle.std.specs.Prelude.{drop}
use Rattle.tb_tables.specs.Layout.{moves}
use Rattle.tb_tables.proofs.layout.are_other_move_columns.Goals as goal

pub returns-in_default-after_two : goal.returns-in_default-after_two
returns-in_default-after_two c = (λ f. absurd cc, λ is. absurd (c.in_default-after_two.ensures (drop 5 moves.columns) (sym (ap (drop 2) c.in-Some.ensures) ∙ ap (drop 3) is)))

pub returns-in_default-after_two-2 : goal.returns-in_default-after_two-2
returns-in_default-after_two-2 c = (λ f. absurd cc, λ is. absurd (c.in_default-after_two-2.ensures (drop 7 moves.columns) (sym (ap (drop 2) c.in-Some-after_two.ensures) ∙ sym (ap (drop 4) c.in-Some.ensures) ∙ ap (drop 5) is)))

pub returns-in_default-after_two-3 : goal.returns-in_default-after_two-3
returns-in_default-after_two-3 c = (
  λ f. absurd cc,
  λ is. absurd (c.in_default-after_two-3.ensures (drop 9 moves.columns)
      (sym (ap (drop 2) c.in-Some-after_two-2.ensures) ∙ sym (ap (drop 4) c.in-Some-after_two.ensures) ∙ sym (ap (drop 6) c.in-Some.ensures) ∙ ap (drop 7) is)),
)
