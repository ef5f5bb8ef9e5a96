use Rattle.std.proofs.Common.{ℕ, List, sym, ap, ◌∙◌, false}
use Rattle.std.specs.String.{string_bytes}
use Rattle.tb_rules.specs.Expected.{continued}
use Rattle.tb_rules.proofs.Folds.{comes_after_gap, comes_at_once}
use Rattle.tb_rules.proofs.spelling.put.Goals as goal

pub returns-then-needs_space-clause-put : goal.returns-then-needs_space-clause-put
returns-then-needs_space-clause-put c = λ next.
    ap (λ (out : List ℕ). continued out false next) c.in_ok-push_spaced.ensures ∙
    comes_after_gap (string_bytes c.args.folding.now.text) c.args.folding.now.gap c.args.c next (sym c.is_whitespace.ensures ∙ c.if-is_whitespace.false) (sym c.needs_space.ensures ∙ c.if-needs_space.true)

pub returns-clause-put : goal.returns-clause-put
returns-clause-put c = λ next.
    ap (λ (out : List ℕ). continued out false next) c.in_ok-push_char.ensures ∙
    comes_at_once (string_bytes c.args.folding.now.text) c.args.folding.now.gap c.args.c next (sym c.is_whitespace.ensures ∙ c.if-is_whitespace.false) (sym c.needs_space.ensures ∙ c.if-needs_space.false)
