use Rattle.std.proofs.Common.{Some, ap, rules, subst, sym, ◌≡◌, ℕ}
use Rattle.tb_words.specs.RowFaults.{SaysRow}
use Rattle.tb_words.specs.declared.findings.Detail.TheVariants.{Nothing}
use Rattle.tb_words.specs.declared.findings.Finding.{Finding}
use Rattle.tb_words.proofs.rules.row_finding.Goals as goal

pub returns-clause-said : goal.returns-clause-said
returns-clause-said c =
    let made : Finding = record {
      line = c.args.line;
      id = Some c.args.row.now.id;
      column = Some c.in_ok-column.column;
      value = Some c.in_ok-column.value;
      detail = Nothing;
      sentence = c.in_ok-column.sentence;
    } in
    let is : c.with.result ≡ made = search rules in
    subst (λ (f : Finding). SaysRow c.args.placed.now.block c.args.rule c.args.before.now c.args.row.now f) (sym is) (
      c.in_ok-column.ensures.word,
      c.in_ok-column.ensures.range,
      c.in_ok-column.ensures.node,
      λ seven. (ap (λ (n : ℕ). Some n) (c.in_ok-column.ensures.features seven).0, (c.in_ok-column.ensures.features seven).1),
      λ eight. (ap (λ (n : ℕ). Some n) (c.in_ok-column.ensures.pairs eight).0, (c.in_ok-column.ensures.pairs eight).1),
      c.in_ok-column.ensures.value,
    )
