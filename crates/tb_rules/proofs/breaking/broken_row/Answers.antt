use Rattle.tb_conllu.specs.Words.{words_of}
use Rattle.tb_rules.specs.Deps.{dependency_test}
use Rattle.tb_rules.specs.Feats.{feature_test}
use Rattle.tb_rules.specs.Nodes.{node_test}
use Rattle.tb_rules.specs.Spans.{span_test}
use Rattle.tb_rules.specs.Words.{word_test}
use Rattle.tb_rules.proofs.Broken.{row_broken, rows_broken}
use Rattle.tb_rules.proofs.breaking.broken_row.Goals as goal

pub returns-in-Words-clause-row : goal.returns-in-Words-clause-row
returns-in-Words-clause-row g c = let b = c.args.block.now in rw c.in-Words.is (row_broken (word_test (words_of b)) b.rows c.word_row.result c.word_row.ensures)

pub returns-in-Spans-clause-row : goal.returns-in-Spans-clause-row
returns-in-Spans-clause-row g c = let b = c.args.block.now in rw c.in-Spans.is (row_broken (span_test (words_of b)) b.rows c.span_row.result c.span_row.ensures)

pub returns-in-Nodes-clause-row : goal.returns-in-Nodes-clause-row
returns-in-Nodes-clause-row g c = let b = c.args.block.now in rw c.in-Nodes.is (row_broken node_test b.rows c.node_row.result c.node_row.ensures)

pub returns-in-Features-clause-row : goal.returns-in-Features-clause-row
returns-in-Features-clause-row g c = let b = c.args.block.now in rw c.in-Features.is (rows_broken feature_test b.rows c.feature_row.result c.feature_row.ensures.value)

pub returns-in-Dependencies-clause-row : goal.returns-in-Dependencies-clause-row
returns-in-Dependencies-clause-row g c = let b = c.args.block.now in rw c.in-Dependencies.is (rows_broken (dependency_test b.rows) b.rows c.dependency_row.result c.dependency_row.ensures.value)

pub returns-in-Features-clause-sure : goal.returns-in-Features-clause-sure
returns-in-Features-clause-sure g c = rw c.in-Features.is c.feature_row.ensures.sure

pub returns-in-Dependencies-clause-sure : goal.returns-in-Dependencies-clause-sure
returns-in-Dependencies-clause-sure g c = rw c.in-Dependencies.is c.dependency_row.ensures.sure

pub returns-in-Tree-clause-sure : goal.returns-in-Tree-clause-sure
returns-in-Tree-clause-sure g c = rw c.in-Tree.is (λ none. absurd none)

pub returns-in-Restored-clause-sure : goal.returns-in-Restored-clause-sure
returns-in-Restored-clause-sure g c = rw c.in-Restored.is (λ none. absurd none)
