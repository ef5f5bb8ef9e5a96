-- Empty nodes: rows `i.k` of the enhanced graph.
-- CoNLL-U format page, "Words, Tokens and Empty Nodes": HEAD and DEPREL are empty; UPOS may be given.
use Rattle.std.specs.Prelude.{Bool, true, ◌&&◌, ◌||◌, is_none}
use Rattle.tb_conllu.specs.declared.id.LineId.{LineId}
use Rattle.tb_conllu.specs.declared.id.LineId.TheVariants.{Word, Span, Empty}
use Rattle.tb_conllu.specs.Text.{RowText}
use Rattle.tb_rules.specs.Rows.{RowTest}
use Rattle.tb_fields.specs.Blank.{is_blank}
use Rattle.tb_fields.specs.Tags.{is_universal_tag}

abbrev pub is_fine_as_node : LineId → RowText → Bool
is_fine_as_node (Word n) r = true
is_fine_as_node (Span a b) r = true
is_fine_as_node (Empty i k) r = is_none r.head && is_blank r.deprel && (is_blank r.upos || is_universal_tag r.upos)

-- each empty node; other rows pass
abbrev pub node_test : RowTest
node_test before r = is_fine_as_node r.id r
