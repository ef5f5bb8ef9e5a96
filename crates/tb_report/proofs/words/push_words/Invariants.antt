use Rattle.std.proofs.Common.{◌≡◌, ◌≤◌, length, map, string_bytes}
use Rattle.tb_query.specs.Meaning.{value_of}
use Rattle.tb_report.specs.Keywords.{joined}
use Rattle.tb_report.proofs.WordLists.{words_to}
use Rattle.tb_report.proofs.words.push_words.Given as goal

abbrev pub invariant-loop-row : goal.invariant-loop-row
invariant-loop-row g l = record {
  count : l.done ≡ length (words_to l.row-index l.rows);
  few : l.done ≤ l.words;
  text : string_bytes l.key ≡ joined (map (value_of l.column) (words_to l.row-index l.rows));
}
