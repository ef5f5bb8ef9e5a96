use Rattle.std.proofs.Common.{◌≡◌, ◌≤◌, length, map}
use Rattle.std.specs.Io.KnownBytes.{Appends}
use Rattle.tb_report.specs.Keywords.{joined}
use Rattle.tb_report.proofs.WordLists.{words_to}
use Rattle.tb_report.proofs.words.put_words.Given as goal

abbrev pub invariant-loop-row : goal.invariant-loop-row
invariant-loop-row g l = record {
  count : l.done ≡ length (words_to l.row-index l.rows);
  few : l.done ≤ l.words;
  put : Appends (g.S.Sink.held l.initial.out) (g.S.Sink.held l.out) (joined (map (λ row. row.form) (words_to l.row-index l.rows)));
}
