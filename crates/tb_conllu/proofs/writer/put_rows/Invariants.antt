use Rattle.std.proofs.Common.{[], ◌∷◌, ◌++◌, take}
use Rattle.std.specs.Io.KnownBytes.{Appends}
use Rattle.std.specs.List.{flat_map}
use Rattle.tb_conllu.specs.Text.{row_line}
use Rattle.tb_conllu.proofs.writer.put_rows.Given as goal

abbrev pub invariant-loop-row : goal.invariant-loop-row
invariant-loop-row g l = Appends (g.S.Sink.held l.initial.out) (g.S.Sink.held l.out) (flat_map (λ row. row_line row ++ 10 ∷ []) (take l.row-index l.rows))
