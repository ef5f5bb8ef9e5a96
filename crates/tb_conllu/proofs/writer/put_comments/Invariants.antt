use Rattle.std.proofs.Common.{[], ◌∷◌, ◌++◌, take}
use Rattle.std.specs.Io.KnownBytes.{Appends}
use Rattle.std.specs.List.{flat_map}
use Rattle.tb_conllu.proofs.writer.put_comments.Given as goal

abbrev pub invariant-loop-comment : goal.invariant-loop-comment
invariant-loop-comment g l = Appends (g.S.Sink.held l.initial.out) (g.S.Sink.held l.out) (flat_map (λ comment. g.T.Text.bytes comment ++ 10 ∷ []) (take l.comment-index l.comments))
