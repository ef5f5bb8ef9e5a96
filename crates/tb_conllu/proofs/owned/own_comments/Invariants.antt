use Rattle.std.proofs.Common.{◌≡◌, map, take, string_bytes}
use Rattle.tb_conllu.proofs.owned.own_comments.Given as goal

abbrev pub invariant-loop-comment : goal.invariant-loop-comment
invariant-loop-comment g l = map string_bytes l.all.items ≡ map g.T.Text.bytes (take l.comment-index l.comments)
