use Rattle.std.proofs.Common.{Bor, List, ℕ, ◌≡◌, take, map}
use Rattle.std.specs.Option.{option_copied, option_to_list}
use Rattle.tb_rules.specs.Comments.{values_of}
use Rattle.tb_rules.proofs.comments.only_borrowed.Given as goal

abbrev pub invariant-loop-comment : goal.invariant-loop-comment
invariant-loop-comment l = values_of l.key (map (λ (t : Bor (List ℕ)). t.now) (take l.comment-index l.comments)) ≡ option_to_list (option_copied l.first)
