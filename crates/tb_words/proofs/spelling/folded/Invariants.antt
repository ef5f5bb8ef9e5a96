use denote.Ref.{Bor}
use Rattle.std.proofs.Common.{◌≡◌, List, map, ℕ}
use Rattle.std.specs.List.{join_with_byte}
use Rattle.std.specs.String.{string_bytes}
use Rattle.tb_words.proofs.spelling.folded.Given as goal

abbrev pub invariant-loop-word : goal.invariant-loop-word
invariant-loop-word l = string_bytes l.all ≡ join_with_byte 32 (map (λ (x : Bor (List ℕ)). x.now) l.yielded)
