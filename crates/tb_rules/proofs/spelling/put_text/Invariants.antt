use Rattle.std.proofs.Common.{◌≡◌, ◌++◌, ℕ, List, length, drop}
use Rattle.std.specs.String.{string_bytes}
use Rattle.std.specs.Str.{chars}
use Rattle.tb_rules.specs.Expected.{continued}
use Rattle.tb_rules.proofs.spelling.put_text.Given as goal

abbrev pub invariant-loop-c : goal.invariant-loop-c
invariant-loop-c l = (next : List ℕ) → continued (string_bytes l.folding.text) l.folding.gap (drop (length l.yielded) (chars l.text) ++ next) ≡ continued (string_bytes l.initial.folding.text) l.initial.folding.gap (chars l.text ++ next)
