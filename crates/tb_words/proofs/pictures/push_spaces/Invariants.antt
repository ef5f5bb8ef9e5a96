use Rattle.std.proofs.Common.{◌≡◌, ◌≤◌, ◌++◌, replicate, string_bytes}
use Rattle.tb_words.proofs.pictures.push_spaces.Given as goal

abbrev pub invariant-loop : goal.invariant-loop
invariant-loop l =
    (l.counter ≤ l.count) × (string_bytes l.picture ≡ string_bytes l.initial.picture ++ replicate l.counter 32)
