use Rattle.std.proofs.Common.{◌≡◌, ◌++◌, encode_utf8_all, map, string_bytes}
use Rattle.tb_words.specs.Shown.{visible}
use Rattle.tb_words.proofs.pictures.push_line.Given as goal

abbrev pub invariant-loop-c : goal.invariant-loop-c
invariant-loop-c l =
    string_bytes l.picture ≡ string_bytes l.initial.picture ++ encode_utf8_all (map visible l.yielded)
