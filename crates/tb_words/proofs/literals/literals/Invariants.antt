use Rattle.std.specs.Str.Iter.{char_indices_offset, char_indices_rest}
use Rattle.tb_words.proofs.QueryScan.{Scanned}
use Rattle.tb_words.proofs.literals.literals.Given as goal

abbrev pub invariant-loop-at : goal.invariant-loop-at
invariant-loop-at l =
    Scanned l.text l.reading l.found.items (char_indices_rest l.at-iterator) (char_indices_offset l.at-iterator)
