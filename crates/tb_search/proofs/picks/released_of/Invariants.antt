use Rattle.std.proofs.Common.{◌≡◌, ◌+◌, ◌++◌, List, map, drop}
use Rattle.tb_core.specs.Machine.{Batch, Sentence}
use Rattle.tb_core.specs.Rows.{pulled_from}
use Rattle.tb_tables.specs.Values.{batch_of}
use Rattle.tb_refine.specs.DeskTables.{batch_record, sentence_record}
use Rattle.tb_reads.specs.Streams.{head_of}
use Rattle.tb_search.specs.Released.{is_released}
use Rattle.tb_search.specs.Picked.{picks_from}
use Rattle.tb_search.proofs.picks.released_of.Given as goal

abbrev pub invariant-loop-head : goal.invariant-loop-head
invariant-loop-head l = (l.number ≡ l.head-index)
    × ((bs : List Batch) (xs : List Sentence) → map batch_of l.batches ≡ map batch_record bs → l.pulled ≡ pulled_from 1 xs → l.heads ≡ map head_of (map sentence_record xs)
    → (l.found.items ++ picks_from (is_released bs) (l.head-index + 1) (drop l.head-index xs) ≡ picks_from (is_released bs) 1 xs) × (drop l.at l.pulled ≡ pulled_from (l.head-index + 1) (drop l.head-index xs)))
