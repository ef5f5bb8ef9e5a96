use Rattle.std.proofs.Common.{◌≡◌, ◌+◌, length, take}
use Rattle.sqlite.specs.State.{HasCleanDisk, KeepsCommit, Survives}
use Rattle.sqlite.specs.Held.{state}
use Rattle.tb_tables.specs.Records.{Tables}
use Rattle.tb_tables.specs.Changes.{IsInside, Changes}
use Rattle.tb_tables.specs.Commands.{with_items}
use Rattle.tb_tables.proofs.importing.insert_items.Given as goal

abbrev pub invariant-loop-item : goal.invariant-loop-item
invariant-loop-item g l =
    let old = state g.S.Store l.fn.tx.conn.now in
    let now = state g.S.Store l.tx.conn.now in
    (l.tx.conn.ghost_name ≡ l.fn.tx.conn.ghost_name) × Survives old now (λ _. ⊥) × (l.number ≡ l.first + l.item-index)
    × (HasCleanDisk now → KeepsCommit old now × (IsInside old → IsInside now × ((d : Tables) → l.first ≡ 1 + length d.sentences
    → Changes old now d (with_items l.batch l.who d (take l.item-index l.items)) × (l.number ≡ 1 + length (with_items l.batch l.who d (take l.item-index l.items)).sentences))))
