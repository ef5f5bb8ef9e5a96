-- A desk of version 1.
use Rattle.std.specs.Prelude.{◌≡◌, ◌≢◌, false, All, IsTrue}
use Rattle.sqlite.specs.Store.{Ghosts}
use Rattle.sqlite.specs.Held.{Held, state}
use Rattle.tb_core.specs.declared.kinds.Kind.TheVariants.{Pull, Restore}
use Rattle.tb_core.specs.Machine.{Machine}
use Rattle.tb_core.specs.Moves.{MoveText}
use Rattle.tb_core.specs.Reaching.{IsReachable}
use Rattle.tb_tables.specs.Layout.{version_one_schema}
use Rattle.tb_refine.specs.DeskTables.{tables_of}
use Rattle.tb_verify.specs.Version1.{HoldsFirst}

-- no sentence was ever pulled or restored
abbrev pub HasNoPull : Machine → Type 0
HasNoPull s = All (λ (m : MoveText). (m.kind ≢ Pull) × (m.kind ≢ Restore)) s.moves

-- The desk of version 1 of a state that accepted commands reach, none of them a pull or a restore.
pub record IsFirstDesk {S : Type 0} (g : Ghosts S) (c : Held S) (s : Machine) : Type 0 where
  pub reachable : IsReachable s
  pub unpulled : HasNoPull s
  pub holds : HoldsFirst g c (tables_of s)

-- What is known of a connection to such a desk without a read. It is in no transaction, so it sees what the last
-- commit left, and it has the six tables.
pub record LooksFirst {S : Type 0} (g : Ghosts S) (c : Held S) : Type 0 where
  pub autocommit : c.in_transaction ≡ false
  pub settled : IsTrue (state g c).is_open → (state g c).now ≡ (state g c).committed
  pub schema : (state g c).now.schema ≡ version_one_schema
