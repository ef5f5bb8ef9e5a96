-- Between crates: no contract of a front door cites a definition of this module.
-- What a connection shows of a desk without a read.
use Rattle.std.specs.Prelude.{◌≡◌, false, IsTrue}
use Rattle.sqlite.specs.Store.{Ghosts}
use Rattle.sqlite.specs.Held.{Held, state}
use Rattle.tb_tables.specs.Layout.{desk_schema, ListsDesk}

-- What is known of a connection to a desk without a read. It is in no transaction, so it sees what the last commit
-- left, and it has the tables. While it is open, its file lists them and no others.
pub record LooksLikeDesk {S : Type 0} (g : Ghosts S) (c : Held S) : Type 0 where
  pub autocommit : c.in_transaction ≡ false
  pub settled : IsTrue (state g c).is_open → (state g c).now ≡ (state g c).committed
  pub schema : (state g c).now.schema ≡ desk_schema
  pub listed : IsTrue (state g c).is_open → ListsDesk (state g c).now.trees
