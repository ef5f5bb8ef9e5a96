-- Between crates: no contract of a front door cites a definition of this module.
-- How a read of the tables of a desk fails.
use Rattle.std.specs.Prelude.{◌≡◌, ◌≤◌, ℕ, List, length, false, ⊤, None, Result, Ok, Err, IsTrue}
use Rattle.sqlite.specs.Store.{Ghosts}
use Rattle.sqlite.specs.Held.{Held, state}
use Rattle.sqlite.specs.Order.{Row}
use Rattle.sqlite.specs.Effect.{Database, RefusesToRead}
use Rattle.sqlite.specs.Listing.{understood, reads_listing}
use Rattle.sqlite_resolve.specs.declared.compiled.Compiled.{Compiled}
use Rattle.sqlite_resolve.specs.declared.error.CompileError.{CompileError}
use Rattle.sqlite.specs.Given.{IsPlain}
use Rattle.sqlite.specs.State.{HasCleanDisk, IsUnchanged}
use Rattle.sqlite.specs.declared.error.Error.{Error}
use Rattle.sqlite_trees.specs.Tree.{Trees}
use Rattle.tb_tables.specs.Layout.{desk_schema}
use Rattle.tb_tables.specs.Failing.{IsStoreFault, IsWant}
use Rattle.tb_reads.specs.declared.error.ReadError.{ReadError}
use Rattle.tb_reads.specs.declared.error.ReadError.TheVariants.{Store, Form}

-- an error of the database is a fault of the store
abbrev pub IsReadFault : ReadError → Type 0
IsReadFault (Store e) = IsStoreFault e
IsReadFault Form = ⊤

-- an error of the database is want of memory
abbrev pub IsReadWant : ReadError → Type 0
IsReadWant (Store e) = IsWant e
IsReadWant Form = ⊤

-- Why what is in memory was not copied as texts: it is no text in UTF-8 (`Form`), or it is, and memory was wanting.
abbrev pub IsUnread : Type 0 → ReadError → Type 0
IsUnread AreTexts Form = ¬ AreTexts
IsUnread AreTexts (Store e) = IsWant e × AreTexts

-- on tables of a desk, `Form` comes only where the trees show nothing that could be read (`IsNone`)
abbrev pub HasNoForm : {S X : Type 0} → Ghosts S → Held S → Held S → Result X ReadError → (Trees → Type 0)
    → Type 0
HasNoForm g old new result IsNone = HasCleanDisk (state g new) → result ≡ Err Form
    → (state g old).now.schema ≡ desk_schema → IsNone (state g old).now.trees

-- and only from a read that changed nothing
abbrev pub IsUnchangedOnForm : {S X : Type 0} → Ghosts S → Held S → Held S → Result X ReadError → Type 0
IsUnchangedOnForm g old new result =
    HasCleanDisk (state g new) → result ≡ Err Form → (state g old).now.schema ≡ desk_schema
    → IsUnchanged (state g old) (state g new)

-- the connection has written nothing since the last commit
abbrev pub IsSettled : {S : Type 0} → Ghosts S → Held S → Type 0
IsSettled g c = IsTrue (state g c).is_open → (state g c).now ≡ (state g c).committed

-- after a read, with any answer, the connection sees what it saw before, while the store is open
abbrev pub SeesAsBefore : {S : Type 0} → Ghosts S → Held S → Held S → Type 0
SeesAsBefore g old new =
    HasCleanDisk (state g new) → IsTrue (state g new).is_open → (state g old).now.schema ≡ desk_schema
    → IsSettled g old → (state g new).now ≡ (state g old).now

-- A text of one statement with so many parameters. On a desk, with no limit on steps, nothing refuses it.
abbrev pub CanRead : List ℕ → Row → Result Compiled CompileError → Type 0
CanRead sql params (Ok c) = (length sql ≤ c.tail) × (length params ≡ length c.names)
    × ((db : Database) (e : Error) → db.schema ≡ desk_schema → RefusesToRead None c.command db params e → ⊥)
CanRead sql params (Err e) = ⊥

-- a statement that reads the tables of a desk, and commits nothing
abbrev pub IsDeskQuery : List ℕ → Row → Type 0
IsDeskQuery sql params = IsPlain (understood desk_schema sql) × (reads_listing desk_schema sql ≡ false)
    × CanRead sql params (understood desk_schema sql)
