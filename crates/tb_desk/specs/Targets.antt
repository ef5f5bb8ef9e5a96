-- What a command line works on: a desk in a file, or one in memory.
use Rattle.std.specs.Prelude.{ℕ, List, Bool, true, false, Option, Some, None}
use Rattle.tb_cli.specs.Lines.{Said, check, new_desk, migrate, import_batch, step_batch, correct, pull, restore, show}
use Rattle.tb_cli.specs.Lines.{export, totals, moves, search, count, serve}
use Rattle.tb_desk.specs.declared.targets.Target.{Target}
use Rattle.tb_desk.specs.declared.targets.Target.TheVariants as target

-- What a line works on: a desk that it makes in a file, one that it brings to version 2, the desk in a file, or one in
-- memory that is there for this line alone
pub data Place : Type 0 where
  made_in : List ℕ → Place
  migrated_in : List ℕ → Place
  in_file : List ℕ → Place
  in_memory : Place

-- the plain data of the code's target
abbrev pub place_by : Target → Place
place_by (target.New path) = made_in path.now
place_by (target.Migrate path) = migrated_in path.now
place_by (target.File path) = in_file path.now
place_by target.Memory = in_memory

-- the file of `--db`, if it is given
abbrev pub place_of : Option (List ℕ) → Place
place_of (Some path) = in_file path
place_of None = in_memory

-- what a line works on
abbrev pub place_in : Said → Place
place_in check = in_memory
place_in (new_desk db) = made_in db
place_in (migrate db) = migrated_in db
place_in (import_batch db user name) = place_of db
place_in (step_batch db user name event) = place_of db
place_in (correct db user n base) = place_of db
place_in (pull db user n) = place_of db
place_in (restore db user n) = place_of db
place_in (show db n rev) = place_of db
place_in (export db name) = place_of db
place_in (totals db) = place_of db
place_in (moves db) = place_of db
place_in (search db strategy context query) = place_of db
place_in (count db strategy column query) = place_of db
place_in (serve db port requests) = place_of db

-- the file of a desk that is there
abbrev pub file_of : Place → Option (List ℕ)
file_of (in_file path) = Some path
file_of _ = None

-- whether a line changes the desk where it is accepted
abbrev pub changes : Said → Bool
changes (import_batch db user name) = true
changes (step_batch db user name event) = true
changes (correct db user n base) = true
changes (pull db user n) = true
changes (restore db user n) = true
changes _ = false

-- How many pages beyond those of its file a line keeps in memory: few, 2,000 where the file may grow, and 84 MiB for a
-- server.
abbrev pub room_for : Said → ℕ
room_for (import_batch db user name) = 2000
room_for (correct db user n base) = 2000
room_for (serve db port requests) = 21504
room_for _ = 64
