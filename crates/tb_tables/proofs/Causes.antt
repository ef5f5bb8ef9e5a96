-- Whatever the text and the tables: an error of SQLite is a refusal, want of memory or of room for a size, or else the disk
-- failed, or the store was shut before.
use Rattle.std.proofs.Common.{◌≡◌, ◌≢◌, ◌⊎◌, ◌<◌, ◌≤◌, ◌-◌, ◌^◌, inl, inr, ℕ, ℤ, Bool, true, false, if◌then◌else◌, MatchBool, List, [], ◌∷◌, sym, subst, arith, Option, Some, None, Result, Ok, Err, IfErr, IsErrAnd, IsTrue, option_map, slice_get, is_some}
use Rattle.std.proofs.lemmas.Bool.{cases_Bool}
use Rattle.std.proofs.lemmas.Result.{err_from_is_err_and}
use Rattle.std.specs.Ordering.{is_lt, int_cmp}
use Rattle.sqlite.specs.Order.{Row}
use Rattle.sqlite.specs.Tree.{Trees}
use Rattle.sqlite.specs.Table.{Table}
use Rattle.sqlite.specs.Schema.{Schema}
use Rattle.sqlite.specs.Store.{Ghosts}
use Rattle.sqlite.specs.Held.{Held, state}
use Rattle.sqlite.specs.Source.{Source}
use Rattle.sqlite.specs.Source.TheVariants.{Values, Query}
use Rattle.sqlite.specs.Command.{Command}
use Rattle.sqlite.specs.Command.TheVariants.{Select, Insert, InsertOr, Update, Delete, CreateTable, CreateIndex, DropTable, DropIndex, Begin, Commit, Rollback, Savepoint, Release, RollbackTo, Nothing, CreateView, DropView, Rows}
use Rattle.sqlite.specs.Edit.{Edit, edit_of}
use Rattle.sqlite.specs.Rowids.TheVariants.{Given}
use Rattle.sqlite.specs.Effect.{Database, RefusesQuery, RefusesSource, edit_error, alter_error}
use Rattle.sqlite.specs.Rows.{Outcome, Part, Queried, Sourced, Edited, Written, Task, Counter, CounterIn, Counts, CountsIn, count_of, sequence, Updates, Deletes, Inserts, InsertsOr, Puts, Clears, Resolves, Meets, Upserts, Judged, Tries, TriesEach, passes_over}
use Rattle.sqlite.specs.Does.{Tally, Shows, Returns, Concludes, WritesRows, OnRows, MakesTable, MakesSequence, MakesIndex, MakesView, Leaves, Defines, Empties, UncountsIn, Drops, AtPlace, Redefines, Does, IsKeptAside, is_acted_on, lacks_sequence, sequence_text}
use Rattle.sqlite.specs.Change.{without_index, without_view}
use Rattle.sqlite.specs.State.{State, Fails, Survives, HasCleanDisk, IsNoStatement, IsNotRun, IsMisplaced, RunsCommand, RunsAlone, ExecutesIn, ExecutesInside, shows_rows, text_of, mode_of}
use Rattle.sqlite.specs.Steps.{FailsToCommit}
use Rattle.sqlite.specs.declared.error.Error.{Error}
use Rattle.sqlite.specs.declared.error.Error.TheVariants.{SqliteFailure, InvalidQuery, ExecuteReturnedResults}
use Rattle.sqlite.specs.declared.error.ErrorCode.TheVariants as code
use Rattle.sqlite.specs.declared.run.Mode.{Mode}
use Rattle.sqlite_resolve.specs.declared.compiled.Compiled.{Compiled}
use Rattle.sqlite_schema.specs.declared.program.Program.{Program}
use Rattle.sqlite_schema.specs.declared.schema.Keys.{Keys}
use Rattle.sqlite_schema.specs.declared.command.Conflict.{Conflict}
use Rattle.sqlite_schema.specs.declared.command.Conflict.TheVariants.{Abort, Ignore, Replace}
use Rattle.sqlite_schema.specs.declared.command.Returning.{Returning}
use Rattle.sqlite_schema.specs.declared.command.Upsert.{Upsert}
use Rattle.sqlite_schema.specs.declared.schema.Constraint.TheVariants.{PrimaryKey}
use Rattle.sqlite_rules.specs.declared.error.Refusal.{Refusal}
use Rattle.sqlite_rules.specs.declared.error.Refusal.TheVariants.{Violates, Mismatch, NoRowid, BadReference, TooDeep}
use Rattle.sqlite_rules.specs.Calls.{ids_of}
use Rattle.sqlite_catalog.specs.declared.error.Refusal as alter
use Rattle.sqlite_catalog.specs.declared.error.Refusal.TheVariants as why
use Rattle.sqlite_trees.specs.declared.error.StoreError.TheVariants.{OutOfMemory, Io, Corrupt, Full, Broken, Unstorable}
use Rattle.tb_tables.specs.Failing.{IsWant, NeedsNoFault, NeedsNoFaultOnRevisions}
use Rattle.tb_tables.specs.Leaving.{IsFaultless}

-- ---- refusals

-- what stops a part of a statement: a refusal, or nothing that has a name yet
abbrev Reported : Option Error → Type 0
Reported None = Unit {0}
Reported (Some e) = NeedsNoFault e

of : {e x : Error} → e ≡ x → NeedsNoFault x → NeedsNoFault e
of is fine = subst NeedsNoFault (sym is) fine

-- the part stops as its own part did
back : {A : Type 0} {stop s : Option Error} → ◌≡◌ {A = Outcome A} (Err stop) (Err s) → Reported s → Reported stop
back is reported = subst Reported (let same : _ ≡ _ = cc in sym same) reported

-- it does not stop where it gives a value
gave : {A : Type 0} {a : A} {stop : Option Error} → ◌≡◌ {A = Outcome A} (Err stop) (Ok a) → Reported stop
gave is = absurd cc

no_query : {A : Type 0} {stop : Option Error} → ◌≡◌ {A = Outcome A} (Err stop) (Err (Some InvalidQuery)) → Reported stop
no_query is = back is tt

by_bool : {X Y R : Type 0} (b : Bool) → (X → R) → (Y → R) → MatchBool b X Y → R
by_bool true f g h = f h
by_bool false f g h = g h

refusal_reported : (reason : Option Refusal) → Reported (option_map edit_error reason)
refusal_reported None = tt
refusal_reported (Some (Violates rule)) = tt
refusal_reported (Some Mismatch) = tt
refusal_reported (Some NoRowid) = tt
refusal_reported (Some BadReference) = tt
refusal_reported (Some TooDeep) = tt

alter_reported : (reason : alter.Refusal) → NeedsNoFault (alter_error reason)
alter_reported (why.Invalid e) = tt
alter_reported why.NameTaken = tt
alter_reported why.BadName = tt
alter_reported why.BadKey = tt
alter_reported why.BadText = tt
alter_reported why.TooBig = tt
alter_reported (why.Violates rule) = tt

query_refused : (limit : Option ℕ) (db : Database) (q : Program) (params : Row) (e : Error) → RefusesQuery limit db q params e → NeedsNoFault e
query_refused limit db q params e (inl h) = of h.0 tt
query_refused limit db q params e (inr (inl h)) = of h.0 tt
query_refused limit db q params e (inr (inr h)) = of h.0 tt

source_refused : (limit : Option ℕ) (db : Database) (params : Row) (from : Source) (e : Error) → RefusesSource limit db params from e → NeedsNoFault e
source_refused limit db params (Values terms width) e (inl h) = of h.0 tt
source_refused limit db params (Values terms width) e (inr h) = of h.0 tt
source_refused limit db params (Query q) e h = query_refused limit db q params e h

-- ---- the parts of a statement on rows

queried : (limit : Option ℕ) (db : Database) (q : Program) (params : Row) (stop : Option Error) → Queried limit db q params (Err stop) → Reported stop
queried limit db q params None h = tt
queried limit db q params (Some e) h = query_refused limit db q params e h

sourced : (limit : Option ℕ) (db : Database) (params : Row) (from : Source) (stop : Option Error) → Sourced limit db params from (Err stop) → Reported stop
sourced limit db params from None h = tt
sourced limit db params from (Some e) h = source_refused limit db params from e h

edit_reported : (schema : Schema) (keys : Keys) (db : Trees) (edit : Edit) (stop : Option Error) → Edited schema keys db edit (Err stop) → Reported stop
edit_reported schema keys db edit stop h = subst Reported (sym h.2) (refusal_reported h.0)

module _ (task : Task) where
  abbrev here : Trees → Database
  here db = record { schema = task.schema; trees = db }

  counter_in : (db : Trees) (o : Option Table) (stop : Option Error) → CounterIn task db o (Err stop) → Reported stop
  counter_in db None stop h = no_query h
  counter_in db (Some counters) stop h = gave h

  counter_reported : (db : Trees) (stop : Option Error) → Counter task db (Err stop) → Reported stop
  counter_reported db stop h = by_bool task.table.is_counted (counter_in db (sequence task.schema) stop) gave h

  counts_in : (db : Trees) (counter : Option Row) (top : ℤ) (o : Option Table) (stop : Option Error) → CountsIn task db counter top o (Err stop) → Reported stop
  counts_in db counter top None stop h = no_query h
  counts_in db counter top (Some counters) stop h = edit_reported _ _ _ _ stop h

  counts_reported : (db : Trees) (counter : Option Row) (top : ℤ) (stop : Option Error) → Counts task db counter top (Err stop) → Reported stop
  counts_reported db counter top stop h = by_bool (if task.table.is_counted then is_lt (int_cmp (count_of counter) top) else false) (counts_in db counter top (sequence task.schema) stop) gave h

  updates_reported : (q : Program) (given : Row) (db : Trees) (stop : Option Error) → Updates task q given db (Err stop) → Reported stop
  updates_reported q given db stop (inl h) = back h.2 (queried task.limit (here db) q given h.0 h.1)
  updates_reported q given db stop (inr (rows, is, inl h)) = back h.2 (edit_reported _ _ _ _ h.0 h.1)
  updates_reported q given db stop (inr (rows, is, inr (next, done, h))) = gave h

  deletes_reported : (q : Program) (db : Trees) (stop : Option Error) → Deletes task q db (Err stop) → Reported stop
  deletes_reported q db stop (inl h) = back h.2 (queried task.limit (here db) q task.params h.0 h.1)
  deletes_reported q db stop (inr (rows, is, inl h)) = back h.2 (edit_reported _ _ _ _ h.0 h.1)
  deletes_reported q db stop (inr (rows, is, inr (next, done, h))) = gave h

  inserts_reported : (from : Source) (db : Trees) (stop : Option Error) → Inserts task from db (Err stop) → Reported stop
  inserts_reported from db stop (inl h) = back h.2 (sourced task.limit (here db) _ from h.0 h.1)
  inserts_reported from db stop (inr (rows, is, inl h)) = back h.2 (counter_reported db h.0 h.1)
  inserts_reported from db stop (inr (rows, is, inr (counter, counted, inl h))) = back h.2 (edit_reported _ _ _ _ h.0 h.1)
  inserts_reported from db stop (inr (rows, is, inr (counter, counted, inr (mid, done, inl h)))) = back h.2 (counts_reported mid counter _ h.0 h.1)
  inserts_reported from db stop (inr (rows, is, inr (counter, counted, inr (mid, done, inr (next, kept, h))))) = gave h

  -- one row at a time
  puts_reported : (new : Row) (db : Trees) (stop : Option Error) → Puts task new db (Err stop) → Reported stop
  puts_reported new db stop (inl h) = back h.2 (edit_reported _ _ _ _ h.0 h.1)
  puts_reported new db stop (inr (next, done, h)) = gave h

  clears_reported : (way : Conflict) (new : Row) (db : Trees) (found : List Row) (stop : Option Error) → Clears task way new db found (Err stop) → Reported stop
  clears_reported way new db [] stop h = puts_reported new db stop h
  clears_reported Abort new db (x ∷ more) stop h = puts_reported new db stop h
  clears_reported Ignore new db (x ∷ more) stop h = gave h
  clears_reported Replace new db (x ∷ more) stop (inl h) = back h.2 (edit_reported _ _ _ _ h.0 h.1)
  clears_reported Replace new db (x ∷ more) stop (inr (next, done, h)) = puts_reported new next stop h

  resolves_reported : (new : Row) (db : Trees) (there : Row) (update : Option Program) (stop : Option Error) → Resolves task new db there update (Err stop) → Reported stop
  resolves_reported new db there None stop h = gave h
  resolves_reported new db there (Some q) stop h = updates_reported q _ db stop h

  meets_reported : (Otherwise : Part Written) → ((stop : Option Error) → Otherwise (Err stop) → Reported stop) → (new : Row) (db : Trees) (clause : Upsert) (found : List Row) (stop : Option Error) → Meets task Otherwise new db clause found (Err stop) → Reported stop
  meets_reported Otherwise other new db clause [] stop h = other stop h
  meets_reported Otherwise other new db clause (there ∷ more) stop h = resolves_reported new db there clause.update stop h

  upserts_reported : (way : Conflict) (new : Row) (db : Trees) (clauses : List Upsert) (stop : Option Error) → Upserts task way new db clauses (Err stop) → Reported stop
  upserts_reported way new db [] stop h = clears_reported way new db h.0 stop h.2
  upserts_reported way new db (clause ∷ more) stop h = meets_reported (Upserts task way new db more) (λ s k. upserts_reported way new db more s k) new db clause h.0 stop h.2

  judged_reported : (way : Conflict) (clauses : List Upsert) (new : Row) (db : Trees) (verdict : Option Refusal) (stop : Option Error) → Judged task way clauses new db verdict (Err stop) → Reported stop
  judged_reported way clauses new db None stop h = upserts_reported way new db clauses stop h
  judged_reported way clauses new db (Some reason) stop h = by_bool (passes_over way reason) gave (λ is. back is (refusal_reported (Some reason))) h

  tries_reported : (way : Conflict) (clauses : List Upsert) (new : Row) (db : Trees) (stop : Option Error) → Tries task way clauses new db (Err stop) → Reported stop
  tries_reported way clauses new db stop (inl h) = back h.1 tt
  tries_reported way clauses new db stop (inr h) = judged_reported way clauses new db h.0 stop h.2

  tries_each : (way : Conflict) (clauses : List Upsert) (rows : List Row) (top : ℤ) (done : Written) (stop : Option Error) → TriesEach task way clauses rows top done (Err stop) → Reported stop
  tries_each way clauses [] top done stop h = gave h
  tries_each way clauses (source ∷ more) top done stop (inl h) = back h.2 (tries_reported way clauses _ done.trees h.0 h.1)
  tries_each way clauses (source ∷ more) top done stop (inr (one, is, h)) = tries_each way clauses more _ _ stop h

  inserts_or_reported : (way : Conflict) (clauses : List Upsert) (from : Source) (db : Trees) (stop : Option Error) → InsertsOr task way clauses from db (Err stop) → Reported stop
  inserts_or_reported way clauses from db stop (inl h) = back h.2 (sourced task.limit (here db) _ from h.0 h.1)
  inserts_or_reported way clauses from db stop (inr (rows, is, inl h)) = back h.2 (counter_reported db h.0 h.1)
  inserts_or_reported way clauses from db stop (inr (rows, is, inr (counter, counted, inl h))) = back h.2 (tries_each way clauses rows _ _ h.0 h.1)
  inserts_or_reported way clauses from db stop (inr (rows, is, inr (counter, counted, inr (done, tried, inl h)))) = back h.2 (counts_reported done.0.trees counter done.1 h.0 h.1)
  inserts_or_reported way clauses from db stop (inr (rows, is, inr (counter, counted, inr (done, tried, inr (next, kept, h))))) = gave h

  writes_reported : (db : Trees) (command : Command) (stop : Option Error) → WritesRows task db command (Err stop) → Reported stop
  writes_reported db (Insert at from) stop h = inserts_reported from db stop h
  writes_reported db (InsertOr at way from clauses) stop h = inserts_or_reported way clauses from db stop h
  writes_reported db (Update at q) stop h = updates_reported q task.params db stop h
  writes_reported db (Delete at q) stop h = deletes_reported q db stop h
  writes_reported db (Select q names) stop h = no_query h
  writes_reported db (Rows values width names) stop h = no_query h
  writes_reported db CreateTable stop h = no_query h
  writes_reported db (CreateIndex at) stop h = no_query h
  writes_reported db CreateView stop h = no_query h
  writes_reported db (DropTable at) stop h = no_query h
  writes_reported db (DropIndex at) stop h = no_query h
  writes_reported db (DropView at) stop h = no_query h
  writes_reported db Begin stop h = no_query h
  writes_reported db Commit stop h = no_query h
  writes_reported db Rollback stop h = no_query h
  writes_reported db (Savepoint name) stop h = no_query h
  writes_reported db (Release name) stop h = no_query h
  writes_reported db (RollbackTo name) stop h = no_query h
  writes_reported db Nothing stop h = no_query h

  -- ---- what RETURNING shows, and the foreign keys

  shows_reported : (what : Returning) (now : Trees) (rows : List Row) (stop : Option Error) → Shows task what now rows (Err stop) → Reported stop
  shows_reported what now [] stop h = gave h
  shows_reported what now (row ∷ more) stop (inl h) = back h.2 (sourced task.limit (here now) _ what.row h.0 h.1)
  shows_reported what now (row ∷ more) stop (inr (first, is, inl h)) = back h.2 (shows_reported what now more h.0 h.1)
  shows_reported what now (row ∷ more) stop (inr (first, is, inr (others, are, h))) = gave h

  returns_reported : (w : Written) (returning : Option Returning) (stop : Option Error) → Returns task w returning (Err stop) → Reported stop
  returns_reported w None stop h = gave h
  returns_reported w (Some what) stop (inl h) = back h.2 (shows_reported what w.trees w.rows h.0 h.1)
  returns_reported w (Some what) stop (inr (rows, are, inl h)) = back h.2 (subst Reported (sym h.1.1) tt)
  returns_reported w (Some what) stop (inr (rows, are, inr (unit, counted, h))) = gave h

  concludes_reported : (mode : Mode) (returning : Option Returning) (w : Written) (stop : Option Error) → Concludes task mode returning w (Err stop) → Reported stop
  concludes_reported mode returning w stop (inl h) = back h.2 (subst Reported (sym h.1.1) tt)
  concludes_reported mode returning w stop (inr (doubt, tested, inl h)) = back h.2 (returns_reported w returning h.0 h.1)
  concludes_reported mode returning w stop (inr (doubt, tested, inr (rows, shown, h))) = gave h

  on_rows_reported : (mode : Mode) (returning : Option Returning) (command : Command) (db : Trees) (stop : Option Error) → OnRows task mode returning command db (Err stop) → Reported stop
  on_rows_reported mode returning command db stop (inl h) = back h.2 (writes_reported db command h.0 h.1)
  on_rows_reported mode returning command db stop (inr (w, wrote, h)) = concludes_reported mode returning w stop h

  -- ---- a table that is dropped

  empties_reported : (db : Trees) (stop : Option Error) → Empties task db (Err stop) → Reported stop
  empties_reported db stop h = by_bool (is_acted_on task.schema task.keys task.table) (edit_reported task.schema task.keys db (edit_of db task.table (ids_of (db task.table.tree)) Given 0 []) stop) (gave {A = Trees} {a = db}) h

  uncounts_in : (db : Trees) (o : Option Table) (stop : Option Error) → UncountsIn task db o (Err stop) → Reported stop
  uncounts_in db None stop h = gave h
  uncounts_in db (Some counters) stop (inl h) = back h.2 (counter_reported db h.0 h.1)
  uncounts_in db (Some counters) stop (inr (counter, counted, h)) = edit_reported _ _ _ _ stop h

  drops_reported : (mode : Mode) (db : Trees) (stop : Option Error) → Drops task mode db (Err stop) → Reported stop
  drops_reported mode db stop (inl h) = back h.2 (empties_reported db h.0 h.1)
  drops_reported mode db stop (inr (emptied, is, inl h)) = back h.2 (uncounts_in emptied (if task.table.is_counted then sequence task.schema else None) h.0 h.1)
  drops_reported mode db stop (inr (emptied, is, inr (now, done, inl h))) = back h.2 (subst Reported (sym h.1.1) tt)
  drops_reported mode db stop (inr (emptied, is, inr (now, done, inr (doubt, tested, inl (None, none, same))))) = back same tt
  drops_reported mode db stop (inr (emptied, is, inr (now, done, inr (doubt, tested, inl (Some e, none, same))))) = absurd none
  drops_reported mode db stop (inr (emptied, is, inr (now, done, inr (doubt, tested, inr (after, left, h))))) = gave h

-- ---- tables, indexes and views

makes_table : (text : List ℕ) (db : Database) (stop : Option Error) → MakesTable text db (Err stop) → Reported stop
makes_table text db None h = tt
makes_table text db (Some e) (inl h) = of h.1 tt
makes_table text db (Some e) (inr h) = of h.2 (alter_reported h.0)

makes_sequence : (db : Database) (stop : Option Error) → MakesSequence db (Err stop) → Reported stop
makes_sequence db stop h = by_bool (lacks_sequence db.schema) (makes_table sequence_text db stop) gave h

makes_index : (text : List ℕ) (db : Database) (table : Table) (stop : Option Error) → MakesIndex text db table (Err stop) → Reported stop
makes_index text db table None h = tt
makes_index text db table (Some e) (inl h) = of h.1 tt
makes_index text db table (Some e) (inr h) = of h.2 (alter_reported h.0)

makes_view : (text : List ℕ) (db : Database) (stop : Option Error) → MakesView text db (Err stop) → Reported stop
makes_view text db None h = tt
makes_view text db (Some e) (inl h) = of h.1 tt
makes_view text db (Some e) (inr h) = of h.2 (alter_reported h.0)

leaves_reported : (schema : Schema) (db : Trees) (Refused : Error → Type 0) → ((e : Error) → Refused e → NeedsNoFault e) → (stop : Option Error) → Leaves schema db Refused (Err stop) → Reported stop
leaves_reported schema db Refused fine None h = tt
leaves_reported schema db Refused fine (Some e) h = fine e h

defines_reported : (mode : Mode) (Makes : Part Database) → ((stop : Option Error) → Makes (Err stop) → Reported stop) → (stop : Option Error) → Defines mode Makes (Err stop) → Reported stop
defines_reported mode Makes fine stop (inl h) = back h.2 (fine h.0 h.1)
defines_reported mode Makes fine stop (inr (after, made, h)) = gave h

at_place : {X A : Type 0} (P : X → Part A) (o : Option X) → ((x : X) (stop : Option Error) → P x (Err stop) → Reported stop) → (stop : Option Error) → AtPlace P o (Err stop) → Reported stop
at_place P None fine stop h = no_query h
at_place P (Some x) fine stop h = fine x stop h

module _ (limit : Option ℕ) (mode : Mode) (params : Row) (db : Database) where
  redefines_reported : (text : List ℕ) (command : Command) (stop : Option Error) → Redefines limit mode params db text command (Err stop) → Reported stop
  redefines_reported text CreateTable stop (inl (s, inl h, same)) = back same (back h.2 (makes_table text db h.0 h.1))
  redefines_reported text CreateTable stop (inl (s, inr (made, is, h), same)) = back same (makes_sequence made s h)
  redefines_reported text CreateTable stop (inr (after, made, h)) = gave h
  redefines_reported text (CreateIndex at) stop h = at_place _ (slice_get db.schema.tables at) (λ table s k. defines_reported mode (MakesIndex text db table) (makes_index text db table) s k) stop h
  redefines_reported text CreateView stop h = defines_reported mode (MakesView text db) (makes_view text db) stop h
  redefines_reported text (DropTable at) stop h = at_place _ (slice_get db.schema.tables at) (λ table s k. drops_reported (record { limit = limit; keys = mode.keys; schema = db.schema; table = table; params = params }) mode db.trees s k) stop h
  redefines_reported text (DropIndex at) stop h =
      at_place _ (slice_get db.schema.indexes at) (λ index s k. defines_reported mode (Leaves _ db.trees _) (λ x l. leaves_reported (without_index db.schema index.tree) db.trees _ (λ e r. of r.2 (alter_reported r.0)) x l) s k) stop h
  redefines_reported text (DropView at) stop h =
      at_place _ (slice_get db.schema.views at) (λ view s k. defines_reported mode (Leaves _ db.trees (IsKeptAside view)) (λ x l. leaves_reported (without_view db.schema view.tree) db.trees (IsKeptAside view) (λ e r. of r.1 tt) x l) s k) stop h
  redefines_reported text (Select q names) stop h = no_query h
  redefines_reported text (Insert at from) stop h = no_query h
  redefines_reported text (InsertOr at way from clauses) stop h = no_query h
  redefines_reported text (Update at q) stop h = no_query h
  redefines_reported text (Delete at q) stop h = no_query h
  redefines_reported text (Rows values width names) stop h = no_query h
  redefines_reported text Begin stop h = no_query h
  redefines_reported text Commit stop h = no_query h
  redefines_reported text Rollback stop h = no_query h
  redefines_reported text (Savepoint name) stop h = no_query h
  redefines_reported text (Release name) stop h = no_query h
  redefines_reported text (RollbackTo name) stop h = no_query h
  redefines_reported text Nothing stop h = no_query h

  -- outside the rows of a table RETURNING has no meaning
  plainly : (text : List ℕ) (returning : Option Returning) (command : Command) (stop : Option Error)
      → MatchBool (is_some returning) (◌≡◌ {A = Outcome (Tally × Database)} (Err stop) (Err (Some InvalidQuery))) (Redefines limit mode params db text command (Err stop)) → Reported stop
  plainly text returning command stop h = by_bool (is_some returning) no_query (redefines_reported text command stop) h

  on_table : (returning : Option Returning) (at : ℕ) (command : Command) (stop : Option Error)
      → AtPlace (λ table. OnRows (record { limit = limit; keys = mode.keys; schema = db.schema; table = table; params = params }) mode returning command db.trees) (slice_get db.schema.tables at) (Err stop) → Reported stop
  on_table returning at command stop h = at_place _ (slice_get db.schema.tables at) (λ table s k. on_rows_reported (record { limit = limit; keys = mode.keys; schema = db.schema; table = table; params = params }) mode returning command db.trees s k) stop h

  does_reported : (text : List ℕ) (returning : Option Returning) (command : Command) (stop : Option Error) → Does limit mode params db text returning command (Err stop) → Reported stop
  does_reported text returning (Insert at from) stop h = on_table returning at (Insert at from) stop h
  does_reported text returning (InsertOr at way from clauses) stop h = on_table returning at (InsertOr at way from clauses) stop h
  does_reported text returning (Update at q) stop h = on_table returning at (Update at q) stop h
  does_reported text returning (Delete at q) stop h = on_table returning at (Delete at q) stop h
  does_reported text returning (Select q names) stop h = plainly text returning (Select q names) stop h
  does_reported text returning (Rows values width names) stop h = plainly text returning (Rows values width names) stop h
  does_reported text returning CreateTable stop h = plainly text returning CreateTable stop h
  does_reported text returning (CreateIndex at) stop h = plainly text returning (CreateIndex at) stop h
  does_reported text returning CreateView stop h = plainly text returning CreateView stop h
  does_reported text returning (DropTable at) stop h = plainly text returning (DropTable at) stop h
  does_reported text returning (DropIndex at) stop h = plainly text returning (DropIndex at) stop h
  does_reported text returning (DropView at) stop h = plainly text returning (DropView at) stop h
  does_reported text returning Begin stop h = plainly text returning Begin stop h
  does_reported text returning Commit stop h = plainly text returning Commit stop h
  does_reported text returning Rollback stop h = plainly text returning Rollback stop h
  does_reported text returning (Savepoint name) stop h = plainly text returning (Savepoint name) stop h
  does_reported text returning (Release name) stop h = plainly text returning (Release name) stop h
  does_reported text returning (RollbackTo name) stop h = plainly text returning (RollbackTo name) stop h
  does_reported text returning Nothing stop h = plainly text returning Nothing stop h

-- ---- failures

-- the store was open, and no fault was counted
abbrev NoFault : State → State → Type 0
NoFault old new = IsTrue old.is_open × (new.faults ≤ old.faults) × (old.faults < 2 ^ 64 - 1)

-- a part of such a time is such a time
pub faultless_first : (a b c : State) → NoFault a c → b.faults ≤ c.faults → NoFault a b
faultless_first a b c good fewer = (good.0, omega (arith, good.1, fewer), good.2)

pub faultless_next : (a b c : State) {Commits : Trees → Type 0} → NoFault a c → Survives a b Commits → HasCleanDisk b → b.faults ≤ c.faults → NoFault b c
faultless_next a b c good kept clean fewer = (
  elim (kept.closes clean good.0) [ inl opened ↦ opened | inr more ↦ absurd (omega (arith, more, good.1, good.2, fewer)) ],
  omega (arith, good.1, kept.counts),
  omega (arith, good.1, good.2, fewer),
)

module _ (old new : State) (good : NoFault old new) where
  failed : (big : Type 0) (e : Error) → Fails old new big e → NeedsNoFault e
  failed big e (OutOfMemory, is, cause, rolled, reported) = of is tt
  failed big e (Io, is, cause, rolled, reported) = absurd (omega (arith, cause, good.1, good.2))
  failed big e (Corrupt, is, cause, rolled, reported) = absurd (omega (arith, cause, good.1, good.2))
  failed big e (Full, is, cause, rolled, reported) = absurd (omega (arith, cause, good.1, good.2))
  failed big e (Broken, is, cause, rolled, reported) = absurd (let x = cause in let y = good.0 in cc)
  failed big e (Unstorable, is, cause, rolled, reported) = of is tt

  -- where no size is too great, only want of memory is left
  pub failed_wants : (e : Error) → Fails old new ⊥ e → IsWant e
  failed_wants e (OutOfMemory, is, cause, rolled, reported) = is
  failed_wants e (Io, is, cause, rolled, reported) = absurd (omega (arith, cause, good.1, good.2))
  failed_wants e (Corrupt, is, cause, rolled, reported) = absurd (omega (arith, cause, good.1, good.2))
  failed_wants e (Full, is, cause, rolled, reported) = absurd (omega (arith, cause, good.1, good.2))
  failed_wants e (Broken, is, cause, rolled, reported) = absurd (let x = cause in let y = good.0 in cc)
  failed_wants e (Unstorable, is, cause, rolled, reported) = absurd cause

  no_statement : (sql : List ℕ) (params : Row) (e : Error) → IsNoStatement old sql params e → NeedsNoFault e
  no_statement sql params e (inl h) = of h.2 tt
  no_statement sql params e (inr (c, is, inl h)) = of h.1 tt
  no_statement sql params e (inr (c, is, inr (inl h))) = of h.1 tt
  no_statement sql params e (inr (c, is, inr (inr h))) = of h.1 tt

  not_run : (sql : List ℕ) (params : Row) (e : Error) → IsNotRun old new sql params e → NeedsNoFault e
  unfolding IsNotRun
  not_run sql params e (inl h) = no_statement sql params e h.0
  not_run sql params e (inr h) = failed ⊥ e h

  misplaced : (command : Command) (e : Error) → IsMisplaced old command e → NeedsNoFault e
  misplaced command e (inl h) = of h.0 tt
  misplaced command e (inr h) = of h.0 tt

  ran : (sql : List ℕ) (c : Compiled) (params : Row) (e : Error) → RunsCommand old new sql c params (Err e) → NeedsNoFault e
  ran sql c params e (inl h) = elim h.0 [
    | inl wrong ↦ misplaced c.command e wrong
    | inr does ↦ does_reported old.step_limit (mode_of old) params old.now (text_of sql c) c.returning c.command (Some e) does.1
  ]
  ran sql c params e (inr h) = failed _ e h

  alone : (sql : List ℕ) (c : Compiled) (params : Row) (e : Error) → RunsAlone false old new sql c params (Err e) → NeedsNoFault e
  alone sql c params e h = by_bool (shows_rows false c) (λ shows. of (let x = shows.0 in let same : e ≡ ExecuteReturnedResults = cc in same) tt) (ran sql c params e) h

  executed : (sql : List ℕ) (params : Row) (e : Error) → ExecutesIn false sql params old new (Err e) → NeedsNoFault e
  unfolding ExecutesIn
  executed sql params e (inl h) = not_run sql params e h
  executed sql params e (inr h) = alone sql h.0 _ e h.2

  inside : (sql : List ℕ) (params : Row) (e : Error) → ExecutesInside 0 sql params old new (Err e) → NeedsNoFault e
  inside sql params e (inl h) = executed sql params e h.0
  inside sql params e (inr h) = of h.1 tt

  committing : (e : Error) → FailsToCommit old new e → NeedsNoFault e
  committing e (inl h) = failed ⊥ e h
  committing e (inr h) = of h.0 tt

-- ---- the calls

-- the error of a call is handed on
pub handed_on : {T E : Type 0} (P : E → Type 0) (r : Result T E) (e : E) → IsErrAnd r (λ x. x ≡ e) → P e → IfErr r P
handed_on P r e h p = let reported = err_from_is_err_and r h in rw reported.1 (subst P (sym reported.2) p)

-- as `transaction` begins it
pub faultless_begun : {S : Type 0} (g : Ghosts S) (old begun new : Held S) → begun ≡ record old { in_transaction = true } → IsFaultless g old new → IsFaultless g begun new
faultless_begun g old begun new is good = rw is good

module _ {S : Type 0} (g : Ghosts S) (old new : Held S) (good : IsFaultless g old new) where
  -- a statement in a transaction
  pub statement_needs_none : (sql : List ℕ) (params : Row) {r : Result ℕ Error} (e : Error) → r ≡ Err e → ((state g old).in_transaction ≡ false → (r ≡ Err (SqliteFailure code.TransactionState)) × (new ≡ old))
      → (IsTrue (state g old).in_transaction → ExecutesInside 0 sql params (state g old) (state g new) r) → NeedsNoFault e
  statement_needs_none sql params {r} e is ended runs = elim (cases_Bool old.in_transaction) [
    | inl begun ↦ inside (state g old) (state g new) good sql params e (rw is at (runs begun))
    | inr outside ↦ of (let x = (ended outside).0 in let same : e ≡ SqliteFailure code.TransactionState = cc in same) tt
  ]

  pub commit_needs_none : (e : Error) → FailsToCommit (state g old) (state g new) e → NeedsNoFault e
  commit_needs_none e h = committing (state g old) (state g new) good e h

-- the error that is told where SQLite chose the rowid
pub chosen_needs_none : (e reported : Error) → NeedsNoFault e → ((e ≡ SqliteFailure (code.ConstraintViolation PrimaryKey)) × (reported ≡ SqliteFailure code.DatabaseCorrupt)) ⊎ ((reported ≡ e) × (e ≢ SqliteFailure (code.ConstraintViolation PrimaryKey))) → NeedsNoFaultOnRevisions reported
chosen_needs_none e reported fine (inl corrupt) = inr corrupt.1
chosen_needs_none e reported fine (inr other) = inl (of other.0 fine)
