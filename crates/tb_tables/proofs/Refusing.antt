-- A write that keeps the rules of the tables is refused nothing: what is left are want of memory, the device, and a row
-- that is too big.
use Rattle.std.proofs.Common.{◌≡◌, ◌⊎◌, inl, inr, ℕ, zero, suc, ◌||◌, Bool, true, false, List, [], ◌∷◌, length, length-append, append-nil, refl, sym, ap, subst, subst₂, ◌∙◌, arith, Option, Some, None, Result, Ok, Err, option_map, ℤ}
use Rattle.std.specs.List.{list_all}
use Rattle.sqlite.specs.Order.{Row}
use Rattle.sqlite.specs.Tree.{Trees, rowid, with_tree}
use Rattle.sqlite.specs.Table.{Table}
use Rattle.sqlite.specs.Schema.{Schema}
use Rattle.sqlite.specs.Source.{Source}
use Rattle.sqlite.specs.Command.{Command}
use Rattle.sqlite.specs.Command.TheVariants.{Insert, Update, Delete, CreateTable}
use Rattle.sqlite.specs.Edit.{Edit, edit_of, edited}
use Rattle.sqlite.specs.Rowids.TheVariants.{Chosen, Given}
use Rattle.sqlite.specs.Effect.{Database, Answers, RefusesQuery, IsSource, RefusesSource, is_query, edit_error}
use Rattle.sqlite.specs.Rows.{Task, Outcome, Inserts, Updates, Deletes, Queried, Sourced, Edited, rowids_for, stamped}
use Rattle.sqlite.specs.Does.{due, Does, OnRows, WritesRows}
use Rattle.sqlite.specs.Clock.{timed}
use Rattle.sqlite.specs.Listing.{understood}
use Rattle.sqlite.specs.State.{State, Fails, HasCause, mode_of, ExecutesInside, ExecutesIn, IsNotRun, EndsScope, text_of, IsNoStatement, IsMisplaced, IsStatement, RunsAlone, RunsCommand, is_pragma, shows_rows}
use Rattle.sqlite.specs.declared.error.Error.{Error}
use Rattle.sqlite.specs.declared.error.Error.TheVariants.{SqliteFailure}
use Rattle.sqlite.specs.declared.error.ErrorCode.TheVariants as code
use Rattle.sqlite.specs.declared.run.Mode.{Mode}
use Rattle.sqlite.proofs.Callers.{IsPlain, command_of, statement_of}
use Rattle.sqlite_resolve.specs.declared.compiled.Compiled.{Compiled}
use Rattle.sqlite_resolve.specs.declared.error.CompileError.{CompileError}
use Rattle.sqlite_schema.specs.declared.program.Program.{Program}
use Rattle.sqlite_schema.specs.declared.schema.Among.{Among}
use Rattle.sqlite_schema.specs.declared.schema.Keys.TheVariants.{Enforced}
use Rattle.sqlite_schema.specs.declared.schema.Constraint.TheVariants.{Datatype, NotNull, Check, PrimaryKey, Unique, ForeignKey}
use Rattle.sqlite_schema.specs.Rules.{Keeps, Refers, passes}
use Rattle.sqlite_rules.specs.declared.error.Refusal.{Refusal}
use Rattle.sqlite_rules.specs.declared.error.Refusal.TheVariants.{Violates, Mismatch, NoRowid, BadReference, TooDeep}
use Rattle.sqlite_rules.specs.Edit.{IsRefused, IsOversized, is_referred, are_fresh, left_by, have_rowids, id_in}
use Rattle.sqlite_rules.specs.Lists.{Has}
use Rattle.sqlite_rules.specs.Action.{Leads, Writes}
use Rattle.sqlite_rules.specs.Calls.{ids_of}
use Rattle.sqlite_sql.specs.Ops.{fits_i64}
use Rattle.sqlite_trees.specs.declared.error.StoreError.{StoreError}
use Rattle.sqlite_trees.specs.declared.error.StoreError.TheVariants.{OutOfMemory, Io, Corrupt, Full, Broken, Unstorable}
use Rattle.sqlite_trees.proofs.ListLemmas.{all_of}
use Rattle.tb_tables.specs.Layout.{desk_schema}
use Rattle.tb_tables.specs.Failing.{IsDiskFaultOrWant, IsStoreFault, IsWant, IsWhole, NeedsNoFault}

-- ---- an edit

-- SQLite has no rowid left to choose, or the one above the last row's is taken
abbrev pub IsIdRefusal : Error → Type 0
IsIdRefusal e = (e ≡ SqliteFailure code.NoRowid) ⊎ (e ≡ SqliteFailure (code.ConstraintViolation PrimaryKey))

-- what stops a statement: a row that cannot be stored, or an error
abbrev pub Stops : Type 0 → (Error → Type 0) → Option Error → Type 0
Stops Big P None = Big
Stops Big P (Some e) = P e

-- a new row of the edit cannot be stored
abbrev pub HasOversized : Edit → Type 0
HasOversized edit = (row : Row) × Has edit.news row × IsOversized desk_schema edit.table row

-- the edit breaks no rule but for its rowids, and a row of it that cannot be stored is so big
pub record IsRuled (Big : Type 0) (db : Trees) (edit : Edit) : Type 0 where
  pub typed : list_all (passes Datatype desk_schema db edit.table) edit.news ≡ true
  pub present : list_all (passes NotNull desk_schema db edit.table) edit.news ≡ true
  pub checked : list_all (passes Check desk_schema db edit.table) edit.news ≡ true
  pub keyed : have_rowids edit.news ≡ true
  pub referred : is_referred desk_schema Enforced edit ≡ true
  pub unique : Keeps Unique desk_schema (with_tree db edit.table.tree (edited db edit))
  pub big : HasOversized edit → Big

-- it breaks no rule
pub record IsAllowed (Big : Type 0) (db : Trees) (edit : Edit) : Type 0 where
  pub typed : list_all (passes Datatype desk_schema db edit.table) edit.news ≡ true
  pub present : list_all (passes NotNull desk_schema db edit.table) edit.news ≡ true
  pub checked : list_all (passes Check desk_schema db edit.table) edit.news ≡ true
  pub keyed : have_rowids edit.news ≡ true
  pub fresh : are_fresh (left_by db edit) edit.news ≡ true
  pub fits : list_all (λ r. fits_i64 (id_in (rowid r))) edit.news ≡ true
  pub referred : is_referred desk_schema Enforced edit ≡ true
  pub unique : Keeps Unique desk_schema (with_tree db edit.table.tree (edited db edit))
  pub big : HasOversized edit → Big

pub never_both : (b : Bool) → b ≡ true → b ≡ false → ⊥
never_both b t f = absurd cc

only_ids : {Big : Type 0} (db : Trees) (edit : Edit) → IsRuled Big db edit → (why : Refusal) → IsRefused desk_schema Enforced db edit why → (why ≡ NoRowid) ⊎ (why ≡ Violates PrimaryKey)
only_ids db edit a (Violates Datatype) h = absurd (never_both _ a.typed h)
only_ids db edit a (Violates NotNull) h = absurd (never_both _ a.present h)
only_ids db edit a (Violates Check) h = absurd (never_both _ a.checked h)
only_ids db edit a (Violates PrimaryKey) h = inr refl
only_ids db edit a (Violates Unique) h = absurd (h a.unique)
only_ids db edit a (Violates ForeignKey) h = absurd h
only_ids db edit a Mismatch h = absurd (never_both _ a.keyed h)
only_ids db edit a NoRowid h = inl refl
only_ids db edit a BadReference h = absurd (never_both _ a.referred h)
only_ids db edit a TooDeep h = absurd h

ruled : {Big : Type 0} (db : Trees) (edit : Edit) → IsAllowed Big db edit → IsRuled Big db edit
ruled db edit a = record { typed = a.typed; present = a.present; checked = a.checked; keyed = a.keyed; referred = a.referred; unique = a.unique; big = a.big }

no_refusal : {Big : Type 0} (db : Trees) (edit : Edit) → IsAllowed Big db edit → (why : Refusal) → IsRefused desk_schema Enforced db edit why → ⊥
no_refusal db edit a why h = elim (only_ids db edit (ruled db edit a) why h) [
  | inl room ↦ never_both _ a.fits (subst (IsRefused desk_schema Enforced db edit) room h)
  | inr taken ↦ never_both _ a.fresh (subst (IsRefused desk_schema Enforced db edit) taken h)
]

never_leads : (why : Option Refusal) (k : ℕ) (next : Trees) → Leads desk_schema Enforced k next [] (Err why) → ⊥
never_leads why zero next l = absurd (let e = l.1 in cc)
never_leads why (suc k) next l = omega (arith, ap length l.2, length-append l.0 (l.1 ∷ []))

-- such an edit ends in its trees, at a row that cannot be stored, or as its refusals do
module _ (Big : Type 0) (P : Error → Type 0) (db : Trees) (edit : Edit) (big : HasOversized edit → Big) (refused : (why : Refusal) → IsRefused desk_schema Enforced db edit why → P (edit_error why)) where
  ends : (why : Option Refusal) → Writes desk_schema Enforced db edit (Err why) → Stops Big P (option_map edit_error why)
  ends None (inl h) = absurd (let x = h.2 in cc)
  ends None (inr (inl h)) = big (h.0, h.1, h.2)
  ends None (inr (inr h)) = absurd (never_leads None h.2.0 h.0 h.2.1)
  ends (Some why) (inl h) = let same : h.0 ≡ why = (let x = h.2 in cc) in subst (λ w. P (edit_error w)) same (refused h.0 h.1)
  ends (Some why) (inr (inl h)) = absurd (let x = h.3 in cc)
  ends (Some why) (inr (inr h)) = absurd (never_leads (Some why) h.2.0 h.0 h.2.1)

  stops : (stop : Option Error) → Edited desk_schema Enforced db edit (Err stop) → Stops Big P stop
  stops stop h = subst (Stops Big P) (sym h.2) (ends h.0 h.1)

edit_stops : (Big : Type 0) (db : Trees) (edit : Edit) (stop : Option Error) → IsAllowed Big db edit → Edited desk_schema Enforced db edit (Err stop) → Stops Big (λ _. ⊥) stop
edit_stops Big db edit stop a h = stops Big (λ _. ⊥) db edit a.big (λ why r. no_refusal db edit a why r) stop h

-- or at a rowid
pub id_stops : (Big : Type 0) (db : Trees) (edit : Edit) (stop : Option Error) → IsRuled Big db edit → Edited desk_schema Enforced db edit (Err stop) → Stops Big IsIdRefusal stop
id_stops Big db edit stop a h = stops Big IsIdRefusal db edit a.big (λ why r. elim (only_ids db edit a why r) [ inl room ↦ inl (ap edit_error room) | inr taken ↦ inr (ap edit_error taken) ]) stop h

refers_all : (among : Among) (db : Trees) → Refers among desk_schema db
refers_all among db = (
  all_of _ (λ row. refl) (db 0),
  (
    all_of _ (λ row. refl) (db 1),
    (all_of _ (λ row. refl) (db 3), (all_of _ (λ row. refl) (db 5), (all_of _ (λ row. refl) (db 7), (all_of _ (λ row. refl) (db 8), (all_of _ (λ row. refl) (db 9), tt))))),
  ),
)

-- ---- a statement on the rows of a table

module _ (db : Trees) (table : Table) (params : Row) where
  abbrev task : Task
  task = record { limit = None; keys = Enforced; schema = desk_schema; table = table; params = params }

  abbrev here : Database
  here = record { schema = desk_schema; trees = db }

  module _ (Stop : Option Error → Type 0) (from : Source) (plain : table.is_counted ≡ false) (given : (e : Error) → RefusesSource None here (stamped table params) from e → ⊥)
      (stops : (rows : List Row) → IsSource here (stamped table params) from rows → (stop : Option Error) → Edited desk_schema Enforced db (edit_of db table [] Chosen 0 rows) (Err stop) → Stop stop) where
    sourced : (stop : Option Error) → Sourced None here (stamped table params) from (Err stop) → ⊥
    sourced None h = h
    sourced (Some e) h = given e h

    chosen : (top : ℤ) → rowids_for table top ≡ Chosen
    chosen top = rw plain

    pub inserts_by : (stop : Option Error) → Inserts task from db (Err stop) → Stop stop
    inserts_by stop (inl h) = absurd (sourced h.0 h.1)
    inserts_by stop (inr (rows, is, inl h)) = absurd (let x = rw plain at h.1 in cc)
    inserts_by stop (inr (rows, is, inr (counter, counted, inl h))) =
        let first = subst (λ r. Edited desk_schema Enforced db (edit_of db table [] r 0 rows) (Err h.0)) (chosen _) h.1 in
        let same : h.0 ≡ stop = (let x = h.2 in cc) in
        subst Stop same (stops rows is h.0 first)
    inserts_by stop (inr (rows, is, inr (counter, counted, inr (mid, done, inl h)))) = absurd (let x = rw plain at h.1 in cc)
    inserts_by stop (inr (rows, is, inr (counter, counted, inr (mid, done, inr (next, kept, h))))) = absurd cc

  module _ (Big : Type 0) (from : Source) (plain : table.is_counted ≡ false) (given : (e : Error) → RefusesSource None here (stamped table params) from e → ⊥)
      (allowed : (rows : List Row) → IsSource here (stamped table params) from rows → IsAllowed Big db (edit_of db table [] Chosen 0 rows)) where
    pub inserts_stop : (stop : Option Error) → Inserts task from db (Err stop) → Stops Big (λ _. ⊥) stop
    inserts_stop = inserts_by (Stops Big (λ _. ⊥)) from plain given (λ rows is stop h. edit_stops Big db (edit_of db table [] Chosen 0 rows) stop (allowed rows is) h)

  module _ (Big : Type 0) (q : Program) (given : (e : Error) → RefusesQuery None here q params e → ⊥) where
    queried : (stop : Option Error) → Queried None here q params (Err stop) → ⊥
    queried None h = h
    queried (Some e) h = given e h

    -- the part stops as its edit did
    back : {A : Type 0} (stop s : Option Error) → ◌≡◌ {A = Outcome A} (Err stop) (Err s) → Stops Big (λ _. ⊥) s → Stops Big (λ _. ⊥) stop
    back stop s is reported = subst (Stops Big (λ _. ⊥)) (let same : s ≡ stop = cc in same) reported

    pub updates_stop : ((rows : List Row) → Answers here q params rows → IsAllowed Big db (edit_of db table (ids_of rows) Given 1 rows)) → (stop : Option Error) → Updates task q params db (Err stop) → Stops Big (λ _. ⊥) stop
    updates_stop allowed stop (inl h) = absurd (queried h.0 h.1)
    updates_stop allowed stop (inr (rows, is, inl h)) = back stop h.0 h.2 (edit_stops Big db (edit_of db table (ids_of rows) Given 1 rows) h.0 (allowed rows is) h.1)
    updates_stop allowed stop (inr (rows, is, inr (next, done, h))) = absurd cc

    pub deletes_stop : ((rows : List Row) → Answers here q params rows → IsAllowed Big db (edit_of db table (ids_of rows) Given 0 [])) → (stop : Option Error) → Deletes task q db (Err stop) → Stops Big (λ _. ⊥) stop
    deletes_stop allowed stop (inl h) = absurd (queried h.0 h.1)
    deletes_stop allowed stop (inr (rows, is, inl h)) = back stop h.0 h.2 (edit_stops Big db (edit_of db table (ids_of rows) Given 0 []) h.0 (allowed rows is) h.1)
    deletes_stop allowed stop (inr (rows, is, inr (next, done, h))) = absurd cc

  module _ (Stop : Option Error → Type 0) (mode : Mode) (command : Command) (may : (stop : Option Error) → WritesRows task db command (Err stop) → Stop stop) where
    pub does_by : (stop : Option Error) → OnRows task mode None command db (Err stop) → Stop stop
    does_by stop (inl h) = let same : h.0 ≡ stop = (let x = h.2 in cc) in subst Stop same (may h.0 h.1)
    does_by stop (inr (w, wrote, inl h)) = absurd (h.1.0 (refers_all (due mode) w.trees))
    does_by stop (inr (w, wrote, inr (doubt, tested, inl h))) = absurd (let x = h.1 in cc)
    does_by stop (inr (w, wrote, inr (doubt, tested, inr (rows, shown, h)))) = absurd cc

-- ---- a failure of the store

cause_as : {A B : Type 0} → (A → B) → (old new : State) (why : StoreError) → HasCause old new A why → HasCause old new B why
cause_as f old new OutOfMemory h = h
cause_as f old new Io h = h
cause_as f old new Corrupt h = h
cause_as f old new Full h = h
cause_as f old new Broken h = h
cause_as f old new Unstorable h = f h

-- what is too big is said in other words
pub fails_as : {A B : Type 0} → (A → B) → (old new : State) (e : Error) → Fails old new A e → Fails old new B e
fails_as f old new e (why, is, cause, rolled, reported) = (why, is, cause_as f old new why cause, rolled, reported)

pub store_fault : {Big : Type 0} (old new : State) (e : Error) → Fails old new Big e → IsStoreFault e
store_fault old new e h = (h.0, h.1)

-- ---- from the text

-- a command that writes, and neither begins nor ends anything
abbrev pub IsWriting : Command → Type 0
IsWriting (Insert at from) = Unit {0}
IsWriting (Update at q) = Unit {0}
IsWriting (Delete at q) = Unit {0}
IsWriting CreateTable = Unit {0}
IsWriting _ = ⊥

-- what a text is under a schema
pub record IsWrite (schema : Schema) (sql : List ℕ) (count : ℕ) (command : Command) : Type 0 where
  pub writing : IsWriting command
  pub quiet : (is_query command || (is_pragma command || false)) ≡ false
  pub is : command_of (understood schema sql) ≡ command
  pub plain : IsPlain (understood schema sql)
  pub whole : IsWhole (length sql) count (understood schema sql)

-- what stops the command itself is the caller's to say
module _ (Big : Type 0) (P : Error → Type 0) (old new : State) (schema : Schema) (sql : List ℕ) (params : Row) (command : Command) (has : old.now.schema ≡ schema)
    (it : IsWrite schema sql (length params) command)
    (may : (stop : Option Error) → Does old.step_limit (mode_of old) params old.now (statement_of sql (understood schema sql)) None command (Err stop) → Stops Big P stop) where
  whole_here : (r : Result Compiled CompileError) → understood old.now.schema sql ≡ r → IsWhole (length sql) (length params) r
  whole_here r is = subst (IsWhole (length sql) (length params)) (sym (ap (λ s. understood s sql) has) ∙ is) it.whole

  plain_here : (r : Result Compiled CompileError) → understood old.now.schema sql ≡ r → IsPlain r
  plain_here r is = subst IsPlain (sym (ap (λ s. understood s sql) has) ∙ is) it.plain

  command_here : (c : Compiled) → understood old.now.schema sql ≡ Ok c → c.command ≡ command
  command_here c is = ap command_of (sym is ∙ ap (λ s. understood s sql) has) ∙ it.is

  no_statement : (e : Error) → IsNoStatement old sql params e → ⊥
  no_statement e (inl h) = whole_here (Err h.0) h.1
  no_statement e (inr (c, is, inl h)) = h.0 (whole_here (Ok c) is).0
  no_statement e (inr (c, is, inr (inl h))) = h.0 (whole_here (Ok c) is).1
  no_statement e (inr (c, is, inr (inr h))) = h.0 (plain_here (Ok c) is).1

  not_run : (e : Error) → IsNotRun old new sql params e → Fails old new Big e
  unfolding IsNotRun
  not_run e (inl h) = absurd (no_statement e h.0)
  not_run e (inr h) = fails_as (λ none. absurd none) old new e h

  misplaced : (e : Error) → IsMisplaced old command e → ⊥
  misplaced e (inl (is, inl h)) = subst IsWriting h.0 it.writing
  misplaced e (inl (is, inr (inl x, mode))) = subst IsWriting x it.writing
  misplaced e (inl (is, inr (inr x, mode))) = subst IsWriting x it.writing
  misplaced e (inr (is, name, inl x, unnamed)) = subst IsWriting x it.writing
  misplaced e (inr (is, name, inr x, unnamed)) = subst IsWriting x it.writing

  ran : (c : Compiled) (at : IsStatement old sql params c) (e : Error) → RunsAlone false old new sql c (timed params c.formats at.now) (Err e) → Fails old new Big e ⊎ P e
  ran c at e h =
      let bare = plain_here (Ok c) at.is in
      let this = command_here c at.is in
      let text : text_of sql c ≡ statement_of sql (understood schema sql) = ap (statement_of sql) (sym at.is ∙ ap (λ s. understood s sql) has) in
      let still : shows_rows false c ≡ false = rw (this, bare.0) it.quiet in
      let run : RunsCommand old new sql c (timed params c.formats at.now) (Err e) = rw still at h in
      let here : (stop : Option Error) → Does old.step_limit (mode_of old) (timed params c.formats at.now) old.now (text_of sql c) c.returning c.command (Err stop) → Stops Big P stop =
      λ stop does. may stop (subst₂ (λ k t. Does old.step_limit (mode_of old) params old.now t None k (Err stop)) this text (rw (bare.0, bare.1, append-nil params) at does)) in
      elim run [
        | inl none ↦ inr (elim none.0 [
          | inl wrong ↦ absurd (misplaced e (subst (λ k. IsMisplaced old k e) this wrong))
          | inr does ↦ here (Some e) does.1
        ])
        | inr f ↦ inl (fails_as (here None) old new e f)
      ]

  escapes : EndsScope 0 sql params old → ⊥
  unfolding EndsScope
  escapes h =
      let this = sym (command_here h.0 h.1.is) in
      elim h.2 [
        | inl ends ↦ elim ends [ inl x ↦ subst IsWriting (this ∙ x) it.writing | inr x ↦ subst IsWriting (this ∙ x) it.writing ]
        | inr scope ↦ elim scope.1 [ inl x ↦ subst IsWriting (this ∙ x) it.writing | inr x ↦ subst IsWriting (this ∙ x) it.writing ]
      ]

  executed : (e : Error) → ExecutesIn false sql params old new (Err e) → Fails old new Big e ⊎ P e
  unfolding ExecutesIn
  executed e (inl h) = inl (not_run e h)
  executed e (inr h) = ran h.0 h.1 e h.2

  pub fails_or : (e : Error) → ExecutesInside 0 sql params old new (Err e) → Fails old new Big e ⊎ P e
  fails_or e (inl h) = executed e h.0
  fails_or e (inr h) = absurd (escapes h.0)

fault_only : {Big : Type 0} (old new : State) (e : Error) → Fails old new Big e ⊎ ⊥ → Fails old new Big e
fault_only old new e (inl fault) = fault
fault_only old new e (inr none) = absurd none

-- a failure where nothing is too big
pub disk_fault : (old new : State) (e : Error) → Fails old new ⊥ e → IsDiskFaultOrWant e
disk_fault old new e (OutOfMemory, is, cause, rolled, reported) = (OutOfMemory, (λ x. absurd cc), is)
disk_fault old new e (Io, is, cause, rolled, reported) = (Io, (λ x. absurd cc), is)
disk_fault old new e (Corrupt, is, cause, rolled, reported) = (Corrupt, (λ x. absurd cc), is)
disk_fault old new e (Full, is, cause, rolled, reported) = (Full, (λ x. absurd cc), is)
disk_fault old new e (Broken, is, cause, rolled, reported) = (Broken, (λ x. absurd cc), is)
disk_fault old new e (Unstorable, is, cause, rolled, reported) = absurd cause

-- an error that needs neither a size nor a fault of the disk is want of memory
pub want_left : (e : Error) → IsDiskFaultOrWant e → NeedsNoFault e → IsWant e
want_left e (OutOfMemory, small, is) none = is
want_left e (Io, small, is) none = absurd (subst NeedsNoFault is none)
want_left e (Corrupt, small, is) none = absurd (subst NeedsNoFault is none)
want_left e (Full, small, is) none = absurd (subst NeedsNoFault is none)
want_left e (Broken, small, is) none = absurd (subst NeedsNoFault is none)
want_left e (Unstorable, small, is) none = absurd (small refl)

-- of a command that is refused nothing, and to which nothing is too big
pub only_fails : (old new : State) (schema : Schema) (sql : List ℕ) (params : Row) (command : Command) → old.now.schema ≡ schema → IsWrite schema sql (length params) command
    → ((stop : Option Error) → Does old.step_limit (mode_of old) params old.now (statement_of sql (understood schema sql)) None command (Err stop) → ⊥)
    → (e : Error) → ExecutesInside 0 sql params old new (Err e) → IsDiskFaultOrWant e
only_fails old new schema sql params command has it never e ran =
    disk_fault old new e (fault_only old new e (fails_or ⊥ (λ _. ⊥) old new schema sql params command has it (λ stop h. absurd (never stop h)) e ran))

-- a statement on the rows of one of the tables
pub rows_fail_or : (Big : Type 0) (P : Error → Type 0) (old new : State) (sql : List ℕ) (params : Row) (command : Command) (table : Table) → old.now.schema ≡ desk_schema → old.step_limit ≡ None
    → IsWrite desk_schema sql (length params) command
    → ((stop : Option Error) → Does None (mode_of old) params (record { schema = desk_schema; trees = old.now.trees }) (statement_of sql (understood desk_schema sql)) None command (Err stop)
    → OnRows (task old.now.trees table params) (mode_of old) None command old.now.trees (Err stop))
    → ((stop : Option Error) → WritesRows (task old.now.trees table params) old.now.trees command (Err stop) → Stops Big P stop) → (e : Error) → ExecutesInside 0 sql params old new (Err e) → Fails old new Big e ⊎ P e
rows_fail_or Big P old new sql params command table has unlimited it at may =
    fails_or Big P old new desk_schema sql params command has it
    (λ stop h. does_by old.now.trees table params (Stops Big P) (mode_of old) command may stop
    (at stop (subst₂ (λ l s. Does l (mode_of old) params (record old.now { schema = s }) (statement_of sql (understood desk_schema sql)) None command (Err stop)) unlimited has h)))

pub rows_fail : (Big : Type 0) (old new : State) (sql : List ℕ) (params : Row) (command : Command) (table : Table) → old.now.schema ≡ desk_schema → old.step_limit ≡ None → IsWrite desk_schema sql (length params) command
    → ((stop : Option Error) → Does None (mode_of old) params (record { schema = desk_schema; trees = old.now.trees }) (statement_of sql (understood desk_schema sql)) None command (Err stop)
    → OnRows (task old.now.trees table params) (mode_of old) None command old.now.trees (Err stop))
    → ((stop : Option Error) → WritesRows (task old.now.trees table params) old.now.trees command (Err stop) → Stops Big (λ _. ⊥) stop) → (e : Error) → ExecutesInside 0 sql params old new (Err e) → Fails old new Big e
rows_fail Big old new sql params command table has unlimited it at may e ran = fault_only old new e (rows_fail_or Big (λ _. ⊥) old new sql params command table has unlimited it at may e ran)
