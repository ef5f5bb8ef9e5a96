-- What a statement on the seven tables does.
use Rattle.std.proofs.Common.{◌≡◌, ◌⊎◌, inl, inr, ℕ, ◌/◌, List, [], length, slice_get, false, Some, None, Option, Ok, Err, Result, refl, sym, ap, subst, subst₂, ◌∙◌, ℤ}
use Rattle.sqlite.specs.Order.{Row}
use Rattle.sqlite.specs.Term.{Term}
use Rattle.sqlite.specs.Table.{Table}
use Rattle.sqlite.specs.Source.TheVariants.{Values}
use Rattle.sqlite.specs.Command.{Command}
use Rattle.sqlite.specs.Command.TheVariants.{Insert, Update, Delete}
use Rattle.sqlite_schema.specs.declared.program.Program.{Program}
use Rattle.sqlite.specs.Edit.{Edit, edit_of, Applies}
use Rattle.sqlite.specs.Rowids.TheVariants.{Chosen, Given}
use Rattle.sqlite_schema.specs.declared.schema.Keys.TheVariants.{Enforced}
use Rattle.sqlite_rules.specs.Calls.{ids_of}
use Rattle.sqlite.specs.Does.{Tally, Does, OnRows, WritesRows, AtPlace}
use Rattle.sqlite.specs.declared.run.Mode.{Mode}
use Rattle.sqlite.specs.Rows.{Written, Task, Edited, Counts, rowids_for, Inserts, Updates, Deletes, stamped}
use Rattle.sqlite.specs.Effect.{Database, Answers, value_rows}
use Rattle.sqlite.specs.State.{State, mode_of, Runs}
use Rattle.sqlite.specs.Tree.{Trees}
use Rattle.sqlite.proofs.Callers.{one_step}
use Rattle.tb_tables.specs.Layout.{desk_schema}

-- a part that gave a value did not stop on the way
went : {B E R : Type 0} {b : B} {Stops : E → Type 0} → ((stop : E) × Stops stop × (Ok b ≡ Err stop)) ⊎ R → R
went (inl stopped) = absurd (let e = stopped.2 in cc)
went (inr on) = on

same_value : {B E : Type 0} {a b : B} → ◌≡◌ {A = Result B E} (Ok a) (Ok b) → a ≡ b
same_value e = cc

module _ (task : Task) where
  wrote : (mode : Mode) (command : Command) (db : Trees) (out : Tally × Database) → OnRows task mode None command db (Ok out)
      → (w : Written) × WritesRows task db command (Ok w) × (out.1 ≡ record { schema = task.schema; trees = w.trees })
  wrote mode command db out h =
      let a = went h in
      (a.0, a.1, ap (λ (p : Tally × Database). p.1) (same_value (went (went a.2).2).2))

  uncounted : (db next : Trees) (counter : Option Row) (top : ℤ) → task.table.is_counted ≡ false → Counts task db counter top (Ok next) → next ≡ db
  uncounted db next counter top plain h = same_value (rw plain at h)

  chosen : (top : ℤ) → task.table.is_counted ≡ false → rowids_for task.table top ≡ Chosen
  chosen top plain = rw plain

  inserted : (terms : List Term) (width : ℕ) (db : Trees) (w : Written) → task.table.is_counted ≡ false → Inserts task (Values terms width) db (Ok w)
      → Edited task.schema task.keys db (edit_of db task.table [] Chosen 0 (value_rows (stamped task.table task.params) width (length terms / width) terms)) (Ok w.trees)
  inserted terms width db w plain h =
      let a = went h in
      let b = went a.2 in
      let c = went b.2 in
      let d = went c.2 in
      let trees : c.0 ≡ w.trees = sym (ap (λ (it : Written). it.trees) (same_value d.2) ∙ uncounted c.0 d.0 b.0 _ plain d.1) in
      let first = subst (λ r. Edited task.schema task.keys db (edit_of db task.table [] r 0 a.0) (Ok c.0)) (chosen _ plain) c.1 in
      subst₂ (λ rows t. Edited task.schema task.keys db (edit_of db task.table [] Chosen 0 rows) (Ok t)) a.1.1 trees first

  updated : (q : Program) (db : Trees) (w : Written) → Updates task q task.params db (Ok w)
      → (rows : List Row) × Answers (record { schema = task.schema; trees = db }) q task.params rows × Edited task.schema task.keys db (edit_of db task.table (ids_of rows) Given 1 rows) (Ok w.trees)
  updated q db w h =
      let a = went h in
      let b = went a.2 in
      (a.0, a.1, subst (λ t. Edited task.schema task.keys db (edit_of db task.table (ids_of a.0) Given 1 a.0) (Ok t)) (sym (ap (λ (it : Written). it.trees) (same_value b.2))) b.1)

  deleted : (q : Program) (db : Trees) (w : Written) → Deletes task q db (Ok w)
      → (rows : List Row) × Answers (record { schema = task.schema; trees = db }) q task.params rows × Edited task.schema task.keys db (edit_of db task.table (ids_of rows) Given 0 []) (Ok w.trees)
  deleted q db w h =
      let a = went h in
      let b = went a.2 in
      (a.0, a.1, subst (λ t. Edited task.schema task.keys db (edit_of db task.table (ids_of a.0) Given 0 []) (Ok t)) (sym (ap (λ (it : Written). it.trees) (same_value b.2))) b.1)

-- one table was edited
pub record Edits (old new : State) (edit : Edit) : Type 0 where
  pub schema : new.now.schema ≡ desk_schema
  pub applies : Applies desk_schema Enforced old.now.trees edit new.now.trees

module _ (old new : State) (has : old.now.schema ≡ desk_schema) (at : ℕ) (table : Table) (is : slice_get desk_schema.tables at ≡ Some table) where
  abbrev task : Row → Task
  task params = record { limit = old.step_limit; keys = Enforced; schema = desk_schema; table = table; params = params }

  pub inserts : (terms : List Term) (width : ℕ) (text : List ℕ) (params : Row) (count : ℕ) → table.is_counted ≡ false → Runs old new None (Insert at (Values terms width)) text params count
      → Edits old new (edit_of old.now.trees table [] Chosen 0 (value_rows (stamped table params) width (length terms / width) terms))
  inserts terms width text params count plain w =
      let does = subst (λ s. Does old.step_limit (mode_of old) params (record old.now { schema = s }) text None (Insert at (Values terms width)) (Ok (w.tally, new.now))) has w.changed in
      let done = wrote (task params) (mode_of old) (Insert at (Values terms width)) old.now.trees (w.tally, new.now) (subst (λ o. AtPlace (λ table. OnRows (record { limit = old.step_limit; keys = Enforced; schema = desk_schema; table = table; params = params }) (mode_of old) None (Insert at (Values terms width)) old.now.trees) o (Ok (w.tally, new.now))) is does) in
      let went = inserted (task params) terms width old.now.trees done.0 plain done.1 in
      record { schema = ap (λ (d : Database). d.schema) done.2; applies = subst (Applies desk_schema Enforced old.now.trees _) (sym (ap (λ (d : Database). d.trees) done.2)) (one_step desk_schema Enforced old.now.trees done.0.trees _ refl went) }

  pub updates : (q : Program) (text : List ℕ) (params : Row) (count : ℕ) → Runs old new None (Update at q) text params count
      → (rows : List Row) × Answers (record { schema = desk_schema; trees = old.now.trees }) q params rows × Edits old new (edit_of old.now.trees table (ids_of rows) Given 1 rows)
  updates q text params count w =
      let does = subst (λ s. Does old.step_limit (mode_of old) params (record old.now { schema = s }) text None (Update at q) (Ok (w.tally, new.now))) has w.changed in
      let done = wrote (task params) (mode_of old) (Update at q) old.now.trees (w.tally, new.now) (subst (λ o. AtPlace (λ table. OnRows (record { limit = old.step_limit; keys = Enforced; schema = desk_schema; table = table; params = params }) (mode_of old) None (Update at q) old.now.trees) o (Ok (w.tally, new.now))) is does) in
      let went = updated (task params) q old.now.trees done.0 done.1 in
      (went.0, went.1, record { schema = ap (λ (d : Database). d.schema) done.2; applies = subst (Applies desk_schema Enforced old.now.trees _) (sym (ap (λ (d : Database). d.trees) done.2)) (one_step desk_schema Enforced old.now.trees done.0.trees _ refl went.2) })

  pub deletes : (q : Program) (text : List ℕ) (params : Row) (count : ℕ) → Runs old new None (Delete at q) text params count
      → (rows : List Row) × Answers (record { schema = desk_schema; trees = old.now.trees }) q params rows × Edits old new (edit_of old.now.trees table (ids_of rows) Given 0 [])
  deletes q text params count w =
      let does = subst (λ s. Does old.step_limit (mode_of old) params (record old.now { schema = s }) text None (Delete at q) (Ok (w.tally, new.now))) has w.changed in
      let done = wrote (task params) (mode_of old) (Delete at q) old.now.trees (w.tally, new.now) (subst (λ o. AtPlace (λ table. OnRows (record { limit = old.step_limit; keys = Enforced; schema = desk_schema; table = table; params = params }) (mode_of old) None (Delete at q) old.now.trees) o (Ok (w.tally, new.now))) is does) in
      let went = deleted (task params) q old.now.trees done.0 done.1 in
      (went.0, went.1, record { schema = ap (λ (d : Database). d.schema) done.2; applies = subst (Applies desk_schema Enforced old.now.trees _) (sym (ap (λ (d : Database). d.trees) done.2)) (one_step desk_schema Enforced old.now.trees done.0.trees _ refl went.2) })
