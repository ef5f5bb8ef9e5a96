-- Between crates: no contract of a front door cites a definition of this module.
-- Rows that are read one at a time.
use Rattle.std.specs.Prelude.{◌≡◌, ℕ, pos, codes, List, [], ◌∷◌, ◌++◌, map, All, Option, Some, None, false, Result, Err}
use Rattle.std.specs.Prelude.{IfOk, IfErr, OnOk, IsTrue}
use Rattle.std.specs.Borrow.{Fml, RattleType, MutBor}
use Rattle.std.specs.Io.BufRead.{Rests}
use mir.Syntax.{named}
use Rattle.sqlite.specs.declared.types.Value.TheVariants.{Int, Text}
use Rattle.sqlite.specs.Order.{Row, column}
use Rattle.sqlite.specs.Store.{Ghosts}
use Rattle.sqlite.specs.Held.{Held, state}
use Rattle.sqlite.specs.Given.{HasGiven}
use Rattle.sqlite.specs.State.{HasCleanDisk, IsUnchanged, Survives}
use Rattle.sqlite.specs.declared.rows.stream.Rows.{Rows}
use Rattle.sqlite.specs.contracts.rows.stream.Rows.{the_row}
use Rattle.sqlite.specs.declared.error.Error.{Error}
use Rattle.sqlite_trees.specs.Tree.{IsAscending}
use Rattle.tb_tables.specs.Layout.{desk_schema}
use Rattle.tb_tables.specs.Records.{Tables, Sentence, Revision, Shows, revision_shown, revision_view}
use Rattle.tb_tables.specs.Changes.{Holds}
use Rattle.tb_tables.specs.Failing.{IsStoreFault, IsWant}
use Rattle.tb_tables.specs.Leaving.{IsFaultless, FailsOnlyAs}
use Rattle.tb_reads.specs.declared.stream.CurrentRev.{CurrentRev}
use Rattle.tb_reads.specs.declared.cursor.Body.{Body}
use Rattle.tb_reads.specs.declared.error.ReadError.{ReadError}
use Rattle.tb_reads.specs.declared.error.ReadError.TheVariants.{Form}
use Rattle.tb_reads.specs.Readable.{IsRevision, ComesBefore}
use Rattle.tb_reads.specs.Failing.{IsReadFault, IsReadWant}
use Rattle.tb_reads.specs.ReadOnly.{IsReadOnly}

-- ---- the batch and the current revision of a sentence

abbrev pub head_of : Sentence → CurrentRev
head_of x = record { batch = x.batch; rev = x.rev }

abbrev pub head_shown : CurrentRev → Row
head_shown h = Int (pos h.batch) ∷ Int (pos h.rev) ∷ []

-- of what all columns of a sentence show
abbrev pub head_columns : Row → Row
head_columns r = column r 2 ∷ column r 3 ∷ []

-- ---- the bodies of revisions

abbrev pub bodies_text : List ℕ
bodies_text = codes "SELECT sent, rev, body FROM revisions ORDER BY sent, rev"

abbrev pub body_shown : Revision → Row
body_shown r = Int (pos r.sent) ∷ Int (pos r.rev) ∷ Text r.body ∷ []

-- of what all columns of a revision show
abbrev pub body_columns : Row → Row
body_columns r = column r 0 ∷ column r 1 ∷ column r 3 ∷ []

-- The connection reads the bodies of a desk's revisions, by sentence and number. The bodies of these revisions are
-- still to come.
pub record AreToCome {S : Type 0} (g : Ghosts S) (h : Held S) (left : List Revision) : Type 0 where
  pub schema : (state g h).now.schema ≡ desk_schema
  pub before : List Revision
  pub given : HasGiven g bodies_text [] h (map body_shown before)
  pub each : All IsRevision (before ++ left)
  pub rises : IsAscending ComesBefore (before ++ left)
  pub shows : Shows revision_view (map revision_shown (before ++ left)) ((state g h).now.trees 5)

-- what a lent body shows
abbrev pub lent_shown : Body → Row
lent_shown b = Int (pos b.sent) ∷ Int (pos b.rev) ∷ Text b.body.now ∷ []

-- a lent body is the body of this revision
pub record IsBodyOf (b : Body) (x : Revision) : Type 0 where
  pub sent : b.sent ≡ x.sent
  pub rev : b.rev ≡ x.rev
  pub body : b.body.now ≡ x.body

-- the first of the revisions to come is handed out, or none is left
abbrev pub GoesOn : {S : Type 0} (g : Ghosts S) (h : Held S) → Option Body → List Revision → Type 0
GoesOn g h None xs = xs ≡ []
GoesOn g h (Some b) xs = (x : Revision) × (rest : List Revision) × (xs ≡ x ∷ rest) × IsBodyOf b x
    × AreToCome g h rest

-- the same for the current row of the connection
abbrev pub IsAtRow : {S : Type 0} (g : Ghosts S) (h : Held S) → Option Row → List Revision → Type 0
IsAtRow g h None xs = xs ≡ []
IsAtRow g h (Some r) xs = (x : Revision) × (rest : List Revision) × (xs ≡ x ∷ rest) × (r ≡ body_shown x)
    × AreToCome g h rest

-- What the connection is where no rows are handed out, and why. On the tables of a desk a fault of the store is the
-- only reason.
pub record IsLeft {S X : Type 0} (g : Ghosts S) (old : Held S) (result : Result X Error) (new : Held S) : Type 0 where
  pub fails : HasCleanDisk (state g new) → (state g old).step_limit ≡ None
      → (state g old).now.schema ≡ desk_schema → IfErr result IsStoreFault
  pub cause : IsFaultless g old new → FailsOnlyAs IsWant g old new result
  pub read_only : IsReadOnly g old new false

-- what the rows are once the body that they lent is given back
pub record HasGone {S : Type 0} (g : Ghosts S) (old : Rows S g) (result : Result
    (Option Body) ReadError) (new : Rows S g) : Type 0 where
  pub same_reference : new.conn.ghost_name ≡ old.conn.ghost_name
  pub ok : HasCleanDisk (state g new.conn.now) → IfOk result (λ found. (xs : List Revision)
      → AreToCome g old.conn.now xs → GoesOn g new.conn.now found xs)
  pub form : HasCleanDisk (state g new.conn.now) → result ≡ Err Form → (xs : List Revision)
      → ¬ AreToCome g old.conn.now xs
  pub fails : HasCleanDisk (state g new.conn.now) → (state g old.conn.now).step_limit ≡ None
      → IfErr result (λ e. (xs : List Revision) → AreToCome g old.conn.now xs → IsReadFault e)
  pub cause : IsFaultless g old.conn.now new.conn.now → HasCleanDisk (state g new.conn.now)
      → (state g old.conn.now).step_limit ≡ None
      → IfErr result (λ e. (xs : List Revision) → AreToCome g old.conn.now xs → IsReadWant e)
  pub same : HasCleanDisk (state g new.conn.now) → OnOk result (IsUnchanged (state g old.conn.now)
      (state g new.conn.now))
  pub mode : old.conn.now.in_transaction ≡ false → new.conn.now.in_transaction ≡ false
  pub kept : HasCleanDisk (state g new.conn.now) → IsTrue (state g new.conn.now).is_open → (d : Tables)
      → Holds g old.conn.now d → Holds g new.conn.now d
  pub survives : Survives (state g old.conn.now) (state g new.conn.now) (λ _. ⊥)

abbrev pub EndsAs : (S : RattleType) (g : Ghosts S.Denot) → MutBor (Rows S.Denot g)
    → Result (Option Body) ReadError → Fml
EndsAs S g rows result = Rests (the_row (record { mir = named 0; lft = [] }) S g) rows (HasGone g rows.now result)
