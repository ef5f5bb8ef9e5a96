-- CREATE TABLE, and the first rows.
use Rattle.std.proofs.Common.{◌≡◌, ◌⊎◌, inl, inr, ℕ, List, [], ◌∷◌, ◌++◌, Ok, Err, Result, None, false, IsTrue, refl, sym, ap, subst, ◌∙◌}
use Rattle.std.specs.List.{AllByRecursion}
use Rattle.sqlite.specs.Table.{Table}
use Rattle.sqlite.specs.Schema.{Schema}
use Rattle.sqlite.specs.Change.{created, next_tree, KeepsRows}
use Rattle.sqlite.specs.Command.TheVariants.{CreateTable}
use Rattle.sqlite.specs.Listing.{understood}
use Rattle.sqlite.specs.Effect.{Database}
use Rattle.sqlite.specs.Tree.{Trees}
use Rattle.sqlite.specs.Does.{Tally, lacks_sequence}
use Rattle.sqlite.specs.State.{State, Writes, Executes}
use Rattle.sqlite.proofs.Callers.{runs_as, command_of as command_in, statement_of as statement_in}
use Rattle.sqlite_tied.specs.Compute.{everything}
use Rattle.tb_tables.specs.Making.{Makes, command_of, statement_of, no_schema, first_schema, IsBare}
use Rattle.tb_tables.specs.Texts.{meta_text, batches_text, sentences_text, revisions_text, moves_text, totals_text, pulled_text}
use Rattle.tb_tables.specs.Layout.{meta, batches, sentences, revisions, moves, totals, pulled, desk_schema}

went : {B E R : Type 0} {b : B} {Stops : E → Type 0} → ((stop : E) × Stops stop × (Ok b ≡ Err stop)) ⊎ R → R
went (inl stopped) = absurd (let e = stopped.2 in cc)
went (inr on) = on

pub same_value : {B E : Type 0} {a b : B} → ◌≡◌ {A = Result B E} (Ok a) (Ok b) → a ≡ b
same_value e = cc

pub same_command : (r : _) → command_in r ≡ command_of r
same_command (Ok c) = refl
same_command (Err e) = refl

pub same_statement : (sql : List ℕ) (r : _) → statement_in sql r ≡ statement_of sql r
same_statement sql (Ok c) = refl
same_statement sql (Err e) = refl

pub creates : (old new : State) (schema : Schema) (text : List ℕ) (table : Table) (count : ℕ) → old.now.schema ≡ schema → Makes schema text table → Executes text [] old new (Ok count)
    → (new.now.schema ≡ created schema table) × (new.now.trees (next_tree schema) ≡ []) × KeepsRows schema.tables old.now.trees new.now.trees
creates old new schema text table count has makes h =
    let is = same_command (understood schema text) ∙ makes.command in
    let w = subst (λ t. Writes old new None CreateTable t [] count) (same_statement text (understood schema text) ∙ makes.whole) (runs_as text [] old new schema has CreateTable is makes.plain count h) in
    let all = went w.changed in
    let first = went all.1 in
    let made = first.1 in
    let both : Ok made.table ≡ Ok table = sym made.defined ∙ makes.defined in
    let same : made.table ≡ table = same_value both in
    let after : first.0.schema ≡ created schema table = made.is ∙ ap (λ s. created s made.table) has ∙ ap (created schema) same in
    let plain : lacks_sequence first.0.schema ≡ false = ap lacks_sequence after ∙ makes.uncounted in
    let now : new.now ≡ first.0 = ap (λ (p : Tally × Database). p.1) (same_value all.2) ∙ same_value (rw plain at first.2) in (
      ap (λ (d : Database). d.schema) now ∙ after,
      ap (λ (d : Database). d.trees (next_tree schema)) now ∙ subst (λ s. first.0.trees (next_tree s) ≡ []) has made.empty,
      subst (λ s. KeepsRows s.tables old.now.trees new.now.trees) has (subst (λ (d : Database). KeepsRows old.now.schema.tables old.now.trees d.trees) (sym now) made.others),
    )

still_empty : (tables : List Table) (last : Table) (old new : Trees) → AllByRecursion (λ (t : Table). old t.tree ≡ []) tables → KeepsRows tables old new → new last.tree ≡ [] → AllByRecursion (λ (t : Table). new t.tree ≡ []) (tables ++ last ∷ [])
still_empty [] last old new empty same none = (none, tt)
still_empty (t ∷ ts) last old new empty same none = (same.0 ∙ empty.0, still_empty ts last old new empty.1 same.1 none)

pub makes_bare : (old new : State) (schema : Schema) (text : List ℕ) (table : Table) (count : ℕ) → IsBare old schema → Makes schema text table → Executes text [] old new (Ok count) → IsTrue new.in_transaction
    → IsBare new (created schema table)
makes_bare old new schema text table count bare makes h begun =
    let made = creates old new schema text table count bare.is makes h in
    let last : Table = record table { tree = next_tree schema } in
    record { begun = begun; is = made.0; empty = still_empty schema.tables last old.now.trees new.now.trees bare.empty made.2 made.1 }

pub makes_meta : Makes (no_schema) meta_text (record meta { tree = 0 })
unfolding understood everything
makes_meta = record { command = refl; whole = refl; plain = (refl, refl); defined = refl; uncounted = refl }

pub makes_batches : Makes (created no_schema (record meta { tree = 0 })) batches_text (record batches { tree = 0 })
unfolding understood everything
makes_batches = record { command = refl; whole = refl; plain = (refl, refl); defined = refl; uncounted = refl }

pub makes_sentences : Makes (created (created no_schema (record meta { tree = 0 })) (record batches { tree = 0 })) sentences_text (record sentences { tree = 0 })
unfolding understood everything
makes_sentences = record { command = refl; whole = refl; plain = (refl, refl); defined = refl; uncounted = refl }

pub makes_revisions : Makes (created (created (created no_schema (record meta { tree = 0 })) (record batches { tree = 0 })) (record sentences { tree = 0 })) revisions_text (record revisions { tree = 0 })
unfolding understood everything
makes_revisions = record { command = refl; whole = refl; plain = (refl, refl); defined = refl; uncounted = refl }

pub makes_moves : Makes (first_schema) moves_text (record moves { tree = 0 })
unfolding understood everything
makes_moves = record { command = refl; whole = refl; plain = (refl, refl); defined = refl; uncounted = refl }

pub makes_totals : Makes (created (first_schema) (record moves { tree = 0 })) totals_text (record totals { tree = 0 })
unfolding understood everything
makes_totals = record { command = refl; whole = refl; plain = (refl, refl); defined = refl; uncounted = refl }

pub makes_pulled : Makes (created (created (first_schema) (record moves { tree = 0 })) (record totals { tree = 0 })) pulled_text (record pulled { tree = 0 })
unfolding understood everything
makes_pulled = record { command = refl; whole = refl; plain = (refl, refl); defined = refl; uncounted = refl }

-- the fold over the seven texts
pub desk_is : created (created (created first_schema (record moves { tree = 0 })) (record totals { tree = 0 })) (record pulled { tree = 0 }) ≡ desk_schema
unfolding understood everything
desk_is = refl
