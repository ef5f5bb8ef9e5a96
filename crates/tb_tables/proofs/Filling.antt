-- The first rows of a new desk.
use Rattle.std.proofs.Common.{◌≡◌, ◌≢◌, ℕ, List, [], ◌∷◌, Ok, IsTrue, refl, sym, subst, ◌∙◌, pos, arith}
use Rattle.std.proofs.lemmas.List.Sorted.{IsPermutation-refl}
use Rattle.sqlite.specs.declared.types.Value.TheVariants.{Null, Int}
use Rattle.sqlite.specs.Order.{Row}
use Rattle.sqlite.specs.Edit.{edit_of, edited}
use Rattle.sqlite.specs.Rowids.TheVariants.{Chosen}
use Rattle.sqlite.specs.State.{State, Executes}
use Rattle.sqlite.proofs.Callers.{runs_as}
use Rattle.tb_tables.specs.Layout.{desk_schema, meta, totals}
use Rattle.tb_tables.specs.Records.{AreStored, Shows, meta_view, batch_view, sentence_view, revision_view, move_view, total_view, number_view, number_shown, total_shown, numbered}
use Rattle.tb_tables.specs.Changes.{IsInside}
use Rattle.tb_tables.specs.Making.{IsBare, IsVersioned, empty_tables}
use Rattle.tb_tables.proofs.Texts.{insert_version, insert_version_is, insert_version_terms, insert_totals, insert_totals_is, insert_totals_terms}
use Rattle.tb_tables.proofs.Lists.{cast_int, cast_null, lower}
use Rattle.tb_tables.proofs.Meaning.{desk_listed, no_index}
use Rattle.tb_tables.proofs.Steps.{inserts}

pub versioned : (old new : State) (count : ℕ) → IsBare old desk_schema → Executes insert_version [] old new (Ok count) → IsTrue new.in_transaction → IsVersioned new
versioned old new count bare h begun =
    let w = runs_as insert_version [] old new desk_schema bare.is _ insert_version_is.0 insert_version_is.1 count h in
    let e = inserts old new bare.is 0 meta refl insert_version_terms 2 _ [] count refl w in
    let it = edit_of old.now.trees meta [] Chosen 0 ((Null ∷ Int (pos 2) ∷ []) ∷ []) in
    let none : old.now.trees 0 ≡ [] = bare.empty.0 in
    let rows : edited old.now.trees it ≡ (Int (pos 1) ∷ Int (pos 2) ∷ []) ∷ [] = rw (cast_null, cast_int (pos 2), none) refl in
    let kept = λ (t : ℕ) (apart : t ≢ 0) (a : 2 ≢ t) (b : 4 ≢ t) (c : 6 ≢ t) (was : old.now.trees t ≡ []). e.applies.others t apart (no_index t a b c) ∙ was in
    let empty = bare.empty in
    record {
      inside = record { begun = begun; schema = e.schema };
      meta = subst (Shows meta_view (number_shown 2 ∷ [])) (sym (e.applies.rows ∙ rows)) (IsPermutation-refl (number_shown 2 ∷ []));
      empty = (
        kept 1 (λ e. cc) (λ e. cc) (λ e. cc) (λ e. cc) empty.1.0,
        (
          kept 3 (λ e. cc) (λ e. cc) (λ e. cc) (λ e. cc) empty.1.1.0,
          (
            kept 5 (λ e. cc) (λ e. cc) (λ e. cc) (λ e. cc) empty.1.1.1.0,
            (
              kept 7 (λ e. cc) (λ e. cc) (λ e. cc) (λ e. cc) empty.1.1.1.1.0,
              (kept 8 (λ e. cc) (λ e. cc) (λ e. cc) (λ e. cc) empty.1.1.1.1.1.0, (kept 9 (λ e. cc) (λ e. cc) (λ e. cc) (λ e. cc) empty.1.1.1.1.1.1.0, tt)),
            ),
          ),
        ),
      );
    }

abbrev pub zeros : ℕ → Row
zeros n = Int (pos n) ∷ Null ∷ Int (pos 0) ∷ Int (pos 0) ∷ []

abbrev pub six : List Row
six = zeros 1 ∷ zeros 2 ∷ zeros 3 ∷ zeros 4 ∷ zeros 5 ∷ zeros 6 ∷ []

-- a table without rows shows no records
pub none_shown : (view : Row → Row) (rows : List Row) → rows ≡ [] → Shows view [] rows
none_shown view rows none = subst (Shows view []) (sym none) (IsPermutation-refl [])

pub filled : (old new : State) (count : ℕ) → IsVersioned old → Executes insert_totals [] old new (Ok count) → IsTrue new.in_transaction → IsInside new × AreStored empty_tables new.now.trees
filled old new count start h begun =
    let w = runs_as insert_totals [] old new desk_schema start.inside.schema _ insert_totals_is.0 insert_totals_is.1 count h in
    let e = inserts old new start.inside.schema 5 totals refl insert_totals_terms 4 _ [] count refl w in
    let it = edit_of old.now.trees totals [] Chosen 0 six in
    let none : old.now.trees 8 ≡ [] = start.empty.1.1.1.1.0 in
    let rows : edited old.now.trees it ≡ six = rw (cast_int (pos 0), cast_int (pos 1), cast_int (pos 2), cast_int (pos 3), cast_int (pos 4), cast_int (pos 5), cast_int (pos 6), cast_null, none, lower 1 2 (omega arith), lower 1 3 (omega arith), lower 2 3 (omega arith), lower 1 4 (omega arith), lower 2 4 (omega arith), lower 3 4 (omega arith), lower 1 5 (omega arith), lower 2 5 (omega arith), lower 3 5 (omega arith), lower 4 5 (omega arith), lower 1 6 (omega arith), lower 2 6 (omega arith), lower 3 6 (omega arith), lower 4 6 (omega arith), lower 5 6 (omega arith)) refl in
    let kept = λ (t : ℕ) (apart : t ≢ 8) (a : 2 ≢ t) (b : 4 ≢ t) (c : 6 ≢ t) (was : old.now.trees t ≡ []). e.applies.others t apart (no_index t a b c) ∙ was in
    let empty = start.empty in (
      record { begun = begun; schema = e.schema },
      record {
        listed = desk_listed new.now w.sound e.schema;
        meta = subst (Shows meta_view (number_shown 2 ∷ [])) (sym (e.applies.others 0 (λ e. cc) (no_index 0 (λ e. cc) (λ e. cc) (λ e. cc)))) start.meta;
        batches = none_shown batch_view _ (kept 1 (λ e. cc) (λ e. cc) (λ e. cc) (λ e. cc) empty.0);
        sentences = none_shown sentence_view _ (kept 3 (λ e. cc) (λ e. cc) (λ e. cc) (λ e. cc) empty.1.0);
        revisions = none_shown revision_view _ (kept 5 (λ e. cc) (λ e. cc) (λ e. cc) (λ e. cc) empty.1.1.0);
        moves = none_shown move_view _ (kept 7 (λ e. cc) (λ e. cc) (λ e. cc) (λ e. cc) empty.1.1.1.0);
        totals = subst (Shows total_view (numbered total_shown 1 empty_tables.totals)) (sym (e.applies.rows ∙ rows)) (IsPermutation-refl (numbered total_shown 1 empty_tables.totals));
        pulled = none_shown number_view _ (kept 9 (λ e. cc) (λ e. cc) (λ e. cc) (λ e. cc) empty.1.1.1.1.1.0);
      },
    )
