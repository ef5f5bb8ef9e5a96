-- What the SELECT of a whole table shows: the rows of the table, in the order of their keys.
use Rattle.std.proofs.Common.{◌≡◌, ℕ, List, [], ◌∷◌, map, map-id, refl, ap, ◌∙◌, false, ◌<◌}
use Rattle.std.specs.List.{AllByRecursion}
use Rattle.std.proofs.lemmas.List.Sorted.{IsPermutation-sym}
use Rattle.sqlite.specs.declared.types.Value.TheVariants.{Null}
use Rattle.sqlite.specs.Command.TheVariants.{Select}
use Rattle.sqlite.specs.Listing.{understood, reads_listing}
use Rattle.sqlite.specs.Order.{Row, column}
use Rattle.sqlite.specs.Program.{overlay}
use Rattle.sqlite.specs.Query.{output}
use Rattle.sqlite.specs.State.{State, Shown}
use Rattle.sqlite.specs.Term.{Term}
use Rattle.sqlite.proofs.Callers.{IsPlain, command_of, reads_as}
use Rattle.sqlite_trees.specs.Tree.{IsAscending}
use Rattle.tb_tables.specs.Layout.{desk_schema}
use Rattle.tb_tables.specs.Records.{Batch, Sentence, Move, Total, Shows, numbered, batch_shown, sentence_shown, move_shown, total_shown, number_shown, meta_view, batch_view, sentence_view, move_view, total_view, number_view}
use Rattle.tb_tables.proofs.Texts.{simple}
use Rattle.tb_reads.proofs.Ordered.{all_shown, by_order, keyed, first, IsFirst, first_in_order, rises, placed, numbers_rise, numbers_placed}
use Rattle.tb_reads.proofs.Queries.{rising, select_batches, select_batches_terms, select_batches_is, select_sentences, select_sentences_terms, select_sentences_is, select_moves, select_moves_terms, select_moves_is, select_totals, select_totals_terms, select_totals_is, select_pulled, select_pulled_terms, select_pulled_is, select_versions, select_versions_terms, select_versions_is}
use Rattle.tb_reads.proofs.Reading.{numbered_flat}

module _ (t k : ℕ) (sql : List ℕ) (terms : List Term) (names : List (List ℕ)) (view : Row → Row)
    (is : (command_of (understood desk_schema sql) ≡ Select (record { lets = []; body = simple t [] terms (rising k ∷ []) }) names) × IsPlain (understood desk_schema sql) × (reads_listing desk_schema sql ≡ false))
    (same : (r : Row) → output (simple t [] terms (rising k ∷ [])) ([] ∷ r ∷ []) ≡ (column r k ∷ [], view r)) (by_key : (r : Row) → keyed (view r) ≡ (column r k ∷ [], view r))
    (old new : State) (has : old.now.schema ≡ desk_schema) (rows : List Row) (shown : Shown sql [] old new rows) where
  pub table_all : Shows view rows (overlay old.now.trees [] t)
  table_all =
      IsPermutation-sym _ _ (all_shown t terms (rising k ∷ []) (λ r. column r k ∷ []) view same (overlay old.now.trees []) rows ((reads_as sql [] old new desk_schema has _ is.0 is.1 is.2 rows shown).answer Null))

  pub table_order : (listed : List Row) → IsAscending (λ a b. first a < first b) (map keyed listed) → AllByRecursion IsFirst (map keyed listed) → Shows view listed (overlay old.now.trees [] t) → rows ≡ listed
  table_order listed up each holds =
      by_order t terms (rising k ∷ []) (λ r. column r k ∷ []) view same (overlay old.now.trees []) rows ((reads_as sql [] old new desk_schema has _ is.0 is.1 is.2 rows shown).answer Null) listed keyed first IsFirst by_key (λ _. refl) up each
      (first_in_order k t terms) holds

module _ (old new : State) (has : old.now.schema ≡ desk_schema) (rows : List Row) (shown : Shown select_batches [] old new rows) where
  pub batches_all : Shows batch_view rows (old.now.trees 1)
  batches_all = table_all 1 0 select_batches select_batches_terms _ batch_view select_batches_is (λ _. refl) (λ _. refl) old new has rows shown

  pub batches_order : (xs : List Batch) → Shows batch_view (numbered batch_shown 1 xs) (old.now.trees 1) → rows ≡ numbered batch_shown 1 xs
  batches_order xs =
      table_order 1 0 select_batches select_batches_terms _ batch_view select_batches_is (λ _. refl) (λ _. refl) old new has rows shown (numbered batch_shown 1 xs) (rises batch_shown (λ _ _. refl) 1 xs) (placed batch_shown (λ _ _. refl) 1 xs)

module _ (old new : State) (has : old.now.schema ≡ desk_schema) (rows : List Row) (shown : Shown select_sentences [] old new rows) where
  pub sentences_all : Shows sentence_view rows (old.now.trees 3)
  sentences_all = table_all 3 0 select_sentences select_sentences_terms _ sentence_view select_sentences_is (λ _. refl) (λ _. refl) old new has rows shown

  pub sentences_order : (xs : List Sentence) → Shows sentence_view (numbered sentence_shown 1 xs) (old.now.trees 3) → rows ≡ numbered sentence_shown 1 xs
  sentences_order xs =
      table_order 3 0 select_sentences select_sentences_terms _ sentence_view select_sentences_is (λ _. refl) (λ _. refl) old new has rows shown (numbered sentence_shown 1 xs) (rises sentence_shown (λ _ _. refl) 1 xs) (placed sentence_shown (λ _ _. refl) 1 xs)

module _ (old new : State) (has : old.now.schema ≡ desk_schema) (rows : List Row) (shown : Shown select_moves [] old new rows) where
  pub moves_all : Shows move_view rows (old.now.trees 7)
  moves_all = table_all 7 0 select_moves select_moves_terms _ move_view select_moves_is (λ _. refl) (λ _. refl) old new has rows shown

  pub moves_order : (xs : List Move) → Shows move_view (numbered move_shown 1 xs) (old.now.trees 7) → rows ≡ numbered move_shown 1 xs
  moves_order xs =
      table_order 7 0 select_moves select_moves_terms _ move_view select_moves_is (λ _. refl) (λ _. refl) old new has rows shown (numbered move_shown 1 xs) (rises move_shown (λ _ _. refl) 1 xs) (placed move_shown (λ _ _. refl) 1 xs)

module _ (old new : State) (has : old.now.schema ≡ desk_schema) (rows : List Row) (shown : Shown select_totals [] old new rows) where
  pub totals_all : Shows total_view rows (old.now.trees 8)
  totals_all = table_all 8 0 select_totals select_totals_terms _ total_view select_totals_is (λ _. refl) (λ _. refl) old new has rows shown

  pub totals_order : (xs : List Total) → Shows total_view (numbered total_shown 1 xs) (old.now.trees 8) → rows ≡ numbered total_shown 1 xs
  totals_order xs =
      table_order 8 0 select_totals select_totals_terms _ total_view select_totals_is (λ _. refl) (λ _. refl) old new has rows shown (numbered total_shown 1 xs) (rises total_shown (λ _ _. refl) 1 xs) (placed total_shown (λ _ _. refl) 1 xs)

module _ (old new : State) (has : old.now.schema ≡ desk_schema) (rows : List Row) (shown : Shown select_pulled [] old new rows) where
  pub pulled_all : Shows number_view rows (old.now.trees 9)
  pulled_all = table_all 9 0 select_pulled select_pulled_terms _ number_view select_pulled_is (λ _. refl) (λ _. refl) old new has rows shown

  pub pulled_order : (ns : List ℕ) → IsAscending (λ a b. a < b) ns → Shows number_view (map number_shown ns) (old.now.trees 9) → rows ≡ map number_shown ns
  pulled_order ns up =
      table_order 9 0 select_pulled select_pulled_terms _ number_view select_pulled_is (λ _. refl) (λ _. refl) old new has rows shown (map number_shown ns) (numbers_rise ns up) (numbers_placed ns)

module _ (old new : State) (has : old.now.schema ≡ desk_schema) (rows : List Row) (shown : Shown select_versions [] old new rows) where
  pub versions_all : Shows meta_view rows (old.now.trees 0)
  versions_all = table_all 0 1 select_versions select_versions_terms _ meta_view select_versions_is (λ _. refl) (λ _. refl) old new has rows shown

  pub versions_order : (ns : List ℕ) → IsAscending (λ a b. a < b) ns → Shows meta_view (map number_shown ns) (old.now.trees 0) → rows ≡ map number_shown ns
  versions_order ns up =
      table_order 0 1 select_versions select_versions_terms _ meta_view select_versions_is (λ _. refl) (λ _. refl) old new has rows shown (map number_shown ns) (numbers_rise ns up) (numbers_placed ns)

-- rows that are numbers alone show no number beside
pub numbers_flat : (ns : List ℕ) → numbered (λ _. number_shown) 1 (map (λ n. n) ns) ≡ map number_shown ns
numbers_flat ns = numbered_flat number_shown 1 (map (λ n. n) ns) ∙ ap (map number_shown) (map-id ns)
