-- What each writing statement does to the rows, and to the records that they stand for.
use Rattle.std.proofs.Common.{◌≡◌, ◌≢◌, ℕ, ◌+◌, pos, List, [], ◌∷◌, length, map, slice_get, slice_set, Some, Ok, Bool, true, false, not, ◌&&◌, ◌==◌, refl, sym, ap, subst, subst₂, ◌∙◌, IsPermutation, filter}
use Rattle.std.proofs.lemmas.List.{map-append}
use Rattle.std.proofs.lemmas.List.Sorted.{IsPermutation-map, IsPermutation-trans}
use Rattle.sqlite_trees.proofs.ListLemmas.{map-map}
use Rattle.sqlite.specs.declared.types.Value.TheVariants.{Null, Int, Text}
use Rattle.sqlite.specs.Order.{Row, column}
use Rattle.sqlite.specs.Edit.{edit_of, edited, put_all, IsNoIndex}
use Rattle.sqlite.specs.Rowids.TheVariants.{Chosen, Given}
use Rattle.sqlite.specs.State.{State, Executes}
use Rattle.sqlite.specs.Tree.{Trees, put_row, without_rowid}
use Rattle.sqlite_trees.specs.Objects.{catalog_tree}
use Rattle.sqlite_trees.specs.Sound.{fits_kind, is_sound_list, is_sound_object}
use Rattle.sqlite_catalog.specs.Listing.{Lists}
use Rattle.sqlite_catalog.proofs.ReadLemmas.{lists_once}
use Rattle.sqlite.specs.Effect.{Database, IsDatabase}
use Rattle.sqlite.proofs.Callers.{runs_as, one_permutation}
use Rattle.sqlite_rules.specs.Edit.{is_taken, are_fresh, next_rowid, without_all}
use Rattle.sqlite_rules.specs.Calls.{ids_of}
use Rattle.sqlite.specs.Term.{Term, eval_all}
use Rattle.sqlite.specs.Query.{Query, inner, end, matches, IsAnswer, output, page, Output}
use Rattle.sqlite.specs.Program.{overlay}
use Rattle.tb_tables.specs.Layout.{desk_schema, ListsDesk, batches, sentences, revisions, moves, totals, pulled}
use Rattle.tb_tables.specs.Records.{Revision, Batch, Move, Sentence, Total, Tables, AreStored, Shows, numbered, batch_shown, sentence_shown, revision_shown, move_shown, total_shown, number_shown, meta_view, batch_view, sentence_view, revision_view, move_view, total_view, number_view}
use Rattle.tb_tables.specs.Changes.{with_batch, with_sentence, with_revision, with_move, with_pulled}
use Rattle.tb_tables.proofs.Texts.{simple, by_number, insert_batch, insert_batch_is, insert_batch_terms, insert_sentence, insert_sentence_is, insert_sentence_terms, insert_move, insert_move_is, insert_move_terms, insert_pulled, insert_pulled_is, insert_pulled_terms, insert_revision, insert_revision_is, insert_revision_terms, update_batch, update_batch_is, update_sentence, update_sentence_is, update_total, update_total_is, delete_pulled, delete_pulled_is, delete_pulled_terms}
use Rattle.tb_tables.proofs.Lists.{cast_int, cast_null}
use Rattle.tb_tables.proofs.Keyed.{put_shows, put_numbered, hits, hits_show, hit, one_hit, matched, matched_all, replaced_shows, removed_shows}
use Rattle.tb_tables.proofs.Steps.{inserts, updates, deletes}

-- a sound database with the schema of a desk lists no other
pub desk_listed : (db : Database) → IsDatabase db → db.schema ≡ desk_schema → ListsDesk db.trees
desk_listed db sound has schema lists = lists_once (db.trees catalog_tree) schema db.schema lists sound.lists ∙ has

both : (a b : Bool) → (a && b) ≡ true → (a ≡ true) × (b ≡ true)
both true b h = (refl, h)
both false b h = absurd cc

-- a row without columns is in no list
unfit_row : fits_kind Null Null Null Null ≡ false
unfolding fits_kind
unfit_row = refl

unsound_row : is_sound_list ([] ∷ []) ≡ true → ⊥
unfolding is_sound_list
unsound_row h =
    let object : is_sound_object [] ≡ true = (both _ _ (both _ _ h).0).0 in
    let fits : fits_kind Null Null Null Null ≡ true = (both _ _ (both _ _ object).0).1 in
    absurd (let none = unfit_row in cc)

pub no_list : (trees : Trees) → trees catalog_tree ≡ [] ∷ [] → ListsDesk trees
no_list trees is schema lists = absurd (unsound_row (subst (λ objects. Lists objects schema) is lists).listed.loads)

-- one table has these rows, and the others are as they were
pub record Sets (old new : State) (tree : ℕ) (all : List Row) : Type 0 where
  pub schema : new.now.schema ≡ desk_schema
  pub rows : new.now.trees tree ≡ all
  pub others : (t : ℕ) → t ≢ tree → IsNoIndex desk_schema t → new.now.trees t ≡ old.now.trees t

-- a row comes in, under a rowid that no row has
pub record Puts (old new : State) (tree : ℕ) (row : Row) : Type 0 where
  pub sets : Sets old new tree (put_row row (old.now.trees tree))
  pub free : is_taken (old.now.trees tree) row ≡ false

free_first : (b : Bool) → (not b && true) ≡ true → b ≡ false
free_first true h = absurd cc
free_first false h = refl

pub no_index : (t : ℕ) → 2 ≢ t → 4 ≢ t → 6 ≢ t → IsNoIndex desk_schema t
no_index t a b c = (a, (b, (c, tt)))

module _ (tree : ℕ) (filter project : List Term) (db : Trees) (params : Row) (rows : List Row) (a : IsAnswer (simple tree filter project []) db params rows) where
  abbrev q : Query
  q = simple tree filter project []

  -- without ORDER BY, the answer has the matches in some order
  pub any_order : (envs : List (List Row)) → matches db filter (inner tree end) (params ∷ []) ≡ envs → IsPermutation (map (output q) envs) a.ordered
  any_order envs is = subst (λ k. IsPermutation k a.ordered) (a.distinct ∙ ap (map (output q)) (a.grouped ∙ is)) a.same

  pub all_answers : (envs : List (List Row)) → matches db filter (inner tree end) (params ∷ []) ≡ envs → IsPermutation (map (eval_all project) envs) rows
  all_answers envs is =
      let first = λ (o : Output). o.1 in
      subst₂ (λ u v. IsPermutation u v) (map-map first (output q) envs) (sym a.shown) (IsPermutation-map first (map (output q) envs) a.ordered (any_order envs is))

  pub one_answer : (env : List Row) → matches db filter (inner tree end) (params ∷ []) ≡ env ∷ [] → rows ≡ eval_all project env ∷ []
  one_answer env is =
      let o : Output = output q env in
      let ordered = one_permutation o a.ordered (any_order (env ∷ []) is) in
      a.shown ∙ ap (λ xs. page q params (map (λ (p : Output). p.1) xs)) ordered

abbrev pub batch_params : (n : ℕ) (b : Batch) → Row
batch_params n b = Int (pos n) ∷ Text b.name ∷ Int (pos b.state) ∷ Text b.worker ∷ []

abbrev pub batch_stored : (n : ℕ) (b : Batch) → Row
batch_stored n b = Int (pos n) ∷ Null ∷ Text b.name ∷ Int (pos b.state) ∷ Text b.worker ∷ []

pub puts_batch : (old new : State) (n : ℕ) (b : Batch) (count : ℕ) → old.now.schema ≡ desk_schema → Executes insert_batch (batch_params n b) old new (Ok count) → Puts old new 1 (batch_stored n b)
puts_batch old new n b count has h =
    let params = batch_params n b in
    let w = runs_as insert_batch params old new desk_schema has _ insert_batch_is.0 insert_batch_is.1 count h in
    let e = inserts old new has 1 batches refl insert_batch_terms 5 _ params count refl w in
    let row = batch_stored n b in
    let it = edit_of old.now.trees batches [] Chosen 0 ((Int (pos n) ∷ Null ∷ Text b.name ∷ Int (pos b.state) ∷ Text b.worker ∷ []) ∷ []) in
    let news : it.news ≡ row ∷ [] = rw (cast_int (pos n), cast_null, cast_int (pos b.state)) refl in
    let rows : edited old.now.trees it ≡ put_row row (old.now.trees 1) = ap (put_all (old.now.trees 1)) news in
    let fresh = subst (λ rs. are_fresh (old.now.trees 1) rs ≡ true) news e.applies.fresh in
    record { sets = record { schema = e.schema; rows = e.applies.rows ∙ rows; others = e.applies.others }; free = free_first _ fresh }

abbrev pub sentence_params : (n : ℕ) (s : Sentence) → Row
sentence_params n s = Int (pos n) ∷ Text s.sent_id ∷ Int (pos s.batch) ∷ Int (pos s.rev) ∷ Int (pos s.words) ∷ []

abbrev pub sentence_stored : (n : ℕ) (s : Sentence) → Row
sentence_stored n s = Int (pos n) ∷ Null ∷ Text s.sent_id ∷ Int (pos s.batch) ∷ Int (pos s.rev) ∷ Int (pos s.words) ∷ []

pub puts_sentence : (old new : State) (n : ℕ) (s : Sentence) (count : ℕ) → old.now.schema ≡ desk_schema → Executes insert_sentence (sentence_params n s) old new (Ok count) → Puts old new 3 (sentence_stored n s)
puts_sentence old new n s count has h =
    let params = sentence_params n s in
    let w = runs_as insert_sentence params old new desk_schema has _ insert_sentence_is.0 insert_sentence_is.1 count h in
    let e = inserts old new has 2 sentences refl insert_sentence_terms 6 _ params count refl w in
    let row = sentence_stored n s in
    let it = edit_of old.now.trees sentences [] Chosen 0 ((Int (pos n) ∷ Null ∷ Text s.sent_id ∷ Int (pos s.batch) ∷ Int (pos s.rev) ∷ Int (pos s.words) ∷ []) ∷ []) in
    let news : it.news ≡ row ∷ [] = rw (cast_int (pos n), cast_null, cast_int (pos s.batch), cast_int (pos s.rev), cast_int (pos s.words)) refl in
    let rows : edited old.now.trees it ≡ put_row row (old.now.trees 3) = ap (put_all (old.now.trees 3)) news in
    let fresh = subst (λ rs. are_fresh (old.now.trees 3) rs ≡ true) news e.applies.fresh in
    record { sets = record { schema = e.schema; rows = e.applies.rows ∙ rows; others = e.applies.others }; free = free_first _ fresh }

abbrev pub move_params : (n : ℕ) (m : Move) → Row
move_params n m = Int (pos n) ∷ Int (pos m.kind) ∷ Int (pos m.batch) ∷ Int (pos m.sent) ∷ Int (pos m.from) ∷ Int (pos m.to) ∷ Int (pos m.sentences) ∷ Int (pos m.words_out) ∷ Int (pos m.words_in) ∷ Text m.who ∷ []

abbrev pub move_stored : (n : ℕ) (m : Move) → Row
move_stored n m = Int (pos n) ∷ Null ∷ Int (pos m.kind) ∷ Int (pos m.batch) ∷ Int (pos m.sent) ∷ Int (pos m.from) ∷ Int (pos m.to) ∷ Int (pos m.sentences) ∷ Int (pos m.words_out) ∷ Int (pos m.words_in) ∷ Text m.who ∷ []

pub puts_move : (old new : State) (n : ℕ) (m : Move) (count : ℕ) → old.now.schema ≡ desk_schema → Executes insert_move (move_params n m) old new (Ok count) → Puts old new 7 (move_stored n m)
puts_move old new n m count has h =
    let params = move_params n m in
    let w = runs_as insert_move params old new desk_schema has _ insert_move_is.0 insert_move_is.1 count h in
    let e = inserts old new has 4 moves refl insert_move_terms 11 _ params count refl w in
    let row = move_stored n m in
    let it = edit_of old.now.trees moves [] Chosen 0 ((Int (pos n) ∷ Null ∷ Int (pos m.kind) ∷ Int (pos m.batch) ∷ Int (pos m.sent) ∷ Int (pos m.from) ∷ Int (pos m.to) ∷ Int (pos m.sentences) ∷ Int (pos m.words_out) ∷ Int (pos m.words_in) ∷ Text m.who ∷ []) ∷ []) in
    let news : it.news ≡ row ∷ [] = rw (cast_int (pos n), cast_null, cast_int (pos m.kind), cast_int (pos m.batch), cast_int (pos m.sent), cast_int (pos m.from), cast_int (pos m.to), cast_int (pos m.sentences), cast_int (pos m.words_out), cast_int (pos m.words_in)) refl in
    let rows : edited old.now.trees it ≡ put_row row (old.now.trees 7) = ap (put_all (old.now.trees 7)) news in
    let fresh = subst (λ rs. are_fresh (old.now.trees 7) rs ≡ true) news e.applies.fresh in
    record { sets = record { schema = e.schema; rows = e.applies.rows ∙ rows; others = e.applies.others }; free = free_first _ fresh }

abbrev pub pulled_params : (n : ℕ) → Row
pulled_params n = Int (pos n) ∷ []

abbrev pub pulled_stored : (n : ℕ) → Row
pulled_stored n = Int (pos n) ∷ Null ∷ []

pub puts_pulled : (old new : State) (n : ℕ) (count : ℕ) → old.now.schema ≡ desk_schema → Executes insert_pulled (pulled_params n) old new (Ok count) → Puts old new 9 (pulled_stored n)
puts_pulled old new n count has h =
    let params = pulled_params n in
    let w = runs_as insert_pulled params old new desk_schema has _ insert_pulled_is.0 insert_pulled_is.1 count h in
    let e = inserts old new has 6 pulled refl insert_pulled_terms 2 _ params count refl w in
    let row = pulled_stored n in
    let it = edit_of old.now.trees pulled [] Chosen 0 ((Int (pos n) ∷ Null ∷ []) ∷ []) in
    let news : it.news ≡ row ∷ [] = rw (cast_int (pos n), cast_null) refl in
    let rows : edited old.now.trees it ≡ put_row row (old.now.trees 9) = ap (put_all (old.now.trees 9)) news in
    let fresh = subst (λ rs. are_fresh (old.now.trees 9) rs ≡ true) news e.applies.fresh in
    record { sets = record { schema = e.schema; rows = e.applies.rows ∙ rows; others = e.applies.others }; free = free_first _ fresh }

abbrev pub revision_stored : List Row → Revision → Row
revision_stored rows r = Int (next_rowid rows) ∷ revision_shown r

pub puts_revision : (old new : State) (r : Revision) (count : ℕ) → old.now.schema ≡ desk_schema → Executes insert_revision (revision_shown r) old new (Ok count)
    → Puts old new 5 (revision_stored (old.now.trees 5) r)
puts_revision old new r count has h =
    let params = revision_shown r in
    let w = runs_as insert_revision params old new desk_schema has _ insert_revision_is.0 insert_revision_is.1 count h in
    let e = inserts old new has 3 revisions refl insert_revision_terms 5 _ params count refl w in
    let row = revision_stored (old.now.trees 5) r in
    let it = edit_of old.now.trees revisions [] Chosen 0 ((Null ∷ revision_shown r) ∷ []) in
    let news : it.news ≡ row ∷ [] = rw (cast_null, cast_int (pos r.sent), cast_int (pos r.rev)) refl in
    let rows : edited old.now.trees it ≡ put_row row (old.now.trees 5) = ap (put_all (old.now.trees 5)) news in
    let fresh = subst (λ rs. are_fresh (old.now.trees 5) rs ≡ true) news e.applies.fresh in
    record { sets = record { schema = e.schema; rows = e.applies.rows ∙ rows; others = e.applies.others }; free = free_first _ fresh }

pub sets_batch : (old new : State) (n j : ℕ) (st : ℕ) (worker : List ℕ) (xs : List Batch) (b : Batch) (done : ℕ) → old.now.schema ≡ desk_schema → Shows batch_view (numbered batch_shown 1 xs) (old.now.trees 1)
    → n ≡ 1 + j → slice_get xs j ≡ Some b → Executes update_batch (Int (pos n) ∷ Int (pos st) ∷ Text worker ∷ []) old new (Ok done)
    → (rows : List Row) × Sets old new 1 rows × Shows batch_view (numbered batch_shown 1 (slice_set xs j (record b { state = st; worker = worker }))) rows
sets_batch old new n j st worker xs b done has holds at is h =
    let params = Int (pos n) ∷ Int (pos st) ∷ Text worker ∷ [] in
    let w = runs_as update_batch params old new desk_schema has _ update_batch_is.0 update_batch_is.1 done h in
    let e = updates old new has 1 batches refl _ _ params done w in
    let r = one_hit batch_view (hits n (old.now.trees 1)) _ (hit batch_view (λ _. refl) batch_shown (λ _ _. refl) n j xs b (old.now.trees 1) at is holds) in
    let env : matches (overlay old.now.trees []) (by_number ∷ []) (inner 1 end) (params ∷ []) ≡ (params ∷ r.0 ∷ []) ∷ [] = matched (λ x. params ∷ x ∷ []) n (old.now.trees 1) r.0 r.1 in
    let rows = one_answer 1 _ _ (overlay old.now.trees []) params e.0 (e.1.answer Null) _ env in
    let id : column r.0 0 ≡ Int (pos n) = ap (λ (x : Row). column x 0) r.2 in
    let col2 : column r.0 2 ≡ Text b.name = ap (λ (x : Row). column x 1) r.2 in
    let after : Batch = record b { state = st; worker = worker } in
    let stored = Int (pos n) ∷ Null ∷ Text b.name ∷ Int (pos st) ∷ Text worker ∷ [] in
    let shows_row : e.0 ≡ (Int (pos n) ∷ Int (pos n) ∷ Null ∷ Text b.name ∷ Int (pos st) ∷ Text worker ∷ []) ∷ [] = rows ∙ rw (id, col2) refl in
    let news : edited old.now.trees (edit_of old.now.trees batches (ids_of e.0) Given 1 e.0) ≡ put_row stored (without_rowid (pos n) (old.now.trees 1)) = rw (shows_row, cast_int (pos n), cast_null, cast_int (pos st)) refl in
    let all = put_row stored (without_rowid (pos n) (old.now.trees 1)) in (
      all,
      record { schema = e.2.schema; rows = e.2.applies.rows ∙ news; others = e.2.applies.others },
      replaced_shows batch_view (λ _. refl) batch_shown (λ _ _. refl) n j xs after b stored (old.now.trees 1) at is refl refl holds,
    )

pub updated_batch : (old new : State) (params : Row) (done : ℕ) → old.now.schema ≡ desk_schema → Executes update_batch params old new (Ok done) → new.now.schema ≡ desk_schema
updated_batch old new params done has h = (updates old new has 1 batches refl _ _ params done (runs_as update_batch params old new desk_schema has _ update_batch_is.0 update_batch_is.1 done h)).2.schema

pub sets_sentence : (old new : State) (n j : ℕ) (rev : ℕ) (words : ℕ) (xs : List Sentence) (s : Sentence) (done : ℕ) → old.now.schema ≡ desk_schema → Shows sentence_view (numbered sentence_shown 1 xs) (old.now.trees 3)
    → n ≡ 1 + j → slice_get xs j ≡ Some s → Executes update_sentence (Int (pos n) ∷ Int (pos rev) ∷ Int (pos words) ∷ []) old new (Ok done)
    → (rows : List Row) × Sets old new 3 rows × Shows sentence_view (numbered sentence_shown 1 (slice_set xs j (record s { rev = rev; words = words }))) rows
sets_sentence old new n j rev words xs s done has holds at is h =
    let params = Int (pos n) ∷ Int (pos rev) ∷ Int (pos words) ∷ [] in
    let w = runs_as update_sentence params old new desk_schema has _ update_sentence_is.0 update_sentence_is.1 done h in
    let e = updates old new has 2 sentences refl _ _ params done w in
    let r = one_hit sentence_view (hits n (old.now.trees 3)) _ (hit sentence_view (λ _. refl) sentence_shown (λ _ _. refl) n j xs s (old.now.trees 3) at is holds) in
    let env : matches (overlay old.now.trees []) (by_number ∷ []) (inner 3 end) (params ∷ []) ≡ (params ∷ r.0 ∷ []) ∷ [] = matched (λ x. params ∷ x ∷ []) n (old.now.trees 3) r.0 r.1 in
    let rows = one_answer 3 _ _ (overlay old.now.trees []) params e.0 (e.1.answer Null) _ env in
    let id : column r.0 0 ≡ Int (pos n) = ap (λ (x : Row). column x 0) r.2 in
    let col2 : column r.0 2 ≡ Text s.sent_id = ap (λ (x : Row). column x 1) r.2 in
    let col3 : column r.0 3 ≡ Int (pos s.batch) = ap (λ (x : Row). column x 2) r.2 in
    let after : Sentence = record s { rev = rev; words = words } in
    let stored = Int (pos n) ∷ Null ∷ Text s.sent_id ∷ Int (pos s.batch) ∷ Int (pos rev) ∷ Int (pos words) ∷ [] in
    let shows_row : e.0 ≡ (Int (pos n) ∷ Int (pos n) ∷ Null ∷ Text s.sent_id ∷ Int (pos s.batch) ∷ Int (pos rev) ∷ Int (pos words) ∷ []) ∷ [] = rows ∙ rw (id, col2, col3) refl in
    let news : edited old.now.trees (edit_of old.now.trees sentences (ids_of e.0) Given 1 e.0) ≡ put_row stored (without_rowid (pos n) (old.now.trees 3)) = rw (shows_row, cast_int (pos n), cast_null, cast_int (pos s.batch), cast_int (pos rev), cast_int (pos words)) refl in
    let all = put_row stored (without_rowid (pos n) (old.now.trees 3)) in (
      all,
      record { schema = e.2.schema; rows = e.2.applies.rows ∙ news; others = e.2.applies.others },
      replaced_shows sentence_view (λ _. refl) sentence_shown (λ _ _. refl) n j xs after s stored (old.now.trees 3) at is refl refl holds,
    )

pub updated_sentence : (old new : State) (params : Row) (done : ℕ) → old.now.schema ≡ desk_schema → Executes update_sentence params old new (Ok done) → new.now.schema ≡ desk_schema
updated_sentence old new params done has h = (updates old new has 2 sentences refl _ _ params done (runs_as update_sentence params old new desk_schema has _ update_sentence_is.0 update_sentence_is.1 done h)).2.schema

pub sets_total : (old new : State) (n j : ℕ) (count : ℕ) (words : ℕ) (xs : List Total) (t : Total) (done : ℕ) → old.now.schema ≡ desk_schema → Shows total_view (numbered total_shown 1 xs) (old.now.trees 8)
    → n ≡ 1 + j → slice_get xs j ≡ Some t → Executes update_total (Int (pos n) ∷ Int (pos count) ∷ Int (pos words) ∷ []) old new (Ok done)
    → (rows : List Row) × Sets old new 8 rows × Shows total_view (numbered total_shown 1 (slice_set xs j (record { sentences = count; words = words }))) rows
sets_total old new n j count words xs t done has holds at is h =
    let params = Int (pos n) ∷ Int (pos count) ∷ Int (pos words) ∷ [] in
    let w = runs_as update_total params old new desk_schema has _ update_total_is.0 update_total_is.1 done h in
    let e = updates old new has 5 totals refl _ _ params done w in
    let r = one_hit total_view (hits n (old.now.trees 8)) _ (hit total_view (λ _. refl) total_shown (λ _ _. refl) n j xs t (old.now.trees 8) at is holds) in
    let env : matches (overlay old.now.trees []) (by_number ∷ []) (inner 8 end) (params ∷ []) ≡ (params ∷ r.0 ∷ []) ∷ [] = matched (λ x. params ∷ x ∷ []) n (old.now.trees 8) r.0 r.1 in
    let rows = one_answer 8 _ _ (overlay old.now.trees []) params e.0 (e.1.answer Null) _ env in
    let id : column r.0 0 ≡ Int (pos n) = ap (λ (x : Row). column x 0) r.2 in
    let after : Total = record { sentences = count; words = words } in
    let stored = Int (pos n) ∷ Null ∷ Int (pos count) ∷ Int (pos words) ∷ [] in
    let shows_row : e.0 ≡ (Int (pos n) ∷ Int (pos n) ∷ Null ∷ Int (pos count) ∷ Int (pos words) ∷ []) ∷ [] = rows ∙ rw (id) refl in
    let news : edited old.now.trees (edit_of old.now.trees totals (ids_of e.0) Given 1 e.0) ≡ put_row stored (without_rowid (pos n) (old.now.trees 8)) = rw (shows_row, cast_int (pos n), cast_null, cast_int (pos count), cast_int (pos words)) refl in
    let all = put_row stored (without_rowid (pos n) (old.now.trees 8)) in (
      all,
      record { schema = e.2.schema; rows = e.2.applies.rows ∙ news; others = e.2.applies.others },
      replaced_shows total_view (λ _. refl) total_shown (λ _ _. refl) n j xs after t stored (old.now.trees 8) at is refl refl holds,
    )

pub updated_total : (old new : State) (params : Row) (done : ℕ) → old.now.schema ≡ desk_schema → Executes update_total params old new (Ok done) → new.now.schema ≡ desk_schema
updated_total old new params done has h = (updates old new has 5 totals refl _ _ params done (runs_as update_total params old new desk_schema has _ update_total_is.0 update_total_is.1 done h)).2.schema

pub removes_pulled : (old new : State) (n : ℕ) (ns : List ℕ) (done : ℕ) → old.now.schema ≡ desk_schema → Shows number_view (map number_shown ns) (old.now.trees 9) → Executes delete_pulled (Int (pos n) ∷ []) old new (Ok done)
    → (rows : List Row) × Sets old new 9 rows × Shows number_view (map number_shown (filter (λ m. not (m == n)) ns)) rows
removes_pulled old new n ns done has holds h =
    let params = Int (pos n) ∷ [] in
    let rows = old.now.trees 9 in
    let w = runs_as delete_pulled params old new desk_schema has _ delete_pulled_is.0 delete_pulled_is.1 done h in
    let e = deletes old new has 6 pulled refl _ _ params done w in
    let envs : matches (overlay old.now.trees []) (by_number ∷ []) (inner 9 end) (params ∷ []) ≡ map (λ r. params ∷ r ∷ []) (hits n rows) = matched_all (λ r. params ∷ r ∷ []) n rows in
    let given = all_answers 9 (by_number ∷ []) delete_pulled_terms (overlay old.now.trees []) params e.0 (e.1.answer Null) _ envs in
    let ids : IsPermutation (map number_view (hits n rows)) e.0 = subst (λ l. IsPermutation l e.0) (map-map (eval_all delete_pulled_terms) (λ r. params ∷ r ∷ []) (hits n rows)) given in
    let all = IsPermutation-trans _ _ _ (hits_show number_view (λ _. refl) n (map number_shown ns) rows holds) ids in (
      without_all rows (ids_of e.0),
      record { schema = e.2.schema; rows = e.2.applies.rows; others = e.2.applies.others },
      removed_shows n ns rows e.0 all holds,
    )

pub deleted_pulled : (old new : State) (params : Row) (done : ℕ) → old.now.schema ≡ desk_schema → Executes delete_pulled params old new (Ok done) → new.now.schema ≡ desk_schema
deleted_pulled old new params done has h = (deletes old new has 6 pulled refl _ _ params done (runs_as delete_pulled params old new desk_schema has _ delete_pulled_is.0 delete_pulled_is.1 done h)).2.schema

-- the other tables show what they showed
module _ (old new : State) (tree : ℕ) (rows : List Row) (s : Sets old new tree rows) where
  pub same_table : (view : Row → Row) (shown : List Row) (t : ℕ) → t ≢ tree → 2 ≢ t → 4 ≢ t → 6 ≢ t → Shows view shown (old.now.trees t) → Shows view shown (new.now.trees t)
  same_table view shown t apart a b c same = subst (Shows view shown) (sym (s.others t apart (no_index t a b c))) same

  -- and the list of objects is as it was
  pub same_list : catalog_tree ≢ tree → ListsDesk old.now.trees → ListsDesk new.now.trees
  same_list apart listed schema lists = listed schema (subst (λ objects. Lists objects schema) (s.others catalog_tree apart (no_index catalog_tree (λ e. cc) (λ e. cc) (λ e. cc))) lists)

pub stands_batch : (old new : State) (d : Tables) (n : ℕ) (b : Batch) → Puts old new 1 (batch_stored n b) → n ≡ 1 + length d.batches → AreStored d old.now.trees → AreStored (with_batch d b) new.now.trees
stands_batch old new d n b puts at s = record {
  listed = same_list old new 1 _ puts.sets (λ e. cc) s.listed;
  meta = same_table old new 1 _ puts.sets meta_view _ 0 (λ e. cc) (λ e. cc) (λ e. cc) (λ e. cc) s.meta;
  sentences = same_table old new 1 _ puts.sets sentence_view _ 3 (λ e. cc) (λ e. cc) (λ e. cc) (λ e. cc) s.sentences;
  revisions = same_table old new 1 _ puts.sets revision_view _ 5 (λ e. cc) (λ e. cc) (λ e. cc) (λ e. cc) s.revisions;
  moves = same_table old new 1 _ puts.sets move_view _ 7 (λ e. cc) (λ e. cc) (λ e. cc) (λ e. cc) s.moves;
  totals = same_table old new 1 _ puts.sets total_view _ 8 (λ e. cc) (λ e. cc) (λ e. cc) (λ e. cc) s.totals;
  pulled = same_table old new 1 _ puts.sets number_view _ 9 (λ e. cc) (λ e. cc) (λ e. cc) (λ e. cc) s.pulled;
  batches = subst (Shows batch_view _) (sym puts.sets.rows) (put_numbered batch_view batch_shown n d.batches b (batch_stored n b) (old.now.trees 1) at refl puts.free s.batches);
}

pub stands_sentence : (old new : State) (d : Tables) (n : ℕ) (x : Sentence) → Puts old new 3 (sentence_stored n x) → n ≡ 1 + length d.sentences → AreStored d old.now.trees → AreStored (with_sentence d x) new.now.trees
stands_sentence old new d n x puts at s = record {
  listed = same_list old new 3 _ puts.sets (λ e. cc) s.listed;
  meta = same_table old new 3 _ puts.sets meta_view _ 0 (λ e. cc) (λ e. cc) (λ e. cc) (λ e. cc) s.meta;
  batches = same_table old new 3 _ puts.sets batch_view _ 1 (λ e. cc) (λ e. cc) (λ e. cc) (λ e. cc) s.batches;
  revisions = same_table old new 3 _ puts.sets revision_view _ 5 (λ e. cc) (λ e. cc) (λ e. cc) (λ e. cc) s.revisions;
  moves = same_table old new 3 _ puts.sets move_view _ 7 (λ e. cc) (λ e. cc) (λ e. cc) (λ e. cc) s.moves;
  totals = same_table old new 3 _ puts.sets total_view _ 8 (λ e. cc) (λ e. cc) (λ e. cc) (λ e. cc) s.totals;
  pulled = same_table old new 3 _ puts.sets number_view _ 9 (λ e. cc) (λ e. cc) (λ e. cc) (λ e. cc) s.pulled;
  sentences = subst (Shows sentence_view _) (sym puts.sets.rows) (put_numbered sentence_view sentence_shown n d.sentences x (sentence_stored n x) (old.now.trees 3) at refl puts.free s.sentences);
}

pub stands_move : (old new : State) (d : Tables) (n : ℕ) (m : Move) → Puts old new 7 (move_stored n m) → n ≡ 1 + length d.moves → AreStored d old.now.trees → AreStored (with_move d m) new.now.trees
stands_move old new d n m puts at s = record {
  listed = same_list old new 7 _ puts.sets (λ e. cc) s.listed;
  meta = same_table old new 7 _ puts.sets meta_view _ 0 (λ e. cc) (λ e. cc) (λ e. cc) (λ e. cc) s.meta;
  batches = same_table old new 7 _ puts.sets batch_view _ 1 (λ e. cc) (λ e. cc) (λ e. cc) (λ e. cc) s.batches;
  sentences = same_table old new 7 _ puts.sets sentence_view _ 3 (λ e. cc) (λ e. cc) (λ e. cc) (λ e. cc) s.sentences;
  revisions = same_table old new 7 _ puts.sets revision_view _ 5 (λ e. cc) (λ e. cc) (λ e. cc) (λ e. cc) s.revisions;
  totals = same_table old new 7 _ puts.sets total_view _ 8 (λ e. cc) (λ e. cc) (λ e. cc) (λ e. cc) s.totals;
  pulled = same_table old new 7 _ puts.sets number_view _ 9 (λ e. cc) (λ e. cc) (λ e. cc) (λ e. cc) s.pulled;
  moves = subst (Shows move_view _) (sym puts.sets.rows) (put_numbered move_view move_shown n d.moves m (move_stored n m) (old.now.trees 7) at refl puts.free s.moves);
}

pub stands_revision : (old new : State) (d : Tables) (r : Revision) → Puts old new 5 (revision_stored (old.now.trees 5) r) → AreStored d old.now.trees → AreStored (with_revision d r) new.now.trees
stands_revision old new d r puts s = record {
  listed = same_list old new 5 _ puts.sets (λ e. cc) s.listed;
  meta = same_table old new 5 _ puts.sets meta_view _ 0 (λ e. cc) (λ e. cc) (λ e. cc) (λ e. cc) s.meta;
  batches = same_table old new 5 _ puts.sets batch_view _ 1 (λ e. cc) (λ e. cc) (λ e. cc) (λ e. cc) s.batches;
  sentences = same_table old new 5 _ puts.sets sentence_view _ 3 (λ e. cc) (λ e. cc) (λ e. cc) (λ e. cc) s.sentences;
  moves = same_table old new 5 _ puts.sets move_view _ 7 (λ e. cc) (λ e. cc) (λ e. cc) (λ e. cc) s.moves;
  totals = same_table old new 5 _ puts.sets total_view _ 8 (λ e. cc) (λ e. cc) (λ e. cc) (λ e. cc) s.totals;
  pulled = same_table old new 5 _ puts.sets number_view _ 9 (λ e. cc) (λ e. cc) (λ e. cc) (λ e. cc) s.pulled;
  revisions = subst (Shows revision_view _) (sym puts.sets.rows) (subst (λ l. Shows revision_view l (put_row (revision_stored (old.now.trees 5) r) (old.now.trees 5))) (sym (map-append revision_shown d.revisions (r ∷ []))) (put_shows revision_view (map revision_shown d.revisions) (revision_stored (old.now.trees 5) r) (old.now.trees 5) puts.free s.revisions));
}

pub stands_pulled : (old new : State) (d : Tables) (n : ℕ) → Puts old new 9 (pulled_stored n) → AreStored d old.now.trees → AreStored (with_pulled d n) new.now.trees
stands_pulled old new d n puts s = record {
  listed = same_list old new 9 _ puts.sets (λ e. cc) s.listed;
  meta = same_table old new 9 _ puts.sets meta_view _ 0 (λ e. cc) (λ e. cc) (λ e. cc) (λ e. cc) s.meta;
  batches = same_table old new 9 _ puts.sets batch_view _ 1 (λ e. cc) (λ e. cc) (λ e. cc) (λ e. cc) s.batches;
  sentences = same_table old new 9 _ puts.sets sentence_view _ 3 (λ e. cc) (λ e. cc) (λ e. cc) (λ e. cc) s.sentences;
  revisions = same_table old new 9 _ puts.sets revision_view _ 5 (λ e. cc) (λ e. cc) (λ e. cc) (λ e. cc) s.revisions;
  moves = same_table old new 9 _ puts.sets move_view _ 7 (λ e. cc) (λ e. cc) (λ e. cc) (λ e. cc) s.moves;
  totals = same_table old new 9 _ puts.sets total_view _ 8 (λ e. cc) (λ e. cc) (λ e. cc) (λ e. cc) s.totals;
  pulled = subst (Shows number_view _) (sym puts.sets.rows) (subst (λ l. Shows number_view l (put_row (pulled_stored n) (old.now.trees 9))) (sym (map-append number_shown d.pulled (n ∷ []))) (put_shows number_view (map number_shown d.pulled) (pulled_stored n) (old.now.trees 9) puts.free s.pulled));
}

pub stands_batches : (old new : State) (d : Tables) (xs : List Batch) (rows : List Row) → Sets old new 1 rows → Shows batch_view (numbered batch_shown 1 xs) rows → AreStored d old.now.trees → AreStored (record d { batches = xs }) new.now.trees
stands_batches old new d xs rows sets shows s = record {
  listed = same_list old new 1 rows sets (λ e. cc) s.listed;
  meta = same_table old new 1 rows sets meta_view _ 0 (λ e. cc) (λ e. cc) (λ e. cc) (λ e. cc) s.meta;
  sentences = same_table old new 1 rows sets sentence_view _ 3 (λ e. cc) (λ e. cc) (λ e. cc) (λ e. cc) s.sentences;
  revisions = same_table old new 1 rows sets revision_view _ 5 (λ e. cc) (λ e. cc) (λ e. cc) (λ e. cc) s.revisions;
  moves = same_table old new 1 rows sets move_view _ 7 (λ e. cc) (λ e. cc) (λ e. cc) (λ e. cc) s.moves;
  totals = same_table old new 1 rows sets total_view _ 8 (λ e. cc) (λ e. cc) (λ e. cc) (λ e. cc) s.totals;
  pulled = same_table old new 1 rows sets number_view _ 9 (λ e. cc) (λ e. cc) (λ e. cc) (λ e. cc) s.pulled;
  batches = subst (Shows batch_view _) (sym sets.rows) shows;
}

pub stands_sentences : (old new : State) (d : Tables) (xs : List Sentence) (rows : List Row) → Sets old new 3 rows → Shows sentence_view (numbered sentence_shown 1 xs) rows → AreStored d old.now.trees → AreStored (record d { sentences = xs }) new.now.trees
stands_sentences old new d xs rows sets shows s = record {
  listed = same_list old new 3 rows sets (λ e. cc) s.listed;
  meta = same_table old new 3 rows sets meta_view _ 0 (λ e. cc) (λ e. cc) (λ e. cc) (λ e. cc) s.meta;
  batches = same_table old new 3 rows sets batch_view _ 1 (λ e. cc) (λ e. cc) (λ e. cc) (λ e. cc) s.batches;
  revisions = same_table old new 3 rows sets revision_view _ 5 (λ e. cc) (λ e. cc) (λ e. cc) (λ e. cc) s.revisions;
  moves = same_table old new 3 rows sets move_view _ 7 (λ e. cc) (λ e. cc) (λ e. cc) (λ e. cc) s.moves;
  totals = same_table old new 3 rows sets total_view _ 8 (λ e. cc) (λ e. cc) (λ e. cc) (λ e. cc) s.totals;
  pulled = same_table old new 3 rows sets number_view _ 9 (λ e. cc) (λ e. cc) (λ e. cc) (λ e. cc) s.pulled;
  sentences = subst (Shows sentence_view _) (sym sets.rows) shows;
}

pub stands_totals : (old new : State) (d : Tables) (xs : List Total) (rows : List Row) → Sets old new 8 rows → Shows total_view (numbered total_shown 1 xs) rows → AreStored d old.now.trees → AreStored (record d { totals = xs }) new.now.trees
stands_totals old new d xs rows sets shows s = record {
  listed = same_list old new 8 rows sets (λ e. cc) s.listed;
  meta = same_table old new 8 rows sets meta_view _ 0 (λ e. cc) (λ e. cc) (λ e. cc) (λ e. cc) s.meta;
  batches = same_table old new 8 rows sets batch_view _ 1 (λ e. cc) (λ e. cc) (λ e. cc) (λ e. cc) s.batches;
  sentences = same_table old new 8 rows sets sentence_view _ 3 (λ e. cc) (λ e. cc) (λ e. cc) (λ e. cc) s.sentences;
  revisions = same_table old new 8 rows sets revision_view _ 5 (λ e. cc) (λ e. cc) (λ e. cc) (λ e. cc) s.revisions;
  moves = same_table old new 8 rows sets move_view _ 7 (λ e. cc) (λ e. cc) (λ e. cc) (λ e. cc) s.moves;
  pulled = same_table old new 8 rows sets number_view _ 9 (λ e. cc) (λ e. cc) (λ e. cc) (λ e. cc) s.pulled;
  totals = subst (Shows total_view _) (sym sets.rows) shows;
}

pub stands_numbers : (old new : State) (d : Tables) (xs : List ℕ) (rows : List Row) → Sets old new 9 rows → Shows number_view (map number_shown xs) rows → AreStored d old.now.trees → AreStored (record d { pulled = xs }) new.now.trees
stands_numbers old new d xs rows sets shows s = record {
  listed = same_list old new 9 rows sets (λ e. cc) s.listed;
  meta = same_table old new 9 rows sets meta_view _ 0 (λ e. cc) (λ e. cc) (λ e. cc) (λ e. cc) s.meta;
  batches = same_table old new 9 rows sets batch_view _ 1 (λ e. cc) (λ e. cc) (λ e. cc) (λ e. cc) s.batches;
  sentences = same_table old new 9 rows sets sentence_view _ 3 (λ e. cc) (λ e. cc) (λ e. cc) (λ e. cc) s.sentences;
  revisions = same_table old new 9 rows sets revision_view _ 5 (λ e. cc) (λ e. cc) (λ e. cc) (λ e. cc) s.revisions;
  moves = same_table old new 9 rows sets move_view _ 7 (λ e. cc) (λ e. cc) (λ e. cc) (λ e. cc) s.moves;
  totals = same_table old new 9 rows sets total_view _ 8 (λ e. cc) (λ e. cc) (λ e. cc) (λ e. cc) s.totals;
  pulled = subst (Shows number_view _) (sym sets.rows) shows;
}
