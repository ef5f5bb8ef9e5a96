-- On the tables of a desk, with no limit on its steps, an UPDATE or a DELETE by number is refused nothing.
use Rattle.std.proofs.Common.{◌≡◌, ◌<◌, ◌^◌, ◌+◌, ◌-◌, inl, inr, ℕ, zero, suc, ◌||◌, pos, Bool, true, false, List, [], ◌∷◌, length, map, refl, sym, ap, subst, ◌∙◌, arith, Option, None, Some, Err, lit≤, slice_get, slice_set, IsPermutation}
use Rattle.std.proofs.lemmas.List.Sorted.{length_permutation}
use Rattle.sqlite.specs.declared.error.Error.{Error}
use Rattle.sqlite.specs.declared.types.Value.TheVariants.{Null, Int, Text}
use Rattle.sqlite.specs.Order.{Row, column}
use Rattle.sqlite.specs.Tree.{Trees, rowid, put_row, without_rowid, with_tree}
use Rattle.sqlite.specs.Table.{Table}
use Rattle.sqlite.specs.Command.TheVariants.{Update, Delete}
use Rattle.sqlite.specs.Edit.{Edit, edit_of}
use Rattle.sqlite.specs.Rowids.TheVariants.{Given}
use Rattle.sqlite.specs.Effect.{Answers, RefusesQuery}
use Rattle.sqlite.specs.Listing.{understood}
use Rattle.sqlite.specs.Query.{inner, end, matches}
use Rattle.sqlite.specs.Program.{overlay}
use Rattle.sqlite.specs.State.{State, Fails, ExecutesInside}
use Rattle.sqlite_schema.specs.declared.program.Program.{Program}
use Rattle.sqlite_rules.specs.Edit.{without_all}
use Rattle.sqlite_rules.specs.Calls.{ids_of}
use Rattle.sqlite_tied.specs.Compute.{everything}
use Rattle.tb_tables.specs.Layout.{desk_schema, batches, sentences, totals, pulled}
use Rattle.tb_tables.specs.Records.{Tables, AreStored, Shows, Batch, Sentence, Total, numbered, batch_shown, sentence_shown, total_shown, batch_view, sentence_view, total_view}
use Rattle.tb_tables.specs.Failing.{IsShort, IsWhole, AreApart, AreUnique}
use Rattle.tb_tables.proofs.Texts.{simple, by_number, update_batch, update_batch_is, update_batch_terms, update_sentence, update_sentence_is, update_sentence_terms, update_total, update_total_is, update_total_terms, delete_pulled, delete_pulled_is, delete_pulled_terms}
use Rattle.tb_tables.proofs.Lists.{cast_int, cast_null, found_one}
use Rattle.tb_tables.proofs.Keyed.{hits, hits_show, hit, one_hit, matched, matched_all, replaced_shows, free_without}
use Rattle.tb_tables.proofs.Meaning.{one_answer, all_answers}
use Rattle.tb_tables.proofs.Unique.{keeps_unique}
use Rattle.tb_tables.proofs.Failing.{in_range}
use Rattle.tb_tables.proofs.Refusing.{IsAllowed, IsWrite, rows_fail, updates_stop, deletes_stop}
use Rattle.tb_tables.proofs.Sizes.{batch_fits, sentence_fits, total_fits}

nothing_left : {X : Type 0} (ys : List X) → IsPermutation [] ys → ys ≡ []
nothing_left [] same = refl
nothing_left (y ∷ ys) same = absurd (let long = length_permutation [] (y ∷ ys) same in omega (arith, long))

-- a record that keeps its key
set_keeps : {X K : Type 0} (key : X → K) (xs : List X) (j : ℕ) (x y : X) → slice_get xs j ≡ Some y → key x ≡ key y → map key (slice_set xs j x) ≡ map key xs
set_keeps key [] j x y is same = refl
set_keeps key (z ∷ zs) zero x y is same = let here : z ≡ y = (let e = is in cc) in ap (λ k. k ∷ map key zs) (same ∙ ap key (sym here))
set_keeps key (z ∷ zs) (suc j) x y is same = ap (λ ks. key z ∷ ks) (set_keeps key zs j x y is same)

module _ (view : Row → Row) (keeps : (r : Row) → column (view r) 0 ≡ column r 0) {X : Type 0} (row : ℕ → X → Row) (keyed : (n : ℕ) (x : X) → rowid (row n x) ≡ Int (pos n)) where
  -- no row has the number of no record
  none_hit : (n j : ℕ) (xs : List X) (rows : List Row) → n ≡ 1 + j → slice_get xs j ≡ None → Shows view (numbered row 1 xs) rows → hits n rows ≡ []
  none_hit n j xs rows at is shows =
      let none : hits n (numbered row 1 xs) ≡ [] = found_one row keyed (λ r. r) j 1 n xs at ∙ rw is refl in
      map_empty (hits n rows) (nothing_left _ (subst (λ l. IsPermutation l (map view (hits n rows))) none (shown_hits n (numbered row 1 xs) rows shows)))
    where
      map_empty : (rs : List Row) → map view rs ≡ [] → rs ≡ []
      map_empty [] e = refl
      map_empty (r ∷ rs) e = absurd cc

      shown_hits : (n : ℕ) (shown rows : List Row) → Shows view shown rows → Shows view (hits n shown) (hits n rows)
      shown_hits n shown rows shows = hits_show view keeps n shown rows shows

abbrev unchanged : Table → Edit
unchanged table = record { table = table; gone = []; news = [] }

abbrev exchanged : Table → ℕ → Row → Edit
exchanged table n new = record { table = table; gone = pos n ∷ []; news = new ∷ [] }

-- the text that is given, or the one that stays, is too long
abbrev IsLongBatch : Tables → ℕ → List ℕ → Type 0
IsLongBatch d n worker = IsShort worker → ((b : Batch) → slice_get d.batches (n - 1) ≡ Some b → IsShort b.name) → ⊥

abbrev IsLongSentence : Tables → ℕ → Type 0
IsLongSentence d n = ((s : Sentence) → slice_get d.sentences (n - 1) ≡ Some s → IsShort s.sent_id) → ⊥

-- ---- UPDATE batches

batch_whole : IsWhole (length update_batch) 3 (understood desk_schema update_batch)
unfolding understood everything
batch_whole = (lit≤ tt, refl)

abbrev batch_query : Program
batch_query = record { lets = []; body = simple 1 (by_number ∷ []) update_batch_terms [] }

batch_is : IsWrite desk_schema update_batch 3 (Update 1 batch_query)
batch_is = record { writing = tt; quiet = refl; is = update_batch_is.0; plain = update_batch_is.1; whole = batch_whole }

abbrev batch_params : (n : ℕ) (st : ℕ) (worker : List ℕ) → Row
batch_params n st worker = Int (pos n) ∷ Int (pos st) ∷ Text worker ∷ []

batch_given : (db : Trees) (n : ℕ) (st : ℕ) (worker : List ℕ) (e : Error) → RefusesQuery None (record { schema = desk_schema; trees = db }) batch_query (batch_params n st worker) e → ⊥
unfolding everything
batch_given db n st worker e (inl h) = let x = h.1 in absurd cc
batch_given db n st worker e (inr (inl (is, inl h))) = h
batch_given db n st worker e (inr (inl (is, inr h))) = h.4
batch_given db n st worker e (inr (inr h)) = let x = h.1 in absurd cc

module _ (d : Tables) (db : Trees) (stands : AreStored d db) (unique : AreUnique d) (n : ℕ) (st : ℕ) (worker : List ℕ) (at : n ≡ 1 + (n - 1)) (fits : n < 2 ^ 63) (rows : List Row)
    (answers : Answers (record { schema = desk_schema; trees = db }) batch_query (batch_params n st worker) rows) where
  batch_allowed : (found : Option Batch) → slice_get d.batches (n - 1) ≡ found → IsAllowed (IsLongBatch d n worker) db (edit_of db batches (ids_of rows) Given 1 rows)
  batch_allowed None is =
      let params = batch_params n st worker in
      let none = none_hit batch_view (λ _. refl) batch_shown (λ _ _. refl) n (n - 1) d.batches (db 1) at is stands.batches in
      let env : matches (overlay db []) (by_number ∷ []) (inner 1 end) (params ∷ []) ≡ [] = matched_all (λ x. params ∷ x ∷ []) n (db 1) ∙ ap (map (λ x. params ∷ x ∷ [])) none in
      let empty = nothing_left rows (all_answers 1 _ _ (overlay db []) params rows (answers.answer Null) [] env) in
      let same : edit_of db batches (ids_of rows) Given 1 rows ≡ unchanged batches = rw empty refl in
      subst (IsAllowed (IsLongBatch d n worker) db) (sym same)
      (record { typed = refl; present = refl; checked = refl; keyed = refl; fresh = refl; fits = refl; referred = refl; unique = keeps_unique d (with_tree db 1 (db 1)) stands.batches stands.sentences stands.revisions unique; big = λ h short named. h.1 })
  batch_allowed (Some b) is =
      let params = batch_params n st worker in
      let r = one_hit batch_view (hits n (db 1)) _ (hit batch_view (λ _. refl) batch_shown (λ _ _. refl) n (n - 1) d.batches b (db 1) at is stands.batches) in
      let env : matches (overlay db []) (by_number ∷ []) (inner 1 end) (params ∷ []) ≡ (params ∷ r.0 ∷ []) ∷ [] = matched (λ x. params ∷ x ∷ []) n (db 1) r.0 r.1 in
      let one = one_answer 1 _ _ (overlay db []) params rows (answers.answer Null) _ env in
      let id : column r.0 0 ≡ Int (pos n) = ap (λ (x : Row). column x 0) r.2 in
      let col2 : column r.0 2 ≡ Text b.name = ap (λ (x : Row). column x 1) r.2 in
      let after : Batch = record b { state = st; worker = worker } in
      let stored = Int (pos n) ∷ Null ∷ Text b.name ∷ Int (pos st) ∷ Text worker ∷ [] in
      let shows_row : rows ≡ (Int (pos n) ∷ stored) ∷ [] = one ∙ rw (id, col2) refl in
      let same : edit_of db batches (ids_of rows) Given 1 rows ≡ exchanged batches n stored = rw (shows_row, cast_int (pos n), cast_null, cast_int (pos st)) refl in
      let kept : AreUnique (record d { batches = slice_set d.batches (n - 1) after }) = record { batches = (subst AreApart (sym (set_keeps (λ (x : Batch). x.name) d.batches (n - 1) after b is refl)) unique.batches); sentences = unique.sentences; revisions = unique.revisions } in
      subst (IsAllowed (IsLongBatch d n worker) db) (sym same) (record {
        typed = refl;
        present = refl;
        checked = refl;
        keyed = refl;
        fresh = rw (free_without n stored refl (db 1)) refl;
        fits = rw (in_range n fits) refl;
        referred = refl;
        unique = keeps_unique (record d { batches = slice_set d.batches (n - 1) after }) (with_tree db 1 (put_row stored (without_rowid (pos n) (db 1)))) (replaced_shows batch_view (λ _. refl) batch_shown (λ _ _. refl) n (n - 1) d.batches after b stored (db 1) at is refl refl stands.batches) stands.sentences stands.revisions kept;
        big = λ h short named. batch_fits n after (named b is) short h.0 h.1 h.2;
      })

pub batch_fails : (old new : State) (d : Tables) (n : ℕ) (st : ℕ) (worker : List ℕ) (e : Error) → old.now.schema ≡ desk_schema → old.step_limit ≡ None → AreStored d old.now.trees → 0 < n → n < 2 ^ 63 → AreUnique d
    → ExecutesInside 0 update_batch (batch_params n st worker) old new (Err e) → Fails old new (IsLongBatch d n worker) e
batch_fails old new d n st worker e has unlimited stands positive fits unique ran =
    let db = old.now.trees in
    let params = batch_params n st worker in
    rows_fail (IsLongBatch d n worker) old new update_batch params (Update 1 batch_query) batches has unlimited batch_is (λ e h. h)
    (updates_stop db batches params (IsLongBatch d n worker) batch_query (batch_given db n st worker)
    (λ rows is. batch_allowed d db stands unique n st worker (omega (arith, positive)) fits rows is (slice_get d.batches (n - 1)) refl)) e ran

-- ---- UPDATE sentences

sentence_whole : IsWhole (length update_sentence) 3 (understood desk_schema update_sentence)
unfolding understood everything
sentence_whole = (lit≤ tt, refl)

abbrev sentence_query : Program
sentence_query = record { lets = []; body = simple 3 (by_number ∷ []) update_sentence_terms [] }

sentence_is : IsWrite desk_schema update_sentence 3 (Update 2 sentence_query)
sentence_is = record { writing = tt; quiet = refl; is = update_sentence_is.0; plain = update_sentence_is.1; whole = sentence_whole }

abbrev sentence_params : (n : ℕ) (rev : ℕ) (words : ℕ) → Row
sentence_params n rev words = Int (pos n) ∷ Int (pos rev) ∷ Int (pos words) ∷ []

sentence_given : (db : Trees) (n : ℕ) (rev : ℕ) (words : ℕ) (e : Error) → RefusesQuery None (record { schema = desk_schema; trees = db }) sentence_query (sentence_params n rev words) e → ⊥
unfolding everything
sentence_given db n rev words e (inl h) = let x = h.1 in absurd cc
sentence_given db n rev words e (inr (inl (is, inl h))) = h
sentence_given db n rev words e (inr (inl (is, inr h))) = h.4
sentence_given db n rev words e (inr (inr h)) = let x = h.1 in absurd cc

module _ (d : Tables) (db : Trees) (stands : AreStored d db) (unique : AreUnique d) (n : ℕ) (rev : ℕ) (words : ℕ) (at : n ≡ 1 + (n - 1)) (fits : n < 2 ^ 63) (rows : List Row)
    (answers : Answers (record { schema = desk_schema; trees = db }) sentence_query (sentence_params n rev words) rows) where
  sentence_allowed : (found : Option Sentence) → slice_get d.sentences (n - 1) ≡ found → IsAllowed (IsLongSentence d n) db (edit_of db sentences (ids_of rows) Given 1 rows)
  sentence_allowed None is =
      let params = sentence_params n rev words in
      let none = none_hit sentence_view (λ _. refl) sentence_shown (λ _ _. refl) n (n - 1) d.sentences (db 3) at is stands.sentences in
      let env : matches (overlay db []) (by_number ∷ []) (inner 3 end) (params ∷ []) ≡ [] = matched_all (λ x. params ∷ x ∷ []) n (db 3) ∙ ap (map (λ x. params ∷ x ∷ [])) none in
      let empty = nothing_left rows (all_answers 3 _ _ (overlay db []) params rows (answers.answer Null) [] env) in
      let same : edit_of db sentences (ids_of rows) Given 1 rows ≡ unchanged sentences = rw empty refl in
      subst (IsAllowed (IsLongSentence d n) db) (sym same)
      (record { typed = refl; present = refl; checked = refl; keyed = refl; fresh = refl; fits = refl; referred = refl; unique = keeps_unique d (with_tree db 3 (db 3)) stands.batches stands.sentences stands.revisions unique; big = λ h named. h.1 })
  sentence_allowed (Some b) is =
      let params = sentence_params n rev words in
      let r = one_hit sentence_view (hits n (db 3)) _ (hit sentence_view (λ _. refl) sentence_shown (λ _ _. refl) n (n - 1) d.sentences b (db 3) at is stands.sentences) in
      let env : matches (overlay db []) (by_number ∷ []) (inner 3 end) (params ∷ []) ≡ (params ∷ r.0 ∷ []) ∷ [] = matched (λ x. params ∷ x ∷ []) n (db 3) r.0 r.1 in
      let one = one_answer 3 _ _ (overlay db []) params rows (answers.answer Null) _ env in
      let id : column r.0 0 ≡ Int (pos n) = ap (λ (x : Row). column x 0) r.2 in
      let col2 : column r.0 2 ≡ Text b.sent_id = ap (λ (x : Row). column x 1) r.2 in
      let col3 : column r.0 3 ≡ Int (pos b.batch) = ap (λ (x : Row). column x 2) r.2 in
      let after : Sentence = record b { rev = rev; words = words } in
      let stored = Int (pos n) ∷ Null ∷ Text b.sent_id ∷ Int (pos b.batch) ∷ Int (pos rev) ∷ Int (pos words) ∷ [] in
      let shows_row : rows ≡ (Int (pos n) ∷ stored) ∷ [] = one ∙ rw (id, col2, col3) refl in
      let same : edit_of db sentences (ids_of rows) Given 1 rows ≡ exchanged sentences n stored = rw (shows_row, cast_int (pos n), cast_null, cast_int (pos b.batch), cast_int (pos rev), cast_int (pos words)) refl in
      let kept : AreUnique (record d { sentences = slice_set d.sentences (n - 1) after }) = record { batches = unique.batches; sentences = (subst AreApart (sym (set_keeps (λ (x : Sentence). x.sent_id) d.sentences (n - 1) after b is refl)) unique.sentences); revisions = unique.revisions } in
      subst (IsAllowed (IsLongSentence d n) db) (sym same) (record {
        typed = refl;
        present = refl;
        checked = refl;
        keyed = refl;
        fresh = rw (free_without n stored refl (db 3)) refl;
        fits = rw (in_range n fits) refl;
        referred = refl;
        unique = keeps_unique (record d { sentences = slice_set d.sentences (n - 1) after }) (with_tree db 3 (put_row stored (without_rowid (pos n) (db 3)))) stands.batches (replaced_shows sentence_view (λ _. refl) sentence_shown (λ _ _. refl) n (n - 1) d.sentences after b stored (db 3) at is refl refl stands.sentences) stands.revisions kept;
        big = λ h named. sentence_fits n after (named b is) h.0 h.1 h.2;
      })

pub sentence_fails : (old new : State) (d : Tables) (n : ℕ) (rev : ℕ) (words : ℕ) (e : Error) → old.now.schema ≡ desk_schema → old.step_limit ≡ None → AreStored d old.now.trees → 0 < n → n < 2 ^ 63 → AreUnique d
    → ExecutesInside 0 update_sentence (sentence_params n rev words) old new (Err e) → Fails old new (IsLongSentence d n) e
sentence_fails old new d n rev words e has unlimited stands positive fits unique ran =
    let db = old.now.trees in
    let params = sentence_params n rev words in
    rows_fail (IsLongSentence d n) old new update_sentence params (Update 2 sentence_query) sentences has unlimited sentence_is (λ e h. h)
    (updates_stop db sentences params (IsLongSentence d n) sentence_query (sentence_given db n rev words)
    (λ rows is. sentence_allowed d db stands unique n rev words (omega (arith, positive)) fits rows is (slice_get d.sentences (n - 1)) refl)) e ran

-- ---- UPDATE totals

total_whole : IsWhole (length update_total) 3 (understood desk_schema update_total)
unfolding understood everything
total_whole = (lit≤ tt, refl)

abbrev total_query : Program
total_query = record { lets = []; body = simple 8 (by_number ∷ []) update_total_terms [] }

total_is : IsWrite desk_schema update_total 3 (Update 5 total_query)
total_is = record { writing = tt; quiet = refl; is = update_total_is.0; plain = update_total_is.1; whole = total_whole }

abbrev total_params : (n : ℕ) (count : ℕ) (words : ℕ) → Row
total_params n count words = Int (pos n) ∷ Int (pos count) ∷ Int (pos words) ∷ []

total_given : (db : Trees) (n : ℕ) (count : ℕ) (words : ℕ) (e : Error) → RefusesQuery None (record { schema = desk_schema; trees = db }) total_query (total_params n count words) e → ⊥
unfolding everything
total_given db n count words e (inl h) = let x = h.1 in absurd cc
total_given db n count words e (inr (inl (is, inl h))) = h
total_given db n count words e (inr (inl (is, inr h))) = h.4
total_given db n count words e (inr (inr h)) = let x = h.1 in absurd cc

module _ (d : Tables) (db : Trees) (stands : AreStored d db) (unique : AreUnique d) (n : ℕ) (count : ℕ) (words : ℕ) (at : n ≡ 1 + (n - 1)) (fits : n < 2 ^ 63) (rows : List Row)
    (answers : Answers (record { schema = desk_schema; trees = db }) total_query (total_params n count words) rows) where
  total_allowed : (found : Option Total) → slice_get d.totals (n - 1) ≡ found → IsAllowed ⊥ db (edit_of db totals (ids_of rows) Given 1 rows)
  total_allowed None is =
      let params = total_params n count words in
      let none = none_hit total_view (λ _. refl) total_shown (λ _ _. refl) n (n - 1) d.totals (db 8) at is stands.totals in
      let env : matches (overlay db []) (by_number ∷ []) (inner 8 end) (params ∷ []) ≡ [] = matched_all (λ x. params ∷ x ∷ []) n (db 8) ∙ ap (map (λ x. params ∷ x ∷ [])) none in
      let empty = nothing_left rows (all_answers 8 _ _ (overlay db []) params rows (answers.answer Null) [] env) in
      let same : edit_of db totals (ids_of rows) Given 1 rows ≡ unchanged totals = rw empty refl in
      subst (IsAllowed ⊥ db) (sym same)
      (record { typed = refl; present = refl; checked = refl; keyed = refl; fresh = refl; fits = refl; referred = refl; unique = keeps_unique d (with_tree db 8 (db 8)) stands.batches stands.sentences stands.revisions unique; big = λ h. h.1 })
  total_allowed (Some b) is =
      let params = total_params n count words in
      let r = one_hit total_view (hits n (db 8)) _ (hit total_view (λ _. refl) total_shown (λ _ _. refl) n (n - 1) d.totals b (db 8) at is stands.totals) in
      let env : matches (overlay db []) (by_number ∷ []) (inner 8 end) (params ∷ []) ≡ (params ∷ r.0 ∷ []) ∷ [] = matched (λ x. params ∷ x ∷ []) n (db 8) r.0 r.1 in
      let one = one_answer 8 _ _ (overlay db []) params rows (answers.answer Null) _ env in
      let id : column r.0 0 ≡ Int (pos n) = ap (λ (x : Row). column x 0) r.2 in
      let after : Total = record { sentences = count; words = words } in
      let stored = Int (pos n) ∷ Null ∷ Int (pos count) ∷ Int (pos words) ∷ [] in
      let shows_row : rows ≡ (Int (pos n) ∷ stored) ∷ [] = one ∙ rw (id) refl in
      let same : edit_of db totals (ids_of rows) Given 1 rows ≡ exchanged totals n stored = rw (shows_row, cast_int (pos n), cast_null, cast_int (pos count), cast_int (pos words)) refl in
      subst (IsAllowed ⊥ db) (sym same) (record {
        typed = refl;
        present = refl;
        checked = refl;
        keyed = refl;
        fresh = rw (free_without n stored refl (db 8)) refl;
        fits = rw (in_range n fits) refl;
        referred = refl;
        unique = keeps_unique d (with_tree db 8 (put_row stored (without_rowid (pos n) (db 8)))) stands.batches stands.sentences stands.revisions unique;
        big = λ h. total_fits n after h.0 h.1 h.2;
      })

pub total_fails : (old new : State) (d : Tables) (n : ℕ) (count : ℕ) (words : ℕ) (e : Error) → old.now.schema ≡ desk_schema → old.step_limit ≡ None → AreStored d old.now.trees → 0 < n → n < 2 ^ 63 → AreUnique d
    → ExecutesInside 0 update_total (total_params n count words) old new (Err e) → Fails old new ⊥ e
total_fails old new d n count words e has unlimited stands positive fits unique ran =
    let db = old.now.trees in
    let params = total_params n count words in
    rows_fail ⊥ old new update_total params (Update 5 total_query) totals has unlimited total_is (λ e h. h)
    (updates_stop db totals params ⊥ total_query (total_given db n count words)
    (λ rows is. total_allowed d db stands unique n count words (omega (arith, positive)) fits rows is (slice_get d.totals (n - 1)) refl)) e ran

-- ---- DELETE FROM pulled

pulled_whole : IsWhole (length delete_pulled) 1 (understood desk_schema delete_pulled)
unfolding understood everything
pulled_whole = (lit≤ tt, refl)

abbrev pulled_query : Program
pulled_query = record { lets = []; body = simple 9 (by_number ∷ []) delete_pulled_terms [] }

pulled_is : IsWrite desk_schema delete_pulled 1 (Delete 6 pulled_query)
pulled_is = record { writing = tt; quiet = refl; is = delete_pulled_is.0; plain = delete_pulled_is.1; whole = pulled_whole }

pulled_given : (db : Trees) (n : ℕ) (e : Error) → RefusesQuery None (record { schema = desk_schema; trees = db }) pulled_query (Int (pos n) ∷ []) e → ⊥
unfolding everything
pulled_given db n e (inl h) = let x = h.1 in absurd cc
pulled_given db n e (inr (inl (is, inl h))) = h
pulled_given db n e (inr (inl (is, inr h))) = h.4
pulled_given db n e (inr (inr h)) = let x = h.1 in absurd cc

or_true : (b : Bool) → (b || true) ≡ true
or_true true = refl
or_true false = refl

pub delete_fails : (old new : State) (d : Tables) (n : ℕ) (e : Error) → old.now.schema ≡ desk_schema → old.step_limit ≡ None → AreStored d old.now.trees → AreUnique d
    → ExecutesInside 0 delete_pulled (Int (pos n) ∷ []) old new (Err e) → Fails old new ⊥ e
delete_fails old new d n e has unlimited stands unique ran =
    let db = old.now.trees in
    rows_fail ⊥ old new delete_pulled (Int (pos n) ∷ []) (Delete 6 pulled_query) pulled has unlimited pulled_is (λ e h. h)
    (deletes_stop db pulled (Int (pos n) ∷ []) ⊥ pulled_query (pulled_given db n) (λ rows is. record {
      typed = refl;
      present = refl;
      checked = refl;
      keyed = refl;
      fresh = refl;
      fits = refl;
      referred = or_true _;
      unique = keeps_unique d (with_tree db 9 (without_all (db 9) (ids_of rows))) stands.batches stands.sentences stands.revisions unique;
      big = λ h. h.1;
    })) e ran
