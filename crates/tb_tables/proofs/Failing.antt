-- On the tables of a desk, with no limit on its steps, an INSERT of a row that is new is refused nothing.
use Rattle.std.proofs.Common.{◌≡◌, ◌⊎◌, ◌≢◌, ◌<◌, ◌≤◌, ◌^◌, ◌+◌, ◌+ℤ◌, inl, inr, ℕ, suc, ◌==◌, pos, true, false, List, [], ◌∷◌, length, map, refl, sym, ap, subst, ◌∙◌, arith, None, Err, nat_lt, lit≤}
use Rattle.std.specs.Ordering.{is_eq}
use Rattle.std.proofs.lemmas.Bool.{cases_Bool}
use Rattle.std.proofs.lemmas.Bool.Decides.{nat_tests}
use Rattle.std.proofs.lemmas.Int.{ints}
use Rattle.std.proofs.lemmas.List.{map-append}
use Rattle.std.proofs.lemmas.List.Sorted.{list_any-IsPermutation}
use Rattle.sqlite.specs.declared.error.Error.{Error}
use Rattle.sqlite.specs.declared.error.Error.TheVariants.{SqliteFailure}
use Rattle.sqlite.specs.declared.error.ErrorCode.TheVariants as code
use Rattle.sqlite.specs.declared.types.Value.TheVariants.{Null, Int, Text}
use Rattle.sqlite.specs.Order.{Row, column, value_cmp}
use Rattle.sqlite.specs.Tree.{Trees, rowid, put_row, with_tree}
use Rattle.sqlite.specs.Table.{Table}
use Rattle.sqlite.specs.Source.TheVariants.{Values}
use Rattle.sqlite.specs.Command.TheVariants.{Insert}
use Rattle.sqlite.specs.Edit.{Edit, edit_of}
use Rattle.sqlite.specs.Rowids.TheVariants.{Chosen}
use Rattle.sqlite.specs.Effect.{RefusesSource}
use Rattle.sqlite.specs.Rows.{stamped}
use Rattle.sqlite.specs.Listing.{understood}
use Rattle.sqlite.specs.State.{State, Fails, ExecutesInside}
use Rattle.sqlite_rules.specs.Edit.{is_taken, next_rowid}
use Rattle.sqlite_rules.proofs.PlaceLemmas.{next_is_free}
use Rattle.sqlite_rules.proofs.TableLemmas.{put_has}
use Rattle.sqlite_schema.specs.declared.schema.Constraint.TheVariants.{PrimaryKey}
use Rattle.sqlite_sql.specs.Ops.{fits_i64}
use Rattle.sqlite_trees.specs.declared.error.StoreError.TheVariants.{Corrupt}
use Rattle.sqlite_tied.specs.Compute.{everything}
use Rattle.tb_tables.specs.Layout.{desk_schema, batches, sentences, revisions, moves, pulled}
use Rattle.tb_tables.specs.Records.{Tables, AreStored, Shows, Batch, Sentence, Revision, Move, numbered, batch_shown, sentence_shown, revision_shown, move_shown, number_shown, batch_view, sentence_view, revision_view, move_view, number_view}
use Rattle.tb_tables.specs.Changes.{with_batch, with_sentence, with_revision}
use Rattle.tb_tables.specs.Failing.{IsRoomFault, IsWant, IsShort, HasRowids, IsWhole, Lacks, AreUnique}
use Rattle.tb_tables.proofs.Texts.{insert_batch, insert_batch_is, insert_batch_terms, insert_sentence, insert_sentence_is, insert_sentence_terms, insert_revision, insert_revision_is, insert_revision_terms, insert_move, insert_move_is, insert_move_terms, insert_pulled, insert_pulled_is, insert_pulled_terms}
use Rattle.tb_tables.proofs.Lists.{lower, cast_int, cast_null}
use Rattle.tb_tables.proofs.Keyed.{one_more_shows, put_numbered, rowid_test}
use Rattle.tb_tables.proofs.Meaning.{batch_params, batch_stored, sentence_params, sentence_stored, move_params, move_stored, pulled_params, pulled_stored, revision_stored}
use Rattle.tb_tables.proofs.Unique.{keeps_unique, keeps_unique_among}
use Rattle.tb_tables.proofs.Refusing.{IsIdRefusal, IsRuled, IsAllowed, IsWrite, Stops, rows_fail, rows_fail_or, inserts_stop, inserts_by, id_stops}
use Rattle.tb_tables.proofs.Sizes.{batch_fits, sentence_fits, revision_fits, move_fits, pulled_fits}

-- ---- rowids

not_taken : {X : Type 0} (row : ℕ → X → Row) → ((m : ℕ) (x : X) → rowid (row m x) ≡ Int (pos m)) → (k n : ℕ) (xs : List X) (new : Row) → rowid new ≡ Int (pos n) → k + length xs ≤ n → is_taken (numbered row k xs) new ≡ false
not_taken row keyed k n [] new at h = refl
not_taken row keyed k n (x ∷ xs) new at h = rw (keyed k x, at, lower k n (omega (arith, h))) (not_taken row keyed (suc k) n xs new at (omega (arith, h)))

module _ (view : Row → Row) (keeps : (r : Row) → column (view r) 0 ≡ column r 0) where
  taken_view : (rows : List Row) (new : Row) → is_taken (map view rows) new ≡ is_taken rows new
  taken_view [] new = refl
  taken_view (r ∷ rs) new = rw (keeps r, taken_view rs new) refl

  free_shown : (shown rows : List Row) (new : Row) → Shows view shown rows → is_taken shown new ≡ false → is_taken rows new ≡ false
  free_shown shown rows new shows free = sym (list_any-IsPermutation (λ r. is_eq (value_cmp (rowid r) (rowid new))) shown (map view rows) shows ∙ taken_view rows new) ∙ free

  free_next : {X : Type 0} (row : ℕ → X → Row) → ((m : ℕ) (x : X) → rowid (row m x) ≡ Int (pos m)) → (n : ℕ) (xs : List X) (rows : List Row) (new : Row) → rowid new ≡ Int (pos n) → n ≡ 1 + length xs → Shows view (numbered row 1 xs) rows
      → is_taken rows new ≡ false
  free_next row keyed n xs rows new at next shows = free_shown (numbered row 1 xs) rows new shows (not_taken row keyed 1 n xs new at (omega (arith, next)))

differs : (m n : ℕ) → n ≢ m → (m == n) ≡ false
differs m n h = elim (cases_Bool (m == n)) [ inl met ↦ absurd (let e : n ≡ m = grind (arith, nat_tests) in h e) | inr other ↦ other ]

lacks_number : (n : ℕ) (ns : List ℕ) → Lacks ns n → is_taken (map number_shown ns) (pulled_stored n) ≡ false
lacks_number n [] h = refl
lacks_number n (m ∷ ms) h = rw (rowid_test m n, differs m n h.0) (lacks_number n ms h.1)

pub in_range : (n : ℕ) → n < 2 ^ 63 → nat_lt n (2 ^ 63) ≡ true
in_range n h = grind (arith, nat_tests)

-- one row is added
abbrev pub one_row : Table → Row → Edit
one_row table new = record { table = table; gone = []; news = new ∷ [] }

-- ---- each text

batch_whole : IsWhole (length insert_batch) 4 (understood desk_schema insert_batch)
unfolding understood everything
batch_whole = (lit≤ tt, refl)

batch_is : IsWrite desk_schema insert_batch 4 (Insert 1 (Values insert_batch_terms 5))
batch_is = record { writing = tt; quiet = refl; is = insert_batch_is.0; plain = insert_batch_is.1; whole = batch_whole }

batch_given : (db : Trees) (n : ℕ) (b : Batch) (e : Error) → RefusesSource None (record { schema = desk_schema; trees = db }) (stamped batches (batch_params n b)) (Values insert_batch_terms 5) e → ⊥
unfolding everything
batch_given db n b e (inl h) = let x = h.1 in absurd cc
batch_given db n b e (inr h) = let x = h.1 in absurd cc

pub batch_fails : (old new : State) (d : Tables) (n : ℕ) (b : Batch) (e : Error) → old.now.schema ≡ desk_schema → old.step_limit ≡ None → AreStored d old.now.trees → n < 2 ^ 63 → n ≡ 1 + length d.batches → AreUnique (with_batch d b)
    → ExecutesInside 0 insert_batch (batch_params n b) old new (Err e) → Fails old new (IsShort b.name → IsShort b.worker → ⊥) e
batch_fails old new d n b e has unlimited stands fits next unique ran =
    let db = old.now.trees in
    let stored = batch_stored n b in
    let free : is_taken (db 1) stored ≡ false = free_next batch_view (λ _. refl) batch_shown (λ _ _. refl) n d.batches (db 1) stored refl next stands.batches in
    let shows = put_numbered batch_view batch_shown n d.batches b stored (db 1) next refl free stands.batches in
    let it : edit_of db batches [] Chosen 0 ((Int (pos n) ∷ Null ∷ Text b.name ∷ Int (pos b.state) ∷ Text b.worker ∷ []) ∷ []) ≡ one_row batches stored = rw (cast_int (pos n), cast_null, cast_int (pos b.state)) refl in
    let allowed : IsAllowed (IsShort b.name → IsShort b.worker → ⊥) db (one_row batches stored) = record {
      typed = refl;
      present = refl;
      checked = refl;
      keyed = refl;
      fresh = rw free refl;
      fits = rw (in_range n fits) refl;
      referred = refl;
      unique = keeps_unique (with_batch d b) (with_tree db 1 (put_row stored (db 1))) shows stands.sentences stands.revisions unique;
      big = λ h name worker. batch_fits n b name worker h.0 h.1 h.2;
    } in
    rows_fail (IsShort b.name → IsShort b.worker → ⊥) old new insert_batch (batch_params n b) (Insert 1 (Values insert_batch_terms 5)) batches has unlimited batch_is (λ e h. h)
    (inserts_stop db batches (batch_params n b) (IsShort b.name → IsShort b.worker → ⊥) (Values insert_batch_terms 5) refl (batch_given db n b) (λ rows is. subst (IsAllowed (IsShort b.name → IsShort b.worker → ⊥) db) (sym (ap (edit_of db batches [] Chosen 0) is.1 ∙ it)) allowed)) e ran

sentence_whole : IsWhole (length insert_sentence) 5 (understood desk_schema insert_sentence)
unfolding understood everything
sentence_whole = (lit≤ tt, refl)

sentence_is : IsWrite desk_schema insert_sentence 5 (Insert 2 (Values insert_sentence_terms 6))
sentence_is = record { writing = tt; quiet = refl; is = insert_sentence_is.0; plain = insert_sentence_is.1; whole = sentence_whole }

sentence_given : (db : Trees) (n : ℕ) (s : Sentence) (e : Error) → RefusesSource None (record { schema = desk_schema; trees = db }) (stamped sentences (sentence_params n s)) (Values insert_sentence_terms 6) e → ⊥
unfolding everything
sentence_given db n s e (inl h) = let x = h.1 in absurd cc
sentence_given db n s e (inr h) = let x = h.1 in absurd cc

pub sentence_fails : (old new : State) (d : Tables) (n : ℕ) (s : Sentence) (e : Error) → old.now.schema ≡ desk_schema → old.step_limit ≡ None → AreStored d old.now.trees → n < 2 ^ 63 → n ≡ 1 + length d.sentences → AreUnique (with_sentence d s)
    → ExecutesInside 0 insert_sentence (sentence_params n s) old new (Err e) → Fails old new (IsShort s.sent_id → ⊥) e
sentence_fails old new d n s e has unlimited stands fits next unique ran =
    let db = old.now.trees in
    let stored = sentence_stored n s in
    let free : is_taken (db 3) stored ≡ false = free_next sentence_view (λ _. refl) sentence_shown (λ _ _. refl) n d.sentences (db 3) stored refl next stands.sentences in
    let shows = put_numbered sentence_view sentence_shown n d.sentences s stored (db 3) next refl free stands.sentences in
    let it : edit_of db sentences [] Chosen 0 ((Int (pos n) ∷ Null ∷ Text s.sent_id ∷ Int (pos s.batch) ∷ Int (pos s.rev) ∷ Int (pos s.words) ∷ []) ∷ []) ≡ one_row sentences stored =
    rw (cast_int (pos n), cast_null, cast_int (pos s.batch), cast_int (pos s.rev), cast_int (pos s.words)) refl in
    let allowed : IsAllowed (IsShort s.sent_id → ⊥) db (one_row sentences stored) = record {
      typed = refl;
      present = refl;
      checked = refl;
      keyed = refl;
      fresh = rw free refl;
      fits = rw (in_range n fits) refl;
      referred = refl;
      unique = keeps_unique (with_sentence d s) (with_tree db 3 (put_row stored (db 3))) stands.batches shows stands.revisions unique;
      big = λ h name. sentence_fits n s name h.0 h.1 h.2;
    } in
    rows_fail (IsShort s.sent_id → ⊥) old new insert_sentence (sentence_params n s) (Insert 2 (Values insert_sentence_terms 6)) sentences has unlimited sentence_is (λ e h. h)
    (inserts_stop db sentences (sentence_params n s) (IsShort s.sent_id → ⊥) (Values insert_sentence_terms 6) refl (sentence_given db n s) (λ rows is. subst (IsAllowed (IsShort s.sent_id → ⊥) db) (sym (ap (edit_of db sentences [] Chosen 0) is.1 ∙ it)) allowed)) e ran

move_whole : IsWhole (length insert_move) 10 (understood desk_schema insert_move)
unfolding understood everything
move_whole = (lit≤ tt, refl)

move_is : IsWrite desk_schema insert_move 10 (Insert 4 (Values insert_move_terms 11))
move_is = record { writing = tt; quiet = refl; is = insert_move_is.0; plain = insert_move_is.1; whole = move_whole }

move_given : (db : Trees) (n : ℕ) (m : Move) (e : Error) → RefusesSource None (record { schema = desk_schema; trees = db }) (stamped moves (move_params n m)) (Values insert_move_terms 11) e → ⊥
unfolding everything
move_given db n m e (inl h) = let x = h.1 in absurd cc
move_given db n m e (inr h) = let x = h.1 in absurd cc

pub move_fails : (old new : State) (d : Tables) (n : ℕ) (m : Move) (e : Error) → old.now.schema ≡ desk_schema → old.step_limit ≡ None → AreStored d old.now.trees → n < 2 ^ 63 → n ≡ 1 + length d.moves → AreUnique d
    → ExecutesInside 0 insert_move (move_params n m) old new (Err e) → Fails old new (IsShort m.who → ⊥) e
move_fails old new d n m e has unlimited stands fits next unique ran =
    let db = old.now.trees in
    let stored = move_stored n m in
    let free : is_taken (db 7) stored ≡ false = free_next move_view (λ _. refl) move_shown (λ _ _. refl) n d.moves (db 7) stored refl next stands.moves in
    let it : edit_of db moves [] Chosen 0 ((Int (pos n) ∷ Null ∷ Int (pos m.kind) ∷ Int (pos m.batch) ∷ Int (pos m.sent) ∷ Int (pos m.from) ∷ Int (pos m.to) ∷ Int (pos m.sentences) ∷ Int (pos m.words_out) ∷ Int (pos m.words_in) ∷ Text m.who ∷ []) ∷ []) ≡ one_row moves stored =
    rw (cast_int (pos n), cast_null, cast_int (pos m.kind), cast_int (pos m.batch), cast_int (pos m.sent), cast_int (pos m.from), cast_int (pos m.to), cast_int (pos m.sentences), cast_int (pos m.words_out), cast_int (pos m.words_in)) refl in
    let allowed : IsAllowed (IsShort m.who → ⊥) db (one_row moves stored) = record {
      typed = refl;
      present = refl;
      checked = refl;
      keyed = refl;
      fresh = rw free refl;
      fits = rw (in_range n fits) refl;
      referred = refl;
      unique = keeps_unique d (with_tree db 7 (put_row stored (db 7))) stands.batches stands.sentences stands.revisions unique;
      big = λ h who. move_fits n m who h.0 h.1 h.2;
    } in
    rows_fail (IsShort m.who → ⊥) old new insert_move (move_params n m) (Insert 4 (Values insert_move_terms 11)) moves has unlimited move_is (λ e h. h)
    (inserts_stop db moves (move_params n m) (IsShort m.who → ⊥) (Values insert_move_terms 11) refl (move_given db n m) (λ rows is. subst (IsAllowed (IsShort m.who → ⊥) db) (sym (ap (edit_of db moves [] Chosen 0) is.1 ∙ it)) allowed)) e ran

pulled_whole : IsWhole (length insert_pulled) 1 (understood desk_schema insert_pulled)
unfolding understood everything
pulled_whole = (lit≤ tt, refl)

pulled_is : IsWrite desk_schema insert_pulled 1 (Insert 6 (Values insert_pulled_terms 2))
pulled_is = record { writing = tt; quiet = refl; is = insert_pulled_is.0; plain = insert_pulled_is.1; whole = pulled_whole }

pulled_given : (db : Trees) (n : ℕ) (e : Error) → RefusesSource None (record { schema = desk_schema; trees = db }) (stamped pulled (pulled_params n)) (Values insert_pulled_terms 2) e → ⊥
unfolding everything
pulled_given db n e (inl h) = let x = h.1 in absurd cc
pulled_given db n e (inr h) = let x = h.1 in absurd cc

pub pulled_fails : (old new : State) (d : Tables) (n : ℕ) (e : Error) → old.now.schema ≡ desk_schema → old.step_limit ≡ None → AreStored d old.now.trees → n < 2 ^ 63 → Lacks d.pulled n → AreUnique d
    → ExecutesInside 0 insert_pulled (pulled_params n) old new (Err e) → Fails old new ⊥ e
pulled_fails old new d n e has unlimited stands fits lacks unique ran =
    let db = old.now.trees in
    let stored = pulled_stored n in
    let free : is_taken (db 9) stored ≡ false = free_shown number_view (λ _. refl) (map number_shown d.pulled) (db 9) stored stands.pulled (lacks_number n d.pulled lacks) in
    let it : edit_of db pulled [] Chosen 0 ((Int (pos n) ∷ Null ∷ []) ∷ []) ≡ one_row pulled stored = rw (cast_int (pos n), cast_null) refl in
    let allowed : IsAllowed ⊥ db (one_row pulled stored) = record {
      typed = refl;
      present = refl;
      checked = refl;
      keyed = refl;
      fresh = rw free refl;
      fits = rw (in_range n fits) refl;
      referred = refl;
      unique = keeps_unique d (with_tree db 9 (put_row stored (db 9))) stands.batches stands.sentences stands.revisions unique;
      big = λ h. pulled_fits n h.0 h.1 h.2;
    } in
    rows_fail ⊥ old new insert_pulled (pulled_params n) (Insert 6 (Values insert_pulled_terms 2)) pulled has unlimited pulled_is (λ e h. h)
    (inserts_stop db pulled (pulled_params n) ⊥ (Values insert_pulled_terms 2) refl (pulled_given db n) (λ rows is. subst (IsAllowed ⊥ db) (sym (ap (edit_of db pulled [] Chosen 0) is.1 ∙ it)) allowed)) e ran

revision_whole : IsWhole (length insert_revision) 4 (understood desk_schema insert_revision)
unfolding understood everything
revision_whole = (lit≤ tt, refl)

revision_is : IsWrite desk_schema insert_revision 4 (Insert 3 (Values insert_revision_terms 5))
revision_is = record { writing = tt; quiet = refl; is = insert_revision_is.0; plain = insert_revision_is.1; whole = revision_whole }

revision_given : (db : Trees) (r : Revision) (e : Error) → RefusesSource None (record { schema = desk_schema; trees = db }) (stamped revisions (revision_shown r)) (Values insert_revision_terms 5) e → ⊥
unfolding everything
revision_given db r e (inl h) = let x = h.1 in absurd cc
revision_given db r e (inr h) = let x = h.1 in absurd cc

-- the texts that are given are too long
abbrev IsLongRevision : Revision → Type 0
IsLongRevision r = IsShort r.who → IsShort r.body → ⊥

module _ (d : Tables) (db : Trees) (r : Revision) (stands : AreStored d db) (unique : AreUnique (with_revision d r)) where
  abbrev revision_edit : Edit
  revision_edit = one_row revisions (revision_stored (db 5) r)

  revision_ruled : IsRuled (IsLongRevision r) db revision_edit
  revision_ruled =
      let stored = revision_stored (db 5) r in
      let shows = subst (λ l. Shows revision_view l (stored ∷ db 5)) (sym (map-append revision_shown d.revisions (r ∷ []))) (one_more_shows revision_view (map revision_shown d.revisions) stored (db 5) stands.revisions) in
      record {
        typed = refl;
        present = refl;
        checked = refl;
        keyed = refl;
        referred = refl;
        unique = keeps_unique_among (with_revision d r) (with_tree db 5 (put_row stored (db 5))) (stored ∷ db 5) (put_has stored (db 5)) stands.batches stands.sentences shows unique;
        big = λ h who body. revision_fits (db 5) r who body h.0 h.1 h.2;
      }

  revision_allowed : HasRowids 1 (db 5) → IsAllowed (IsLongRevision r) db revision_edit
  revision_allowed free =
      let ruled = revision_ruled in
      let next = next_rowid (db 5) in
      let first : next +ℤ pos 0 ≡ next = grind (arith, ints) in
      record {
        typed = refl;
        present = refl;
        checked = refl;
        keyed = refl;
        fresh = rw (next_is_free Chosen (db 5) (revision_shown r) free.ascend free.keyed) refl;
        fits = rw (subst (λ n. fits_i64 n ≡ true) first (free.room 0 (omega arith))) refl;
        referred = refl;
        unique = ruled.unique;
        big = ruled.big;
      }

  revision_edit_is : (rows : List Row) → rows ≡ (Null ∷ revision_shown r) ∷ [] → edit_of db revisions [] Chosen 0 rows ≡ revision_edit
  revision_edit_is rows is = rw (is, cast_null, cast_int (pos r.sent), cast_int (pos r.rev)) refl

pub revision_fails : (old new : State) (d : Tables) (r : Revision) (e : Error) → old.now.schema ≡ desk_schema → old.step_limit ≡ None → AreStored d old.now.trees → AreUnique (with_revision d r)
    → ExecutesInside 0 insert_revision (revision_shown r) old new (Err e) → Fails old new (IsLongRevision r) e ⊎ IsIdRefusal e
revision_fails old new d r e has unlimited stands unique ran =
    let db = old.now.trees in
    let ruled = revision_ruled d db r stands unique in
    rows_fail_or (IsLongRevision r) IsIdRefusal old new insert_revision (revision_shown r) (Insert 3 (Values insert_revision_terms 5)) revisions has unlimited revision_is (λ stop h. h)
    (inserts_by db revisions (revision_shown r) (Stops (IsLongRevision r) IsIdRefusal) (Values insert_revision_terms 5) refl (revision_given db r)
    (λ rows is stop h. id_stops (IsLongRevision r) db (edit_of db revisions [] Chosen 0 rows) stop (subst (IsRuled (IsLongRevision r) db) (sym (revision_edit_is d db r stands unique rows is.1)) ruled) h)) e ran

-- where a rowid is left for it
pub revision_only_fails : (old new : State) (d : Tables) (r : Revision) (e : Error) → old.now.schema ≡ desk_schema → old.step_limit ≡ None → AreStored d old.now.trees → AreUnique (with_revision d r) → HasRowids 1 (old.now.trees 5)
    → ExecutesInside 0 insert_revision (revision_shown r) old new (Err e) → Fails old new (IsLongRevision r) e
revision_only_fails old new d r e has unlimited stands unique free ran =
    let db = old.now.trees in
    let allowed = revision_allowed d db r stands unique free in
    rows_fail (IsLongRevision r) old new insert_revision (revision_shown r) (Insert 3 (Values insert_revision_terms 5)) revisions has unlimited revision_is (λ stop h. h)
    (inserts_stop db revisions (revision_shown r) (IsLongRevision r) (Values insert_revision_terms 5) refl (revision_given db r)
    (λ rows is. subst (IsAllowed (IsLongRevision r) db) (sym (revision_edit_is d db r stands unique rows is.1)) allowed)) e ran

-- the error that is told for it
pub chosen_fails : {Big : Type 0} (old new : State) (e reported : Error) → Fails old new Big e ⊎ IsIdRefusal e
    → ((e ≡ SqliteFailure (code.ConstraintViolation PrimaryKey)) × (reported ≡ SqliteFailure code.DatabaseCorrupt)) ⊎ ((reported ≡ e) × (e ≢ SqliteFailure (code.ConstraintViolation PrimaryKey))) → IsRoomFault reported
chosen_fails old new e reported why (inl corrupt) = inl (Corrupt, corrupt.1)
chosen_fails old new e reported (inl fault) (inr other) = inl (fault.0, other.0 ∙ fault.1)
chosen_fails old new e reported (inr (inl room)) (inr other) = inr (other.0 ∙ room)
chosen_fails old new e reported (inr (inr taken)) (inr other) = absurd (other.1 taken)

pub chosen_wants : (e reported : Error) → IsWant e → ((e ≡ SqliteFailure (code.ConstraintViolation PrimaryKey)) × (reported ≡ SqliteFailure code.DatabaseCorrupt)) ⊎ ((reported ≡ e) × (e ≢ SqliteFailure (code.ConstraintViolation PrimaryKey))) → IsWant reported
chosen_wants e reported want (inl corrupt) = absurd (let x = corrupt.0 in let y : e ≡ SqliteFailure code.OutOfMemory = want in cc)
chosen_wants e reported want (inr other) = other.0 ∙ want
