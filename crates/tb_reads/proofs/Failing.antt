-- On the tables of a desk, with no limit on its steps, a read is refused nothing.
use Rattle.std.proofs.Common.{◌≡◌, ◌≤◌, ℕ, List, [], ◌∷◌, length, true, false, None, Ok, Err, Result, IfErr, sym, ap, subst, ◌∙◌, inl, inr, append-nil, refl, lit≤, pos}
use Rattle.sqlite.specs.declared.error.Error.{Error}
use Rattle.sqlite.specs.declared.types.Value.TheVariants.{Int, Text}
use Rattle.sqlite.specs.Order.{Row}
use Rattle.sqlite.specs.Command.{Command}
use Rattle.sqlite.specs.Term.{Term, col, op2}
use Rattle.sqlite_sql.specs.declared.ops.BinaryOp.TheVariants.{Compare}
use Rattle.sqlite_sql.specs.declared.ops.CompareOp.TheVariants.{Eq}
use Rattle.sqlite.specs.Collation.TheVariants.{Binary}
use Rattle.sqlite.specs.Effect.{Database, RefusesQuery, RefusesToRead}
use Rattle.sqlite.specs.Listing.{understood, reads_listing, IsSourceOf}
use Rattle.sqlite.specs.State.{State, Fails, FailsToQuery, IsNotRun, IsNoStatement}
use Rattle.sqlite.proofs.Callers.{IsPlain, command_of}
use Rattle.sqlite_resolve.specs.declared.compiled.Compiled.{Compiled}
use Rattle.sqlite_resolve.specs.declared.error.CompileError.{CompileError}
use Rattle.sqlite_value.specs.declared.keys.Key.{Key}
use Rattle.sqlite_typing.specs.Types.{accepts_program}
use Rattle.sqlite_tied.specs.Compute.{everything}
use Rattle.tb_tables.specs.Layout.{desk_schema}
use Rattle.tb_tables.proofs.Texts.{simple, by_number}
use Rattle.tb_tables.specs.Failing.{IsStoreFault, IsWant}
use Rattle.tb_reads.specs.declared.error.ReadError.{ReadError}
use Rattle.tb_reads.specs.declared.error.ReadError.TheVariants.{Store}
use Rattle.tb_reads.specs.Failing.{IsReadFault, IsReadWant, IsDeskQuery, CanRead}
use Rattle.tb_reads.proofs.Queries.{rising, select_batches, select_batches_terms, select_batches_is, select_sentences, select_sentences_terms, select_sentences_is, select_moves, select_moves_terms, select_moves_is, select_totals, select_totals_terms, select_totals_is, select_revisions, select_revisions_terms, select_revisions_is, select_pulled, select_pulled_terms, select_pulled_is, select_versions, select_versions_terms, select_versions_is, select_batch, select_batch_terms, select_batch_is, select_sentence, select_sentence_terms, select_sentence_is, select_named_batch, select_named_batch_terms, select_named_batch_is, select_named_sentence, select_named_sentence_terms, select_named_sentence_is, select_revision, select_revision_terms, select_revision_is, select_one_pulled, select_one_pulled_terms, select_one_pulled_is, select_work, select_work_terms, select_work_is, select_heads, select_heads_terms, select_heads_is, select_bodies, select_bodies_terms, select_bodies_is}

pub if_err : {T E : Type 0} {P Q : E → Type 0} (r : Result T E) → IfErr r P → ((e : E) → P e → Q e) → IfErr r Q
if_err (Ok x) h f = tt
if_err (Err e) h f = f e h

-- what is told of the error of the database holds of it as that of a read
pub err_is : {T : Type 0} (r : Result T ReadError) (e : ReadError) (x : Error) → r ≡ Err e → e ≡ Store x → IsStoreFault x → IfErr r IsReadFault
err_is r e x is from_it fault = subst (λ s. IfErr s IsReadFault) (sym is) (subst IsReadFault (sym from_it) fault)

pub want_is : {T : Type 0} (r : Result T ReadError) (e : ReadError) (x : Error) → r ≡ Err e → e ≡ Store x → IsWant x → IfErr r IsReadWant
want_is r e x is from_it want = subst (λ s. IfErr s IsReadWant) (sym is) (subst IsReadWant (sym from_it) want)

-- the store failed, whatever the cause
pub fault_of : {old new : State} {e : Error} → Fails old new ⊥ e → IsStoreFault e
fault_of h = (h.0, h.1)

-- a text of this length is one statement, with so many parameters
abbrev pub IsWhole : ℕ → ℕ → Result Compiled CompileError → Type 0
IsWhole n k (Ok c) = (n ≤ c.tail) × (k ≡ length c.names)
IsWhole n k (Err e) = ⊥

module _ (t : ℕ) (filter terms : List Term) (order : List (Term × Key)) (params : Row) where
  pub unrefused : accepts_program desk_schema [] (simple t filter terms order) params ≡ true → (db : Database) (e : Error) → db.schema ≡ desk_schema
      → RefusesQuery None db (record { lets = []; body = simple t filter terms order }) params e → ⊥
  unrefused typed db e has (inl h) = let is : accepts_program db.schema [] (simple t filter terms order) params ≡ true = ap (λ s. accepts_program s [] (simple t filter terms order) params) has ∙ typed in let no_type = h.1 in absurd cc
  unrefused typed db e has (inr (inl (is, inl h))) = h
  unrefused typed db e has (inr (inl (is, inr h))) = h.4
  unrefused typed db e has (inr (inr h)) = let unlimited = h.1 in absurd cc

module _ (sql : List ℕ) (params : Row) (old new : State) (command : Command) (has : old.now.schema ≡ desk_schema) (unlimited : old.step_limit ≡ None) (is : command_of (understood desk_schema sql) ≡ command)
    (plain : IsPlain (understood desk_schema sql)) (unlisted : reads_listing desk_schema sql ≡ false) (whole : IsWhole (length sql) (length params) (understood desk_schema sql)) where
  plain_here : IsPlain (understood old.now.schema sql)
  plain_here = subst (λ s. IsPlain (understood s sql)) (sym has) plain

  whole_here : IsWhole (length sql) (length params) (understood old.now.schema sql)
  whole_here = subst (λ s. IsWhole (length sql) (length params) (understood s sql)) (sym has) whole

  is_statement : (e : Error) → IsNoStatement old sql params e → ⊥
  is_statement e (inl (fault, failed, _)) = subst (IsWhole (length sql) (length params)) failed whole_here
  is_statement e (inr (c, made, inl more)) = more.0 (subst (IsWhole (length sql) (length params)) made whole_here).0
  is_statement e (inr (c, made, inr (inl count))) = count.0 (subst (IsWhole (length sql) (length params)) made whole_here).1
  is_statement e (inr (c, made, inr (inr clock))) = clock.0 (subst IsPlain made plain_here).1

  pub read_fails : ((db : Database) (e : Error) → db.schema ≡ desk_schema → RefusesToRead None command db params e → ⊥) → (e : Error) → FailsToQuery sql params old new e → Fails old new ⊥ e
  unfolding FailsToQuery IsNotRun
  read_fails never e (inl (inl h)) = absurd (is_statement e h.0)
  read_fails never e (inl (inr h)) = h
  read_fails never e (inr ran) =
      let known = sym ran.1.is ∙ ap (λ s. understood s sql) has in
      let bare = subst IsPlain (sym known) plain in
      let it = rw (bare.0, bare.1, append-nil params) at ran.2 in
      let db : it.0 ≡ old.now = subst (λ b. IsSourceOf b old.now it.0) (ap (λ s. reads_listing s sql) has ∙ unlisted) it.1 in
      let this : ran.0.command ≡ command = ap command_of known ∙ is in
      absurd (never it.0 e (ap (λ (d : Database). d.schema) db ∙ has) (subst (λ l. RefusesToRead l command it.0 params e) unlimited (subst (λ k. RefusesToRead old.step_limit k it.0 params e) this it.2)))

module _ (sql : List ℕ) (params : Row) where
  pub can_read : (u : Result Compiled CompileError) (command : Command) → IsWhole (length sql) (length params) u → command_of u ≡ command
      → ((db : Database) (e : Error) → db.schema ≡ desk_schema → RefusesToRead None command db params e → ⊥) → CanRead sql params u
  can_read (Ok c) command whole is never = (whole.0, whole.1, λ db e has refused. never db e has (subst (λ k. RefusesToRead None k db params e) is refused))
  can_read (Err e) command whole is never = whole

  whole_of : (u : Result Compiled CompileError) → CanRead sql params u → IsWhole (length sql) (length params) u
  whole_of (Ok c) h = (h.0, h.1)
  whole_of (Err e) h = h

  never_of : (u : Result Compiled CompileError) → CanRead sql params u → (db : Database) (e : Error) → db.schema ≡ desk_schema → RefusesToRead None (command_of u) db params e → ⊥
  never_of (Ok c) h = h.2
  never_of (Err e) h = absurd h

  pub desk_fails : IsDeskQuery sql params → (old new : State) (e : Error) → FailsToQuery sql params old new e → old.now.schema ≡ desk_schema → old.step_limit ≡ None → Fails old new ⊥ e
  desk_fails reads old new e failed has unlimited =
      let u = understood desk_schema sql in
      read_fails sql params old new (command_of u) has unlimited refl reads.0 reads.1 (whole_of u reads.2) (never_of u reads.2) e failed

-- at the parameters as values
pub reads_at : (sql : List ℕ) (params given : Row) → IsDeskQuery sql params → given ≡ params → IsDeskQuery sql given
reads_at sql params given reads same = subst (IsDeskQuery sql) (sym same) reads

-- ---- the texts

batches_whole : IsWhole (length select_batches) 0 (understood desk_schema select_batches)
unfolding understood everything
batches_whole = (lit≤ tt, refl)

batches_typed : accepts_program desk_schema [] (simple 1 [] select_batches_terms (rising 0 ∷ [])) [] ≡ true
unfolding everything
batches_typed = refl

pub batches_reads : IsDeskQuery select_batches []
batches_reads = (select_batches_is.1, select_batches_is.2, can_read select_batches [] _ _ batches_whole select_batches_is.0 (unrefused 1 [] select_batches_terms (rising 0 ∷ []) [] batches_typed))

sentences_whole : IsWhole (length select_sentences) 0 (understood desk_schema select_sentences)
unfolding understood everything
sentences_whole = (lit≤ tt, refl)

sentences_typed : accepts_program desk_schema [] (simple 3 [] select_sentences_terms (rising 0 ∷ [])) [] ≡ true
unfolding everything
sentences_typed = refl

pub sentences_reads : IsDeskQuery select_sentences []
sentences_reads = (select_sentences_is.1, select_sentences_is.2, can_read select_sentences [] _ _ sentences_whole select_sentences_is.0 (unrefused 3 [] select_sentences_terms (rising 0 ∷ []) [] sentences_typed))

moves_whole : IsWhole (length select_moves) 0 (understood desk_schema select_moves)
unfolding understood everything
moves_whole = (lit≤ tt, refl)

moves_typed : accepts_program desk_schema [] (simple 7 [] select_moves_terms (rising 0 ∷ [])) [] ≡ true
unfolding everything
moves_typed = refl

pub moves_reads : IsDeskQuery select_moves []
moves_reads = (select_moves_is.1, select_moves_is.2, can_read select_moves [] _ _ moves_whole select_moves_is.0 (unrefused 7 [] select_moves_terms (rising 0 ∷ []) [] moves_typed))

totals_whole : IsWhole (length select_totals) 0 (understood desk_schema select_totals)
unfolding understood everything
totals_whole = (lit≤ tt, refl)

totals_typed : accepts_program desk_schema [] (simple 8 [] select_totals_terms (rising 0 ∷ [])) [] ≡ true
unfolding everything
totals_typed = refl

pub totals_reads : IsDeskQuery select_totals []
totals_reads = (select_totals_is.1, select_totals_is.2, can_read select_totals [] _ _ totals_whole select_totals_is.0 (unrefused 8 [] select_totals_terms (rising 0 ∷ []) [] totals_typed))

revisions_whole : IsWhole (length select_revisions) 0 (understood desk_schema select_revisions)
unfolding understood everything
revisions_whole = (lit≤ tt, refl)

revisions_typed : accepts_program desk_schema [] (simple 5 [] select_revisions_terms (rising 1 ∷ rising 2 ∷ [])) [] ≡ true
unfolding everything
revisions_typed = refl

pub revisions_fails : (old new : State) (given : Row) (e : Error) → FailsToQuery select_revisions given old new e → given ≡ [] → old.now.schema ≡ desk_schema → old.step_limit ≡ None → Fails old new ⊥ e
revisions_fails old new given e failed same has unlimited =
    read_fails select_revisions [] old new _ has unlimited select_revisions_is.0 select_revisions_is.1 select_revisions_is.2 revisions_whole (unrefused 5 [] select_revisions_terms (rising 1 ∷ rising 2 ∷ []) [] revisions_typed) e (subst (λ ps. FailsToQuery select_revisions ps old new e) same failed)

pulled_whole : IsWhole (length select_pulled) 0 (understood desk_schema select_pulled)
unfolding understood everything
pulled_whole = (lit≤ tt, refl)

pulled_typed : accepts_program desk_schema [] (simple 9 [] select_pulled_terms (rising 0 ∷ [])) [] ≡ true
unfolding everything
pulled_typed = refl

pub pulled_reads : IsDeskQuery select_pulled []
pulled_reads = (select_pulled_is.1, select_pulled_is.2, can_read select_pulled [] _ _ pulled_whole select_pulled_is.0 (unrefused 9 [] select_pulled_terms (rising 0 ∷ []) [] pulled_typed))

versions_whole : IsWhole (length select_versions) 0 (understood desk_schema select_versions)
unfolding understood everything
versions_whole = (lit≤ tt, refl)

versions_typed : accepts_program desk_schema [] (simple 0 [] select_versions_terms (rising 1 ∷ [])) [] ≡ true
unfolding everything
versions_typed = refl

pub versions_reads : IsDeskQuery select_versions []
versions_reads = (select_versions_is.1, select_versions_is.2, can_read select_versions [] _ _ versions_whole select_versions_is.0 (unrefused 0 [] select_versions_terms (rising 1 ∷ []) [] versions_typed))

batch_whole : IsWhole (length select_batch) 1 (understood desk_schema select_batch)
unfolding understood everything
batch_whole = (lit≤ tt, refl)

batch_typed : (a : ℕ) → accepts_program desk_schema [] (simple 1 (by_number ∷ []) select_batch_terms ([])) (Int (pos a) ∷ []) ≡ true
unfolding everything
batch_typed a = refl

pub batch_reads : (a : ℕ) → IsDeskQuery select_batch (Int (pos a) ∷ [])
batch_reads a = (select_batch_is.1, select_batch_is.2, can_read select_batch (Int (pos a) ∷ []) _ _ batch_whole select_batch_is.0 (unrefused 1 (by_number ∷ []) select_batch_terms ([]) (Int (pos a) ∷ []) (batch_typed a)))

sentence_whole : IsWhole (length select_sentence) 1 (understood desk_schema select_sentence)
unfolding understood everything
sentence_whole = (lit≤ tt, refl)

sentence_typed : (a : ℕ) → accepts_program desk_schema [] (simple 3 (by_number ∷ []) select_sentence_terms ([])) (Int (pos a) ∷ []) ≡ true
unfolding everything
sentence_typed a = refl

pub sentence_reads : (a : ℕ) → IsDeskQuery select_sentence (Int (pos a) ∷ [])
sentence_reads a = (select_sentence_is.1, select_sentence_is.2, can_read select_sentence (Int (pos a) ∷ []) _ _ sentence_whole select_sentence_is.0 (unrefused 3 (by_number ∷ []) select_sentence_terms ([]) (Int (pos a) ∷ []) (sentence_typed a)))

named_batch_whole : IsWhole (length select_named_batch) 1 (understood desk_schema select_named_batch)
unfolding understood everything
named_batch_whole = (lit≤ tt, refl)

named_batch_typed : (a : List ℕ) → accepts_program desk_schema [] (simple 1 (op2 (Compare Eq Binary) (col 1 2) (col 0 0) ∷ []) select_named_batch_terms []) (Text a ∷ []) ≡ true
unfolding everything
named_batch_typed a = refl

pub named_batch_reads : (a : List ℕ) → IsDeskQuery select_named_batch (Text a ∷ [])
named_batch_reads a = (select_named_batch_is.1, select_named_batch_is.2, can_read select_named_batch (Text a ∷ []) _ _ named_batch_whole select_named_batch_is.0 (unrefused 1 (op2 (Compare Eq Binary) (col 1 2) (col 0 0) ∷ []) select_named_batch_terms [] (Text a ∷ []) (named_batch_typed a)))

named_sentence_whole : IsWhole (length select_named_sentence) 1 (understood desk_schema select_named_sentence)
unfolding understood everything
named_sentence_whole = (lit≤ tt, refl)

named_sentence_typed : (a : List ℕ) → accepts_program desk_schema [] (simple 3 (op2 (Compare Eq Binary) (col 1 2) (col 0 0) ∷ []) select_named_sentence_terms []) (Text a ∷ []) ≡ true
unfolding everything
named_sentence_typed a = refl

pub named_sentence_reads : (a : List ℕ) → IsDeskQuery select_named_sentence (Text a ∷ [])
named_sentence_reads a = (select_named_sentence_is.1, select_named_sentence_is.2, can_read select_named_sentence (Text a ∷ []) _ _ named_sentence_whole select_named_sentence_is.0 (unrefused 3 (op2 (Compare Eq Binary) (col 1 2) (col 0 0) ∷ []) select_named_sentence_terms [] (Text a ∷ []) (named_sentence_typed a)))

revision_whole : IsWhole (length select_revision) 2 (understood desk_schema select_revision)
unfolding understood everything
revision_whole = (lit≤ tt, refl)

revision_typed : (a : ℕ) (b : ℕ) → accepts_program desk_schema [] (simple 5 (op2 (Compare Eq Binary) (col 1 1) (col 0 0) ∷ op2 (Compare Eq Binary) (col 1 2) (col 0 1) ∷ []) select_revision_terms []) (Int (pos a) ∷ Int (pos b) ∷ []) ≡ true
unfolding everything
revision_typed a b = refl

pub revision_reads : (a : ℕ) (b : ℕ) → IsDeskQuery select_revision (Int (pos a) ∷ Int (pos b) ∷ [])
revision_reads a b = (select_revision_is.1, select_revision_is.2, can_read select_revision (Int (pos a) ∷ Int (pos b) ∷ []) _ _ revision_whole select_revision_is.0 (unrefused 5 (op2 (Compare Eq Binary) (col 1 1) (col 0 0) ∷ op2 (Compare Eq Binary) (col 1 2) (col 0 1) ∷ []) select_revision_terms [] (Int (pos a) ∷ Int (pos b) ∷ []) (revision_typed a b)))

one_pulled_whole : IsWhole (length select_one_pulled) 1 (understood desk_schema select_one_pulled)
unfolding understood everything
one_pulled_whole = (lit≤ tt, refl)

one_pulled_typed : (a : ℕ) → accepts_program desk_schema [] (simple 9 (by_number ∷ []) select_one_pulled_terms []) (Int (pos a) ∷ []) ≡ true
unfolding everything
one_pulled_typed a = refl

pub one_pulled_reads : (a : ℕ) → IsDeskQuery select_one_pulled (Int (pos a) ∷ [])
one_pulled_reads a = (select_one_pulled_is.1, select_one_pulled_is.2, can_read select_one_pulled (Int (pos a) ∷ []) _ _ one_pulled_whole select_one_pulled_is.0 (unrefused 9 (by_number ∷ []) select_one_pulled_terms [] (Int (pos a) ∷ []) (one_pulled_typed a)))

work_whole : IsWhole (length select_work) 1 (understood desk_schema select_work)
unfolding understood everything
work_whole = (lit≤ tt, refl)

work_typed : (a : ℕ) → accepts_program desk_schema [] (simple 3 (op2 (Compare Eq Binary) (col 1 3) (col 0 0) ∷ []) select_work_terms (rising 0 ∷ [])) (Int (pos a) ∷ []) ≡ true
unfolding everything
work_typed a = refl

pub work_reads : (a : ℕ) → IsDeskQuery select_work (Int (pos a) ∷ [])
work_reads a = (select_work_is.1, select_work_is.2, can_read select_work (Int (pos a) ∷ []) _ _ work_whole select_work_is.0 (unrefused 3 (op2 (Compare Eq Binary) (col 1 3) (col 0 0) ∷ []) select_work_terms (rising 0 ∷ []) (Int (pos a) ∷ []) (work_typed a)))

heads_whole : IsWhole (length select_heads) 0 (understood desk_schema select_heads)
unfolding understood everything
heads_whole = (lit≤ tt, refl)

heads_typed : accepts_program desk_schema [] (simple 3 [] select_heads_terms (rising 0 ∷ [])) [] ≡ true
unfolding everything
heads_typed = refl

pub heads_fails : (old new : State) (given : Row) (e : Error) → FailsToQuery select_heads given old new e → given ≡ [] → old.now.schema ≡ desk_schema → old.step_limit ≡ None → Fails old new ⊥ e
heads_fails old new given e failed same has unlimited =
    read_fails select_heads [] old new _ has unlimited select_heads_is.0 select_heads_is.1 select_heads_is.2 heads_whole (unrefused 3 [] select_heads_terms (rising 0 ∷ []) [] heads_typed) e (subst (λ ps. FailsToQuery select_heads ps old new e) same failed)

bodies_whole : IsWhole (length select_bodies) 0 (understood desk_schema select_bodies)
unfolding understood everything
bodies_whole = (lit≤ tt, refl)

bodies_typed : accepts_program desk_schema [] (simple 5 [] select_bodies_terms (rising 1 ∷ rising 2 ∷ [])) [] ≡ true
unfolding everything
bodies_typed = refl

pub bodies_fails : (old new : State) (given : Row) (e : Error) → FailsToQuery select_bodies given old new e → given ≡ [] → old.now.schema ≡ desk_schema → old.step_limit ≡ None → Fails old new ⊥ e
bodies_fails old new given e failed same has unlimited =
    read_fails select_bodies [] old new _ has unlimited select_bodies_is.0 select_bodies_is.1 select_bodies_is.2 bodies_whole (unrefused 5 [] select_bodies_terms (rising 1 ∷ rising 2 ∷ []) [] bodies_typed) e (subst (λ ps. FailsToQuery select_bodies ps old new e) same failed)
