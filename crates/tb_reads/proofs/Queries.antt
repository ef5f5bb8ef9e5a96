-- What the texts of the reading statements compile to.
use Rattle.std.proofs.Common.{◌≡◌, ℕ, List, [], ◌∷◌, codes, refl, false}
use Rattle.sqlite.specs.Command.TheVariants.{Select}
use Rattle.sqlite.specs.Term.{Term, col, op2}
use Rattle.sqlite_sql.specs.declared.ops.BinaryOp.TheVariants.{Compare}
use Rattle.sqlite_sql.specs.declared.ops.CompareOp.TheVariants.{Eq}
use Rattle.sqlite.specs.Collation.TheVariants.{Binary}
use Rattle.sqlite_value.specs.declared.keys.Key.{Key}
use Rattle.sqlite_tied.specs.Compute.{everything}
use Rattle.sqlite.specs.Listing.{understood, reads_listing}
use Rattle.sqlite.proofs.Callers.{IsPlain, command_of}
use Rattle.tb_tables.specs.Layout.{desk_schema}
use Rattle.tb_tables.proofs.Texts.{simple, by_number}

abbrev pub rising : ℕ → Term × Key
rising k = (col 1 k, record { collation = Binary; descending = false })

abbrev pub select_batches : List ℕ
select_batches = codes "SELECT no, name, state, worker FROM batches ORDER BY no"

abbrev pub select_batches_terms : List Term
select_batches_terms = col 1 0 ∷ col 1 2 ∷ col 1 3 ∷ col 1 4 ∷ []

pub select_batches_is : (command_of (understood desk_schema select_batches) ≡ Select (record { lets = []; body = simple 1 [] select_batches_terms (rising 0 ∷ []) }) (codes "no" ∷ codes "name" ∷ codes "state" ∷ codes "worker" ∷ [])) × IsPlain (understood desk_schema select_batches) × (reads_listing desk_schema select_batches ≡ false)
unfolding understood everything
select_batches_is = (refl, (refl, refl), refl)

abbrev pub select_sentences : List ℕ
select_sentences = codes "SELECT no, sent_id, batch, rev, words FROM sentences ORDER BY no"

abbrev pub select_sentences_terms : List Term
select_sentences_terms = col 1 0 ∷ col 1 2 ∷ col 1 3 ∷ col 1 4 ∷ col 1 5 ∷ []

pub select_sentences_is : (command_of (understood desk_schema select_sentences) ≡ Select (record { lets = []; body = simple 3 [] select_sentences_terms (rising 0 ∷ []) }) (codes "no" ∷ codes "sent_id" ∷ codes "batch" ∷ codes "rev" ∷ codes "words" ∷ [])) × IsPlain (understood desk_schema select_sentences) × (reads_listing desk_schema select_sentences ≡ false)
unfolding understood everything
select_sentences_is = (refl, (refl, refl), refl)

abbrev pub select_moves : List ℕ
select_moves = codes "SELECT no, kind, batch, sent, from_state, to_state, sentences, words_out, words_in, who FROM moves ORDER BY no"

abbrev pub select_moves_terms : List Term
select_moves_terms = col 1 0 ∷ col 1 2 ∷ col 1 3 ∷ col 1 4 ∷ col 1 5 ∷ col 1 6 ∷ col 1 7 ∷ col 1 8 ∷ col 1 9 ∷ col 1 10 ∷ []

pub select_moves_is : (command_of (understood desk_schema select_moves) ≡ Select (record { lets = []; body = simple 7 [] select_moves_terms (rising 0 ∷ []) }) (codes "no" ∷ codes "kind" ∷ codes "batch" ∷ codes "sent" ∷ codes "from_state" ∷ codes "to_state" ∷ codes "sentences" ∷ codes "words_out" ∷ codes "words_in" ∷ codes "who" ∷ [])) × IsPlain (understood desk_schema select_moves) × (reads_listing desk_schema select_moves ≡ false)
unfolding understood everything
select_moves_is = (refl, (refl, refl), refl)

abbrev pub select_totals : List ℕ
select_totals = codes "SELECT state, sentences, words FROM totals ORDER BY state"

abbrev pub select_totals_terms : List Term
select_totals_terms = col 1 0 ∷ col 1 2 ∷ col 1 3 ∷ []

pub select_totals_is : (command_of (understood desk_schema select_totals) ≡ Select (record { lets = []; body = simple 8 [] select_totals_terms (rising 0 ∷ []) }) (codes "state" ∷ codes "sentences" ∷ codes "words" ∷ [])) × IsPlain (understood desk_schema select_totals) × (reads_listing desk_schema select_totals ≡ false)
unfolding understood everything
select_totals_is = (refl, (refl, refl), refl)

abbrev pub select_revisions : List ℕ
select_revisions = codes "SELECT sent, rev, who, body FROM revisions ORDER BY sent, rev"

abbrev pub select_revisions_terms : List Term
select_revisions_terms = col 1 1 ∷ col 1 2 ∷ col 1 3 ∷ col 1 4 ∷ []

pub select_revisions_is : (command_of (understood desk_schema select_revisions) ≡ Select (record { lets = []; body = simple 5 [] select_revisions_terms (rising 1 ∷ rising 2 ∷ []) }) (codes "sent" ∷ codes "rev" ∷ codes "who" ∷ codes "body" ∷ [])) × IsPlain (understood desk_schema select_revisions) × (reads_listing desk_schema select_revisions ≡ false)
unfolding understood everything
select_revisions_is = (refl, (refl, refl), refl)

abbrev pub select_pulled : List ℕ
select_pulled = codes "SELECT sent FROM pulled ORDER BY sent"

abbrev pub select_pulled_terms : List Term
select_pulled_terms = col 1 0 ∷ []

pub select_pulled_is : (command_of (understood desk_schema select_pulled) ≡ Select (record { lets = []; body = simple 9 [] select_pulled_terms (rising 0 ∷ []) }) (codes "sent" ∷ [])) × IsPlain (understood desk_schema select_pulled) × (reads_listing desk_schema select_pulled ≡ false)
unfolding understood everything
select_pulled_is = (refl, (refl, refl), refl)

abbrev pub select_versions : List ℕ
select_versions = codes "SELECT version FROM meta ORDER BY version"

abbrev pub select_versions_terms : List Term
select_versions_terms = col 1 1 ∷ []

pub select_versions_is : (command_of (understood desk_schema select_versions) ≡ Select (record { lets = []; body = simple 0 [] select_versions_terms (rising 1 ∷ []) }) (codes "version" ∷ [])) × IsPlain (understood desk_schema select_versions) × (reads_listing desk_schema select_versions ≡ false)
unfolding understood everything
select_versions_is = (refl, (refl, refl), refl)

abbrev pub select_batch : List ℕ
select_batch = codes "SELECT no, name, state, worker FROM batches WHERE no = ?1"

abbrev pub select_batch_terms : List Term
select_batch_terms = col 1 0 ∷ col 1 2 ∷ col 1 3 ∷ col 1 4 ∷ []

pub select_batch_is : (command_of (understood desk_schema select_batch) ≡ Select (record { lets = []; body = simple 1 (by_number ∷ []) select_batch_terms ([]) }) (codes "no" ∷ codes "name" ∷ codes "state" ∷ codes "worker" ∷ [])) × IsPlain (understood desk_schema select_batch) × (reads_listing desk_schema select_batch ≡ false)
unfolding understood everything
select_batch_is = (refl, (refl, refl), refl)

abbrev pub select_sentence : List ℕ
select_sentence = codes "SELECT no, sent_id, batch, rev, words FROM sentences WHERE no = ?1"

abbrev pub select_sentence_terms : List Term
select_sentence_terms = col 1 0 ∷ col 1 2 ∷ col 1 3 ∷ col 1 4 ∷ col 1 5 ∷ []

pub select_sentence_is : (command_of (understood desk_schema select_sentence) ≡ Select (record { lets = []; body = simple 3 (by_number ∷ []) select_sentence_terms ([]) }) (codes "no" ∷ codes "sent_id" ∷ codes "batch" ∷ codes "rev" ∷ codes "words" ∷ [])) × IsPlain (understood desk_schema select_sentence) × (reads_listing desk_schema select_sentence ≡ false)
unfolding understood everything
select_sentence_is = (refl, (refl, refl), refl)

abbrev pub select_named_batch : List ℕ
select_named_batch = codes "SELECT no FROM batches WHERE name = ?1"

abbrev pub select_named_batch_terms : List Term
select_named_batch_terms = col 1 0 ∷ []

pub select_named_batch_is : (command_of (understood desk_schema select_named_batch) ≡ Select (record { lets = []; body = simple 1 (op2 (Compare Eq Binary) (col 1 2) (col 0 0) ∷ []) select_named_batch_terms [] }) (codes "no" ∷ [])) × IsPlain (understood desk_schema select_named_batch) × (reads_listing desk_schema select_named_batch ≡ false)
unfolding understood everything
select_named_batch_is = (refl, (refl, refl), refl)

abbrev pub select_named_sentence : List ℕ
select_named_sentence = codes "SELECT no FROM sentences WHERE sent_id = ?1"

abbrev pub select_named_sentence_terms : List Term
select_named_sentence_terms = col 1 0 ∷ []

pub select_named_sentence_is : (command_of (understood desk_schema select_named_sentence) ≡ Select (record { lets = []; body = simple 3 (op2 (Compare Eq Binary) (col 1 2) (col 0 0) ∷ []) select_named_sentence_terms [] }) (codes "no" ∷ [])) × IsPlain (understood desk_schema select_named_sentence) × (reads_listing desk_schema select_named_sentence ≡ false)
unfolding understood everything
select_named_sentence_is = (refl, (refl, refl), refl)

abbrev pub select_revision : List ℕ
select_revision = codes "SELECT sent, rev, who, body FROM revisions WHERE sent = ?1 AND rev = ?2"

abbrev pub select_revision_terms : List Term
select_revision_terms = col 1 1 ∷ col 1 2 ∷ col 1 3 ∷ col 1 4 ∷ []

pub select_revision_is : (command_of (understood desk_schema select_revision) ≡ Select (record { lets = []; body = simple 5 (op2 (Compare Eq Binary) (col 1 1) (col 0 0) ∷ op2 (Compare Eq Binary) (col 1 2) (col 0 1) ∷ []) select_revision_terms [] }) (codes "sent" ∷ codes "rev" ∷ codes "who" ∷ codes "body" ∷ [])) × IsPlain (understood desk_schema select_revision) × (reads_listing desk_schema select_revision ≡ false)
unfolding understood everything
select_revision_is = (refl, (refl, refl), refl)

abbrev pub select_one_pulled : List ℕ
select_one_pulled = codes "SELECT sent FROM pulled WHERE sent = ?1"

abbrev pub select_one_pulled_terms : List Term
select_one_pulled_terms = col 1 0 ∷ []

pub select_one_pulled_is : (command_of (understood desk_schema select_one_pulled) ≡ Select (record { lets = []; body = simple 9 (by_number ∷ []) select_one_pulled_terms [] }) (codes "sent" ∷ [])) × IsPlain (understood desk_schema select_one_pulled) × (reads_listing desk_schema select_one_pulled ≡ false)
unfolding understood everything
select_one_pulled_is = (refl, (refl, refl), refl)

abbrev pub select_work : List ℕ
select_work = codes "SELECT no, rev, words FROM sentences WHERE batch = ?1 ORDER BY no"

abbrev pub select_work_terms : List Term
select_work_terms = col 1 0 ∷ col 1 4 ∷ col 1 5 ∷ []

pub select_work_is : (command_of (understood desk_schema select_work) ≡ Select (record { lets = []; body = simple 3 (op2 (Compare Eq Binary) (col 1 3) (col 0 0) ∷ []) select_work_terms (rising 0 ∷ []) }) (codes "no" ∷ codes "rev" ∷ codes "words" ∷ [])) × IsPlain (understood desk_schema select_work) × (reads_listing desk_schema select_work ≡ false)
unfolding understood everything
select_work_is = (refl, (refl, refl), refl)

abbrev pub select_heads : List ℕ
select_heads = codes "SELECT batch, rev FROM sentences ORDER BY no"

abbrev pub select_heads_terms : List Term
select_heads_terms = col 1 3 ∷ col 1 4 ∷ []

pub select_heads_is : (command_of (understood desk_schema select_heads) ≡ Select (record { lets = []; body = simple 3 [] select_heads_terms (rising 0 ∷ []) }) (codes "batch" ∷ codes "rev" ∷ [])) × IsPlain (understood desk_schema select_heads) × (reads_listing desk_schema select_heads ≡ false)
unfolding understood everything
select_heads_is = (refl, (refl, refl), refl)

abbrev pub select_bodies : List ℕ
select_bodies = codes "SELECT sent, rev, body FROM revisions ORDER BY sent, rev"

abbrev pub select_bodies_terms : List Term
select_bodies_terms = col 1 1 ∷ col 1 2 ∷ col 1 4 ∷ []

pub select_bodies_is : (command_of (understood desk_schema select_bodies) ≡ Select (record { lets = []; body = simple 5 [] select_bodies_terms (rising 1 ∷ rising 2 ∷ []) }) (codes "sent" ∷ codes "rev" ∷ codes "body" ∷ [])) × IsPlain (understood desk_schema select_bodies) × (reads_listing desk_schema select_bodies ≡ false)
unfolding understood everything
select_bodies_is = (refl, (refl, refl), refl)
