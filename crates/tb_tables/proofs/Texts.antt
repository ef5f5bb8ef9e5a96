-- What the texts of the statements compile to.
use Rattle.std.proofs.Common.{◌≡◌, ℕ, List, [], ◌∷◌, codes, refl, pos, negsuc, None, false}
use Rattle.sqlite.specs.declared.types.Value.TheVariants.{Null, Int}
use Rattle.sqlite.specs.Command.TheVariants.{Insert, Update, Delete}
use Rattle.sqlite.specs.Source.TheVariants.{Values}
use Rattle.sqlite.specs.Term.{Term, lit, col, op2}
use Rattle.sqlite_sql.specs.declared.ops.BinaryOp.TheVariants.{Compare}
use Rattle.sqlite_sql.specs.declared.ops.CompareOp.TheVariants.{Eq}
use Rattle.sqlite.specs.Collation.TheVariants.{Binary}
use Rattle.sqlite_value.specs.declared.keys.Key.{Key}
use Rattle.sqlite.specs.Query.{Query, inner, end}
use Rattle.sqlite_tied.specs.Compute.{everything}
use Rattle.sqlite.specs.Listing.{understood}
use Rattle.sqlite.proofs.Callers.{IsPlain, command_of}
use Rattle.tb_tables.specs.Layout.{desk_schema}

abbrev pub no_limit : Term
no_limit = lit (Int (negsuc 0))

-- the number of the row is the first parameter
abbrev pub by_number : Term
by_number = op2 (Compare Eq Binary) (col 1 0) (col 0 0)

abbrev pub simple : ℕ → List Term → List Term → List (Term × Key) → Query
simple tree filter project order = record { from = inner tree end; filter = filter; group = None; project = project; distinct = false; collations = []; order = order; limit = no_limit; offset = lit (Int (pos 0)) }

abbrev pub insert_batch : List ℕ
insert_batch = codes "INSERT INTO batches(no, name, state, worker) VALUES (?1, ?2, ?3, ?4)"

abbrev pub insert_batch_terms : List Term
insert_batch_terms = col 0 0 ∷ lit Null ∷ col 0 1 ∷ col 0 2 ∷ col 0 3 ∷ []

pub insert_batch_is : (command_of (understood desk_schema insert_batch) ≡ Insert 1 (Values insert_batch_terms 5)) × IsPlain (understood desk_schema insert_batch)
unfolding understood everything
insert_batch_is = (refl, (refl, refl))

abbrev pub insert_sentence : List ℕ
insert_sentence = codes "INSERT INTO sentences(no, sent_id, batch, rev, words) VALUES (?1, ?2, ?3, ?4, ?5)"

abbrev pub insert_sentence_terms : List Term
insert_sentence_terms = col 0 0 ∷ lit Null ∷ col 0 1 ∷ col 0 2 ∷ col 0 3 ∷ col 0 4 ∷ []

pub insert_sentence_is : (command_of (understood desk_schema insert_sentence) ≡ Insert 2 (Values insert_sentence_terms 6)) × IsPlain (understood desk_schema insert_sentence)
unfolding understood everything
insert_sentence_is = (refl, (refl, refl))

abbrev pub insert_revision : List ℕ
insert_revision = codes "INSERT INTO revisions(sent, rev, who, body) VALUES (?1, ?2, ?3, ?4)"

abbrev pub insert_revision_terms : List Term
insert_revision_terms = lit Null ∷ col 0 0 ∷ col 0 1 ∷ col 0 2 ∷ col 0 3 ∷ []

pub insert_revision_is : (command_of (understood desk_schema insert_revision) ≡ Insert 3 (Values insert_revision_terms 5)) × IsPlain (understood desk_schema insert_revision)
unfolding understood everything
insert_revision_is = (refl, (refl, refl))

abbrev pub insert_move : List ℕ
insert_move = codes "INSERT INTO moves(no, kind, batch, sent, from_state, to_state, sentences, words_out, words_in, who) VALUES (?1, ?2, ?3, ?4, ?5, ?6, ?7, ?8, ?9, ?10)"

abbrev pub insert_move_terms : List Term
insert_move_terms = col 0 0 ∷ lit Null ∷ col 0 1 ∷ col 0 2 ∷ col 0 3 ∷ col 0 4 ∷ col 0 5 ∷ col 0 6 ∷ col 0 7 ∷ col 0 8 ∷ col 0 9 ∷ []

pub insert_move_is : (command_of (understood desk_schema insert_move) ≡ Insert 4 (Values insert_move_terms 11)) × IsPlain (understood desk_schema insert_move)
unfolding understood everything
insert_move_is = (refl, (refl, refl))

abbrev pub insert_pulled : List ℕ
insert_pulled = codes "INSERT INTO pulled(sent) VALUES (?1)"

abbrev pub insert_pulled_terms : List Term
insert_pulled_terms = col 0 0 ∷ lit Null ∷ []

pub insert_pulled_is : (command_of (understood desk_schema insert_pulled) ≡ Insert 6 (Values insert_pulled_terms 2)) × IsPlain (understood desk_schema insert_pulled)
unfolding understood everything
insert_pulled_is = (refl, (refl, refl))

abbrev pub update_batch : List ℕ
update_batch = codes "UPDATE batches SET state = ?2, worker = ?3 WHERE no = ?1"

abbrev pub update_batch_terms : List Term
update_batch_terms = col 1 0 ∷ col 1 0 ∷ lit Null ∷ col 1 2 ∷ col 0 1 ∷ col 0 2 ∷ []

pub update_batch_is : (command_of (understood desk_schema update_batch) ≡ Update 1 (record { lets = []; body = simple 1 (by_number ∷ []) update_batch_terms [] })) × IsPlain (understood desk_schema update_batch)
unfolding understood everything
update_batch_is = (refl, (refl, refl))

abbrev pub update_sentence : List ℕ
update_sentence = codes "UPDATE sentences SET rev = ?2, words = ?3 WHERE no = ?1"

abbrev pub update_sentence_terms : List Term
update_sentence_terms = col 1 0 ∷ col 1 0 ∷ lit Null ∷ col 1 2 ∷ col 1 3 ∷ col 0 1 ∷ col 0 2 ∷ []

pub update_sentence_is : (command_of (understood desk_schema update_sentence) ≡ Update 2 (record { lets = []; body = simple 3 (by_number ∷ []) update_sentence_terms [] })) × IsPlain (understood desk_schema update_sentence)
unfolding understood everything
update_sentence_is = (refl, (refl, refl))

abbrev pub update_total : List ℕ
update_total = codes "UPDATE totals SET sentences = ?2, words = ?3 WHERE state = ?1"

abbrev pub update_total_terms : List Term
update_total_terms = col 1 0 ∷ col 1 0 ∷ lit Null ∷ col 0 1 ∷ col 0 2 ∷ []

pub update_total_is : (command_of (understood desk_schema update_total) ≡ Update 5 (record { lets = []; body = simple 8 (by_number ∷ []) update_total_terms [] })) × IsPlain (understood desk_schema update_total)
unfolding understood everything
update_total_is = (refl, (refl, refl))

abbrev pub delete_pulled : List ℕ
delete_pulled = codes "DELETE FROM pulled WHERE sent = ?1"

abbrev pub delete_pulled_terms : List Term
delete_pulled_terms = col 1 0 ∷ []

pub delete_pulled_is : (command_of (understood desk_schema delete_pulled) ≡ Delete 6 (record { lets = []; body = simple 9 (by_number ∷ []) delete_pulled_terms [] })) × IsPlain (understood desk_schema delete_pulled)
unfolding understood everything
delete_pulled_is = (refl, (refl, refl))

abbrev pub insert_version : List ℕ
insert_version = codes "INSERT INTO meta(version) VALUES (2)"

abbrev pub insert_version_terms : List Term
insert_version_terms = lit Null ∷ lit (Int (pos 2)) ∷ []

pub insert_version_is : (command_of (understood desk_schema insert_version) ≡ Insert 0 (Values insert_version_terms 2)) × IsPlain (understood desk_schema insert_version)
unfolding understood everything
insert_version_is = (refl, (refl, refl))

abbrev pub insert_totals : List ℕ
insert_totals = codes "INSERT INTO totals(state, sentences, words) VALUES (1, 0, 0), (2, 0, 0), (3, 0, 0), (4, 0, 0), (5, 0, 0), (6, 0, 0)"

abbrev pub insert_totals_terms : List Term
insert_totals_terms =
    lit (Int (pos 1)) ∷ lit Null ∷ lit (Int (pos 0)) ∷ lit (Int (pos 0)) ∷ lit (Int (pos 2)) ∷ lit Null ∷ lit (Int (pos 0)) ∷ lit (Int (pos 0)) ∷ lit (Int (pos 3)) ∷ lit Null ∷ lit (Int (pos 0)) ∷ lit (Int (pos 0)) ∷ lit (Int (pos 4)) ∷ lit Null ∷ lit (Int (pos 0)) ∷ lit (Int (pos 0)) ∷ lit (Int (pos 5)) ∷ lit Null ∷ lit (Int (pos 0)) ∷ lit (Int (pos 0)) ∷ lit (Int (pos 6)) ∷ lit Null ∷ lit (Int (pos 0)) ∷ lit (Int (pos 0)) ∷ []

pub insert_totals_is : (command_of (understood desk_schema insert_totals) ≡ Insert 5 (Values insert_totals_terms 4)) × IsPlain (understood desk_schema insert_totals)
unfolding understood everything
insert_totals_is = (refl, (refl, refl))
