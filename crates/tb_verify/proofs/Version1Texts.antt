-- What the texts of the reading statements compile to over the tables of version 1.
use Rattle.std.proofs.Common.{◌≡◌, ℕ, List, [], ◌∷◌, length, codes, refl, lit≤, false, true}
use Rattle.sqlite.specs.Command.TheVariants.{Select}
use Rattle.sqlite.specs.Term.{Term, col}
use Rattle.sqlite_value.specs.declared.keys.Key.{Key}
use Rattle.sqlite_tied.specs.Compute.{everything}
use Rattle.sqlite_typing.specs.Types.{accepts_program}
use Rattle.sqlite.specs.Listing.{understood, reads_listing}
use Rattle.sqlite.proofs.Callers.{IsPlain, command_of}
use Rattle.tb_tables.specs.Failing.{IsWhole}
use Rattle.tb_tables.specs.Layout.{version_one_schema}
use Rattle.tb_tables.proofs.Texts.{simple}
use Rattle.tb_reads.proofs.Queries.{rising, select_batches, select_batches_terms, select_sentences, select_sentences_terms, select_revisions, select_revisions_terms, select_moves, select_moves_terms, select_totals, select_totals_terms}

-- the text is one statement that asks for these columns of all rows of one table, in this order, each of its type
pub record Selects (text : List ℕ) (tree : ℕ) (terms : List Term) (order : List (Term × Key)) (names : List (List ℕ)) : Type 0 where
  pub command : command_of (understood version_one_schema text) ≡ Select (record { lets = []; body = simple tree [] terms order }) names
  pub plain : IsPlain (understood version_one_schema text)
  pub unlisted : reads_listing version_one_schema text ≡ false
  pub whole : IsWhole (length text) 0 (understood version_one_schema text)
  pub typed : accepts_program version_one_schema [] (simple tree [] terms order) [] ≡ true

abbrev pub select_version : List ℕ
select_version = codes "SELECT rowid, version FROM meta"

abbrev pub select_version_terms : List Term
select_version_terms = col 1 0 ∷ col 1 1 ∷ []

pub selects_version : Selects select_version 0 select_version_terms [] (codes "rowid" ∷ codes "version" ∷ [])
unfolding understood everything
selects_version = record { command = refl; plain = (refl, refl); unlisted = refl; whole = (lit≤ tt, refl); typed = refl }

pub selects_batches : Selects select_batches 1 select_batches_terms (rising 0 ∷ []) (codes "no" ∷ codes "name" ∷ codes "state" ∷ codes "worker" ∷ [])
unfolding understood everything
selects_batches = record { command = refl; plain = (refl, refl); unlisted = refl; whole = (lit≤ tt, refl); typed = refl }

pub selects_sentences : Selects select_sentences 3 select_sentences_terms (rising 0 ∷ []) (codes "no" ∷ codes "sent_id" ∷ codes "batch" ∷ codes "rev" ∷ codes "words" ∷ [])
unfolding understood everything
selects_sentences = record { command = refl; plain = (refl, refl); unlisted = refl; whole = (lit≤ tt, refl); typed = refl }

pub selects_revisions : Selects select_revisions 5 select_revisions_terms (rising 1 ∷ rising 2 ∷ []) (codes "sent" ∷ codes "rev" ∷ codes "who" ∷ codes "body" ∷ [])
unfolding understood everything
selects_revisions = record { command = refl; plain = (refl, refl); unlisted = refl; whole = (lit≤ tt, refl); typed = refl }

pub selects_moves : Selects select_moves 7 select_moves_terms (rising 0 ∷ []) (codes "no" ∷ codes "kind" ∷ codes "batch" ∷ codes "sent" ∷ codes "from_state" ∷ codes "to_state" ∷ codes "sentences" ∷ codes "words_out" ∷ codes "words_in" ∷ codes "who" ∷ [])
unfolding understood everything
selects_moves = record { command = refl; plain = (refl, refl); unlisted = refl; whole = (lit≤ tt, refl); typed = refl }

pub selects_totals : Selects select_totals 8 select_totals_terms (rising 0 ∷ []) (codes "state" ∷ codes "sentences" ∷ codes "words" ∷ [])
unfolding understood everything
selects_totals = record { command = refl; plain = (refl, refl); unlisted = refl; whole = (lit≤ tt, refl); typed = refl }
