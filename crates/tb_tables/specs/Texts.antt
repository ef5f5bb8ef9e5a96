-- Inner: no contract beyond this crate cites a definition of this module.
-- The seven texts that make the tables.
use Rattle.std.specs.Prelude.{ℕ, List, codes}

abbrev pub meta_text : List ℕ
meta_text = codes "CREATE TABLE meta(version INTEGER NOT NULL) STRICT"

abbrev pub batches_text : List ℕ
batches_text = codes "CREATE TABLE batches(no INTEGER PRIMARY KEY, name TEXT NOT NULL UNIQUE, state INTEGER NOT NULL, worker TEXT NOT NULL) STRICT"

abbrev pub sentences_text : List ℕ
sentences_text = codes "CREATE TABLE sentences(no INTEGER PRIMARY KEY, sent_id TEXT NOT NULL UNIQUE, batch INTEGER NOT NULL, rev INTEGER NOT NULL, words INTEGER NOT NULL) STRICT"

abbrev pub revisions_text : List ℕ
revisions_text = codes "CREATE TABLE revisions(sent INTEGER NOT NULL, rev INTEGER NOT NULL, who TEXT NOT NULL, body TEXT NOT NULL, PRIMARY KEY(sent, rev)) STRICT"

abbrev pub moves_text : List ℕ
moves_text = codes "CREATE TABLE moves(no INTEGER PRIMARY KEY, kind INTEGER NOT NULL, batch INTEGER NOT NULL, sent INTEGER NOT NULL, from_state INTEGER NOT NULL, to_state INTEGER NOT NULL, sentences INTEGER NOT NULL, words_out INTEGER NOT NULL, words_in INTEGER NOT NULL, who TEXT NOT NULL) STRICT"

abbrev pub totals_text : List ℕ
totals_text = codes "CREATE TABLE totals(state INTEGER PRIMARY KEY, sentences INTEGER NOT NULL, words INTEGER NOT NULL) STRICT"

abbrev pub pulled_text : List ℕ
pulled_text = codes "CREATE TABLE pulled(sent INTEGER PRIMARY KEY) STRICT"
