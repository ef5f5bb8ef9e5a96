-- In a blank database, no CREATE TABLE and no first row of a new desk is refused.
use Rattle.std.proofs.Common.{◌≡◌, ◌≤◌, ◌<◌, ◌+◌, ◌*◌, ◌^◌, inl, inr, ℕ, List, [], ◌∷◌, length, Ok, Err, Option, None, Some, true, false, IsUtf8, refl, sym, ap, subst, ◌∙◌, arith, codes, IsTrue, lit≤, nat_lt, zero, suc, pos}
use Rattle.std.specs.List.{AllByRecursion, list_all}
use Rattle.std.specs.Ordering.{is_eq}
use Rattle.std.specs.Str.{IsAscii}
use Rattle.std.proofs.lemmas.Bool.{cases_Bool}
use Rattle.std.proofs.lemmas.Bool.Decides.{nat_tests}
use Rattle.std.proofs.lemmas.Str.{IsUtf8-from_ascii}
use Rattle.sqlite.specs.declared.error.Error.{Error}
use Rattle.sqlite.specs.declared.types.Value.TheVariants.{Null, Int, Text}
use Rattle.sqlite.specs.Order.{Row}
use Rattle.sqlite.specs.Tree.{Trees, put_row, with_tree}
use Rattle.sqlite.specs.Source.TheVariants.{Values}
use Rattle.sqlite.specs.Edit.{Edit, edit_of, edited}
use Rattle.sqlite.specs.Rowids.TheVariants.{Chosen}
use Rattle.sqlite.specs.Rows.{stamped}
use Rattle.sqlite_rules.specs.Edit.{are_fresh}
use Rattle.sqlite.specs.Table.{Table}
use Rattle.sqlite.specs.Schema.{Schema}
use Rattle.sqlite.specs.Change.{created, next_tree, is_used, is_reserved, automatics}
use Rattle.sqlite.specs.Command.TheVariants.{CreateTable, Insert}
use Rattle.sqlite.specs.Compile.{table_defined_by}
use Rattle.sqlite.specs.Listing.{understood}
use Rattle.sqlite.specs.Effect.{RefusesSource}
use Rattle.sqlite.specs.Does.{Does, MakesTable, lacks_sequence}
use Rattle.sqlite.specs.State.{State, mode_of, ExecutesInside}
use Rattle.sqlite.specs.Steps.{FailsToCommit}
use Rattle.sqlite_catalog.specs.declared.error.Refusal.{Refusal}
use Rattle.sqlite_catalog.specs.declared.error.Refusal.TheVariants.{Invalid, NameTaken, BadName, TooBig, BadKey, BadText, Violates}
use Rattle.sqlite_catalog.specs.Calls.{IsLongTable, RefusesTable}
use Rattle.sqlite_catalog.specs.Listing.{is_formed, is_fit}
use Rattle.sqlite_schema.specs.declared.schema.Index.{Index}
use Rattle.sqlite_schema.specs.Rules.{table_reals, index_reals}
use Rattle.sqlite_trees.specs.Sound.{fits_kind, is_word, begins, is_free_name, same_name}
use Rattle.sqlite_value.proofs.OrderLemmas.{value_cmp-Text}
use Rattle.sqlite_rules.specs.Lists.{Has}
use Rattle.sqlite_rules.proofs.ListLemmas.{all_has}
use Rattle.sqlite_tied.specs.Compute.{everything}
use Rattle.tb_tables.specs.Failing.{AreUnique, IsDiskFaultOrWant, IsWhole}
use Rattle.tb_tables.specs.Records.{batch_view, sentence_view, revision_view}
use Rattle.tb_tables.specs.Making.{Makes, Takes, IsBare, IsVersioned, empty_tables, no_schema, first_schema}
use Rattle.tb_tables.specs.Texts.{meta_text, batches_text, sentences_text, revisions_text, moves_text, totals_text, pulled_text}
use Rattle.tb_tables.specs.Layout.{desk_schema, meta, batches, sentences, revisions, moves, totals, pulled}
use Rattle.tb_tables.proofs.Making.{same_command, same_statement, same_value}
use Rattle.tb_tables.proofs.Refusing.{IsAllowed, IsWrite, disk_fault, inserts_stop, only_fails, rows_fail, never_both}
use Rattle.tb_tables.proofs.Texts.{insert_version, insert_version_is, insert_version_terms, insert_totals, insert_totals_is, insert_totals_terms}
use Rattle.tb_tables.proofs.Lists.{cast_int, cast_null, lower}
use Rattle.tb_tables.proofs.Filling.{none_shown, six}
use Rattle.tb_tables.proofs.Failing.{one_row, in_range}
use Rattle.tb_tables.proofs.Sizes.{first_totals_fit, version_fits}
use Rattle.tb_tables.proofs.Unique.{keeps_unique}

ascii_front : (b : ℕ) (bs : List ℕ) → IsAscii bs → nat_lt b 128 ≡ true → IsAscii (b ∷ bs)
ascii_front b bs rest low zero = grind (arith, nat_tests)
ascii_front b bs rest low (suc i) = rest i

ascii : (bs : List ℕ) → list_all (λ b. nat_lt b 128) bs ≡ true → IsAscii bs
ascii [] h = λ i. lit≤ tt
ascii (b ∷ bs) h = elim (cases_Bool (nat_lt b 128)) [
  | inl low ↦ ascii_front b bs (ascii bs (rw low at h)) low
  | inr high ↦ absurd (let x = rw high at h in cc)
]

ascii_text : (bs : List ℕ) → list_all (λ b. nat_lt b 128) bs ≡ true → IsUtf8 bs
ascii_text bs h = IsUtf8-from_ascii bs (ascii bs h)

-- the table can come into the schema by this text
record IsFree (schema : Schema) (text : List ℕ) (table : Table) : Type 0 where
  defined : table_defined_by text ≡ Ok table
  free : is_used schema table.name ≡ false
  free_indexes : AllByRecursion (λ (i : Index). is_used schema i.name ≡ false) (automatics table 0 0 table.uniques)
  utf8 : IsUtf8 table.name
  unreserved : is_reserved table.name ≡ false
  few : next_tree schema + length table.uniques ≤ 100
  reals : table_reals table ≡ 0
  index_reals : AllByRecursion (λ key. index_reals (table_reals table) key ≡ 0) table.uniques
  formed : is_formed table ≡ true
  fit : is_fit (Text (codes "table")) (Text table.name) (Text table.name) (Text text) ≡ true
  short : 2 * length table.name + length text + 200 < 10 ^ 9

small : (n : ℕ) → n ≡ 0 → 2 ^ 64 ≤ n → ⊥
small n e h = omega (arith, e, h)

module _ (schema : Schema) (text : List ℕ) (table : Table) (f : IsFree schema text table) where
  same : (t : Table) → table_defined_by text ≡ Ok t → table ≡ t
  same t is = same_value (sym f.defined ∙ is)

  never_refused : (why : Refusal) → RefusesTable schema text why → ⊥
  never_refused (Invalid e) h = let x = sym f.defined ∙ h in absurd cc
  never_refused NameTaken (t, is, inl h) = never_both _ (subst (λ (t : Table). is_used schema t.name ≡ true) (sym (same t is)) h) f.free
  never_refused NameTaken (t, is, inr h) =
      let has = subst (λ (t : Table). (index : Index) × Has (automatics t 0 0 t.uniques) index × (is_used schema index.name ≡ true)) (sym (same t is)) h in
      never_both _ has.2 (all_has (λ (i : Index). is_used schema i.name ≡ false) (automatics table 0 0 table.uniques) has.0 f.free_indexes has.1)
  never_refused BadName (t, is, inl h) = h (subst (λ (t : Table). IsUtf8 t.name) (same t is) f.utf8)
  never_refused BadName (t, is, inr h) = never_both _ (subst (λ (t : Table). is_reserved t.name ≡ true) (sym (same t is)) h.0) f.unreserved
  never_refused TooBig (t, is, inl h) = let many = subst (λ (t : Table). 65536 ≤ next_tree schema + length t.uniques) (sym (same t is)) h in let few = f.few in omega (arith, few, many)
  never_refused TooBig (t, is, inr (inl h)) = small _ f.reals (subst (λ (t : Table). 2 ^ 64 ≤ table_reals t) (sym (same t is)) h)
  never_refused TooBig (t, is, inr (inr h)) =
      let has = subst (λ (t : Table). (key : List ℕ) × Has t.uniques key × (2 ^ 64 ≤ index_reals (table_reals t) key)) (sym (same t is)) h in
      small _ (all_has (λ key. index_reals (table_reals table) key ≡ 0) table.uniques has.0 f.index_reals has.1) has.2
  never_refused BadKey (t, is, h) = never_both _ (subst (λ (t : Table). is_formed t ≡ true) (same t is) f.formed) h
  never_refused BadText (t, is, h) = never_both _ (subst (λ (t : Table). is_fit (Text (codes "table")) (Text t.name) (Text t.name) (Text text) ≡ true) (same t is) f.fit) h
  never_refused (Violates rule) h = h

  never_long : IsLongTable text → ⊥
  never_long (t, is, long) = let long = subst (λ (t : Table). 10 ^ 9 ≤ 2 * length t.name + length text + 200) (sym (same t is)) long in let short = f.short in omega (arith, short, long)

module _ (old new : State) (schema : Schema) (text : List ℕ) (table : Table) (has : old.now.schema ≡ schema) (makes : Makes schema text table) (takes : Takes schema text) where
  never_refuses : (stop : Option Error) → MakesTable text old.now (Err stop) → ⊥
  never_refuses None h = takes.short h
  never_refuses (Some e) (inl h) = h.0 takes.utf8
  never_refuses (Some e) (inr h) = takes.never h.0 (subst (λ s. RefusesTable s text h.0) has h.1)

  never_stops : (stop : Option Error) → Does old.step_limit (mode_of old) [] old.now text None CreateTable (Err stop) → ⊥
  never_stops e (inl (stop, inl (why, first, ends), is)) = never_refuses why first
  never_stops e (inl (stop, inr (after, made, more), is)) =
      let both : Ok made.table ≡ Ok table = sym made.defined ∙ makes.defined in
      let same : made.table ≡ table = same_value both in
      let now : after.schema ≡ created schema table = made.is ∙ ap (λ s. created s made.table) has ∙ ap (created schema) same in
      let plain : lacks_sequence after.schema ≡ false = ap lacks_sequence now ∙ makes.uncounted in
      absurd (let x = rw plain at more in cc)
  never_stops e (inr (after, made, h)) = absurd cc

  pub make_fails : (e : Error) → ExecutesInside 0 text [] old new (Err e) → IsDiskFaultOrWant e
  make_fails =
      only_fails old new schema text [] CreateTable has (record { writing = tt; quiet = refl; is = same_command (understood schema text) ∙ makes.command; plain = makes.plain; whole = takes.whole })
      (λ stop h. never_stops stop (subst (λ t. Does old.step_limit (mode_of old) [] old.now t None CreateTable (Err stop)) (same_statement text (understood schema text) ∙ makes.whole) h))

-- ---- the seven texts

table_no_index : is_word (codes "index") (Text (codes "table")) ≡ false
table_no_index = ap is_eq (value_cmp-Text (codes "table") (codes "index"))

table_is : is_word (codes "table") (Text (codes "table")) ≡ true
table_is = ap is_eq (value_cmp-Text (codes "table") (codes "table"))

table_no_view : is_word (codes "view") (Text (codes "table")) ≡ false
table_no_view = ap is_eq (value_cmp-Text (codes "table") (codes "view"))

table_no_trigger : is_word (codes "trigger") (Text (codes "table")) ≡ false
table_no_trigger = ap is_eq (value_cmp-Text (codes "table") (codes "trigger"))

meta_whole : IsWhole (length meta_text) 0 (understood (no_schema) meta_text)
unfolding understood everything
meta_whole = (lit≤ tt, refl)

meta_fit : is_fit (Text (codes "table")) (Text meta.name) (Text meta.name) (Text meta_text) ≡ true
unfolding fits_kind begins is_free_name same_name
meta_fit = rw (table_no_index, table_is, table_no_view, table_no_trigger, value_cmp-Text meta.name meta.name) refl

meta_free : IsFree (no_schema) meta_text (record meta { tree = 0 })
unfolding understood everything
meta_free = record {
  defined = refl;
  free = refl;
  free_indexes = tt;
  utf8 = ascii_text meta.name refl;
  unreserved = refl;
  few = lit≤ tt;
  reals = refl;
  index_reals = tt;
  formed = refl;
  fit = meta_fit;
  short = lit≤ tt;
}

pub takes_meta : Takes (no_schema) meta_text
takes_meta = record { utf8 = ascii_text meta_text refl; whole = meta_whole; never = never_refused (no_schema) meta_text (record meta { tree = 0 }) meta_free; short = never_long (no_schema) meta_text (record meta { tree = 0 }) meta_free }

batches_whole : IsWhole (length batches_text) 0 (understood (created no_schema (record meta { tree = 0 })) batches_text)
unfolding understood everything
batches_whole = (lit≤ tt, refl)

batches_fit : is_fit (Text (codes "table")) (Text batches.name) (Text batches.name) (Text batches_text) ≡ true
unfolding fits_kind begins is_free_name same_name
batches_fit = rw (table_no_index, table_is, table_no_view, table_no_trigger, value_cmp-Text batches.name batches.name) refl

batches_free : IsFree (created no_schema (record meta { tree = 0 })) batches_text (record batches { tree = 0 })
unfolding understood everything
batches_free = record {
  defined = refl;
  free = refl;
  free_indexes = (refl, tt);
  utf8 = ascii_text batches.name refl;
  unreserved = refl;
  few = lit≤ tt;
  reals = refl;
  index_reals = (refl, tt);
  formed = refl;
  fit = batches_fit;
  short = lit≤ tt;
}

pub takes_batches : Takes (created no_schema (record meta { tree = 0 })) batches_text
takes_batches = record { utf8 = ascii_text batches_text refl; whole = batches_whole; never = never_refused (created no_schema (record meta { tree = 0 })) batches_text (record batches { tree = 0 }) batches_free; short = never_long (created no_schema (record meta { tree = 0 })) batches_text (record batches { tree = 0 }) batches_free }

sentences_whole : IsWhole (length sentences_text) 0 (understood (created (created no_schema (record meta { tree = 0 })) (record batches { tree = 0 })) sentences_text)
unfolding understood everything
sentences_whole = (lit≤ tt, refl)

sentences_fit : is_fit (Text (codes "table")) (Text sentences.name) (Text sentences.name) (Text sentences_text) ≡ true
unfolding fits_kind begins is_free_name same_name
sentences_fit = rw (table_no_index, table_is, table_no_view, table_no_trigger, value_cmp-Text sentences.name sentences.name) refl

sentences_free : IsFree (created (created no_schema (record meta { tree = 0 })) (record batches { tree = 0 })) sentences_text (record sentences { tree = 0 })
unfolding understood everything
sentences_free = record {
  defined = refl;
  free = refl;
  free_indexes = (refl, tt);
  utf8 = ascii_text sentences.name refl;
  unreserved = refl;
  few = lit≤ tt;
  reals = refl;
  index_reals = (refl, tt);
  formed = refl;
  fit = sentences_fit;
  short = lit≤ tt;
}

pub takes_sentences : Takes (created (created no_schema (record meta { tree = 0 })) (record batches { tree = 0 })) sentences_text
takes_sentences = record { utf8 = ascii_text sentences_text refl; whole = sentences_whole; never = never_refused (created (created no_schema (record meta { tree = 0 })) (record batches { tree = 0 })) sentences_text (record sentences { tree = 0 }) sentences_free; short = never_long (created (created no_schema (record meta { tree = 0 })) (record batches { tree = 0 })) sentences_text (record sentences { tree = 0 }) sentences_free }

revisions_whole : IsWhole (length revisions_text) 0 (understood (created (created (created no_schema (record meta { tree = 0 })) (record batches { tree = 0 })) (record sentences { tree = 0 })) revisions_text)
unfolding understood everything
revisions_whole = (lit≤ tt, refl)

revisions_fit : is_fit (Text (codes "table")) (Text revisions.name) (Text revisions.name) (Text revisions_text) ≡ true
unfolding fits_kind begins is_free_name same_name
revisions_fit = rw (table_no_index, table_is, table_no_view, table_no_trigger, value_cmp-Text revisions.name revisions.name) refl

revisions_free : IsFree (created (created (created no_schema (record meta { tree = 0 })) (record batches { tree = 0 })) (record sentences { tree = 0 })) revisions_text (record revisions { tree = 0 })
unfolding understood everything
revisions_free = record {
  defined = refl;
  free = refl;
  free_indexes = (refl, tt);
  utf8 = ascii_text revisions.name refl;
  unreserved = refl;
  few = lit≤ tt;
  reals = refl;
  index_reals = (refl, tt);
  formed = refl;
  fit = revisions_fit;
  short = lit≤ tt;
}

pub takes_revisions : Takes (created (created (created no_schema (record meta { tree = 0 })) (record batches { tree = 0 })) (record sentences { tree = 0 })) revisions_text
takes_revisions = record { utf8 = ascii_text revisions_text refl; whole = revisions_whole; never = never_refused (created (created (created no_schema (record meta { tree = 0 })) (record batches { tree = 0 })) (record sentences { tree = 0 })) revisions_text (record revisions { tree = 0 }) revisions_free; short = never_long (created (created (created no_schema (record meta { tree = 0 })) (record batches { tree = 0 })) (record sentences { tree = 0 })) revisions_text (record revisions { tree = 0 }) revisions_free }

moves_whole : IsWhole (length moves_text) 0 (understood (first_schema) moves_text)
unfolding understood everything
moves_whole = (lit≤ tt, refl)

moves_fit : is_fit (Text (codes "table")) (Text moves.name) (Text moves.name) (Text moves_text) ≡ true
unfolding fits_kind begins is_free_name same_name
moves_fit = rw (table_no_index, table_is, table_no_view, table_no_trigger, value_cmp-Text moves.name moves.name) refl

moves_free : IsFree (first_schema) moves_text (record moves { tree = 0 })
unfolding understood everything
moves_free = record {
  defined = refl;
  free = refl;
  free_indexes = tt;
  utf8 = ascii_text moves.name refl;
  unreserved = refl;
  few = lit≤ tt;
  reals = refl;
  index_reals = tt;
  formed = refl;
  fit = moves_fit;
  short = lit≤ tt;
}

pub takes_moves : Takes (first_schema) moves_text
takes_moves = record { utf8 = ascii_text moves_text refl; whole = moves_whole; never = never_refused (first_schema) moves_text (record moves { tree = 0 }) moves_free; short = never_long (first_schema) moves_text (record moves { tree = 0 }) moves_free }

totals_whole : IsWhole (length totals_text) 0 (understood (created (first_schema) (record moves { tree = 0 })) totals_text)
unfolding understood everything
totals_whole = (lit≤ tt, refl)

totals_fit : is_fit (Text (codes "table")) (Text totals.name) (Text totals.name) (Text totals_text) ≡ true
unfolding fits_kind begins is_free_name same_name
totals_fit = rw (table_no_index, table_is, table_no_view, table_no_trigger, value_cmp-Text totals.name totals.name) refl

totals_free : IsFree (created (first_schema) (record moves { tree = 0 })) totals_text (record totals { tree = 0 })
unfolding understood everything
totals_free = record {
  defined = refl;
  free = refl;
  free_indexes = tt;
  utf8 = ascii_text totals.name refl;
  unreserved = refl;
  few = lit≤ tt;
  reals = refl;
  index_reals = tt;
  formed = refl;
  fit = totals_fit;
  short = lit≤ tt;
}

pub takes_totals : Takes (created (first_schema) (record moves { tree = 0 })) totals_text
takes_totals = record { utf8 = ascii_text totals_text refl; whole = totals_whole; never = never_refused (created (first_schema) (record moves { tree = 0 })) totals_text (record totals { tree = 0 }) totals_free; short = never_long (created (first_schema) (record moves { tree = 0 })) totals_text (record totals { tree = 0 }) totals_free }

pulled_whole : IsWhole (length pulled_text) 0 (understood (created (created (first_schema) (record moves { tree = 0 })) (record totals { tree = 0 })) pulled_text)
unfolding understood everything
pulled_whole = (lit≤ tt, refl)

pulled_fit : is_fit (Text (codes "table")) (Text pulled.name) (Text pulled.name) (Text pulled_text) ≡ true
unfolding fits_kind begins is_free_name same_name
pulled_fit = rw (table_no_index, table_is, table_no_view, table_no_trigger, value_cmp-Text pulled.name pulled.name) refl

pulled_free : IsFree (created (created (first_schema) (record moves { tree = 0 })) (record totals { tree = 0 })) pulled_text (record pulled { tree = 0 })
unfolding understood everything
pulled_free = record {
  defined = refl;
  free = refl;
  free_indexes = tt;
  utf8 = ascii_text pulled.name refl;
  unreserved = refl;
  few = lit≤ tt;
  reals = refl;
  index_reals = tt;
  formed = refl;
  fit = pulled_fit;
  short = lit≤ tt;
}

pub takes_pulled : Takes (created (created (first_schema) (record moves { tree = 0 })) (record totals { tree = 0 })) pulled_text
takes_pulled = record { utf8 = ascii_text pulled_text refl; whole = pulled_whole; never = never_refused (created (created (first_schema) (record moves { tree = 0 })) (record totals { tree = 0 })) pulled_text (record pulled { tree = 0 }) pulled_free; short = never_long (created (created (first_schema) (record moves { tree = 0 })) (record totals { tree = 0 })) pulled_text (record pulled { tree = 0 }) pulled_free }

-- ---- the first rows

version_whole : IsWhole (length insert_version) 0 (understood desk_schema insert_version)
unfolding understood everything
version_whole = (lit≤ tt, refl)

version_is : IsWrite desk_schema insert_version 0 (Insert 0 (Values insert_version_terms 2))
version_is = record { writing = tt; quiet = refl; is = insert_version_is.0; plain = insert_version_is.1; whole = version_whole }

version_given : (db : Trees) (e : Error) → RefusesSource None (record { schema = desk_schema; trees = db }) (stamped meta []) (Values insert_version_terms 2) e → ⊥
unfolding everything
version_given db e (inl h) = let x = h.1 in absurd cc
version_given db e (inr h) = let x = h.1 in absurd cc

abbrev all_unique : AreUnique empty_tables
all_unique = record { batches = tt; sentences = tt; revisions = tt }

pub version_fails : (old new : State) (e : Error) → IsBare old desk_schema → old.step_limit ≡ None → ExecutesInside 0 insert_version [] old new (Err e) → IsDiskFaultOrWant e
version_fails old new e bare unlimited ran =
    let db = old.now.trees in
    let none : db 0 ≡ [] = bare.empty.0 in
    let stored : Row = Int (pos 1) ∷ Int (pos 2) ∷ [] in
    let it : edit_of db meta [] Chosen 0 ((Null ∷ Int (pos 2) ∷ []) ∷ []) ≡ one_row meta stored = rw (cast_null, cast_int (pos 2), none) refl in
    let allowed : IsAllowed ⊥ db (one_row meta stored) = record {
      typed = refl;
      present = refl;
      checked = refl;
      keyed = refl;
      fresh = rw none refl;
      fits = rw (in_range 1 (omega arith)) refl;
      referred = refl;
      unique = keeps_unique empty_tables (with_tree db 0 (put_row stored (db 0))) (none_shown batch_view _ bare.empty.1.0) (none_shown sentence_view _ bare.empty.1.1.0) (none_shown revision_view _ bare.empty.1.1.1.0) all_unique;
      big = λ h. version_fits (pos 1) h.0 h.1 h.2;
    } in
    disk_fault old new e (rows_fail ⊥ old new insert_version [] (Insert 0 (Values insert_version_terms 2)) meta bare.is unlimited version_is (λ e h. h)
    (inserts_stop db meta [] ⊥ (Values insert_version_terms 2) refl (version_given db) (λ rows is. subst (IsAllowed ⊥ db) (sym (ap (edit_of db meta [] Chosen 0) is.1 ∙ it)) allowed)) e ran)

totals_whole_text : IsWhole (length insert_totals) 0 (understood desk_schema insert_totals)
unfolding understood everything
totals_whole_text = (lit≤ tt, refl)

totals_is : IsWrite desk_schema insert_totals 0 (Insert 5 (Values insert_totals_terms 4))
totals_is = record { writing = tt; quiet = refl; is = insert_totals_is.0; plain = insert_totals_is.1; whole = totals_whole_text }

totals_given : (db : Trees) (e : Error) → RefusesSource None (record { schema = desk_schema; trees = db }) (stamped totals []) (Values insert_totals_terms 4) e → ⊥
unfolding everything
totals_given db e (inl h) = let x = h.1 in absurd cc
totals_given db e (inr h) = let x = h.1 in absurd cc

pub totals_fails : (old new : State) (e : Error) → IsVersioned old → old.step_limit ≡ None → ExecutesInside 0 insert_totals [] old new (Err e) → IsDiskFaultOrWant e
totals_fails old new e start unlimited ran =
    let db = old.now.trees in
    let none : db 8 ≡ [] = start.empty.1.1.1.1.0 in
    let fill : Edit = record { table = totals; gone = []; news = six } in
    let it : edit_of db totals [] Chosen 0 six ≡ fill = rw (cast_int (pos 0), cast_int (pos 1), cast_int (pos 2), cast_int (pos 3), cast_int (pos 4), cast_int (pos 5), cast_int (pos 6), cast_null) refl in
    let fresh : are_fresh (db 8) six ≡ true = rw (none, lower 1 2 (omega arith), lower 1 3 (omega arith), lower 2 3 (omega arith), lower 1 4 (omega arith), lower 2 4 (omega arith), lower 3 4 (omega arith), lower 1 5 (omega arith), lower 2 5 (omega arith), lower 3 5 (omega arith), lower 4 5 (omega arith), lower 1 6 (omega arith), lower 2 6 (omega arith), lower 3 6 (omega arith), lower 4 6 (omega arith), lower 5 6 (omega arith)) refl in
    let allowed : IsAllowed ⊥ db fill = record {
      typed = refl;
      present = refl;
      checked = refl;
      keyed = refl;
      fresh = fresh;
      referred = refl;
      fits = rw (in_range 1 (omega arith), in_range 2 (omega arith), in_range 3 (omega arith), in_range 4 (omega arith), in_range 5 (omega arith), in_range 6 (omega arith)) refl;
      unique = keeps_unique empty_tables (with_tree db 8 (edited db fill)) (none_shown batch_view _ start.empty.0) (none_shown sentence_view _ start.empty.1.0) (none_shown revision_view _ start.empty.1.1.0) all_unique;
      big = λ h. first_totals_fit h.0 h.1 h.2;
    } in
    disk_fault old new e (rows_fail ⊥ old new insert_totals [] (Insert 5 (Values insert_totals_terms 4)) totals start.inside.schema unlimited totals_is (λ e h. h)
    (inserts_stop db totals [] ⊥ (Values insert_totals_terms 4) refl (totals_given db) (λ rows is. subst (IsAllowed ⊥ db) (sym (ap (edit_of db totals [] Chosen 0) is.1 ∙ it)) allowed)) e ran)

-- ---- the commit

pub commit_fails : (old new : State) (e : Error) → IsTrue old.in_transaction → FailsToCommit old new e → IsDiskFaultOrWant e
commit_fails old new e begun (inl f) = disk_fault old new e f
commit_fails old new e begun (inr late) = absurd (let x = begun in let y = late.1 in cc)
