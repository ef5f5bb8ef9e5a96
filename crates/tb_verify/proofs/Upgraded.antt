-- What the two statements make of the tables of version 1.
use Rattle.std.proofs.Common.{◌≡◌, ◌≢◌, inl, inr, ℕ, ℤ, pos, List, [], ◌∷◌, codes, length, map, None, Result, Ok, Err, IfErr, IsTrue, Equal, refl, sym, ap, subst, ◌∙◌, arith, flat_map, lit≤}
use Rattle.std.proofs.lemmas.Int.{ints}
use Rattle.std.proofs.lemmas.Bool.Decides.{nat_tests}
use Rattle.std.proofs.lemmas.List.Sorted.{IsPermutation-refl}
use Rattle.sqlite.specs.declared.types.Value.TheVariants.{Null, Int}
use Rattle.sqlite.specs.Order.{Row, column, value_cmp}
use Rattle.sqlite.specs.declared.error.Error.{Error}
use Rattle.sqlite.specs.Tree.{Trees, with_tree}
use Rattle.sqlite.specs.Edit.{Edit, edit_of, edited}
use Rattle.sqlite.specs.Effect.{Answers, RefusesQuery}
use Rattle.sqlite.specs.Rowids.TheVariants.{Given}
use Rattle.sqlite.specs.Command.TheVariants.{Update}
use Rattle.sqlite.specs.Term.{Term, lit, col}
use Rattle.sqlite.specs.Change.{created, next_tree}
use Rattle.sqlite.specs.Listing.{understood}
use Rattle.sqlite.specs.Query.{inner, end, matches}
use Rattle.sqlite.specs.Program.{overlay}
use Rattle.sqlite.specs.State.{State, Executes, ExecutesInside}
use Rattle.sqlite.proofs.Callers.{IsPlain, command_of, runs_as, one_permutation}
use Rattle.sqlite_rules.specs.Calls.{ids_of}
use Rattle.sqlite_tied.specs.Compute.{everything}
use Rattle.sqlite_value.proofs.OrderLemmas.{value_cmp-Int}
use Rattle.tb_tables.specs.Layout.{desk_schema, version_one_schema, meta, pulled}
use Rattle.tb_tables.specs.Texts.{pulled_text}
use Rattle.tb_core.specs.declared.refusals.Fault.{Fault}
use Rattle.tb_core.specs.declared.refusals.Fault.TheVariants.{Device}
use Rattle.tb_tables.specs.Failing.{AreUnique, HasMetaRowids, IsDiskFaultOrWant, IsWant, IsWhole, NeedsNoFault}
use Rattle.tb_tables.specs.Making.{Makes, Takes}
use Rattle.tb_tables.specs.Records.{Tables, AreStored, Shows, meta_view, batch_view, sentence_view, revision_view, move_view, total_view, number_shown}
use Rattle.tb_tables.specs.Changes.{IsInside}
use Rattle.tb_tables.proofs.Texts.{simple}
use Rattle.tb_tables.proofs.Lists.{cast_int}
use Rattle.tb_tables.proofs.Keyed.{one_hit}
use Rattle.tb_tables.proofs.Steps.{updates}
use Rattle.tb_tables.proofs.Creating.{make_fails, takes_pulled}
use Rattle.tb_tables.proofs.Making.{creates}
use Rattle.tb_tables.proofs.Refusing.{IsAllowed, IsWrite, disk_fault, rows_fail, updates_stop, want_left}
use Rattle.tb_tables.proofs.Rowids.{meta_in_range}
use Rattle.tb_tables.proofs.Sizes.{version_fits}
use Rattle.tb_tables.proofs.Unique.{keeps_unique}
use Rattle.tb_tables.proofs.Meaning.{desk_listed, no_index, one_answer}
use Rattle.tb_verify.specs.Version1.{AreStoredInVersion1, IsInsideFirst, versioned_view}

-- ---- the new table

makes_pulled : Makes version_one_schema pulled_text (record pulled { tree = 0 })
unfolding understood everything
makes_pulled = record { command = refl; whole = refl; plain = (refl, refl); defined = refl; uncounted = refl }

with_pulled_is : created version_one_schema (record pulled { tree = 0 }) ≡ desk_schema
unfolding understood everything
with_pulled_is = refl

next_is : next_tree version_one_schema ≡ 9
unfolding everything
next_is = refl

pub pulled_made : (old new : State) (count : ℕ) → IsInsideFirst old → Executes pulled_text [] old new (Ok count) → IsTrue new.in_transaction
    → IsInside new × (new.now.trees 9 ≡ []) × ((d : Tables) → AreStoredInVersion1 d old.now.trees → AreStoredInVersion1 d new.now.trees) × (new.now.trees 0 ≡ old.now.trees 0)
pulled_made old new count inside h begun =
    let made = creates old new version_one_schema pulled_text (record pulled { tree = 0 }) count inside.schema makes_pulled h in
    let kept = made.2 in (
      record { begun = begun; schema = made.0 ∙ with_pulled_is },
      subst (λ t. new.now.trees t ≡ []) next_is made.1,
      λ d s. record {
        meta = (s.meta.0, subst (Shows versioned_view _) (sym kept.0) s.meta.1);
        batches = subst (Shows batch_view _) (sym kept.1.0) s.batches;
        sentences = subst (Shows sentence_view _) (sym kept.1.1.0) s.sentences;
        revisions = subst (Shows revision_view _) (sym kept.1.1.1.0) s.revisions;
        moves = subst (Shows move_view _) (sym kept.1.1.1.1.0) s.moves;
        totals = subst (Shows total_view _) (sym kept.1.1.1.1.1.0) s.totals;
      },
      kept.0,
    )

takes_pulled_here : Takes version_one_schema pulled_text
unfolding understood everything
takes_pulled_here = takes_pulled

pub pulled_fails : (old new : State) (e : Error) → IsInsideFirst old → ExecutesInside 0 pulled_text [] old new (Err e) → IsDiskFaultOrWant e
pulled_fails old new e inside ran = make_fails old new version_one_schema pulled_text (record pulled { tree = 0 }) inside.schema makes_pulled takes_pulled_here e ran

-- ---- the version

abbrev update_version : List ℕ
update_version = codes "UPDATE meta SET version = 2"

abbrev update_version_terms : List Term
update_version_terms = col 1 0 ∷ col 1 0 ∷ lit (Int (pos 2)) ∷ []

update_version_is : (command_of (understood desk_schema update_version) ≡ Update 0 (record { lets = []; body = simple 0 [] update_version_terms [] })) × IsPlain (understood desk_schema update_version)
unfolding understood everything
update_version_is = (refl, (refl, refl))

same_number : (n : ℤ) → value_cmp (Int n) (Int n) ≡ Equal
same_number n = value_cmp-Int n n ∙ grind (arith, ints, nat_tests)

pub version_set : (old new : State) (count : ℕ) → IsInside old → old.now.trees 9 ≡ [] → Executes update_version [] old new (Ok count) → IsTrue new.in_transaction
    → IsInside new × ((d : Tables) → d.pulled ≡ [] → AreStoredInVersion1 d old.now.trees → AreStored d new.now.trees)
version_set old new count inside none h begun =
    let w = runs_as update_version [] old new desk_schema inside.schema _ update_version_is.0 update_version_is.1 count h in
    let e = updates old new inside.schema 0 meta refl _ _ [] count w in
    let others = λ (t : ℕ) (apart : t ≢ 0) (a : 2 ≢ t) (b : 4 ≢ t) (c : 6 ≢ t). e.2.applies.others t apart (no_index t a b c) in (
      record { begun = begun; schema = e.2.schema },
      λ d unpulled s.
          let n = s.meta.0 in
          let one = one_hit versioned_view (old.now.trees 0) _ (one_permutation (Int n ∷ Int (pos 1) ∷ []) (map versioned_view (old.now.trees 0)) s.meta.1) in
          let r = one.0 in
          let id : column r 0 ≡ Int n = ap (λ (x : Row). column x 0) one.2 in
          let env : matches (overlay old.now.trees []) [] (inner 0 end) ([] ∷ []) ≡ ([] ∷ r ∷ []) ∷ [] = ap (flat_map (λ (x : Row). ([] ∷ x ∷ []) ∷ [])) one.1 in
          let rows = one_answer 0 [] update_version_terms (overlay old.now.trees []) [] e.0 (e.1.answer Null) _ env in
          let given : e.0 ≡ (Int n ∷ Int n ∷ Int (pos 2) ∷ []) ∷ [] = rows ∙ rw id refl in
          let news : edited old.now.trees (edit_of old.now.trees meta (ids_of e.0) Given 1 e.0) ≡ (Int n ∷ Int (pos 2) ∷ []) ∷ [] = rw (given, one.1, cast_int n, cast_int (pos 2), id, same_number n) refl in record {
            listed = desk_listed new.now w.sound e.2.schema;
            meta = subst (Shows meta_view (number_shown 2 ∷ [])) (sym (e.2.applies.rows ∙ news)) (IsPermutation-refl (number_shown 2 ∷ []));
            batches = subst (Shows batch_view _) (sym (others 1 (λ q. cc) (λ q. cc) (λ q. cc) (λ q. cc))) s.batches;
            sentences = subst (Shows sentence_view _) (sym (others 3 (λ q. cc) (λ q. cc) (λ q. cc) (λ q. cc))) s.sentences;
            revisions = subst (Shows revision_view _) (sym (others 5 (λ q. cc) (λ q. cc) (λ q. cc) (λ q. cc))) s.revisions;
            moves = subst (Shows move_view _) (sym (others 7 (λ q. cc) (λ q. cc) (λ q. cc) (λ q. cc))) s.moves;
            totals = subst (Shows total_view _) (sym (others 8 (λ q. cc) (λ q. cc) (λ q. cc) (λ q. cc))) s.totals;
            pulled = rw (unpulled, others 9 (λ q. cc) (λ q. cc) (λ q. cc) (λ q. cc) ∙ none) (IsPermutation-refl []);
          },
    )

version_whole : IsWhole (length update_version) 0 (understood desk_schema update_version)
unfolding understood everything
version_whole = (lit≤ tt, refl)

version_is : IsWrite desk_schema update_version 0 (Update 0 (record { lets = []; body = simple 0 [] update_version_terms [] }))
version_is = record { writing = tt; quiet = refl; is = update_version_is.0; plain = update_version_is.1; whole = version_whole }

version_given : (db : Trees) (e : Error) → RefusesQuery None (record { schema = desk_schema; trees = db }) (record { lets = []; body = simple 0 [] update_version_terms [] }) [] e → ⊥
unfolding everything
version_given db e (inl h) = let x = h.1 in absurd cc
version_given db e (inr (inl (is, inl h))) = h
version_given db e (inr (inl (is, inr h))) = h.4
version_given db e (inr (inr h)) = let x = h.1 in absurd cc

module _ (d : Tables) (db : Trees) (s : AreStoredInVersion1 d db) (unique : AreUnique d) (in_range : HasMetaRowids db) (rows : List Row) (answers : Answers (record { schema = desk_schema; trees = db }) (record { lets = []; body = simple 0 [] update_version_terms [] }) [] rows) where
  version_allowed : IsAllowed ⊥ db (edit_of db meta (ids_of rows) Given 1 rows)
  version_allowed =
      let n = s.meta.0 in
      let one = one_hit versioned_view (db 0) _ (one_permutation (Int n ∷ Int (pos 1) ∷ []) (map versioned_view (db 0)) s.meta.1) in
      let r = one.0 in
      let id : column r 0 ≡ Int n = ap (λ (x : Row). column x 0) one.2 in
      let env : matches (overlay db []) [] (inner 0 end) ([] ∷ []) ≡ ([] ∷ r ∷ []) ∷ [] = ap (flat_map (λ (x : Row). ([] ∷ x ∷ []) ∷ [])) one.1 in
      let shown = one_answer 0 [] update_version_terms (overlay db []) [] rows (answers.answer Null) _ env in
      let given : rows ≡ (Int n ∷ Int n ∷ Int (pos 2) ∷ []) ∷ [] = shown ∙ rw id refl in
      let stored : Row = Int n ∷ Int (pos 2) ∷ [] in
      let edit : Edit = record { table = meta; gone = n ∷ []; news = stored ∷ [] } in
      let same : edit_of db meta (ids_of rows) Given 1 rows ≡ edit = rw (given, cast_int n, cast_int (pos 2)) refl in
      subst (IsAllowed ⊥ db) (sym same) (record {
        typed = refl;
        present = refl;
        checked = refl;
        keyed = refl;
        fresh = rw (one.1, id, same_number n) refl;
        fits = rw (meta_in_range db r n one.1 id in_range) refl;
        referred = refl;
        unique = keeps_unique d (with_tree db 0 (edited db edit)) s.batches s.sentences s.revisions unique;
        big = λ h. version_fits n h.0 h.1 h.2;
      })

pub version_fails : (old new : State) (d : Tables) (e : Error) → IsInside old → old.step_limit ≡ None → AreStoredInVersion1 d old.now.trees → AreUnique d → HasMetaRowids old.now.trees → ExecutesInside 0 update_version [] old new (Err e) → IsDiskFaultOrWant e
version_fails old new d e inside unlimited stands unique in_range ran =
    disk_fault old new e (rows_fail ⊥ old new update_version [] (Update 0 (record { lets = []; body = simple 0 [] update_version_terms [] })) meta inside.schema unlimited version_is (λ e h. h)
    (updates_stop old.now.trees meta [] ⊥ (record { lets = []; body = simple 0 [] update_version_terms [] }) (version_given old.now.trees) (λ rows is. version_allowed d old.now.trees stands unique in_range rows is)) e ran)

-- ---- the fault for an error

pub want_of_both : {X : Type 0} (r : Result X Error) → IfErr r IsDiskFaultOrWant → IfErr r NeedsNoFault → IfErr r IsWant
want_of_both (Ok x) fails none = tt
want_of_both (Err e) fails none = want_left e fails none

pub never_device : {X : Type 0} (r : Result X Fault) → r ≢ Err Device → IfErr r (λ (fault : Fault). fault ≢ Device)
never_device (Ok x) never = tt
never_device (Err fault) never = λ is. never (ap Err is)
