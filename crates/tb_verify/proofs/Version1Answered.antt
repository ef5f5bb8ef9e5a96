-- The rows that such a statement shows, and what it leaves whatever it answers.
use Rattle.std.proofs.Common.{◌≡◌, ℕ, pos, false, None, List, [], ◌∷◌, Result, IfOk, IfErr, IsTrue, IsPermutation, inl, inr, map, refl, sym, subst}
use Rattle.std.proofs.lemmas.List.Elements.{recursion_from_All}
use Rattle.sqlite.specs.declared.types.Value.TheVariants.{Null, Int}
use Rattle.sqlite.specs.declared.error.Error.{Error}
use Rattle.sqlite.specs.Order.{Row, column}
use Rattle.sqlite.specs.Term.{Term}
use Rattle.sqlite.specs.Listing.{understood}
use Rattle.sqlite.specs.Clock.{timed}
use Rattle.sqlite.specs.Store.{Ghosts}
use Rattle.sqlite.specs.Held.{Held, state}
use Rattle.sqlite.specs.Program.{overlay}
use Rattle.sqlite.specs.Query.{IsAnswer, output}
use Rattle.sqlite.specs.State.{State, HasCleanDisk, Shown, Fails, FailsToQuery, FailsToShow, IsNotRun, Survives, CommitsShowing}
use Rattle.sqlite.proofs.Callers.{IsPlain, never_commits, reads_as}
use Rattle.sqlite.proofs.StateLemmas.{survives_weaker}
use Rattle.sqlite_trees.specs.Tree.{Trees}
use Rattle.sqlite_value.specs.declared.keys.Key.{Key}
use Rattle.tb_tables.specs.Layout.{version_one_schema}
use Rattle.tb_tables.specs.Records.{Tables, Shows, numbered, batch_shown, sentence_shown, revision_shown, move_shown, total_shown, batch_view, sentence_view, revision_view, move_view, total_view}
use Rattle.tb_tables.proofs.Texts.{simple}
use Rattle.tb_tables.proofs.Causes.{failed_wants}
use Rattle.tb_reads.proofs.Queries.{rising, select_batches, select_batches_terms, select_sentences, select_sentences_terms, select_revisions, select_revisions_terms, select_moves, select_moves_terms, select_totals, select_totals_terms}
use Rattle.tb_reads.proofs.Failing.{if_err}
use Rattle.tb_reads.proofs.Ordered.{all_shown, by_order, keyed, first, IsFirst, first_in_order, rises, placed, keyed_twice, pair, IsPair, pair_in_order, revisions_rise, revisions_placed}
use Rattle.tb_reads.proofs.Staying.{either_way}
use Rattle.tb_reads.proofs.Shown.{if_ok, when_ok, shown_same}
use Rattle.tb_verify.specs.Version1.{HoldsFirst, versioned_view}
use Rattle.tb_verify.proofs.Version1Selected.{HasSelected, AreRows, AreOrdered, AreRevisions}
use Rattle.tb_verify.proofs.Begun.{first_unchanged, first_undone}
use Rattle.tb_verify.proofs.Version1Texts.{Selects, select_version, select_version_terms, selects_version, selects_batches, selects_sentences, selects_revisions, selects_moves, selects_totals}
use Rattle.tb_verify.proofs.Version1Unrefused.{select_fails}

module _ {S : Type 0} (g : Ghosts S) (sql : List ℕ) (params : Row) (plain : IsPlain (understood version_one_schema sql)) (old new : Held S) where
  not_run_stays : (d : Tables) (e : Error) → HoldsFirst g old d → IsTrue (state g new).is_open → IsNotRun (state g old) (state g new) sql params e → HoldsFirst g new d
  unfolding IsNotRun
  not_run_stays d e h opened (inl refused) = first_unchanged g old new d h refused.1
  not_run_stays d e h opened (inr failed) = first_undone g old new d h opened failed.3

  failed_stays : (d : Tables) (e : Error) → HoldsFirst g old d → IsTrue (state g new).is_open → FailsToQuery sql params (state g old) (state g new) e → HoldsFirst g new d
  unfolding FailsToQuery
  failed_stays d e h opened (inl stopped) = not_run_stays d e h opened stopped
  failed_stays d e h opened (inr ran) =
      let here = subst (λ s. IsPlain (understood s sql)) (sym h.schema) plain in
      let none = (subst IsPlain ran.1.is here).0 in
      first_unchanged g old new d h (subst (FailsToShow (state g old) (state g new) sql ran.0 (timed params ran.0.formats ran.1.now) e) none ran.2).3

  pub selected : {X : Type 0} (rows_of : X → List Row) (r : Result X Error) (Are : X → Trees → Type 0) → (HasCleanDisk (state g new) → IfOk r (λ x. Shown sql params (state g old) (state g new) (rows_of x)))
      → (HasCleanDisk (state g new) → IfErr r (FailsToQuery sql params (state g old) (state g new))) → (old.in_transaction ≡ false → new.in_transaction ≡ false)
      → Survives (state g old) (state g new) (CommitsShowing sql params (state g old))
      → ((x : X) → (state g old).now.schema ≡ version_one_schema → Shown sql params (state g old) (state g new) (rows_of x) → Are x (state g old).now.trees)
      → ((e : Error) → (state g old).now.schema ≡ version_one_schema → (state g old).step_limit ≡ None → FailsToQuery sql params (state g old) (state g new) e → Fails (state g old) (state g new) ⊥ e) → HasSelected g old new r Are
  selected rows_of r Are ok err mode survives are unrefused = record {
    are = λ clean. if_ok r (ok clean) (λ x shown has. are x has shown);
    cause = λ good clean unlimited has. if_err r (err clean) (λ e failed. failed_wants (state g old) (state g new) good e (unrefused e has unlimited failed));
    same = λ clean. when_ok r (ok clean) (λ x shown has. shown_same sql params (state g old) (state g new) version_one_schema (rows_of x) plain has shown);
    mode = mode;
    kept = λ clean opened d h. either_way r (ok clean) (err clean)
        (λ x shown. first_unchanged g old new d h (shown_same sql params (state g old) (state g new) version_one_schema (rows_of x) plain h.schema shown))
        (λ e failed. failed_stays d e h opened failed);
    commits_nothing = survives_weaker (state g old) (state g new) _ _ (λ _ db commits has. never_commits sql params (state g old) db (subst (λ s. IsPlain (understood s sql)) (sym has) plain) commits) survives;
  }

module _ (sql : List ℕ) (tree : ℕ) (terms : List Term) (names : List (List ℕ)) (old new : State) (rows : List Row) (has : old.now.schema ≡ version_one_schema) where
  pub answers : (order : List (Term × Key)) → Selects sql tree terms order names → Shown sql [] old new rows → IsAnswer (simple tree [] terms order) (overlay old.now.trees []) [] rows
  answers order is shown = (reads_as sql [] old new version_one_schema has _ is.command is.plain is.unlisted rows shown).answer Null

  pub numbered_are : overlay old.now.trees [] tree ≡ old.now.trees tree → Selects sql tree terms (rising 0 ∷ []) names → Shown sql [] old new rows → (view : Row → Row) → ((r : Row) → output (simple tree [] terms (rising 0 ∷ [])) ([] ∷ r ∷ []) ≡ (column r 0 ∷ [], view r))
      → ((r : Row) → column (view r) 0 ≡ column r 0) → {X : Type 0} (row : ℕ → X → Row) → ((n : ℕ) (x : X) → column (row n x) 0 ≡ Int (pos n)) → AreOrdered view row tree rows old.now.trees
  numbered_are plain is shown view same keeps row number =
      let a = answers (rising 0 ∷ []) is shown in (
        subst (λ t. IsPermutation (map view t) rows) plain (all_shown tree terms (rising 0 ∷ []) (λ r. column r 0 ∷ []) view same (overlay old.now.trees []) rows a),
        λ xs holds. by_order tree terms (rising 0 ∷ []) (λ r. column r 0 ∷ []) view same (overlay old.now.trees []) rows a (numbered row 1 xs) keyed first IsFirst
            (λ r. rw (keeps r) refl) (λ _. refl) (rises row number 1 xs) (placed row number 1 xs) (first_in_order 0 tree terms) (subst (Shows view (numbered row 1 xs)) (sym plain) holds),
      )

pub revisions_are : (sql : List ℕ) (names : List (List ℕ)) (old new : State) (rows : List Row) → old.now.schema ≡ version_one_schema → Selects sql 5 select_revisions_terms (rising 1 ∷ rising 2 ∷ []) names → Shown sql [] old new rows
    → AreRevisions rows old.now.trees
revisions_are sql names old new rows has is shown =
    let a = answers sql 5 select_revisions_terms names old new rows has (rising 1 ∷ rising 2 ∷ []) is shown in (
      all_shown 5 select_revisions_terms (rising 1 ∷ rising 2 ∷ []) (λ r. column r 1 ∷ column r 2 ∷ []) revision_view (λ _. refl) (overlay old.now.trees []) rows a,
      λ xs each up holds. by_order 5 select_revisions_terms (rising 1 ∷ rising 2 ∷ []) (λ r. column r 1 ∷ column r 2 ∷ []) revision_view (λ _. refl) (overlay old.now.trees []) rows a (map revision_shown xs) keyed_twice pair IsPair (λ _. refl) (λ _. refl)
          (revisions_rise (λ r. r) xs (recursion_from_All _ xs each) up) (revisions_placed (λ r. r) xs (recursion_from_All _ xs each)) (pair_in_order 5 select_revisions_terms) holds,
    )

-- ---- each statement

-- what is known of a statement that ran
pub record IsRun {S X : Type 0} (g : Ghosts S) (sql : List ℕ) (old new : Held S) (rows_of : X → List Row) (r : Result X Error) : Type 0 where
  pub ok : HasCleanDisk (state g new) → IfOk r (λ x. Shown sql [] (state g old) (state g new) (rows_of x))
  pub err : HasCleanDisk (state g new) → IfErr r (FailsToQuery sql [] (state g old) (state g new))
  pub mode : old.in_transaction ≡ false → new.in_transaction ≡ false
  pub survives : Survives (state g old) (state g new) (CommitsShowing sql [] (state g old))

module _ {S X : Type 0} (g : Ghosts S) (old new : Held S) (rows_of : X → List Row) (r : Result X Error) where
  each : (sql : List ℕ) (tree : ℕ) (terms : List Term) (order : List (Term × Key)) (names : List (List ℕ)) → Selects sql tree terms order names → (Are : X → Trees → Type 0)
      → ((x : X) → (state g old).now.schema ≡ version_one_schema → Shown sql [] (state g old) (state g new) (rows_of x) → Are x (state g old).now.trees) → IsRun g sql old new rows_of r → HasSelected g old new r Are
  each sql tree terms order names is Are are run = selected g sql [] is.plain old new rows_of r Are run.ok run.err run.mode run.survives are (select_fails sql tree terms order names is (state g old) (state g new))

  pub version_selected : IsRun g select_version old new rows_of r → HasSelected g old new r (λ x. AreRows versioned_view 0 (rows_of x))
  version_selected = each select_version 0 select_version_terms [] _ selects_version _ (λ x has shown.
      all_shown 0 select_version_terms [] (λ _. []) versioned_view (λ _. refl) (overlay (state g old).now.trees []) (rows_of x) (answers select_version 0 select_version_terms _ (state g old) (state g new) (rows_of x) has [] selects_version shown))

  pub batches_selected : IsRun g select_batches old new rows_of r → HasSelected g old new r (λ x. AreOrdered batch_view batch_shown 1 (rows_of x))
  batches_selected = each select_batches 1 select_batches_terms (rising 0 ∷ []) _ selects_batches _
      (λ x has shown. numbered_are select_batches 1 select_batches_terms _ (state g old) (state g new) (rows_of x) has refl selects_batches shown batch_view (λ _. refl) (λ _. refl) batch_shown (λ _ _. refl))

  pub sentences_selected : IsRun g select_sentences old new rows_of r → HasSelected g old new r (λ x. AreOrdered sentence_view sentence_shown 3 (rows_of x))
  sentences_selected = each select_sentences 3 select_sentences_terms (rising 0 ∷ []) _ selects_sentences _
      (λ x has shown. numbered_are select_sentences 3 select_sentences_terms _ (state g old) (state g new) (rows_of x) has refl selects_sentences shown sentence_view (λ _. refl) (λ _. refl) sentence_shown (λ _ _. refl))

  pub revisions_selected : IsRun g select_revisions old new rows_of r → HasSelected g old new r (λ x. AreRevisions (rows_of x))
  revisions_selected = each select_revisions 5 select_revisions_terms (rising 1 ∷ rising 2 ∷ []) _ selects_revisions _
      (λ x has shown. revisions_are select_revisions _ (state g old) (state g new) (rows_of x) has selects_revisions shown)

  pub moves_selected : IsRun g select_moves old new rows_of r → HasSelected g old new r (λ x. AreOrdered move_view move_shown 7 (rows_of x))
  moves_selected = each select_moves 7 select_moves_terms (rising 0 ∷ []) _ selects_moves _
      (λ x has shown. numbered_are select_moves 7 select_moves_terms _ (state g old) (state g new) (rows_of x) has refl selects_moves shown move_view (λ _. refl) (λ _. refl) move_shown (λ _ _. refl))

  pub totals_selected : IsRun g select_totals old new rows_of r → HasSelected g old new r (λ x. AreOrdered total_view total_shown 8 (rows_of x))
  totals_selected = each select_totals 8 select_totals_terms (rising 0 ∷ []) _ selects_totals _
      (λ x has shown. numbered_are select_totals 8 select_totals_terms _ (state g old) (state g new) (rows_of x) has refl selects_totals shown total_view (λ _. refl) (λ _. refl) total_shown (λ _ _. refl))
