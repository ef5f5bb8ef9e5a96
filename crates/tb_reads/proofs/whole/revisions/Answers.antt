use Rattle.std.proofs.Common.{◌≡◌, ◌≤◌, [], ◌∷◌, ◌++◌, map, IsTrue, Err, refl, sym, subst, ap, ◌∙◌, rules, arith, is_ok, true, false}
use Rattle.sqlite.specs.declared.types.Value.TheVariants.{Null}
use Rattle.sqlite.specs.Effect.{Database}
use Rattle.sqlite.specs.Listing.{understood}
use Rattle.sqlite.specs.Given.{HasGiven}
use Rattle.sqlite.specs.State.{HasCleanDisk, IsUnchanged}
use Rattle.sqlite.specs.Held.{state}
use Rattle.sqlite.proofs.Callers.{IsPlain, begun_plain, unchanged_then, reads_as}
use Rattle.tb_tables.specs.Layout.{desk_schema}
use Rattle.tb_tables.specs.Records.{Shows, revision_shown, revision_view}
use Rattle.tb_tables.specs.Values.{revision_of}
use Rattle.tb_tables.proofs.Texts.{simple}
use Rattle.std.proofs.lemmas.Result.{err_from_is_err_and}
use Rattle.tb_reads.specs.declared.error.ReadError.TheVariants.{Form}
use Rattle.tb_reads.specs.ReadOnly.{IsReadOnly}
use Rattle.tb_reads.specs.Readable.{IsRevision}
use Rattle.tb_reads.proofs.Queries.{select_revisions, select_revisions_is, select_revisions_terms, rising}
use Rattle.tb_reads.proofs.Streaming.{revisions_all, shown_push, begun_answer, not_among}
use Rattle.tb_reads.proofs.Ordered.{all_shown, same_revisions}
use Rattle.std.proofs.lemmas.List.{map-append}
use Rattle.std.proofs.lemmas.List.Elements.{recursion_from_All}
use Rattle.std.proofs.lemmas.List.Sorted.{IsPermutation-sym}
use Rattle.sqlite.specs.Order.{column}
use Rattle.sqlite.specs.Program.{overlay}
use Rattle.tb_tables.proofs.Causes.{failed_wants, faultless_first, faultless_next}
use Rattle.tb_reads.proofs.Failing.{err_is, want_is, fault_of, revisions_fails}
use Rattle.tb_reads.proofs.Staying.{stopped_stays, stopped_sees, refused_sees, still_settled}
use Rattle.tb_reads.proofs.ReadOnly.{read_then, read_on, read_failed, row_given, row_refused, cursor_begun, cursor_refused}
use Rattle.tb_reads.proofs.whole.revisions.Goals as goal

pub rows-init : goal.rows-init
rows-init g c =
    let made = c.in_ok-rows.ensures in (
      refl,
      cursor_begun g.S.Store select_revisions c.args.conn.now _ select_revisions_is.1 made.begun made.mode made.survives,
      λ clean has.
          let plain = subst (λ s. IsPlain (understood s select_revisions)) (sym has) select_revisions_is.1 in
          rw c.new-found.ensures.items (begun_plain g.S.Store select_revisions [] c.args.conn.now c.in_ok-rows.rows.conn.now plain (made.begun clean)).0,
    )

pub returns-in_default-clause-ok : goal.returns-in_default-clause-ok
returns-in_default-clause-ok g c clean has =
    let moved = c.next.follows.holds-at-none in
    let mid = state g.S.Store c.rows.rows.conn.now in
    let now = state g.S.Store c.next.follows.lender-at-none.conn.now in
    let late : HasCleanDisk now = search rules in
    let so_far = c.rows.invariant.2 (omega (arith, moved.survives.clean)) has in
    let kept = c.rows.invariant.1.unchanged (omega (arith, moved.survives.clean)) has in
    let given = map revision_shown (map revision_of c.rows.found.items) in
    let shown = (rw (c.in_ok-row.was, c.in_default.is) at (moved.ok late)) select_revisions [] given so_far in
    let same : mid.now.schema ≡ desk_schema = ap (λ (d : Database). d.schema) kept.0.now_is ∙ has in
    let answer = (reads_as select_revisions [] mid now desk_schema same _ select_revisions_is.0 select_revisions_is.1 select_revisions_is.2 given shown).answer Null in
    let all = all_shown 5 select_revisions_terms (rising 1 ∷ rising 2 ∷ []) (λ r. column r 1 ∷ column r 2 ∷ []) revision_view (λ _. refl) (overlay mid.now.trees []) given answer in
    subst (λ (d : Database). Shows revision_view given (d.trees 5)) kept.0.now_is (IsPermutation-sym (map revision_view (mid.now.trees 5)) given all)

pub returns-in_default-clause-order : goal.returns-in_default-clause-order
returns-in_default-clause-order g c clean has xs each up holds =
    let moved = c.next.follows.holds-at-none in
    let mid = state g.S.Store c.rows.rows.conn.now in
    let now = state g.S.Store c.next.follows.lender-at-none.conn.now in
    let late : HasCleanDisk now = search rules in
    let so_far = c.rows.invariant.2 (omega (arith, moved.survives.clean)) has in
    let kept = c.rows.invariant.1.unchanged (omega (arith, moved.survives.clean)) has in
    let given = map revision_shown (map revision_of c.rows.found.items) in
    let shown = (rw (c.in_ok-row.was, c.in_default.is) at (moved.ok late)) select_revisions [] given so_far in
    let same : mid.now.schema ≡ desk_schema = ap (λ (d : Database). d.schema) kept.0.now_is ∙ has in
    let here = subst (λ (d : Database). Shows revision_view (map revision_shown xs) (d.trees 5)) (sym kept.0.now_is) holds in
    let answer = (reads_as select_revisions [] mid now desk_schema same _ select_revisions_is.0 select_revisions_is.1 select_revisions_is.2 given shown).answer Null in
    same_revisions (map revision_of c.rows.found.items) xs (revisions_all mid.now.trees given answer xs each up here)

pub rows-preserved : goal.rows-preserved
rows-preserved g c =
    let moved = c.next.follows.holds-at-none in
    let old = state g.S.Store c.args.conn.now in
    let mid = state g.S.Store c.rows.rows.conn.now in
    let now = state g.S.Store c.next.follows.lender-at-none.conn.now in
    let inv = c.rows.invariant in (
      moved.same_reference ∙ inv.0,
      read_then inv.1 (row_given g.S.Store c.rows.rows.conn.now c.next.follows.lender-at-none.conn.now (λ clean. rw c.in_ok-row.was at (moved.same clean)) moved.mode moved.survives),
      λ clean has.
          let so_far = inv.2 (omega (arith, moved.survives.clean)) has in
          let gave = (rw (c.in_ok-row.was, c.in-Some.is) at (moved.ok clean)) select_revisions [] (map revision_shown (map revision_of c.rows.found.items)) so_far in
          let x = c.in_ok-from_row.field-0 in
          let items = c.rows.found.items in
          let next = shown_push revision_shown (map revision_of items) (revision_of x) c.in-Some.row.now c.in_ok-from_row.ensures.ok ∙ ap (map revision_shown) (sym (map-append revision_of items (x ∷ []))) in
          subst (HasGiven g.S.Store select_revisions [] c.next.follows.lender-at-none.conn.now) (next ∙ ap (λ l. map revision_shown (map revision_of l)) (sym c.in_ok-push.ensures.items)) gave,
    )

pub returns-in_err-from_row-clause-form : goal.returns-in_err-from_row-clause-form
returns-in_err-from_row-clause-form g c clean reported has xs each up holds =
    let moved = c.next.follows.holds-at-none in
    let old = state g.S.Store c.args.conn.now in
    let mid = state g.S.Store c.rows.rows.conn.now in
    let conn = c.next.follows.lender-at-none.conn.now in
    let now = state g.S.Store conn in
    let late : HasCleanDisk now = search rules in
    let so_far = c.rows.invariant.2 (omega (arith, moved.survives.clean)) has in
    let kept = c.rows.invariant.1.unchanged (omega (arith, moved.survives.clean)) has in
    let given = map revision_shown (map revision_of c.rows.found.items) in
    let row = c.in-Some.row.now in
    let gave = (rw (c.in_ok-row.was, c.in-Some.is) at (moved.ok late)) select_revisions [] given so_far in
    let same = unchanged_then old mid now kept (rw c.in_ok-row.was at (moved.same late)) in
    let has_now : now.now.schema ≡ desk_schema = ap (λ (d : Database). d.schema) same.0.now_is ∙ has in
    let more = begun_answer g.S.Store select_revisions (simple 5 [] select_revisions_terms (rising 1 ∷ rising 2 ∷ [])) _ conn (given ++ row ∷ []) select_revisions_is.0 select_revisions_is.1 select_revisions_is.2 has_now gave in
    let here = subst (λ (d : Database). Shows revision_view (map revision_shown xs) (d.trees 5)) (sym same.0.now_is) holds in
    let reported_is = err_from_is_err_and c.from_residual-in_err-from_row.result c.from_residual-in_err-from_row.ensures.1 in
    let failed : c.from_row.result ≡ Err Form = let err = c.in_err-from_row.was in let is = reported_is.1 in let alike = reported_is.2 in cc in
    not_among IsRevision revision_shown given row more.0 xs (recursion_from_All IsRevision xs each) (revisions_all now.now.trees _ more.1 xs each up here) (c.from_row.ensures.form failed)

pub returns-in_err-rows-clause-fails : goal.returns-in_err-rows-clause-fails
returns-in_err-rows-clause-fails g c clean unlimited has =
    let reported = err_from_is_err_and c.from_residual.result c.from_residual.ensures.1 in
    let refused = rw c.in_err-rows.was at c.query.follows.holds-at-none in
    err_is _ reported.0 _ reported.1 reported.2 (fault_of (revisions_fails (state g.S.Store c.args.conn.now) (state g.S.Store c.query.follows.lender-at-none) _ _ (refused.err clean) refl has unlimited))

pub returns-in_err-row-clause-fails : goal.returns-in_err-row-clause-fails
returns-in_err-row-clause-fails g c clean unlimited has =
    let moved = c.next.follows.holds-at-none in
    let mid = state g.S.Store c.rows.rows.conn.now in
    let now = state g.S.Store c.next.follows.lender-at-none.conn.now in
    let late : HasCleanDisk now = search rules in
    let so_far = c.rows.invariant.2 (omega (arith, moved.survives.clean)) has in
    let kept = c.rows.invariant.1.unchanged (omega (arith, moved.survives.clean)) has in
    let same : mid.now.schema ≡ desk_schema = ap (λ (d : Database). d.schema) kept.0.now_is ∙ has in
    let reported = err_from_is_err_and c.from_residual-in_err-row.result c.from_residual-in_err-row.ensures.1 in
    let failed = (rw c.in_err-row.was at (moved.err late)) select_revisions [] (map revision_shown (map revision_of c.rows.found.items)) so_far in
    err_is _ reported.0 _ reported.1 reported.2 (fault_of (revisions_fails mid now _ _ failed refl same (c.rows.invariant.1.commits_nothing.limit ∙ unlimited)))

pub returns-in_err-rows-clause-sees : goal.returns-in_err-rows-clause-sees
returns-in_err-rows-clause-sees g c = rw c.in_err-rows.was at (refused_sees g.S.Store select_revisions [] c.args.conn.now c.query.follows.lender-at-none c.query.result select_revisions_is.1 c.query.follows.holds-at-none)

pub returns-in_err-row-clause-sees : goal.returns-in_err-row-clause-sees
returns-in_err-row-clause-sees g c clean opened has settled =
    let moved = c.next.follows.holds-at-none in
    let old = c.args.conn.now in
    let mid = c.rows.rows.conn.now in
    let conn = c.next.follows.lender-at-none.conn.now in
    let late : HasCleanDisk (state g.S.Store conn) = search rules in
    let kept = c.rows.invariant.1.unchanged (omega (arith, moved.survives.clean)) has in
    let still : IsTrue (state g.S.Store conn).is_open = search rules in
    let here : (state g.S.Store conn).now ≡ (state g.S.Store old).now = stopped_sees g.S.Store mid conn still (still_settled g.S.Store old mid settled kept) _ (rw c.in_err-row.was at (moved.kept late)) ∙ kept.0.now_is in
    search rules

pub returns-in_default-clause-sees : goal.returns-in_default-clause-sees
returns-in_default-clause-sees g c clean opened has settled =
    let moved = c.next.follows.holds-at-none in
    let conn = c.next.follows.lender-at-none.conn.now in
    let late : HasCleanDisk (state g.S.Store conn) = search rules in
    let kept = c.rows.invariant.1.unchanged (omega (arith, moved.survives.clean)) has in
    let here : (state g.S.Store conn).now ≡ (state g.S.Store c.args.conn.now).now = (rw c.in_ok-row.was at (moved.same late)).0.now_is ∙ kept.0.now_is in
    search rules

pub returns-in_err-from_row-clause-sees : goal.returns-in_err-from_row-clause-sees
returns-in_err-from_row-clause-sees g c clean opened has settled =
    let moved = c.next.follows.holds-at-none in
    let conn = c.next.follows.lender-at-none.conn.now in
    let late : HasCleanDisk (state g.S.Store conn) = search rules in
    let kept = c.rows.invariant.1.unchanged (omega (arith, moved.survives.clean)) has in
    let here : (state g.S.Store conn).now ≡ (state g.S.Store c.args.conn.now).now = (rw c.in_ok-row.was at (moved.same late)).0.now_is ∙ kept.0.now_is in
    search rules

pub returns-in_err-push-clause-sees : goal.returns-in_err-push-clause-sees
returns-in_err-push-clause-sees g c clean opened has settled =
    let moved = c.next.follows.holds-at-none in
    let conn = c.next.follows.lender-at-none.conn.now in
    let late : HasCleanDisk (state g.S.Store conn) = search rules in
    let kept = c.rows.invariant.1.unchanged (omega (arith, moved.survives.clean)) has in
    let here : (state g.S.Store conn).now ≡ (state g.S.Store c.args.conn.now).now = (rw c.in_ok-row.was at (moved.same late)).0.now_is ∙ kept.0.now_is in
    search rules

pub returns-clause-sees : goal.returns-clause-sees
returns-clause-sees g c clean opened has settled =
    let mid = c.rows.rows.conn.now in
    let late : HasCleanDisk (state g.S.Store mid) = search rules in
    let here : (state g.S.Store mid).now ≡ (state g.S.Store c.args.conn.now).now = (c.rows.invariant.1.unchanged late has).0.now_is in
    search rules

pub returns-in_err-from_row-clause-untouched : goal.returns-in_err-from_row-clause-untouched
returns-in_err-from_row-clause-untouched g c clean form has =
    let moved = c.next.follows.holds-at-none in
    let old = state g.S.Store c.args.conn.now in
    let mid = state g.S.Store c.rows.rows.conn.now in
    let conn = c.next.follows.lender-at-none.conn.now in
    let late : HasCleanDisk (state g.S.Store conn) = search rules in
    let kept = c.rows.invariant.1.unchanged (omega (arith, moved.survives.clean)) has in
    let here : IsUnchanged old (state g.S.Store conn) = unchanged_then old mid (state g.S.Store conn) kept (rw c.in_ok-row.was at (moved.same late)) in
    search rules

pub returns-in_err-rows-clause-cause : goal.returns-in_err-rows-clause-cause
returns-in_err-rows-clause-cause g c good clean unlimited has =
    let reported = err_from_is_err_and c.from_residual.result c.from_residual.ensures.1 in
    let refused = rw c.in_err-rows.was at c.query.follows.holds-at-none in
    want_is _ reported.0 _ reported.1 reported.2 (failed_wants (state g.S.Store c.args.conn.now) (state g.S.Store c.query.follows.lender-at-none) good _ (revisions_fails (state g.S.Store c.args.conn.now) (state g.S.Store c.query.follows.lender-at-none) _ _ (refused.err clean) refl has unlimited))

pub returns-in_err-row-clause-cause : goal.returns-in_err-row-clause-cause
returns-in_err-row-clause-cause g c good clean unlimited has =
    let moved = c.next.follows.holds-at-none in
    let old = state g.S.Store c.args.conn.now in
    let mid = state g.S.Store c.rows.rows.conn.now in
    let now = state g.S.Store c.next.follows.lender-at-none.conn.now in
    let end = state g.S.Store c.conn-in_err-row-1.given.0 in
    let late : HasCleanDisk now = search rules in
    let early : HasCleanDisk mid = omega (arith, moved.survives.clean) in
    let more : now.faults ≤ end.faults = search rules in
    let here = faultless_next old mid now (faultless_first old now end good more) c.rows.invariant.1.commits_nothing early moved.survives.counts in
    let so_far = c.rows.invariant.2 early has in
    let kept = c.rows.invariant.1.unchanged early has in
    let same : mid.now.schema ≡ desk_schema = ap (λ (d : Database). d.schema) kept.0.now_is ∙ has in
    let reported = err_from_is_err_and c.from_residual-in_err-row.result c.from_residual-in_err-row.ensures.1 in
    let failed = (rw c.in_err-row.was at (moved.err late)) select_revisions [] (map revision_shown (map revision_of c.rows.found.items)) so_far in
    want_is _ reported.0 _ reported.1 reported.2 (failed_wants mid now here _ (revisions_fails mid now _ _ failed refl same (c.rows.invariant.1.commits_nothing.limit ∙ unlimited)))

pub returns-in_err-rows-clause-read_only : goal.returns-in_err-rows-clause-read_only
returns-in_err-rows-clause-read_only g c =
    let refused = rw c.in_err-rows.was at (cursor_refused g.S.Store select_revisions [] c.args.conn.now c.query.follows.lender-at-none c.query.result select_revisions_is.1 c.query.follows.holds-at-none) in
    read_failed c.from_residual.result _ c.from_residual.ensures.1 refused

pub returns-in_err-row-clause-read_only : goal.returns-in_err-row-clause-read_only
returns-in_err-row-clause-read_only g c =
    let moved = c.next.follows.holds-at-none in
    let conn = c.next.follows.lender-at-none.conn.now in
    let row = row_refused g.S.Store c.rows.rows.conn.now conn moved.mode (λ clean opened d holds. stopped_stays g.S.Store c.rows.rows.conn.now conn d _ holds opened (rw c.in_err-row.was at (moved.kept clean))) moved.survives in
    let here : IsReadOnly g.S.Store c.args.conn.now conn (is_ok c.from_residual-in_err-row.result) = read_failed c.from_residual-in_err-row.result _ c.from_residual-in_err-row.ensures.1 (read_then c.rows.invariant.1 row) in
    search rules

pub returns-in_default-clause-read_only : goal.returns-in_default-clause-read_only
returns-in_default-clause-read_only g c =
    let moved = c.next.follows.holds-at-none in
    let conn = c.next.follows.lender-at-none.conn.now in
    let row = row_given g.S.Store c.rows.rows.conn.now conn (λ clean. rw c.in_ok-row.was at (moved.same clean)) moved.mode moved.survives in
    let here : IsReadOnly g.S.Store c.args.conn.now conn true = read_then c.rows.invariant.1 row in
    search rules

pub returns-in_err-from_row-clause-read_only : goal.returns-in_err-from_row-clause-read_only
returns-in_err-from_row-clause-read_only g c =
    let moved = c.next.follows.holds-at-none in
    let conn = c.next.follows.lender-at-none.conn.now in
    let row = row_given g.S.Store c.rows.rows.conn.now conn (λ clean. rw c.in_ok-row.was at (moved.same clean)) moved.mode moved.survives in
    let here : IsReadOnly g.S.Store c.args.conn.now conn (is_ok c.from_residual-in_err-from_row.result) = read_on _ (read_then c.rows.invariant.1 row) in
    search rules

pub returns-in_err-push-clause-read_only : goal.returns-in_err-push-clause-read_only
returns-in_err-push-clause-read_only g c =
    let moved = c.next.follows.holds-at-none in
    let conn = c.next.follows.lender-at-none.conn.now in
    let row = row_given g.S.Store c.rows.rows.conn.now conn (λ clean. rw c.in_ok-row.was at (moved.same clean)) moved.mode moved.survives in
    let here : IsReadOnly g.S.Store c.args.conn.now conn (is_ok c.from_residual-in_err-push.result) = read_on _ (read_then c.rows.invariant.1 row) in
    search rules

pub returns-clause-read_only : goal.returns-clause-read_only
returns-clause-read_only g c =
    let here : IsReadOnly g.S.Store c.args.conn.now c.rows.rows.conn.now false = read_on false c.rows.invariant.1 in
    search rules
