use Rattle.std.proofs.Common.{◌≡◌, ◌≤◌, [], ◌∷◌, ◌++◌, map, Err, refl, sym, subst, ap, ◌∙◌, rules, arith, is_ok, true, false}
use Rattle.sqlite.specs.declared.types.Value.TheVariants.{Null}
use Rattle.sqlite.specs.Effect.{Database}
use Rattle.sqlite.specs.Listing.{understood}
use Rattle.sqlite.specs.Given.{HasGiven}
use Rattle.sqlite.specs.State.{HasCleanDisk}
use Rattle.sqlite.specs.Held.{state}
use Rattle.sqlite.proofs.Callers.{IsPlain, begun_plain, unchanged_then, reads_as}
use Rattle.tb_tables.specs.Layout.{desk_schema}
use Rattle.tb_tables.specs.Records.{Shows, numbered, sentence_shown, sentence_view}
use Rattle.tb_tables.proofs.Texts.{simple}
use Rattle.std.proofs.lemmas.Result.{err_from_is_err_and}
use Rattle.tb_reads.specs.declared.error.ReadError.TheVariants.{Form}
use Rattle.tb_reads.specs.ReadOnly.{IsReadOnly}
use Rattle.tb_reads.specs.Readable.{IsHead}
use Rattle.tb_reads.specs.Streams.{head_of, head_shown}
use Rattle.tb_reads.proofs.Queries.{select_heads, select_heads_is, select_heads_terms, rising}
use Rattle.tb_reads.proofs.Streaming.{heads_all, same_heads, shown_push, begun_answer, not_among, heads_readable}
use Rattle.tb_tables.proofs.Causes.{failed_wants, faultless_first, faultless_next}
use Rattle.tb_reads.proofs.Failing.{err_is, want_is, fault_of, heads_fails}
use Rattle.tb_reads.proofs.Staying.{stopped_stays}
use Rattle.tb_reads.proofs.ReadOnly.{read_then, read_on, read_failed, row_given, row_refused, cursor_begun, cursor_refused}
use Rattle.tb_reads.proofs.stream.heads.Goals as goal

pub rows-init : goal.rows-init
rows-init g c =
    let made = c.in_ok-rows.ensures in (
      refl,
      cursor_begun g.S.Store select_heads c.args.conn.now _ select_heads_is.1 made.begun made.mode made.survives,
      λ clean has.
          let plain = subst (λ s. IsPlain (understood s select_heads)) (sym has) select_heads_is.1 in
          rw c.new-found.ensures.items (begun_plain g.S.Store select_heads [] c.args.conn.now c.in_ok-rows.rows.conn.now plain (made.begun clean)).0,
    )

pub returns-in_default-clause-ok : goal.returns-in_default-clause-ok
returns-in_default-clause-ok g c clean has xs holds =
    let moved = c.next.follows.holds-at-none in
    let old = state g.S.Store c.args.conn.now in
    let mid = state g.S.Store c.rows.rows.conn.now in
    let now = state g.S.Store c.next.follows.lender-at-none.conn.now in
    let late : HasCleanDisk now = search rules in
    let so_far = c.rows.invariant.2 (omega (arith, moved.survives.clean)) has in
    let kept = c.rows.invariant.1.unchanged (omega (arith, moved.survives.clean)) has in
    let given = map head_shown c.rows.found.items in
    let shown = (rw (c.in_ok-row.was, c.in_default.is) at (moved.ok late)) select_heads [] given so_far in
    let same : mid.now.schema ≡ desk_schema = ap (λ (d : Database). d.schema) kept.0.now_is ∙ has in
    let here = subst (λ (d : Database). Shows sentence_view (numbered sentence_shown 1 xs) (d.trees 3)) (sym kept.0.now_is) holds in
    let answer = (reads_as select_heads [] mid now desk_schema same _ select_heads_is.0 select_heads_is.1 select_heads_is.2 given shown).answer Null in
    same_heads c.rows.found.items (map head_of xs) (heads_all mid.now.trees given answer xs here)

pub rows-preserved : goal.rows-preserved
rows-preserved g c =
    let moved = c.next.follows.holds-at-none in
    let old = state g.S.Store c.args.conn.now in
    let mid = state g.S.Store c.rows.rows.conn.now in
    let now = state g.S.Store c.next.follows.lender-at-none.conn.now in
    let inv = c.rows.invariant in (
      moved.same_reference ∙ inv.0,
      read_then inv.1 (row_given g.S.Store c.rows.rows.conn.now c.next.follows.lender-at-none.conn.now (λ clean. rw c.in_ok-row.was at (moved.same clean)) moved.mode moved.survives),
      λ clean has.
          let so_far = inv.2 (omega (arith, moved.survives.clean)) has in
          let gave = (rw (c.in_ok-row.was, c.in-Some.is) at (moved.ok clean)) select_heads [] (map head_shown c.rows.found.items) so_far in
          let next = shown_push head_shown c.rows.found.items c.in_ok-from_row.field-0 c.in-Some.row.now c.in_ok-from_row.ensures.ok in
          subst (HasGiven g.S.Store select_heads [] c.next.follows.lender-at-none.conn.now) (next ∙ ap (map head_shown) (sym c.in_ok-push.ensures.items)) gave,
    )

pub returns-in_err-from_row-clause-form : goal.returns-in_err-from_row-clause-form
returns-in_err-from_row-clause-form g c clean reported has xs each holds =
    let moved = c.next.follows.holds-at-none in
    let old = state g.S.Store c.args.conn.now in
    let mid = state g.S.Store c.rows.rows.conn.now in
    let conn = c.next.follows.lender-at-none.conn.now in
    let now = state g.S.Store conn in
    let late : HasCleanDisk now = search rules in
    let so_far = c.rows.invariant.2 (omega (arith, moved.survives.clean)) has in
    let kept = c.rows.invariant.1.unchanged (omega (arith, moved.survives.clean)) has in
    let given = map head_shown c.rows.found.items in
    let row = c.in-Some.row.now in
    let gave = (rw (c.in_ok-row.was, c.in-Some.is) at (moved.ok late)) select_heads [] given so_far in
    let same = unchanged_then old mid now kept (rw c.in_ok-row.was at (moved.same late)) in
    let has_now : now.now.schema ≡ desk_schema = ap (λ (d : Database). d.schema) same.0.now_is ∙ has in
    let more = begun_answer g.S.Store select_heads (simple 3 [] select_heads_terms (rising 0 ∷ [])) _ conn (given ++ row ∷ []) select_heads_is.0 select_heads_is.1 select_heads_is.2 has_now gave in
    let here = subst (λ (d : Database). Shows sentence_view (numbered sentence_shown 1 xs) (d.trees 3)) (sym same.0.now_is) holds in
    let reported_is = err_from_is_err_and c.from_residual-in_err-from_row.result c.from_residual-in_err-from_row.ensures.1 in
    let failed : c.from_row.result ≡ Err Form = let err = c.in_err-from_row.was in let is = reported_is.1 in let alike = reported_is.2 in cc in
    not_among IsHead head_shown given row more.0 (map head_of xs) (heads_readable xs each) (heads_all now.now.trees _ more.1 xs here) (c.from_row.ensures.form failed)

pub returns-in_err-rows-clause-fails : goal.returns-in_err-rows-clause-fails
returns-in_err-rows-clause-fails g c clean unlimited has =
    let reported = err_from_is_err_and c.from_residual.result c.from_residual.ensures.1 in
    let refused = rw c.in_err-rows.was at c.query.follows.holds-at-none in
    err_is _ reported.0 _ reported.1 reported.2 (fault_of (heads_fails (state g.S.Store c.args.conn.now) (state g.S.Store c.query.follows.lender-at-none) _ _ (refused.err clean) refl has unlimited))

pub returns-in_err-row-clause-fails : goal.returns-in_err-row-clause-fails
returns-in_err-row-clause-fails g c clean unlimited has =
    let moved = c.next.follows.holds-at-none in
    let mid = state g.S.Store c.rows.rows.conn.now in
    let now = state g.S.Store c.next.follows.lender-at-none.conn.now in
    let late : HasCleanDisk now = search rules in
    let so_far = c.rows.invariant.2 (omega (arith, moved.survives.clean)) has in
    let kept = c.rows.invariant.1.unchanged (omega (arith, moved.survives.clean)) has in
    let same : mid.now.schema ≡ desk_schema = ap (λ (d : Database). d.schema) kept.0.now_is ∙ has in
    let reported = err_from_is_err_and c.from_residual-in_err-row.result c.from_residual-in_err-row.ensures.1 in
    let failed = (rw c.in_err-row.was at (moved.err late)) select_heads [] (map head_shown c.rows.found.items) so_far in
    err_is _ reported.0 _ reported.1 reported.2 (fault_of (heads_fails mid now _ _ failed refl same (c.rows.invariant.1.commits_nothing.limit ∙ unlimited)))

pub returns-in_err-rows-clause-cause : goal.returns-in_err-rows-clause-cause
returns-in_err-rows-clause-cause g c good clean unlimited has =
    let reported = err_from_is_err_and c.from_residual.result c.from_residual.ensures.1 in
    let refused = rw c.in_err-rows.was at c.query.follows.holds-at-none in
    want_is _ reported.0 _ reported.1 reported.2 (failed_wants (state g.S.Store c.args.conn.now) (state g.S.Store c.query.follows.lender-at-none) good _ (heads_fails (state g.S.Store c.args.conn.now) (state g.S.Store c.query.follows.lender-at-none) _ _ (refused.err clean) refl has unlimited))

pub returns-in_err-row-clause-cause : goal.returns-in_err-row-clause-cause
returns-in_err-row-clause-cause g c good clean unlimited has =
    let moved = c.next.follows.holds-at-none in
    let old = state g.S.Store c.args.conn.now in
    let mid = state g.S.Store c.rows.rows.conn.now in
    let now = state g.S.Store c.next.follows.lender-at-none.conn.now in
    let end = state g.S.Store c.conn-in_err-row-1.given.0 in
    let late : HasCleanDisk now = search rules in
    let early : HasCleanDisk mid = omega (arith, moved.survives.clean) in
    let more : now.faults ≤ end.faults = search rules in
    let here = faultless_next old mid now (faultless_first old now end good more) c.rows.invariant.1.commits_nothing early moved.survives.counts in
    let so_far = c.rows.invariant.2 early has in
    let kept = c.rows.invariant.1.unchanged early has in
    let same : mid.now.schema ≡ desk_schema = ap (λ (d : Database). d.schema) kept.0.now_is ∙ has in
    let reported = err_from_is_err_and c.from_residual-in_err-row.result c.from_residual-in_err-row.ensures.1 in
    let failed = (rw c.in_err-row.was at (moved.err late)) select_heads [] (map head_shown c.rows.found.items) so_far in
    want_is _ reported.0 _ reported.1 reported.2 (failed_wants mid now here _ (heads_fails mid now _ _ failed refl same (c.rows.invariant.1.commits_nothing.limit ∙ unlimited)))

pub returns-in_err-rows-clause-read_only : goal.returns-in_err-rows-clause-read_only
returns-in_err-rows-clause-read_only g c =
    let refused = rw c.in_err-rows.was at (cursor_refused g.S.Store select_heads [] c.args.conn.now c.query.follows.lender-at-none c.query.result select_heads_is.1 c.query.follows.holds-at-none) in
    read_failed c.from_residual.result _ c.from_residual.ensures.1 refused

pub returns-in_err-row-clause-read_only : goal.returns-in_err-row-clause-read_only
returns-in_err-row-clause-read_only g c =
    let moved = c.next.follows.holds-at-none in
    let conn = c.next.follows.lender-at-none.conn.now in
    let row = row_refused g.S.Store c.rows.rows.conn.now conn moved.mode (λ clean opened d holds. stopped_stays g.S.Store c.rows.rows.conn.now conn d _ holds opened (rw c.in_err-row.was at (moved.kept clean))) moved.survives in
    let here : IsReadOnly g.S.Store c.args.conn.now conn (is_ok c.from_residual-in_err-row.result) = read_failed c.from_residual-in_err-row.result _ c.from_residual-in_err-row.ensures.1 (read_then c.rows.invariant.1 row) in
    search rules

pub returns-in_default-clause-read_only : goal.returns-in_default-clause-read_only
returns-in_default-clause-read_only g c =
    let moved = c.next.follows.holds-at-none in
    let conn = c.next.follows.lender-at-none.conn.now in
    let row = row_given g.S.Store c.rows.rows.conn.now conn (λ clean. rw c.in_ok-row.was at (moved.same clean)) moved.mode moved.survives in
    let here : IsReadOnly g.S.Store c.args.conn.now conn true = read_then c.rows.invariant.1 row in
    search rules

pub returns-in_err-from_row-clause-read_only : goal.returns-in_err-from_row-clause-read_only
returns-in_err-from_row-clause-read_only g c =
    let moved = c.next.follows.holds-at-none in
    let conn = c.next.follows.lender-at-none.conn.now in
    let row = row_given g.S.Store c.rows.rows.conn.now conn (λ clean. rw c.in_ok-row.was at (moved.same clean)) moved.mode moved.survives in
    let here : IsReadOnly g.S.Store c.args.conn.now conn (is_ok c.from_residual-in_err-from_row.result) = read_on _ (read_then c.rows.invariant.1 row) in
    search rules

pub returns-in_err-push-clause-read_only : goal.returns-in_err-push-clause-read_only
returns-in_err-push-clause-read_only g c =
    let moved = c.next.follows.holds-at-none in
    let conn = c.next.follows.lender-at-none.conn.now in
    let row = row_given g.S.Store c.rows.rows.conn.now conn (λ clean. rw c.in_ok-row.was at (moved.same clean)) moved.mode moved.survives in
    let here : IsReadOnly g.S.Store c.args.conn.now conn (is_ok c.from_residual-in_err-push.result) = read_on _ (read_then c.rows.invariant.1 row) in
    search rules

pub returns-clause-read_only : goal.returns-clause-read_only
returns-clause-read_only g c =
    let here : IsReadOnly g.S.Store c.args.conn.now c.rows.rows.conn.now false = read_on false c.rows.invariant.1 in
    search rules
