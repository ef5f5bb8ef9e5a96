use Rattle.std.proofs.Common.{◌≡◌, [], ◌∷◌, pos, rules, ◌∙◌}
use Rattle.std.proofs.lemmas.List.Sorted.{IsPermutation-trans}
use Rattle.std.proofs.lemmas.Result.{err_from_is_err_and}
use Rattle.sqlite.specs.declared.types.Value.TheVariants.{Int}
use Rattle.sqlite.proofs.Callers.{one_permutation}
use Rattle.tb_verify.specs.Version1.{versioned_view}
use Rattle.tb_verify.proofs.Version1Answered.{version_selected}
use Rattle.tb_verify.proofs.Version1Reads.{read_tested, selected_rows, selected_none, shows_read}
use Rattle.tb_verify.proofs.version1_reading.read_version1.Goals as goal

pub returns-in_err-rows : goal.returns-in_err-rows
returns-in_err-rows g c =
    let p = err_from_is_err_and c.from_residual.result c.from_residual.ensures.1 in
    let all = version_selected g.S.Store c.args.conn.now c.query_all.new.self (λ v. v.items) c.query_all.result (record { ok = c.query_all.ensures.ok; err = c.query_all.ensures.err; mode = c.query_all.ensures.mode; survives = c.query_all.ensures.survives }) in
    selected_none g.S.Store c.args.conn.now c.query_all.new.self c.query_all.result _ all c.answered.result c.in_err-rows.field-0.0 p.0 c.from_residual.result _ c.in_err-rows.was p.1 p.2 c.answered.ensures.no_form c.answered.ensures.never_refuses c.answered.ensures.output c.answered.ensures.cause

pub returns : goal.returns
returns g c =
    let all = version_selected g.S.Store c.args.conn.now c.query_all.new.self (λ v. v.items) c.query_all.result (record { ok = c.query_all.ensures.ok; err = c.query_all.ensures.err; mode = c.query_all.ensures.mode; survives = c.query_all.ensures.survives }) in
    let h = selected_rows g.S.Store c.args.conn.now c.query_all.new.self c.query_all.result _ all c.answered.result c.in_ok-rows.rows c.answered.ensures.value c.in_ok-rows.was in
    let read : c.as_slice.result.now ≡ c.in_ok-rows.rows.items = search rules in
    read_tested g.S.Store c.args.conn.now c.query_all.new.self _ _ h c.test_first_version.result c.test_first_version.ensures.right c.test_first_version.ensures.wrong
    (λ reported clean has. (reported.0, shows_read versioned_view _ c.in_ok-rows.rows.items c.as_slice.result.now _ read reported.1 (h.are clean has)))
    (λ differs clean has s reach stands.
    let n = stands.meta.0 in
    differs n (read ∙ one_permutation (Int n ∷ Int (pos 1) ∷ []) c.in_ok-rows.rows.items (IsPermutation-trans _ _ _ stands.meta.1 (h.are clean has))))
    h.same
