use Rattle.std.proofs.Common.{◌∷◌, [], ◌++◌, map, List, ℕ, sym, ◌∙◌, ap, subst, Some}
use Rattle.std.proofs.lemmas.Bool.{both_ways}
use Rattle.std.specs.Str.{IsUtf8}
use Rattle.tb_conllu.specs.Text.{BlockText, ended, row_line}
use Rattle.tb_conllu.proofs.Encoded.{sentence_utf8}
use Rattle.tb_conllu.proofs.Recut.{text_spread, rows_begin}
use Rattle.tb_conllu.proofs.known.known_block.Goals as goal

pub returns-in_default : goal.returns-in_default
returns-in_default c b file = absurd (c.in_default.ensures (subst IsUtf8 (sym file.text) (sentence_utf8 b file.shaped.0)))

pub returns-then-not-branch : goal.returns-then-not-branch
returns-then-not-branch c b file =
    let rest : List ℕ = ended (map row_line b.rows ++ [] ∷ []) in
    let shaped = file.shaped.0 in
    let spread = c.in-Ok.ensures.0 ∙ file.text ∙ text_spread b in
    let left = c.in_ok-rows.ensures.left b.comments rest shaped.comments (rows_begin b.rows shaped.rows shaped.nonempty) spread in
    absurd (both_ways _ c.if-not-branch.true (c.in_ok-take_rows.ensures.whole b.rows shaped.rows left))

pub returns : goal.returns
returns c b file =
    let rest : List ℕ = ended (map row_line b.rows ++ [] ∷ []) in
    let shaped = file.shaped.0 in
    let spread = c.in-Ok.ensures.0 ∙ file.text ∙ text_spread b in
    let begun = rows_begin b.rows shaped.rows shaped.nonempty in
    let left = c.in_ok-rows.ensures.left b.comments rest shaped.comments begun spread in
    let comments = c.in_ok-rows.ensures.taken b.comments rest shaped.comments begun spread in
    let rows = c.in_ok-take_rows.ensures.taken b.rows shaped.rows left in
    let begin : BlockText → BlockText = λ x. record { comments = x.comments ++ b.comments; rows = x.rows } in
    let end : BlockText → BlockText = λ x. record { comments = x.comments; rows = x.rows ++ b.rows } in
    ap Some (rows ∙ ap end (comments ∙ ap begin c.in_ok-block.ensures))
