use Rattle.std.proofs.Common.{◌≡◌, ◌+◌, ℕ, List, ◌∙◌, ap, filter, map, subst, sym}
use Rattle.std.specs.Fmt.{decimal}
use Rattle.std.specs.Io.KnownBytes.{Appends}
use Rattle.std.proofs.KnownBytes.{Appends-trans}
use Rattle.std.proofs.lemmas.Result.{on_ok_weaker}
use Rattle.tb_conllu.specs.Text.{RowText, BlockText}
use Rattle.tb_conllu.specs.Words.{is_word}
use Rattle.tb_core.specs.Machine.{sent_id_of}
use Rattle.tb_query.specs.Meaning.{word_rows}
use Rattle.tb_report.specs.Keywords.{joined, before, of_hit, after}
use Rattle.tb_report.proofs.HitTexts.{six_columns}
use Rattle.tb_report.proofs.keyword.kwic_named.Goals as goal

pub returns-clause-put : goal.returns-clause-put
returns-clause-put g c =
    let held = g.S.Sink.held in
    let b : BlockText = c.args.block.now in
    let n = c.args.context in
    let i = c.args.hit.0 in
    let j = c.args.hit.1 in
    let forms : List (List ℕ) = map (λ (row : RowText). row.form) (word_rows b) in
    let same : forms ≡ map (λ (row : RowText). row.form) (filter is_word c.deref.result.now) =
    sym (ap (λ (rs : List RowText). map (λ (row : RowText). row.form) (filter is_word rs)) c.deref.ensures.value
    ∙ ap (λ (x : BlockText). map (λ (row : RowText). row.form) (word_rows x)) c.block.view_is) in
    let name : sent_id_of b ≡ c.args.name.now = sym c.requires.named in
    let shape = six_columns c.args.name.now (decimal (i + 1)) (decimal j) (joined (before n i forms)) (joined (of_hit i j forms)) (joined (after n j forms)) in
    let P : List ℕ → Type 0 = Appends (held c.args.out.now) (held c.put_forms.new.out) in
    on_ok_weaker c.put_forms.result
    (λ put. rw name (subst P shape (Appends-trans (held c.args.out.now) (held c.put_place.new.out) (held c.put_forms.new.out) _ _ c.in_ok-put_place.ensures.put (put forms same))))
    c.put_forms.ensures.put
