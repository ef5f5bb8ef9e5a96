use Rattle.std.proofs.Common.{◌≡◌, ℕ, List, [], ◌∷◌, ◌∙◌, ap, subst}
use Rattle.std.specs.Io.KnownBytes.{Appends}
use Rattle.std.proofs.lemmas.Result.{on_ok_weaker}
use Rattle.tb_conllu.specs.Text.{RowText, id_text, head_text}
use Rattle.tb_conllu.proofs.Appended.{tabbed, row_appended}
use Rattle.std.proofs.lemmas.Result.{on_err_weaker}
use Rattle.tb_conllu.specs.Sunk.{AppendsPart}
use Rattle.tb_conllu.proofs.SunkParts.{refused, row_at_back, row_at_end, row_at_front, row_at_head, row_at_id}
use Rattle.tb_conllu.proofs.writer.put_row.Goals as goal

pub returns-clause-put : goal.returns-clause-put
returns-clause-put g c =
    let view = c.row.view_is in
    let r = c.args.row.now in
    let id = ap (λ (x : RowText). id_text x.id) view in
    let form = c.text.ensures ∙ ap (λ (x : RowText). x.form) view in
    let lemma = c.text-2.ensures ∙ ap (λ (x : RowText). x.lemma) view in
    let upos = c.text-3.ensures ∙ ap (λ (x : RowText). x.upos) view in
    let xpos = c.text-4.ensures ∙ ap (λ (x : RowText). x.xpos) view in
    let feats = c.text-5.ensures ∙ ap (λ (x : RowText). x.feats) view in
    let head = ap (λ (x : RowText). 9 ∷ head_text x.head) view in
    let deprel = c.text-6.ensures ∙ ap (λ (x : RowText). x.deprel) view in
    let deps = c.text-7.ensures ∙ ap (λ (x : RowText). x.deps) view in
    let misc = c.text-8.ensures ∙ ap (λ (x : RowText). x.misc) view in
    let front : c.text.result.now ∷ c.text-2.result.now ∷ c.text-3.result.now ∷ c.text-4.result.now ∷ c.text-5.result.now ∷ [] ≡ r.form ∷ r.lemma ∷ r.upos ∷ r.xpos ∷ r.feats ∷ [] = cc in
    let back : c.text-6.result.now ∷ c.text-7.result.now ∷ c.text-8.result.now ∷ [] ≡ r.deprel ∷ r.deps ∷ r.misc ∷ [] = cc in
    let before = g.S.Sink.held c.args.out.now in
    let after_id = g.S.Sink.held c.put_id.new.out in
    let after_front = g.S.Sink.held c.put_fields.new.out in
    let after_head = g.S.Sink.held c.put_head.new.out in
    let after_back = g.S.Sink.held c.put_fields-2.new.out in
    let after = g.S.Sink.held c.put.new.self in
    let put_id = subst (Appends before after_id) id c.in_ok-put_id.ensures.put in
    let put_front = subst (λ (fs : List (List ℕ)). Appends after_id after_front (tabbed fs)) front c.in_ok-put_fields.ensures.put in
    let put_head = subst (Appends after_front after_head) head c.in_ok-put_head.ensures.put in
    let put_back = subst (λ (fs : List (List ℕ)). Appends after_head after_back (tabbed fs)) back c.in_ok-put_fields-2.ensures.put in
    on_ok_weaker c.put.result (row_appended r before after_id after_front after_head after_back after put_id put_front put_head put_back) c.put.ensures.taken

pub returns-in_err-put_id-clause-part : goal.returns-in_err-put_id-clause-part
returns-in_err-put_id-clause-part g c =
    let view = c.row.view_is in
    let r = c.args.row.now in
    let id = ap (λ (x : RowText). id_text x.id) view in
    let before = g.S.Sink.held c.args.out.now in
    let after_id = g.S.Sink.held c.put_id.new.out in
    let put_id = subst (AppendsPart before after_id) id c.in_err-put_id.ensures.part in
    refused c.from_residual.result (row_at_id r before after_id put_id)

pub returns-in_err-put_fields-clause-part : goal.returns-in_err-put_fields-clause-part
returns-in_err-put_fields-clause-part g c =
    let view = c.row.view_is in
    let r = c.args.row.now in
    let id = ap (λ (x : RowText). id_text x.id) view in
    let form = c.text.ensures ∙ ap (λ (x : RowText). x.form) view in
    let lemma = c.text-2.ensures ∙ ap (λ (x : RowText). x.lemma) view in
    let upos = c.text-3.ensures ∙ ap (λ (x : RowText). x.upos) view in
    let xpos = c.text-4.ensures ∙ ap (λ (x : RowText). x.xpos) view in
    let feats = c.text-5.ensures ∙ ap (λ (x : RowText). x.feats) view in
    let front : c.text.result.now ∷ c.text-2.result.now ∷ c.text-3.result.now ∷ c.text-4.result.now ∷ c.text-5.result.now ∷ [] ≡ r.form ∷ r.lemma ∷ r.upos ∷ r.xpos ∷ r.feats ∷ [] = cc in
    let before = g.S.Sink.held c.args.out.now in
    let after_id = g.S.Sink.held c.put_id.new.out in
    let after_front = g.S.Sink.held c.put_fields.new.out in
    let put_id = subst (Appends before after_id) id c.in_ok-put_id.ensures.put in
    let put_front = subst (λ (fs : List (List ℕ)). AppendsPart after_id after_front (tabbed fs)) front c.in_err-put_fields.ensures.part in
    refused c.from_residual-in_err-put_fields.result (row_at_front r before after_id after_front put_id put_front)

pub returns-in_err-put_head-clause-part : goal.returns-in_err-put_head-clause-part
returns-in_err-put_head-clause-part g c =
    let view = c.row.view_is in
    let r = c.args.row.now in
    let id = ap (λ (x : RowText). id_text x.id) view in
    let form = c.text.ensures ∙ ap (λ (x : RowText). x.form) view in
    let lemma = c.text-2.ensures ∙ ap (λ (x : RowText). x.lemma) view in
    let upos = c.text-3.ensures ∙ ap (λ (x : RowText). x.upos) view in
    let xpos = c.text-4.ensures ∙ ap (λ (x : RowText). x.xpos) view in
    let feats = c.text-5.ensures ∙ ap (λ (x : RowText). x.feats) view in
    let front : c.text.result.now ∷ c.text-2.result.now ∷ c.text-3.result.now ∷ c.text-4.result.now ∷ c.text-5.result.now ∷ [] ≡ r.form ∷ r.lemma ∷ r.upos ∷ r.xpos ∷ r.feats ∷ [] = cc in
    let head = ap (λ (x : RowText). 9 ∷ head_text x.head) view in
    let before = g.S.Sink.held c.args.out.now in
    let after_id = g.S.Sink.held c.put_id.new.out in
    let after_front = g.S.Sink.held c.put_fields.new.out in
    let after_head = g.S.Sink.held c.put_head.new.out in
    let put_id = subst (Appends before after_id) id c.in_ok-put_id.ensures.put in
    let put_front = subst (λ (fs : List (List ℕ)). Appends after_id after_front (tabbed fs)) front c.in_ok-put_fields.ensures.put in
    let put_head = subst (AppendsPart after_front after_head) head c.in_err-put_head.ensures.part in
    refused c.from_residual-in_err-put_head.result (row_at_head r before after_id after_front after_head put_id put_front put_head)

pub returns-in_err-put_fields-2-clause-part : goal.returns-in_err-put_fields-2-clause-part
returns-in_err-put_fields-2-clause-part g c =
    let view = c.row.view_is in
    let r = c.args.row.now in
    let id = ap (λ (x : RowText). id_text x.id) view in
    let form = c.text.ensures ∙ ap (λ (x : RowText). x.form) view in
    let lemma = c.text-2.ensures ∙ ap (λ (x : RowText). x.lemma) view in
    let upos = c.text-3.ensures ∙ ap (λ (x : RowText). x.upos) view in
    let xpos = c.text-4.ensures ∙ ap (λ (x : RowText). x.xpos) view in
    let feats = c.text-5.ensures ∙ ap (λ (x : RowText). x.feats) view in
    let front : c.text.result.now ∷ c.text-2.result.now ∷ c.text-3.result.now ∷ c.text-4.result.now ∷ c.text-5.result.now ∷ [] ≡ r.form ∷ r.lemma ∷ r.upos ∷ r.xpos ∷ r.feats ∷ [] = cc in
    let head = ap (λ (x : RowText). 9 ∷ head_text x.head) view in
    let deprel = c.text-6.ensures ∙ ap (λ (x : RowText). x.deprel) view in
    let deps = c.text-7.ensures ∙ ap (λ (x : RowText). x.deps) view in
    let misc = c.text-8.ensures ∙ ap (λ (x : RowText). x.misc) view in
    let back : c.text-6.result.now ∷ c.text-7.result.now ∷ c.text-8.result.now ∷ [] ≡ r.deprel ∷ r.deps ∷ r.misc ∷ [] = cc in
    let before = g.S.Sink.held c.args.out.now in
    let after_id = g.S.Sink.held c.put_id.new.out in
    let after_front = g.S.Sink.held c.put_fields.new.out in
    let after_head = g.S.Sink.held c.put_head.new.out in
    let after_back = g.S.Sink.held c.put_fields-2.new.out in
    let put_id = subst (Appends before after_id) id c.in_ok-put_id.ensures.put in
    let put_front = subst (λ (fs : List (List ℕ)). Appends after_id after_front (tabbed fs)) front c.in_ok-put_fields.ensures.put in
    let put_head = subst (Appends after_front after_head) head c.in_ok-put_head.ensures.put in
    let put_back = subst (λ (fs : List (List ℕ)). AppendsPart after_head after_back (tabbed fs)) back c.in_err-put_fields-2.ensures.part in
    refused c.from_residual-in_err-put_fields-2.result (row_at_back r before after_id after_front after_head after_back put_id put_front put_head put_back)

pub returns-clause-part : goal.returns-clause-part
returns-clause-part g c =
    let view = c.row.view_is in
    let r = c.args.row.now in
    let id = ap (λ (x : RowText). id_text x.id) view in
    let form = c.text.ensures ∙ ap (λ (x : RowText). x.form) view in
    let lemma = c.text-2.ensures ∙ ap (λ (x : RowText). x.lemma) view in
    let upos = c.text-3.ensures ∙ ap (λ (x : RowText). x.upos) view in
    let xpos = c.text-4.ensures ∙ ap (λ (x : RowText). x.xpos) view in
    let feats = c.text-5.ensures ∙ ap (λ (x : RowText). x.feats) view in
    let front : c.text.result.now ∷ c.text-2.result.now ∷ c.text-3.result.now ∷ c.text-4.result.now ∷ c.text-5.result.now ∷ [] ≡ r.form ∷ r.lemma ∷ r.upos ∷ r.xpos ∷ r.feats ∷ [] = cc in
    let head = ap (λ (x : RowText). 9 ∷ head_text x.head) view in
    let deprel = c.text-6.ensures ∙ ap (λ (x : RowText). x.deprel) view in
    let deps = c.text-7.ensures ∙ ap (λ (x : RowText). x.deps) view in
    let misc = c.text-8.ensures ∙ ap (λ (x : RowText). x.misc) view in
    let back : c.text-6.result.now ∷ c.text-7.result.now ∷ c.text-8.result.now ∷ [] ≡ r.deprel ∷ r.deps ∷ r.misc ∷ [] = cc in
    let before = g.S.Sink.held c.args.out.now in
    let after_id = g.S.Sink.held c.put_id.new.out in
    let after_front = g.S.Sink.held c.put_fields.new.out in
    let after_head = g.S.Sink.held c.put_head.new.out in
    let after_back = g.S.Sink.held c.put_fields-2.new.out in
    let after = g.S.Sink.held c.put.new.self in
    let put_id = subst (Appends before after_id) id c.in_ok-put_id.ensures.put in
    let put_front = subst (λ (fs : List (List ℕ)). Appends after_id after_front (tabbed fs)) front c.in_ok-put_fields.ensures.put in
    let put_head = subst (Appends after_front after_head) head c.in_ok-put_head.ensures.put in
    let put_back = subst (λ (fs : List (List ℕ)). Appends after_head after_back (tabbed fs)) back c.in_ok-put_fields-2.ensures.put in
    on_err_weaker c.put.result (row_at_end r before after_id after_front after_head after_back after put_id put_front put_head put_back) c.put.ensures.part
