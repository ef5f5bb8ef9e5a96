-- What stands in the line of a row.
use Rattle.std.proofs.Common.{ℕ, List, [], ◌∷◌, ◌++◌, sym, ap, ◌∙◌, subst}
use Rattle.std.proofs.lemmas.List.{append_assoc}
use Rattle.std.specs.List.{join_with_byte}
use Rattle.std.proofs.Common.{IsUtf8}
use Rattle.tb_conllu.specs.Shape.{IsRowShaped}
use Rattle.tb_conllu.specs.Text.{RowText, row_line, id_text, head_text}
use Rattle.tb_syntax.specs.declared.lexeme.Attr.{Attr}
use Rattle.tb_syntax.specs.declared.lexeme.Attr.TheVariants.{Form, Lemma, Upos, Xpos, Feats, Deprel}
use Rattle.tb_syntax.specs.Tests.{whole}
use Rattle.tb_literal.specs.Literals.{PlainLit}
use Rattle.tb_query.specs.Meaning.{value_of}
use Rattle.tb_prefilter.specs.Needed.{IsSubstring, IsPlainText, Requires}
use Rattle.tb_prefilter.proofs.Substrings.{in_after}

abbrev pub between : List ℕ → List ℕ
between v = 9 ∷ (v ++ 9 ∷ [])

-- a value between two others
pub in_between : (x v y : List ℕ) (ys : List (List ℕ)) → IsSubstring (between v) (join_with_byte 9 (x ∷ v ∷ y ∷ ys))
in_between x v y ys =
    let J = join_with_byte 9 (y ∷ ys) in
    record { before = x; after = J; cut = ap (λ zs. x ++ 9 ∷ zs) (sym (append_assoc v (9 ∷ []) J)) ∙ sym (append_assoc x (between v) J) }

-- and after others
pub further : (n x y : List ℕ) (ys : List (List ℕ)) → IsSubstring n (join_with_byte 9 (y ∷ ys)) → IsSubstring n (join_with_byte 9 (x ∷ y ∷ ys))
further n x y ys s =
    let J = join_with_byte 9 (y ∷ ys) in
    in_after n x (9 ∷ J) (in_after n (9 ∷ []) J s)

pub column_there : (a : Attr) (r : RowText) → IsSubstring (between (value_of a r)) (row_line r)
column_there Form r = in_between (id_text r.id) r.form r.lemma (r.upos ∷ r.xpos ∷ r.feats ∷ head_text r.head ∷ r.deprel ∷ r.deps ∷ r.misc ∷ [])
column_there Lemma r =
    further (between r.lemma) (id_text r.id) r.form (r.lemma ∷ r.upos ∷ r.xpos ∷ r.feats ∷ head_text r.head ∷ r.deprel ∷ r.deps ∷ r.misc ∷ [])
    (in_between r.form r.lemma r.upos (r.xpos ∷ r.feats ∷ head_text r.head ∷ r.deprel ∷ r.deps ∷ r.misc ∷ []))
column_there Upos r =
    let n = between r.upos in
    further n (id_text r.id) r.form (r.lemma ∷ r.upos ∷ r.xpos ∷ r.feats ∷ head_text r.head ∷ r.deprel ∷ r.deps ∷ r.misc ∷ [])
    (further n r.form r.lemma (r.upos ∷ r.xpos ∷ r.feats ∷ head_text r.head ∷ r.deprel ∷ r.deps ∷ r.misc ∷ [])
    (in_between r.lemma r.upos r.xpos (r.feats ∷ head_text r.head ∷ r.deprel ∷ r.deps ∷ r.misc ∷ [])))
column_there Xpos r =
    let n = between r.xpos in
    further n (id_text r.id) r.form (r.lemma ∷ r.upos ∷ r.xpos ∷ r.feats ∷ head_text r.head ∷ r.deprel ∷ r.deps ∷ r.misc ∷ [])
    (further n r.form r.lemma (r.upos ∷ r.xpos ∷ r.feats ∷ head_text r.head ∷ r.deprel ∷ r.deps ∷ r.misc ∷ [])
    (further n r.lemma r.upos (r.xpos ∷ r.feats ∷ head_text r.head ∷ r.deprel ∷ r.deps ∷ r.misc ∷ [])
    (in_between r.upos r.xpos r.feats (head_text r.head ∷ r.deprel ∷ r.deps ∷ r.misc ∷ []))))
column_there Feats r =
    let n = between r.feats in
    further n (id_text r.id) r.form (r.lemma ∷ r.upos ∷ r.xpos ∷ r.feats ∷ head_text r.head ∷ r.deprel ∷ r.deps ∷ r.misc ∷ [])
    (further n r.form r.lemma (r.upos ∷ r.xpos ∷ r.feats ∷ head_text r.head ∷ r.deprel ∷ r.deps ∷ r.misc ∷ [])
    (further n r.lemma r.upos (r.xpos ∷ r.feats ∷ head_text r.head ∷ r.deprel ∷ r.deps ∷ r.misc ∷ [])
    (further n r.upos r.xpos (r.feats ∷ head_text r.head ∷ r.deprel ∷ r.deps ∷ r.misc ∷ [])
    (in_between r.xpos r.feats (head_text r.head) (r.deprel ∷ r.deps ∷ r.misc ∷ [])))))
column_there Deprel r =
    let n = between r.deprel in
    further n (id_text r.id) r.form (r.lemma ∷ r.upos ∷ r.xpos ∷ r.feats ∷ head_text r.head ∷ r.deprel ∷ r.deps ∷ r.misc ∷ [])
    (further n r.form r.lemma (r.upos ∷ r.xpos ∷ r.feats ∷ head_text r.head ∷ r.deprel ∷ r.deps ∷ r.misc ∷ [])
    (further n r.lemma r.upos (r.xpos ∷ r.feats ∷ head_text r.head ∷ r.deprel ∷ r.deps ∷ r.misc ∷ [])
    (further n r.upos r.xpos (r.feats ∷ head_text r.head ∷ r.deprel ∷ r.deps ∷ r.misc ∷ [])
    (further n r.xpos r.feats (head_text r.head ∷ r.deprel ∷ r.deps ∷ r.misc ∷ [])
    (further n r.feats (head_text r.head) (r.deprel ∷ r.deps ∷ r.misc ∷ [])
    (in_between (head_text r.head) r.deprel r.deps (r.misc ∷ [])))))))

value_utf8 : (a : Attr) (r : RowText) → IsRowShaped r → IsUtf8 (value_of a r)
value_utf8 Form r s = s.form.text.utf8
value_utf8 Lemma r s = s.lemma.text.utf8
value_utf8 Upos r s = s.upos.field.text.utf8
value_utf8 Xpos r s = s.xpos.field.text.utf8
value_utf8 Feats r s = s.feats.field.text.utf8
value_utf8 Deprel r s = s.deprel.field.text.utf8

pub column_required : (a : Attr) (l : PlainLit) → IsPlainText l → Requires (whole a l) (9 ∷ (l.text ++ 9 ∷ []))
column_required a l plain = record {
  there = λ r shaped held. subst (λ v. IsSubstring (between v) (row_line r)) (plain.alone (value_of a r) (value_utf8 a r shaped) held) (column_there a r);
}
