-- Inner: no contract beyond this crate cites a definition of this module.
-- Rows that agree in some fields.
use Rattle.std.specs.Prelude.{◌≡◌}
use Rattle.tb_conllu.specs.Text.{RowText}

-- ID to XPOS
pub record SameFront (r q : RowText) : Type 0 where
  pub id : r.id ≡ q.id
  pub form : r.form ≡ q.form
  pub lemma : r.lemma ≡ q.lemma
  pub upos : r.upos ≡ q.upos
  pub xpos : r.xpos ≡ q.xpos

-- FEATS to MISC
pub record SameBack (r q : RowText) : Type 0 where
  pub feats : r.feats ≡ q.feats
  pub head : r.head ≡ q.head
  pub deprel : r.deprel ≡ q.deprel
  pub deps : r.deps ≡ q.deps
  pub misc : r.misc ≡ q.misc
