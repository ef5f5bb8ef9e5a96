-- Inner: no contract beyond this crate cites a definition of this module.
-- The ten fields of a line, separately.
use Rattle.std.specs.Prelude.{◌≡◌, ℕ, List, [], ◌∷◌, false}
use Rattle.std.specs.List.{list_any}
use Rattle.tb_conllu.specs.Lines.{is_empty}
use Rattle.tb_conllu.specs.Marks.{is_mark}
use Rattle.tb_conllu.specs.declared.fields.TenFields.{TenFields}

abbrev pub list_of : TenFields → List (List ℕ)
list_of p = p.id.now ∷ p.form.now ∷ p.lemma.now ∷ p.upos.now ∷ p.xpos.now ∷ p.feats.now ∷ p.head.now
    ∷ p.deprel.now ∷ p.deps.now ∷ p.misc.now ∷ []

-- a field between marks: it holds none, and is not empty
abbrev pub IsParted : List ℕ → Type 0
IsParted f = (list_any is_mark f ≡ false) × (is_empty f ≡ false)
