use Rattle.std.proofs.Common.{◌≡◌, Bool, true, false, not, refl, sym, ◌∙◌, ap}
use Rattle.std.proofs.lemmas.Bool.{false≢true}
use Rattle.std.specs.List.{list_any}
use Rattle.tb_conllu.specs.Plain.{is_beyond_latin}
use Rattle.tb_conllu.proofs.Latin.{latin_nfc}
use Rattle.tb_conllu.proofs.linetext.is_composed.Goals as goal

not_so : (b : Bool) → not b ≡ true → b ≡ false
not_so true h = sym h
not_so false h = refl

pub returns-then-is_latin-clause-value : goal.returns-then-is_latin-clause-value
returns-then-is_latin-clause-value c = latin_nfc c.args.text.now c.utf8.text (ap (list_any is_beyond_latin) (sym c.as_bytes.ensures.value) ∙ not_so _ (sym c.is_latin.ensures ∙ c.if-is_latin.true))

pub returns-clause-sure : goal.returns-clause-sure
returns-clause-sure c = λ latin.
    absurd (false≢true (sym c.if-is_latin.false ∙ c.is_latin.ensures ∙ ap not (ap (list_any is_beyond_latin) c.as_bytes.ensures.value ∙ latin)))
