use Rattle.std.proofs.Common.{◌∙◌, sym}
use Rattle.std.proofs.lemmas.Slice.Eq.{bytes_eq-Decides}
use Rattle.tb_literal.proofs.PlainLemmas.{IsPlain, plain_is_whole, plain_fits_itself}
use Rattle.tb_literal.proofs.pattern.compile_unless_plain.Goals as goal

is_plain : (c : goal.After-drop-escaped) → IsPlain c.args.text.now
is_plain c =
    sym c.in_ok-escaped.ensures.value ∙ sym c.as_str.ensures.value ∙ (bytes_eq-Decides _ _).0 (sym c.eq.ensures ∙ c.if-eq.true)

pub returns-then-eq-clause-stands : goal.returns-then-eq-clause-stands
returns-then-eq-clause-stands c = record { at = plain_fits_itself c.args.text.now c.utf8.text (is_plain c) }

pub returns-then-eq-clause-accepted : goal.returns-then-eq-clause-accepted
returns-then-eq-clause-accepted c = plain_is_whole c.args.text.now c.utf8.text (is_plain c)
