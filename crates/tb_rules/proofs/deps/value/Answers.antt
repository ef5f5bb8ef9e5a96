use Rattle.std.proofs.Common.{ℕ, ◌+◌, ◌-◌, ◌*◌, get_or, sym, ap, refl, ◌∙◌, arith}
use Rattle.std.proofs.lemmas.Bool.{and_from}
use Rattle.std.proofs.lemmas.List.Folds.{list_all_more}
use Rattle.tb_chars.specs.Digits.{is_digit}
use Rattle.tb_rules.proofs.Numerals.{value_of-no_digit, value_of-whole, value_room, value_step}
use Rattle.tb_rules.proofs.deps.value.Goals as goal

pub overflow_mul-value : goal.overflow_mul-value
overflow_mul-value c = omega (arith, value_room c.args.bytes.now c.loop-b.b-index c.loop-b.invariant.digits c.requires c.loop-b-test.true, c.loop-b.invariant.value)

pub overflow_add-value : goal.overflow_add-value
overflow_add-value c = omega (arith, value_room c.args.bytes.now c.loop-b.b-index c.loop-b.invariant.digits c.requires c.loop-b-test.true, c.loop-b.invariant.value, c.type_inv.bytes c.loop-b.b-index)

pub returns-then-not-is_digit_byte : goal.returns-then-not-is_digit_byte
returns-then-not-is_digit_byte c = sym (value_of-no_digit c.args.bytes.now c.loop-b.b-index _ c.loop-b-test.true refl (sym c.is_digit_byte.ensures ∙ c.if-not-is_digit_byte.true))

pub loop-b-preserved : goal.loop-b-preserved
loop-b-preserved c =
    let digit = sym c.is_digit_byte.ensures ∙ c.if-not-is_digit_byte.false in record {
      digits = list_all_more is_digit c.args.bytes.now c.loop-b.b-index 0 c.loop-b-test.true ∙ and_from _ _ c.loop-b.invariant.digits digit;
      value = ap (λ (v : ℕ). v * 10 + (get_or c.args.bytes.now c.loop-b.b-index 0 - 48)) c.loop-b.invariant.value ∙ sym (value_step c.args.bytes.now c.loop-b.b-index c.loop-b-test.true digit);
    }

pub returns : goal.returns
returns c = value_of-whole c.args.bytes.now c.loop-b.b-index c.loop-b.value (omega arith) c.loop-b.invariant.digits c.loop-b.invariant.value
