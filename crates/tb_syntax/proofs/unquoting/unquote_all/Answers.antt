use Rattle.std.proofs.Common.{refl, ap, ◌∙◌, [], ◌∷◌, arith, map, Vec, String, Global}
use Rattle.std.proofs.lemmas.List.{map-append}
use Rattle.std.specs.String.{string_bytes}
use Rattle.tb_syntax.proofs.Literals.{not_reversed, cut_before, cut_after}
use Rattle.tb_syntax.proofs.Sayings.{paired, one_more, one_other, all_said, stands_at}
use Rattle.tb_syntax.proofs.unquoting.unquote_all.Goals as goal
use Rattle.tb_syntax.proofs.unquoting.unquote_all.Goals.{in-Quote+in_ok-unquote+in_ok-push, in_default}

pub span_at-span-requires : goal.span_at-span-requires
span_at-span-requires c =
    let pairs = paired 0 0 c.args.text.now c.args.lexemes.now c.args.spans.now c.requires in
    omega arith

pub range-requires-clause-start_le_end : goal.range-requires-clause-start_le_end
range-requires-clause-start_le_end c =
    not_reversed c.args.text.now c.span_at-span.result
    (stands_at _ _ _ _ c.loop-i.i c.in-Quote.field-0 _ c.span_at-span.result c.requires refl c.loop-i-test.true c.in-Quote.is c.span_at-span.ensures)

pub range-requires-clause-start_boundary : goal.range-requires-clause-start_boundary
range-requires-clause-start_boundary c positive =
    cut_before c.args.text.now c.span_at-span.result
    (stands_at _ _ _ _ c.loop-i.i c.in-Quote.field-0 _ c.span_at-span.result c.requires refl c.loop-i-test.true c.in-Quote.is c.span_at-span.ensures)

pub range-requires-clause-end_boundary : goal.range-requires-clause-end_boundary
range-requires-clause-end_boundary c =
    cut_after c.args.text.now c.span_at-span.result c.utf8.text
    (stands_at _ _ _ _ c.loop-i.i c.in-Quote.field-0 _ c.span_at-span.result c.requires refl c.loop-i-test.true c.in-Quote.is c.span_at-span.ensures)

pub loop-i-preserved : goal.loop-i-preserved
loop-i-preserved c =
    elim c.match-lexeme.branch [
      | in-Quote+in_ok-unquote+in_ok-push w ↦ (let old = c.loop-i.literals.items in
          one_more c.args.text.now w.range.result.now _ _ _ c.loop-i.i w.in-Quote.field-0 (map string_bytes old) _ _ w.span_at-span.result (string_bytes w.in_ok-unquote.field-0) c.loop-i.invariant
          c.requires refl c.loop-i-test.true w.in-Quote.is w.span_at-span.ensures w.range.ensures.value w.in_ok-unquote.ensures
          (ap (λ (v : Vec (String Global) Global). map string_bytes v.items) w.literals-is ∙ ap (map string_bytes) w.in_ok-push.ensures.items ∙ map-append string_bytes old (w.in_ok-unquote.field-0 ∷ [])))
      | in_default w ↦
          one_other c.args.text.now _ _ _ c.loop-i.i (map string_bytes c.loop-i.literals.items) _ _ (record { start = 0; end = 0 }) c.loop-i.invariant
          c.requires refl c.loop-i-test.true w.in_default.not-Quote (ap (λ (v : Vec (String Global) Global). map string_bytes v.items) w.literals-is)
    ]

pub returns : goal.returns
returns c =
    let pairs = paired 0 0 c.args.text.now c.args.lexemes.now c.args.spans.now c.requires in
    all_said c.args.text.now c.args.lexemes.now c.args.spans.now c.loop-i.i _ c.loop-i.invariant (omega arith) (omega arith)
