use Rattle.std.proofs.Common.{refl}
use Rattle.std.proofs.lemmas.Bool.{iff_false}
use Rattle.tb_rules.specs.Rules.{sent_id, text, ids, words, spans, nodes}
use Rattle.tb_rules.proofs.Kept.{passes}
use Rattle.tb_rules.proofs.ByNumber.{none_yet, kept_2, kept_3, one_kept, broken_next}
use Rattle.tb_rules.proofs.checking.check_rows.Goals as goal

pub returns-then-not-has_sent_id-clause-fault : goal.returns-then-not-has_sent_id-clause-fault
returns-then-not-has_sent_id-clause-fault g c = broken_next c.args.block.now sent_id 0 0 refl (none_yet c.args.block.now) (iff_false c.has_sent_id.ensures c.if-not-has_sent_id.true) refl

pub returns-then-not-has_text-clause-fault : goal.returns-then-not-has_text-clause-fault
returns-then-not-has_text-clause-fault g c =
    broken_next c.args.block.now text 1 0 refl (one_kept c.args.block.now sent_id 0 refl (none_yet c.args.block.now) (c.has_sent_id.ensures.0 c.if-not-has_sent_id.false)) (iff_false c.has_text.ensures c.if-not-has_text.true) refl

pub returns-then-not-has_ids-clause-fault : goal.returns-then-not-has_ids-clause-fault
returns-then-not-has_ids-clause-fault g c =
    broken_next c.args.block.now ids 2 0 refl (kept_2 c.args.block.now (c.has_sent_id.ensures.0 c.if-not-has_sent_id.false) (c.has_text.ensures.0 c.if-not-has_text.false)) (iff_false c.has_ids.ensures c.if-not-has_ids.true) refl

pub returns-in-Some-clause-fault : goal.returns-in-Some-clause-fault
returns-in-Some-clause-fault g c =
    let b = c.args.block.now in
    let three = kept_3 b (c.has_sent_id.ensures.0 c.if-not-has_sent_id.false) (c.has_text.ensures.0 c.if-not-has_text.false) (c.has_ids.ensures.0 c.if-not-has_ids.false) in
    broken_next b words 3 c.in-Some.row refl three (λ k. passes _ b.rows c.in-Some.row c.in-Some.ensures k) c.in-Some.ensures

pub returns-in-Some-span_row-clause-fault : goal.returns-in-Some-span_row-clause-fault
returns-in-Some-span_row-clause-fault g c =
    let b = c.args.block.now in
    let three = kept_3 b (c.has_sent_id.ensures.0 c.if-not-has_sent_id.false) (c.has_text.ensures.0 c.if-not-has_text.false) (c.has_ids.ensures.0 c.if-not-has_ids.false) in
    let four = one_kept b words 3 refl three c.in_default.ensures in
    broken_next b spans 4 c.in-Some-span_row.row refl four (λ k. passes _ b.rows c.in-Some-span_row.row c.in-Some-span_row.ensures k) c.in-Some-span_row.ensures

pub returns-in-Some-node_row-clause-fault : goal.returns-in-Some-node_row-clause-fault
returns-in-Some-node_row-clause-fault g c =
    let b = c.args.block.now in
    let three = kept_3 b (c.has_sent_id.ensures.0 c.if-not-has_sent_id.false) (c.has_text.ensures.0 c.if-not-has_text.false) (c.has_ids.ensures.0 c.if-not-has_ids.false) in
    let four = one_kept b words 3 refl three c.in_default.ensures in
    let five = one_kept b spans 4 refl four c.in_default-span_row.ensures in
    broken_next b nodes 5 c.in-Some-node_row.row refl five (λ k. passes _ b.rows c.in-Some-node_row.row c.in-Some-node_row.ensures k) c.in-Some-node_row.ensures

pub returns-clause-valid : goal.returns-clause-valid
returns-clause-valid g c =
    let b = c.args.block.now in
    let three = kept_3 b (c.has_sent_id.ensures.0 c.if-not-has_sent_id.false) (c.has_text.ensures.0 c.if-not-has_text.false) (c.has_ids.ensures.0 c.if-not-has_ids.false) in
    let four = one_kept b words 3 refl three c.in_default.ensures in
    let five = one_kept b spans 4 refl four c.in_default-span_row.ensures in
    one_kept b nodes 5 refl five c.in_default-node_row.ensures
