use Rattle.std.proofs.Common.{ap, ◌∙◌}
use Rattle.std.specs.List.{list_any}
use Rattle.tb_fields.specs.Feats.{is_bar}
use Rattle.tb_words.proofs.FeatureParts.{alone_told, beside_told, parts_free}
use Rattle.tb_words.proofs.features.fault_after.Goals as goal

pub returns-in-Some : goal.returns-in-Some
returns-in-Some c = λ last_is item_is right within.
    let bars = ap (list_any is_bar) item_is ∙ parts_free is_bar c.args.feats.now c.args.before in
    alone_told c.args.feats.now c.args.item.now _ c.args.before item_is (rw c.in-Some.is at (c.in_ok-sentence.ensures.said bars))

pub returns-in-None : goal.returns-in-None
returns-in-None c = λ last_is item_is right within.
    let bars = ap (list_any is_bar) item_is ∙ parts_free is_bar c.args.feats.now c.args.before in
    beside_told c.args.feats.now c.args.item.now c.args.before _ item_is (rw c.in-None.is at (c.in_ok-sentence.ensures.said bars))
    (c.order_fault.ensures last_is item_is right within)
