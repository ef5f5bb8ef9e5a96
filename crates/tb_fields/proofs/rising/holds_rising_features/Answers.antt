use Rattle.std.proofs.Common.{[], sym, ◌∙◌, ap, lit<, rules}
use Rattle.std.specs.List.{slice_split}
use Rattle.tb_fields.specs.Feats.{is_bar}
use Rattle.tb_fields.specs.Rising.{are_rising}
use Rattle.tb_fields.proofs.Places.{parts_at}
use Rattle.tb_fields.proofs.Ascents.{rising-cons, rising_features, found_one}
use Rattle.tb_fields.proofs.rising.holds_rising_features.Goals as goal

pub loop-item-preserved : goal.loop-item-preserved
loop-item-preserved c =
    let left = c.loop-item.left.now in
    let more = c.in-Some.more.now in
    let name = c.in-Some-next_name.name.now in
    let found = c.in-Some-next_name.ensures in
    let parts = rw c.in-Some.is at (parts_at 124 left c.split_once.result c.split_once.ensures.cases (lit< tt)) in (
      search rules,
      search rules,
      λ rest. c.loop-item.invariant.2 (rising-cons c.loop-item.last.now name (slice_split is_bar left) (slice_split is_bar more) c.in-Some.item.now parts.0 found.0 found.1 found.2 rest),
    )

pub returns : goal.returns
returns c =
    let left = c.loop-item.left.now in
    let last = c.loop-item.last.now in
    let parts = rw c.in_default.is at (parts_at 124 left c.split_once.result c.split_once.ensures.cases (lit< tt)) in
    λ some. rising_features [] (slice_split is_bar c.args.text.now) (c.loop-item.invariant.2 (ap (are_rising last) parts ∙ found_one last left c.next_name-2.result c.next_name-2.ensures (sym c.is_some.ensures ∙ some)))
