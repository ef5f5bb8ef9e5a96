use Rattle.std.specs.Str.{chars}
use Rattle.tb_rules.proofs.Compare.{text_comes, refuses_gap, refuses_piece, leaves_piece}
use Rattle.tb_rules.proofs.matching.take_solid.Goals as goal

pub returns-in_default : goal.returns-in_default
returns-in_default c =
    let now = c.args.expected in
    refuses_gap now.rest.now now.begun now.gap (chars c.args.text.now) c.args.text.now (text_comes now.begun now.gap c.args.text.now c.utf8.text c.requires) c.in_default.ensures

pub returns-in_default-strip_text : goal.returns-in_default-strip_text
returns-in_default-strip_text c =
    let now = c.args.expected in
    refuses_piece now.rest.now now.begun now.gap (chars c.args.text.now) c.args.text.now c.in-Some.behind.now (text_comes now.begun now.gap c.args.text.now c.utf8.text c.requires) c.in-Some.ensures c.in_default-strip_text.ensures

pub returns : goal.returns
returns c =
    let now = c.args.expected in
    leaves_piece now.rest.now now.begun now.gap (chars c.args.text.now) c.args.text.now c.in-Some.behind.now c.in-Some-strip_text.rest.now (text_comes now.begun now.gap c.args.text.now c.utf8.text c.requires) c.in-Some.ensures c.in-Some-strip_text.ensures
