use Rattle.std.proofs.Common.{[], ◌∷◌, sym, ◌∙◌}
use lib.Utf8.{encode}
use Rattle.tb_rules.proofs.Compare.{char_comes, refuses_gap, refuses_piece, leaves_piece, leaves_space}
use Rattle.tb_rules.proofs.matching.take_char.Goals as goal

pub returns-then-is_whitespace : goal.returns-then-is_whitespace
returns-then-is_whitespace c =
    let now = c.args.expected in
    leaves_space now.rest.now now.begun now.gap c.args.c (sym c.is_whitespace.ensures ∙ c.if-is_whitespace.true)

pub returns-in_default : goal.returns-in_default
returns-in_default c =
    let now = c.args.expected in
    refuses_gap now.rest.now now.begun now.gap (c.args.c ∷ []) (encode c.args.c) (char_comes now.begun now.gap c.args.c (sym c.is_whitespace.ensures ∙ c.if-is_whitespace.false)) c.in_default.ensures

pub returns-in_default-strip_char : goal.returns-in_default-strip_char
returns-in_default-strip_char c =
    let now = c.args.expected in
    refuses_piece now.rest.now now.begun now.gap (c.args.c ∷ []) (encode c.args.c) c.in-Some.behind.now (char_comes now.begun now.gap c.args.c (sym c.is_whitespace.ensures ∙ c.if-is_whitespace.false)) c.in-Some.ensures c.in_default-strip_char.ensures

pub returns : goal.returns
returns c =
    let now = c.args.expected in
    leaves_piece now.rest.now now.begun now.gap (c.args.c ∷ []) (encode c.args.c) c.in-Some.behind.now c.in-Some-strip_char.rest.now (char_comes now.begun now.gap c.args.c (sym c.is_whitespace.ensures ∙ c.if-is_whitespace.false)) c.in-Some.ensures c.in-Some-strip_char.ensures
