use Rattle.std.proofs.Common.{◌++◌, ◌∷◌, [], refl, sym, ◌∙◌, lit<, append_assoc, rules}
use Rattle.std.specs.Str.{chars}
use Rattle.std.proofs.lemmas.List.{append-nil}
use Rattle.std.proofs.lemmas.Str.Pattern.{split_parts}
use Rattle.tb_rules.proofs.Compare.{awaits_less, awaits_refused, awaits_none, leaves_then, refuses_then, match_both, chars_at_space}
use Rattle.tb_rules.proofs.matching.take_spaced.Goals as goal

pub returns-in_default-take_piece : goal.returns-in_default-take_piece
returns-in_default-take_piece c =
    let parts = rw c.in-Some.is at (split_parts 32 c.loop-piece.left.now c.split_once.result c.split_once.ensures.cases (lit< tt)) in
    let first = c.args.expected in
    let now = c.loop-piece.now in
    let piece = c.in-Some.piece.now in
    let more = c.in-Some.more.now in
    awaits_refused first.rest.now now.rest.now first.begun first.gap now.begun now.gap (chars c.args.text.now) (chars c.loop-piece.left.now) (chars piece) (32 ∷ chars more)
    (chars_at_space c.loop-piece.left.now piece more c.loop-piece.invariant.0 parts.0) c.loop-piece.invariant.1 c.in_default-take_piece.ensures

pub returns-in_default-take_char : goal.returns-in_default-take_char
returns-in_default-take_char c =
    let parts = rw c.in-Some.is at (split_parts 32 c.loop-piece.left.now c.split_once.result c.split_once.ensures.cases (lit< tt)) in
    let first = c.args.expected in
    let now = c.loop-piece.now in
    let after = c.in-Some-take_piece.after in
    let piece = c.in-Some.piece.now in
    let more = c.in-Some.more.now in
    awaits_refused first.rest.now now.rest.now first.begun first.gap now.begun now.gap (chars c.args.text.now) (chars c.loop-piece.left.now) (chars piece ++ 32 ∷ []) (chars more)
    (chars_at_space c.loop-piece.left.now piece more c.loop-piece.invariant.0 parts.0 ∙ sym (append_assoc (chars piece) (32 ∷ []) (chars more))) c.loop-piece.invariant.1
    (refuses_then now.rest.now after.rest.now now.begun now.gap after.begun after.gap (chars piece) (32 ∷ []) c.in-Some-take_piece.ensures c.in_default-take_char.ensures)

pub loop-piece-preserved : goal.loop-piece-preserved
loop-piece-preserved c =
    let parts = rw c.in-Some.is at (split_parts 32 c.loop-piece.left.now c.split_once.result c.split_once.ensures.cases (lit< tt)) in
    let first = c.args.expected in
    let now = c.loop-piece.now in
    let after = c.in-Some-take_piece.after in
    let spaced = c.in-Some-take_char.spaced in
    let piece = c.in-Some.piece.now in
    let more = c.in-Some.more.now in (
      search rules,
      awaits_less first.rest.now now.rest.now spaced.rest.now first.begun first.gap now.begun now.gap spaced.begun spaced.gap (chars c.args.text.now) (chars c.loop-piece.left.now) (chars piece ++ 32 ∷ []) (chars more)
          (chars_at_space c.loop-piece.left.now piece more c.loop-piece.invariant.0 parts.0 ∙ sym (append_assoc (chars piece) (32 ∷ []) (chars more))) c.loop-piece.invariant.1
          (leaves_then now.rest.now after.rest.now spaced.rest.now now.begun now.gap after.begun after.gap spaced.begun spaced.gap (chars piece) (32 ∷ []) c.in-Some-take_piece.ensures c.in-Some-take_char.ensures),
    )

pub returns : goal.returns
returns c =
    let first = c.args.expected in
    let now = c.loop-piece.now in
    let cs = chars c.loop-piece.left.now in
    match_both c.take_piece-2.result c.take_piece-2.ensures
    (λ none. awaits_refused first.rest.now now.rest.now first.begun first.gap now.begun now.gap (chars c.args.text.now) cs cs [] (sym (append-nil cs)) c.loop-piece.invariant.1 none)
    (λ e some. awaits_none first.rest.now e.rest.now first.begun first.gap e.begun e.gap (chars c.args.text.now) [] refl
    (awaits_less first.rest.now now.rest.now e.rest.now first.begun first.gap now.begun now.gap e.begun e.gap (chars c.args.text.now) cs cs [] (sym (append-nil cs)) c.loop-piece.invariant.1 some))
