use Rattle.std.proofs.Common.{ap, append-nil, append_assoc, encode_utf8, encode_utf8_all, List, map, map-id, string_bytes, sym, ℕ, ◌++◌, ◌∙◌}
use Rattle.std.proofs.lemmas.Iterator.{YieldsList-from_chars, YieldsList-from_take}
use Rattle.std.proofs.lemmas.Iterator.Adapters.{YieldsList-from_skip}
use Rattle.std.proofs.lemmas.Iterator.Consumers.{YieldsList-end}
use Rattle.tb_words.proofs.Excerpts.{one_more_seen}
use Rattle.tb_words.specs.Shown.{visible}
use Rattle.tb_words.proofs.pictures.push_line.Goals as goal

pub loop-c-init : goal.loop-c-init
loop-c-init c = sym (append-nil (string_bytes c.args.picture.now))

pub loop-c-preserved : goal.loop-c-preserved
loop-c-preserved c =
    let first = string_bytes c.args.picture.now in
    let seen = encode_utf8_all (map visible c.loop-c.yielded) in
    c.in_ok-push.ensures.bytes ∙ (ap (λ (bs : List ℕ). bs ++ encode_utf8 c.visible.result) c.loop-c.invariant
    ∙ (append_assoc first seen (encode_utf8 c.visible.result)
    ∙ ap (λ (bs : List ℕ). first ++ bs) (one_more_seen c.loop-c.yielded c.in-Some.c c.visible.result c.visible.ensures)))

pub returns : goal.returns
returns c =
    let all = YieldsList-end (YieldsList-from_take 72 (YieldsList-from_skip c.args.skipped
    (YieldsList-from_chars c.args.line.now c.utf8.line cc) cc) cc) c.loop-c.yielded _ c.loop-c.yielded_by _ _ c.in-None.is c.next.ensures.steps in
    c.loop-c.invariant ∙ ap (λ (cs : List ℕ). string_bytes c.args.picture.now ++ encode_utf8_all (map visible cs))
    (sym (map-id c.loop-c.yielded) ∙ all.0)
