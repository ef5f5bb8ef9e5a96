use lib.Utf8
use Rattle.std.proofs.Common.{Some, ap, lit<, sym, ◌∙◌}
use Rattle.std.specs.Str.{bytes_eq}
use Rattle.std.proofs.lemmas.Str.Pattern.{split_once_first, strip_prefix_char}
use Rattle.tb_rules.proofs.Values.{value_under-found, value_under-no_equals, value_under-no_hash}
use Rattle.tb_words.proofs.rules.value_under.Goals as goal

pub returns-in_default : goal.returns-in_default
unfolding lib.Utf8.encode
returns-in_default c = sym (value_under-no_hash c.args.key.now c.args.comment.now c.in_default.ensures.cases)

pub returns-in_default-split_once : goal.returns-in_default-split_once
returns-in_default-split_once c =
    let hash = rw c.in-Some.is at (strip_prefix_char 35 c.args.comment.now c.strip_prefix.result c.strip_prefix.ensures.cases (lit< tt)) in
    let none = rw c.in_default-split_once.is at (split_once_first 61 c.in-Some.rest.now c.split_once.result c.split_once.ensures.cases (lit< tt)) in
    sym (value_under-no_equals c.args.key.now c.args.comment.now c.in-Some.rest.now hash none)

pub returns-then-eq : goal.returns-then-eq
returns-then-eq c =
    let hash = rw c.in-Some.is at (strip_prefix_char 35 c.args.comment.now c.strip_prefix.result c.strip_prefix.ensures.cases (lit< tt)) in
    let cut = rw c.in-Some-split_once.is at (split_once_first 61 c.in-Some.rest.now c.split_once.result c.split_once.ensures.cases (lit< tt)) in
    ap (λ v. Some v) c.without_spaces-then-eq.ensures ∙
    sym (value_under-found c.args.key.now c.args.comment.now c.in-Some.rest.now c.in-Some-split_once.name.now c.in-Some-split_once.value.now hash cut.0 cut.1 cut.2 (ap (λ n. bytes_eq n c.args.key.now) (sym c.without_spaces.ensures) ∙ sym c.if-eq.ensures))
