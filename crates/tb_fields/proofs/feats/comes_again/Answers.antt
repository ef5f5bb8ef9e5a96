use Rattle.std.proofs.Common.{◌∙◌, lit<, rules}
use Rattle.std.specs.Str.{bytes_eq}
use Rattle.tb_fields.proofs.Places.{parts_at}
use Rattle.tb_fields.proofs.Parts.{any_here, any_later, any_last}
use Rattle.tb_fields.proofs.feats.comes_again.Goals as goal

pub returns-then-eq : goal.returns-then-eq
returns-then-eq c =
    let parts = rw c.in-Some.is at (parts_at 44 c.loop-next.left.now c.split_once.result c.split_once.ensures.cases (lit< tt)) in
    any_here (bytes_eq c.args.value.now) _ _ c.in-Some.next.now parts.0 c.if-eq.ensures ∙ c.loop-next.invariant.1

pub loop-next-preserved : goal.loop-next-preserved
loop-next-preserved c =
    let parts = rw c.in-Some.is at (parts_at 44 c.loop-next.left.now c.split_once.result c.split_once.ensures.cases (lit< tt)) in
    (search rules, any_later (bytes_eq c.args.value.now) _ _ c.in-Some.next.now parts.0 c.if-eq.ensures ∙ c.loop-next.invariant.1)

pub returns : goal.returns
returns c =
    let parts = rw c.in_default.is at (parts_at 44 c.loop-next.left.now c.split_once.result c.split_once.ensures.cases (lit< tt)) in
    c.eq-2.ensures ∙ (any_last (bytes_eq c.args.value.now) _ c.loop-next.left.now parts ∙ c.loop-next.invariant.1)
