use Rattle.std.proofs.Common.{sym, ◌∙◌, lit<}
use Rattle.std.proofs.lemmas.Str.Pattern.{split_once_first}
use Rattle.tb_rules.proofs.Numerals.{is_pair-plain, is_pair-cut}
use Rattle.tb_rules.proofs.deps.is_pair_in.Goals as goal

pub returns-in-None : goal.returns-in-None
returns-in-None g c =
    let none = rw c.in-None.is at (split_once_first 58 c.args.pair.now c.split_once.result c.split_once.ensures.cases (lit< tt)) in
    is_pair-plain c.args.heads.now.rows.now c.args.pair.now none

pub returns-in-Some : goal.returns-in-Some
returns-in-Some g c =
    let cut = rw c.in-Some.is at (split_once_first 58 c.args.pair.now c.split_once.result c.split_once.ensures.cases (lit< tt)) in
    c.are_pair_parts.ensures ∙ sym (is_pair-cut c.args.heads.now.rows.now c.args.pair.now c.in-Some.front.now c.in-Some.relation.now cut.0 cut.1 cut.2)
