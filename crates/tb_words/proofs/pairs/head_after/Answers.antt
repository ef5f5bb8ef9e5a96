use Rattle.std.proofs.Common.{inl, lit<, refl}
use Rattle.std.proofs.lemmas.Str.Pattern.{split_once_first}
use Rattle.tb_fields.proofs.Places.{list_any-from_no_place}
use Rattle.tb_fields.specs.Relations.{is_colon}
use Rattle.tb_words.proofs.pairs.head_after.Goals as goal

pub returns-in_default-clause-wrong : goal.returns-in_default-clause-wrong
returns-in_default-clause-wrong c =
    let none = rw c.in_default.is at (split_once_first 58 c.args.pair.now c.split_once.result c.split_once.ensures.cases (lit< tt)) in
    inl (refl, list_any-from_no_place is_colon c.args.pair.now none)
