use Rattle.std.proofs.Common.{◌≡◌, true, false}
use Rattle.tb_search.proofs.count_keys.count_key.Goals as goal

pub returns-in_err-add-clause-known : goal.returns-in_err-add-clause-known
returns-in_err-add-clause-known c above = absurd (let none : false ≡ true = c.in_err-add.ensures.known above in cc)
