use Rattle.std.proofs.Common.{[], ◌∷◌, ◌++◌, refl}
use Rattle.tb_conllu.proofs.Files.{read_nothing, read_more, read_all, read_rest, read_fault}
use Rattle.tb_conllu.proofs.laws.a_file_is_read_in_order.Goals as goal

pub returns-clause-begin : goal.returns-clause-begin
returns-clause-begin c = λ f. read_nothing f [] (record { rest = f; line = 0 }) refl refl

pub returns-clause-next : goal.returns-clause-next
returns-clause-next c = λ f bs old new b h next. read_more f bs (bs ++ b ∷ []) old new b h next refl

pub returns-clause-end : goal.returns-clause-end
returns-clause-end c = read_all

pub returns-clause-rest : goal.returns-clause-rest
returns-clause-rest c = read_rest

pub returns-clause-fault : goal.returns-clause-fault
returns-clause-fault c = λ f bs left e. read_fault f bs left e
