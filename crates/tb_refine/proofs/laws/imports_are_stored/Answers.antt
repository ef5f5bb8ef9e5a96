use Rattle.std.proofs.Common.{subst}
use Rattle.tb_tables.specs.Records.{AreStored}
use Rattle.tb_refine.proofs.Next.{import_next}
use Rattle.tb_refine.proofs.laws.imports_are_stored.Goals as goal

pub returns : goal.returns
returns c = λ s name user bodies r k unused trees h. subst (λ z. AreStored z trees) (import_next s name user bodies r k unused) h
