use Rattle.tb_match.proofs.Unique.{ascending_unique}
use Rattle.tb_match.proofs.finding.hits_are_one_list.Goals as goal

pub returns : goal.returns
returns c = λ s t p xs ys a b. ascending_unique xs ys a.0 b.0
    (λ z. (λ h. (b.1 z.0 z.1).1 ((a.1 z.0 z.1).0 h), λ h. (a.1 z.0 z.1).1 ((b.1 z.0 z.1).0 h)))
