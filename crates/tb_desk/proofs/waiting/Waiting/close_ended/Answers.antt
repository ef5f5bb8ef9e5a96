use Rattle.std.proofs.Common.{rules}
use Rattle.std.specs.Duration.{as_nanos}
use Rattle.tb_desk.proofs.Staying.{all_in_time}
use Rattle.tb_desk.proofs.waiting.Waiting.close_ended.Goals as goal

pub returns-clause-time : goal.returns-clause-time
returns-clause-time c =
    all_in_time _ _ (as_nanos c.args.passed) (λ x y b t h. search rules) (λ x y t h. search rules) _ _ c.retain_mut.ensures.filtered
