use Rattle.std.proofs.Common.{◌∷◌, [], Err, subst, arith, inl}
use Rattle.tb_conllu.specs.Tries.{Answers, signals}
use Rattle.tb_conllu.proofs.Tried.{answers_more}
use Rattle.tb_conllu.proofs.source.read_on.Goals as goal

pub returns-in-Ok-clause-read : goal.returns-in-Ok-clause-read
returns-in-Ok-clause-read g c =
    (c.loop-attempt.attempt, omega arith, answers_more _ _ _ (signals c.loop-attempt.attempt) _ c.loop-attempt.invariant.1 c.in-Ok.ensures.counted)

pub returns-in-Err-Failed-clause-failed : goal.returns-in-Err-Failed-clause-failed
returns-in-Err-Failed-clause-failed g c =
    let counted = subst (λ s. Answers (g.R.PartReader.answers c.loop-attempt.reader) (g.R.PartReader.answers c.read_once.new.self) (Err s ∷ [])) c.in-Err-Failed.field-0-is c.in-Err-Failed.ensures.counted in
    inl (c.loop-attempt.attempt, omega arith, answers_more _ _ _ (signals c.loop-attempt.attempt) _ c.loop-attempt.invariant.1 counted)
