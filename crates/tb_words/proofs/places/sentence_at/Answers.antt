use Rattle.std.proofs.Common.{◌≡◌, ℕ, ◌-◌, arith, IfSome, subst}
use Rattle.tb_words.specs.FileSentences.{IsSentenceAfter}
use Rattle.tb_words.proofs.places.sentence_at.Goals as goal

pub returns : goal.returns
returns c =
    let same : c.loop-read.read - 1 ≡ c.args.number - 1 = omega arith in
    subst (λ (n : ℕ). IfSome c.next-2.result (IsSentenceAfter c.args.file.now n)) same
    (c.next-2.ensures.here _ _ c.loop-read.invariant.2)
