use Rattle.tb_import.proofs.Counting.{its_words, words_are}
use Rattle.tb_core.specs.Taking.{taken_of}
use Rattle.std.specs.Prelude.{sum_by}
use Rattle.std.proofs.Common.{◌≡◌, ◌^◌, ◌<◌, map, subst, sym, ap, ◌∙◌}
use Rattle.tb_core.specs.declared.refusals.Fault.TheVariants.{Memory}
use Rattle.tb_import.proofs.words.words_of_text.Goals as goal

pub returns-in-Ok-clause-fails : goal.returns-in-Ok-clause-fails
returns-in-Ok-clause-fails c bs body small bad =
    let is : c.as_slice.result.now ≡ map taken_of bs = c.as_slice.ensures.value ∙ c.in-Ok.ensures.only bs body in
    c.words_in.ensures.fails (subst (λ n. n < 2 ^ 64) (sym (ap (sum_by its_words) is ∙ words_are bs)) small) bad

pub returns-in-Err-clause-fails : goal.returns-in-Err-clause-fails
returns-in-Err-clause-fails c bs body small bad =
    let is : c.in-Err.fault ≡ Memory = c.in-Err.ensures.only bs body in
    let want = c.of_body.ensures.memory is in
    absurd cc
