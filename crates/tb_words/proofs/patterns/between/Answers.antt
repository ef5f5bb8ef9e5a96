use Rattle.std.proofs.lemmas.Str.Pattern.{strip_prefix_char, strip_suffix_char}
use Rattle.tb_words.proofs.QueryPatterns.{between_quotes}
use Rattle.tb_words.proofs.patterns.between.Goals as goal

pub returns-in-Some : goal.returns-in-Some
returns-in-Some c = λ small.
    between_quotes c.args.literal.now c.in-Some.rest.now c.args.quote c.strip_suffix.result
    (rw c.in-Some.is at (strip_prefix_char c.args.quote c.args.literal.now c.strip_prefix.result c.strip_prefix.ensures.cases small))
    (strip_suffix_char c.args.quote c.in-Some.rest.now c.strip_suffix.result c.strip_suffix.ensures.cases small)
