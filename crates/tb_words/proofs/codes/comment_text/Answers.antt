use lib.Utf8
use Rattle.std.proofs.Common.{ap, refl, ◌∙◌, lit<}
use Rattle.std.specs.Str.{trim}
use Rattle.std.proofs.lemmas.Str.Pattern.{strip_prefix_char}
use Rattle.tb_words.proofs.Walked.{hash_taken}
use Rattle.tb_words.proofs.codes.comment_text.Goals as goal

pub returns : goal.returns
unfolding lib.Utf8.encode
returns c =
    let hash = strip_prefix_char 35 c.args.comment.now c.strip_prefix.result c.strip_prefix.ensures.cases (lit< tt) in
    c.trim.ensures.trim ∙ ap trim (rw c.unwrap_or.ensures (hash_taken c.args.comment.now c.strip_prefix.result _ refl hash))
