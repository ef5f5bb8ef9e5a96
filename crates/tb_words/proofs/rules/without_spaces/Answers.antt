use Rattle.tb_words.proofs.Trimming.{both_trimmed}
use Rattle.tb_words.proofs.rules.without_spaces.Goals as goal

pub returns : goal.returns
returns c =
    both_trimmed c.args.text.now c.trim_start_matches.result.now c.trim_end_matches.result.now
    c.trim_start_matches.ensures.matches c.trim_end_matches.ensures.matches
