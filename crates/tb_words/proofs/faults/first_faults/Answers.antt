use Rattle.std.proofs.Common.{◌∙◌, ap, take}
use Rattle.tb_words.specs.FirstFaults.{are_more, exit_with}
use Rattle.tb_words.proofs.FirstFaults.{same_exit, same_first, same_more}
use Rattle.tb_words.proofs.faults.first_faults.Goals as goal

pub returns-clause-first : goal.returns-clause-first
returns-clause-first c =
    let known = c.in_ok-faults.ensures.found in
    let n = c.args.most in
    let more = c.are_more-more.ensures ∙ ap (are_more n) (c.as_slice.ensures.value ∙ known.2) ∙ same_more n known.0 in
    let status = c.exit_with-status.ensures ∙ ap exit_with (c.as_slice-2.ensures.value ∙ known.2) ∙ same_exit n known.0 in
    let faults = c.cut.ensures ∙ ap (take n) known.2 ∙ same_first n known.0 in
    (known.0, known.1, faults, more, status)
