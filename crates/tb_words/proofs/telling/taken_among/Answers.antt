use Rattle.std.proofs.Common.{Some, rules, ◌≡◌}
use Rattle.tb_rules.specs.Comments.{only, sent_ids}
use Rattle.tb_words.proofs.WalkSteps.{taken_told}
use Rattle.tb_words.specs.Walks.{first_of}
use Rattle.tb_words.proofs.telling.taken_among.Goals as goal

pub returns : goal.returns
returns c =
    let own : only (sent_ids c.args.placed.now.block) ≡ Some c.in_ok-name.name.now = search rules in
    let known : first_of c.args.names.now c.in_ok-name.name.now ≡ Some c.in_ok-first.first = search rules in
    taken_told c.args.names.now c.args.placed.now c.in_ok-name.name.now c.in_ok-first.first c.name_taken.result own known
    c.name_taken.ensures
