use Rattle.tb_store.proofs.Reopened.{desk_again}
use Rattle.tb_store.proofs.reopening.left_to_the_next_run.Goals as goal

pub returns : goal.returns
returns g c s left stands clean may again =
    let up = c.given_up_in_file.ensures in
    desk_again c.args.desk.conn c.args._next.now s stands.desk up.live again.opened (λ db. up.last db stands.desk.holds.is_open) (up.was_numbered clean) left may again.found
