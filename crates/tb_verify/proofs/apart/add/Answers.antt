use Rattle.tb_verify.proofs.Seen.{found_by}
use Rattle.tb_verify.proofs.apart.add.Goals as goal

pub returns : goal.returns
returns c = found_by c.in_ok-owned.owned c.args.seen.now c.insert.new.self c.args.text.now c.in_ok-added.added c.in_ok-owned.ensures.ok c.in_ok-added.ensures.added c.in_ok-added.ensures.updates c.in_ok-added.ensures.len
