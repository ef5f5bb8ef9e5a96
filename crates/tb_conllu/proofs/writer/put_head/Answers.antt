use Rattle.std.proofs.Common.{[], ◌∷◌}
use Rattle.std.specs.Fmt.{decimal}
use Rattle.std.proofs.lemmas.Result.{on_err_weaker}
use Rattle.tb_conllu.proofs.SunkParts.{part_later}
use Rattle.tb_conllu.proofs.writer.put_head.Goals as goal

pub returns-in_ok-put-in-Some-clause-part : goal.returns-in_ok-put-in-Some-clause-part
returns-in_ok-put-in-Some-clause-part g c =
    let before = g.S.Sink.held c.args.out.now in
    let tab = g.S.Sink.held c.put.new.self in
    let after = g.S.Sink.held c.put_number.new.out in
    rw c.in-Some.is (on_err_weaker c.put_number.result (λ h. part_later before tab after (9 ∷ []) (decimal c.in-Some.number) c.in_ok-put-in-Some.ensures.taken h) c.put_number.ensures.part)
