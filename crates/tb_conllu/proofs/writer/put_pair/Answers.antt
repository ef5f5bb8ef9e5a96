use Rattle.std.proofs.Common.{[], ◌∷◌}
use Rattle.std.specs.Fmt.{decimal}
use Rattle.std.proofs.lemmas.Result.{on_err_weaker}
use Rattle.tb_conllu.proofs.SunkParts.{part_here, part_later, refused}
use Rattle.tb_conllu.proofs.writer.put_pair.Goals as goal

pub returns-in_err-put_number-clause-part : goal.returns-in_err-put_number-clause-part
returns-in_err-put_number-clause-part g c = refused c.from_residual.result (part_here (g.S.Sink.held c.args.out.now) (g.S.Sink.held c.put_number.new.out) (decimal c.args.first) (c.args.mark ∷ decimal c.args.second) c.in_err-put_number.ensures.part)

pub returns-in_err-put-clause-part : goal.returns-in_err-put-clause-part
returns-in_err-put-clause-part g c =
    let before = g.S.Sink.held c.args.out.now in
    let first = g.S.Sink.held c.put_number.new.out in
    let mark = g.S.Sink.held c.put.new.self in
    refused c.from_residual-in_err-put.result (part_later before first mark (decimal c.args.first) (c.args.mark ∷ decimal c.args.second) c.in_ok-put_number.ensures.put (part_here first mark (c.args.mark ∷ []) (decimal c.args.second) c.in_err-put.ensures.part))

pub returns-clause-part : goal.returns-clause-part
returns-clause-part g c =
    let before = g.S.Sink.held c.args.out.now in
    let first = g.S.Sink.held c.put_number.new.out in
    let mark = g.S.Sink.held c.put.new.self in
    let second = g.S.Sink.held c.put_number-2.new.out in
    on_err_weaker c.put_number-2.result (λ h. part_later before first second (decimal c.args.first) (c.args.mark ∷ decimal c.args.second) c.in_ok-put_number.ensures.put (part_later first mark second (c.args.mark ∷ []) (decimal c.args.second) c.in_ok-put.ensures.taken h)) c.put_number-2.ensures.part
