use Rattle.std.proofs.Common.{ap}
use Rattle.tb_conllu.specs.Left.{Left}
use Rattle.tb_conllu.proofs.Encoded.{passage_utf8}
use Rattle.tb_conllu.proofs.sentences.Sentences.read_passage.Goals as goal

pub known_text-text-requires : goal.known_text-text-requires
known_text-text-requires c =
    let read = rw c.in-Some.is at c.in_ok-block.ensures.next in
    passage_utf8 c.args.self.now c.read_next.new.self c.in-Some.block c.self.inside.rest.now c.self-2.inside.rest.now c.before_rest.result.now read (ap (λ (l : Left). l.rest) c.self.view_is) (ap (λ (l : Left). l.rest) c.self-2.view_is) c.before_rest.ensures
