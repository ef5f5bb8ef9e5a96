use Rattle.tb_core.proofs.Bodies.{only_these}
use Rattle.tb_core.proofs.taking.take_file_ref.Goals as goal

pub returns-clause-only : goal.returns-clause-only
returns-clause-only c =
    only_these (record {
      one_list = c.one_list_has_a_text.ensures;
      no_file = c.reported_bytes_are_no_file.ensures;
      not_valid = c.faulty_sentences_are_not_valid.ensures;
    }) (λ v. v.items) c.args.body.now c.sentences_of.result c.sentences_of.ensures.taken c.sentences_of.ensures.refused
