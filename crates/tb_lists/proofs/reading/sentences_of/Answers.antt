use Rattle.std.proofs.Common.{◌≡◌, length, sym, ap, ◌∙◌, arith}
use Rattle.std.proofs.lemmas.List.{length-map}
use Rattle.tb_tables.specs.Values.{sentence_of}
use Rattle.tb_refine.specs.DeskTables.{sentence_record}
use Rattle.tb_refine.proofs.DeskReads.{read_nothing}
use Rattle.tb_lists.proofs.reading.sentences_of.Goals as goal

pub returns-then-rows-clause-read : goal.returns-then-rows-clause-read
returns-then-rows-clause-read g c =
    read_nothing (λ s desk same bad.
    let size : length c.args.rows.now ≡ length s.sentences = sym (length-map c.args.rows.now sentence_of) ∙ ap length same ∙ length-map s.sentences sentence_record in
    let few = desk.reachable.sentences in
    omega (arith, few, size, c.if-rows.true))
