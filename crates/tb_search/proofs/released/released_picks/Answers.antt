use Rattle.std.proofs.Common.{Err, length, map, ap, ◌∙◌, rules}
use Rattle.std.proofs.lemmas.List.{length-map}
use Rattle.tb_reads.specs.Streams.{head_of}
use Rattle.tb_refine.specs.DeskTables.{sentence_record}
use Rattle.tb_search.proofs.Rises.{sentences_fit}
use Rattle.tb_reads.proofs.ReadOnly.{read_on}
use Rattle.tb_search.proofs.Ends.{tables_failed, text_next}
use Rattle.tb_search.proofs.released.released_picks.Goals as goal

pub returns-in_err-heads-clause-read : goal.returns-in_err-heads-clause-read
returns-in_err-heads-clause-read g c =
    tables_failed c.from_residual.result c.in_err-heads.field-0.0 c.from_residual.ensures.1 c.in_err-heads.ensures.fails c.in_err-heads.ensures.cause (λ clean s desk unfit.
    let readable = c.desk_rows_are_readable.ensures s desk.reachable in
    c.in_err-heads.ensures.form clean (ap Err unfit) desk.holds.schema (map sentence_record s.sentences) (sentences_fit (map sentence_record s.sentences) readable.sentences) desk.holds.stands.sentences) c.in_err-heads.ensures.read_only

pub returns-then-len-clause-read : goal.returns-then-len-clause-read
returns-then-len-clause-read g c = record {
  fault = λ clean s desk.
      let read = c.in_ok-heads.ensures.ok clean desk.holds.schema (map sentence_record s.sentences) desk.holds.stands.sentences in
      let many = ap length read ∙ length-map (map sentence_record s.sentences) head_of ∙ length-map s.sentences sentence_record in
      let few = desk.reachable.sentences in
      λ bad. search rules;
  fails = λ clean unlimited s desk. tt;
  cause = λ good clean unlimited s desk. tt;
  read_only = read_on _ c.in_ok-heads.ensures.read_only;
}

pub returns-clause-read : goal.returns-clause-read
returns-clause-read g c = text_next c.released_among.result c.in_ok-heads.ensures.read_only c.released_among.ensures.read
